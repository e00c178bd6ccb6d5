-- What the operator is asked, and what his answer comes to.
use Rattle.std.specs.Prelude.{Bool, true, false, if◌then◌else◌}
use Rattle.std.specs.Option.{is_some}
use Rattle.ckr_console.specs.declared.question.Answer.{Answer}
use Rattle.ckr_console.specs.declared.question.Answer.TheVariants.{Yes, No, Hold, Silent}
use Rattle.ckr_console.specs.declared.question.Question.{Question}
use Rattle.ckr_console.specs.declared.question.Question.TheVariants.{Restart}
use Rattle.ckr_events.specs.declared.event.Event.{Event}
use Rattle.ckr_events.specs.declared.event.Event.TheVariants.{Ended as EndedEvent, Held as HeldEvent, Restarted as RestartedEvent}
use Rattle.ckr_events.specs.declared.event.Ending.TheVariants.{Coded as CodedEnding}
use Rattle.ckr_rules.specs.RuleTables.{rule_number}
use Rattle.ckr_rules.specs.declared.cases.Rule.TheVariants.{A6}
use Rattle.ckr_desk_turn.specs.declared.inquiry.Inquiry.{Inquiry}
use Rattle.ckr_desk_turn.specs.declared.plan.Plan.{Plan}
use Rattle.ckr_desk_turn.specs.declared.plan.Plan.TheVariants.{Ask, Rest, Tell, Wait}
use Rattle.ckr_points.specs.declared.reply.How.TheVariants.{Abended}
use Rattle.ckr_points.specs.declared.reply.Reply.TheVariants.{AwaitingReply, JobEnded, JobHeld, Restarted}

abbrev pub question_of : Inquiry → Question
question_of inquiry = Restart inquiry.job inquiry.step inquiry.id

-- yes: the run goes on at its checkpoint in effect, or at the start of its step
abbrev pub restart_event : Inquiry → Event
restart_event inquiry = RestartedEvent inquiry.job inquiry.initiator inquiry.code (is_some inquiry.id)

abbrev pub restarts : Inquiry → Plan
restarts inquiry = Tell (Restarted inquiry.job inquiry.step inquiry.id inquiry.taken) (restart_event inquiry)

-- no: it ends, by the sixth rule, with what its step has reached
abbrev pub refusal_event : Inquiry → Event
refusal_event inquiry = EndedEvent inquiry.job (CodedEnding inquiry.code (rule_number A6) inquiry.writes inquiry.lengths)

abbrev pub refuses : Inquiry → Plan
refuses inquiry = Tell (JobEnded inquiry.job (Abended inquiry.code A6)) (refusal_event inquiry)

-- hold: it is held with its code, and with what its step has reached
abbrev pub hold_event : Inquiry → Event
hold_event inquiry = HeldEvent inquiry.job inquiry.code inquiry.writes inquiry.lengths

abbrev pub holds_it : Inquiry → Plan
holds_it inquiry = Tell (JobHeld inquiry.job) (hold_event inquiry)

-- no answer: a run on the initiator waits there with its code, and a released one stays released
abbrev pub awaits : Inquiry → Plan
awaits inquiry = if inquiry.lodged then Wait inquiry.job inquiry.code else Rest AwaitingReply

-- what an answer comes to
abbrev pub decided : Answer → Inquiry → Plan
decided Yes inquiry = restarts inquiry
decided No inquiry = refuses inquiry
decided Hold inquiry = holds_it inquiry
decided Silent inquiry = awaits inquiry

-- what a plan comes to by the operator's answer, if it asks him
abbrev pub decide : Answer → Plan → Plan
decide answer (Ask inquiry) = decided answer inquiry
decide answer plan = plan

abbrev pub is_ask : Plan → Bool
is_ask (Ask inquiry) = true
is_ask _ = false
