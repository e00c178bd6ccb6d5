-- What the operator answers of a run that may be restarted: the replies to the turns, and what the desk has then.
use Rattle.std.specs.Prelude.{◌≡◌, ℕ, true, false, List, [], ◌∷◌, ◌++◌, map, codes, Option, None, Some, refl}
use Rattle.std.specs.Option.{option_map, option_map_or}
use Rattle.ckr_base.specs.Columns.{fitted}
use Rattle.ckr_base.specs.declared.code.Code.{Code}
use Rattle.ckr_base.specs.declared.code.Code.TheVariants.{System}
use Rattle.ckr_console.specs.declared.question.Answer.TheVariants.{No, Hold, Silent}
use Rattle.ckr_events.specs.declared.event.Event.TheVariants.{Ended as EndedEvent, Held as HeldEvent, Released as ReleasedEvent, Restarted as RestartedEvent}
use Rattle.ckr_events.specs.declared.event.Ending.TheVariants.{Coded}
use Rattle.ckr_jcl_decks.proofs.Definitions.{decks_open}
use Rattle.ckr_meaning.proofs.Definitions.{jobs_open}
use Rattle.ckr_points.specs.declared.run.RunState.{RunState}
use Rattle.ckr_points.specs.declared.run.RunState.TheVariants.{Held, Released}
use Rattle.ckr_points.specs.Office.{model_records}
use Rattle.ckr_points.specs.Rows.{run_of}
use Rattle.ckr_rules.specs.declared.cases.Rule.TheVariants.{A6}
use Rattle.ckr_points.specs.declared.reply.How.TheVariants.{Abended}
use Rattle.ckr_points.specs.declared.reply.Reply.TheVariants.{AwaitingReply, Idle, JobEnded, JobHeld, NothingToFail, Selected}
use Rattle.ckr_desk_turn.specs.Desk.{DeskModel, released}
use Rattle.ckr_desk_turn.specs.EntryStates.{checkpoint_state}
use Rattle.ckr_desk_turn.specs.Turns.{AnsweredTurn, desk_after, replies_of}
use Rattle.ckr_desk_turn.proofs.Definitions.{turns_open}
use Rattle.ckr_desk_turn.proofs.Examples.Decks.{cards_from}
use Rattle.ckr_desk_turn.proofs.Examples.Desks.{all_come, behind, done_of, failing, listing, reopened, turn_by, turns_by, with_answer}
use Rattle.ckr_desk_turn.proofs.Examples.Restarts.{abended, all_copied, back_at, checking, comes, failed, filling, on_s1, on_start, restarted_on_s1, suppressing, to_end, written}

abbrev state_of : ℕ → DeskModel → Option RunState
state_of job desk = option_map (λ row. row.state) (run_of desk.office.tables job)

abbrev code_of : ℕ → DeskModel → Option Code
code_of job desk = option_map_or (λ row. row.code) (run_of desk.office.tables job) None

-- a run behind the second of three checkpoints and a record more, to which a code is given
abbrev at_fifth : DeskModel
at_fifth = behind 9 checking

abbrev second : List ℕ
second = codes "C0000002"

-- ---- hold

abbrev holding : List AnsweredTurn
holding = with_answer Hold (failing abended) ∷ []

abbrev held : DeskModel
held = desk_after holding at_fifth

-- the run is held with the code, and what its step has written is committed: its initiator is free
hold_told : (done_of at_fifth (with_answer Hold (failing abended))).event ≡ Some (HeldEvent 1 abended 5 (record { items = 5 ∷ 2 ∷ [] }))
unfolding decks_open jobs_open turns_open checkpoint_state
hold_told = refl

hold_replies : replies_of (holding ++ turns_by 1 1) at_fifth ≡ JobHeld 1 ∷ Idle ∷ []
unfolding decks_open jobs_open turns_open checkpoint_state
hold_replies = refl

hold_comes : all_come holding at_fifth ≡ true
unfolding decks_open jobs_open turns_open checkpoint_state
hold_comes = refl

hold_state : state_of 1 held ≡ Some Held
unfolding decks_open jobs_open turns_open checkpoint_state
hold_state = refl

hold_stops : held.running ≡ []
unfolding decks_open jobs_open turns_open checkpoint_state
hold_stops = refl

-- it is released: the next turn asks again, and by a yes it goes back behind the fourth record and on to its end, and leaves what it does with no failure
release_comes : comes (ReleasedEvent 1, None) held ≡ true
unfolding decks_open jobs_open turns_open checkpoint_state
release_comes = refl

release_replies : replies_of (turns_by 1 7) (released 1 held) ≡ back_at second 4 ∷ to_end
unfolding decks_open jobs_open turns_open checkpoint_state
release_replies = refl

release_turns_come : all_come (turns_by 1 7) (released 1 held) ≡ true
unfolding decks_open jobs_open turns_open checkpoint_state
release_turns_come = refl

release_listed : listing (desk_after (turns_by 1 7) (released 1 held)) ≡ all_copied
unfolding decks_open jobs_open turns_open checkpoint_state
release_listed = refl

release_records : model_records (desk_after (turns_by 1 7) (released 1 held)).office (codes "OUT.A") ≡ map (fitted 80) (cards_from 1 6)
unfolding decks_open jobs_open turns_open checkpoint_state
release_records = refl

-- it goes on on the initiator that takes it up
release_elsewhere : (done_of (released 1 held) (turn_by 2)).event ≡ Some (RestartedEvent 1 2 abended true)
unfolding decks_open jobs_open turns_open checkpoint_state
release_elsewhere = refl

-- by a no it ends, and by a hold it is held again
release_refused : replies_of (with_answer No (turn_by 1) ∷ turn_by 1 ∷ []) (released 1 held) ≡ JobEnded 1 (Abended abended A6) ∷ Idle ∷ []
unfolding decks_open jobs_open turns_open checkpoint_state
release_refused = refl

release_held : replies_of (with_answer Hold (turn_by 1) ∷ turn_by 1 ∷ []) (released 1 held) ≡ JobHeld 1 ∷ Idle ∷ []
unfolding decks_open jobs_open turns_open checkpoint_state
release_held = refl

-- where nobody answers it stays released, and keeps its code
abbrev unanswered : DeskModel
unanswered = desk_after (with_answer Silent (turn_by 1) ∷ []) (released 1 held)

release_waits : replies_of (with_answer Silent (turn_by 1) ∷ with_answer Silent (turn_by 2) ∷ []) (released 1 held) ≡ AwaitingReply ∷ AwaitingReply ∷ []
unfolding decks_open jobs_open turns_open checkpoint_state
release_waits = refl

release_stays : state_of 1 unanswered ≡ Some Released
unfolding decks_open jobs_open turns_open checkpoint_state
release_stays = refl

release_keeps : code_of 1 unanswered ≡ Some abended
unfolding decks_open jobs_open turns_open checkpoint_state
release_keeps = refl

-- ---- no

-- the run ends by the sixth rule, with what its step has written
no_told : (done_of at_fifth (with_answer No (failing abended))).event ≡ Some (EndedEvent 1 (Coded abended 6 5 (record { items = 5 ∷ 2 ∷ [] })))
unfolding decks_open jobs_open turns_open checkpoint_state
no_told = refl

no_replies : replies_of (with_answer No (failing abended) ∷ turn_by 1 ∷ []) at_fifth ≡ JobEnded 1 (Abended abended A6) ∷ Idle ∷ []
unfolding decks_open jobs_open turns_open checkpoint_state
no_replies = refl

no_comes : all_come (with_answer No (failing abended) ∷ []) at_fifth ≡ true
unfolding decks_open jobs_open turns_open checkpoint_state
no_comes = refl

-- ---- no answer

abbrev waiting : DeskModel
waiting = desk_after (with_answer Silent (failing abended) ∷ []) at_fifth

-- nothing is told, and the run waits on its initiator with its code
silent_told : (done_of at_fifth (with_answer Silent (failing abended))).event ≡ None
unfolding decks_open jobs_open turns_open checkpoint_state
silent_told = refl

silent_waits : map (λ step. step.code) waiting.running ≡ Some abended ∷ []
unfolding decks_open jobs_open turns_open checkpoint_state
silent_waits = refl

-- each turn asks again, and by a yes the run goes back and on to its end
silent_replies : replies_of (with_answer Silent (failing abended) ∷ with_answer Silent (turn_by 1) ∷ turns_by 1 7) at_fifth ≡ AwaitingReply ∷ AwaitingReply ∷ back_at second 4 ∷ to_end
unfolding decks_open jobs_open turns_open checkpoint_state
silent_replies = refl

silent_listed : listing (desk_after (turns_by 1 7) waiting) ≡ all_copied
unfolding decks_open jobs_open turns_open checkpoint_state
silent_listed = refl

-- it isn't running: no code can be given, and it waits with its own as before
silent_given : replies_of (with_answer Silent (failing abended) ∷ failing (System 2871) ∷ turns_by 1 1) at_fifth ≡ AwaitingReply ∷ NothingToFail ∷ back_at second 4 ∷ []
unfolding decks_open jobs_open turns_open checkpoint_state
silent_given = refl

-- it may be held then, and ended
silent_held : (done_of waiting (with_answer Hold (turn_by 1))).event ≡ Some (HeldEvent 1 abended 5 (record { items = 5 ∷ 2 ∷ [] }))
unfolding decks_open jobs_open turns_open checkpoint_state
silent_held = refl

silent_refused : replies_of (with_answer No (turn_by 1) ∷ turn_by 1 ∷ []) waiting ≡ JobEnded 1 (Abended abended A6) ∷ Idle ∷ []
unfolding decks_open jobs_open turns_open checkpoint_state
silent_refused = refl

-- ---- the system has failed

abbrev failed_waiting : DeskModel
failed_waiting = desk_after (with_answer Silent (turn_by 1) ∷ []) (reopened at_fifth)

failed_asked : failed_waiting.failed ≡ record { run = 1; asked = true } ∷ []
unfolding decks_open jobs_open turns_open checkpoint_state
failed_asked = refl

-- the run waits with the code of the system failure: none can be given, and each turn asks again
failed_replies : replies_of (with_answer Silent (turn_by 1) ∷ failing abended ∷ with_answer Silent (turn_by 1) ∷ turns_by 1 7) (reopened at_fifth)
    ≡ AwaitingReply ∷ NothingToFail ∷ AwaitingReply ∷ back_at second 4 ∷ to_end
unfolding decks_open jobs_open turns_open checkpoint_state
failed_replies = refl

failed_listed : listing (desk_after (turns_by 1 7) failed_waiting) ≡ all_copied
unfolding decks_open jobs_open turns_open checkpoint_state
failed_listed = refl

-- by a hold it is held with what was committed
failed_held : (done_of failed_waiting (with_answer Hold (turn_by 1))).event ≡ Some (HeldEvent 1 failed 4 (record { items = 4 ∷ 2 ∷ [] }))
unfolding decks_open jobs_open turns_open checkpoint_state
failed_held = refl

-- ---- at the start of its step

start_replies : replies_of (with_answer Silent (failing abended) ∷ turns_by 1 3) (behind 6 suppressing) ≡ AwaitingReply ∷ restarted_on_s1 ∷ on_start ∷ on_s1 1 ∷ []
unfolding decks_open jobs_open turns_open
start_replies = refl

start_released : replies_of (turns_by 1 3) (released 1 (desk_after holding (behind 6 suppressing))) ≡ restarted_on_s1 ∷ on_start ∷ on_s1 1 ∷ []
unfolding decks_open jobs_open turns_open
start_released = refl

-- ---- a unit's own code

-- nobody answers: the step has stopped behind the writes that fit, and no unit comes again
unit_replies : replies_of (turns_by 1 6 ++ with_answer Silent (turn_by 1) ∷ with_answer Silent (turn_by 1) ∷ turns_by 1 2) filling
    ≡ Selected 1 ∷ on_start ∷ on_s1 1 ∷ on_s1 2 ∷ written (codes "C0000001") ∷ on_s1 3 ∷ AwaitingReply ∷ AwaitingReply ∷ back_at (codes "C0000001") 2 ∷ on_s1 3 ∷ []
unfolding decks_open jobs_open turns_open checkpoint_state
unit_replies = refl

unit_held : (done_of (behind 6 filling) (with_answer Hold (turn_by 1))).event ≡ Some (HeldEvent 1 (System 2871) 3 (record { items = 3 ∷ 1 ∷ [] }))
unfolding decks_open jobs_open turns_open checkpoint_state
unit_held = refl

-- ---- whether he was asked

asked_once : (done_of at_fifth (failing abended)).asked ≡ true
unfolding decks_open jobs_open turns_open checkpoint_state
asked_once = refl

not_asked : (done_of at_fifth (turn_by 1)).asked ≡ false
unfolding decks_open jobs_open turns_open checkpoint_state
not_asked = refl
