-- What is counted of the replies to a stream.
use Rattle.std.specs.Prelude.{List, [], ◌∷◌}
use Rattle.ckr_outside.specs.Faults.{one_more}
use Rattle.ckr_desk.specs.Model.How.TheVariants.{Completed}
use Rattle.ckr_desk.specs.Model.Reply.{Reply}
use Rattle.ckr_desk.specs.Model.Reply.TheVariants.{JobEnded, Restarted}
use Rattle.ckr_session.specs.declared.tally.Tally.{Tally}
use Rattle.ckr_session.specs.Calls.{Answer, Turned}

-- nothing is counted
abbrev pub no_tally : Tally
no_tally = record { completed = 0; restarts = 0 }

-- with a reply more: a job that ended behind its last step, or a restart
abbrev pub with_reply : Tally → Reply → Tally
with_reply tally (JobEnded job Completed) = record tally { completed = one_more tally.completed }
with_reply tally (Restarted job step id taken) = record tally { restarts = one_more tally.restarts }
with_reply tally _ = tally

abbrev pub with_replies : Tally → List Reply → Tally
with_replies tally [] = tally
with_replies tally (reply ∷ replies) = with_replies (with_reply tally reply) replies

-- with the replies of the turns of an answer
abbrev pub with_answer : Tally → Answer → Tally
with_answer tally (Turned layout initiator replies) = with_replies tally replies
with_answer tally _ = tally

abbrev pub with_answers : Tally → List Answer → Tally
with_answers tally [] = tally
with_answers tally (answer ∷ answers) = with_answers (with_answer tally answer) answers
