use Rattle.ckr_desk_refines.proofs.Durable.Continuation.{others-continued}
use Rattle.ckr_desk_refines.proofs.Durable.Fellows.{others-coded, others-completed, others-held, others-quiet, others-refused, others-rewritten, others-selected, others-started, others-step-ended}
use Rattle.ckr_desk_refines.proofs.Durable.Restart.{others-restarted}
use Rattle.ckr_desk_refines.proofs.Durable.SharedSets.{step-others}
use Rattle.ckr_desk_refines.proofs.shared_sets.events_leave_the_data_sets_of_other_steps.Goals as goal

pub returns-clause-quiet : goal.returns-clause-quiet
returns-clause-quiet c = others-quiet

pub returns-clause-selected : goal.returns-clause-selected
returns-clause-selected c = others-selected

pub returns-clause-continued : goal.returns-clause-continued
returns-clause-continued c =
    λ layout now job initiator before step id deck kept may next. others-continued layout now kept job initiator before step id deck may next

pub returns-clause-started : goal.returns-clause-started
returns-clause-started c = others-started

pub returns-clause-step_ended : goal.returns-clause-step_ended
returns-clause-step_ended c = others-step-ended

pub returns-clause-restarted : goal.returns-clause-restarted
returns-clause-restarted c = others-restarted

pub returns-clause-held : goal.returns-clause-held
returns-clause-held c = λ layout now job writes code lengths deck kept may carried. others-held layout now job writes code lengths deck kept may carried

pub returns-clause-completed : goal.returns-clause-completed
returns-clause-completed c = others-completed

pub returns-clause-ended : goal.returns-clause-ended
returns-clause-ended c =
    λ layout now job rule writes code lengths deck kept may carried. others-coded layout now job rule writes code lengths deck kept may carried

pub returns-clause-refused : goal.returns-clause-refused
returns-clause-refused c = others-refused

pub returns-clause-rewritten : goal.returns-clause-rewritten
returns-clause-rewritten c = others-rewritten

pub returns-clause-steps : goal.returns-clause-steps
returns-clause-steps c = step-others
