use Rattle.ckr_desk_refines.proofs.Durable.Checkpoint.{checkpointed-stays}
use Rattle.ckr_desk_refines.proofs.Durable.Events.{coded-stays, held-stays, step-ended-stays}
use Rattle.ckr_desk_refines.proofs.Durable.Rewrite.{rewritten-stays}
use Rattle.ckr_desk_refines.proofs.durable_laws.events_commit_what_a_step_has_written.Goals as goal

pub returns-clause-step_ended : goal.returns-clause-step_ended
returns-clause-step_ended c = step-ended-stays

pub returns-clause-ended : goal.returns-clause-ended
returns-clause-ended c =
    λ layout now image job rule writes code lengths deck kept may carried next had has. coded-stays layout now image job rule writes code lengths deck kept may carried next had has

pub returns-clause-held : goal.returns-clause-held
returns-clause-held c = λ layout now image job writes code lengths deck kept may carried next had has. held-stays layout now image job writes code lengths deck kept may carried next had has

pub returns-clause-rewritten : goal.returns-clause-rewritten
returns-clause-rewritten c = rewritten-stays

pub returns-clause-checkpointed : goal.returns-clause-checkpointed
returns-clause-checkpointed c =
    λ layout now image job taken writes place bytes id lengths deck kept may carried next had has. checkpointed-stays layout now image job taken writes place bytes id lengths deck kept may carried next had has
