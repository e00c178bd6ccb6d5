use Rattle.ckr_desk_refines.proofs.Durable.Units.{committed-kept, others-shown, within-shown}
use Rattle.ckr_desk_refines.proofs.durable_laws.units_leave_what_is_committed.Goals as goal

pub returns-clause-committed : goal.returns-clause-committed
returns-clause-committed c = committed-kept

pub returns-clause-others : goal.returns-clause-others
returns-clause-others c =
    λ layout tables names sets laid has before after keeps. others-shown layout tables names sets laid has before after keeps (Unit {0})

pub returns-clause-within : goal.returns-clause-within
returns-clause-within c = λ image layout tables start writes sets. within-shown (Unit {0}) image layout tables start writes sets tt
