use Rattle.std.proofs.Common.{ap}
use Rattle.ckr_desk_turn.specs.Plans.{is_within}
use Rattle.ckr_desk_memory.proofs.unit_due.is_within.Goals as goal

pub returns-in-Within : goal.returns-in-Within
returns-in-Within c = λ run. ap is_within (c.in-Within.ensures run)

pub returns-in-Before : goal.returns-in-Before
returns-in-Before c = λ run. ap is_within (c.in-Before.ensures run)

pub returns-in-Opened : goal.returns-in-Opened
returns-in-Opened c = λ run. ap is_within (c.in-Opened.ensures run)
