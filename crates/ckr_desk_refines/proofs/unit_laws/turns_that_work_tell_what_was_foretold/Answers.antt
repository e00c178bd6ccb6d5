use Rattle.ckr_desk_refines.proofs.Units.Forecasts.{foretold-so}
use Rattle.ckr_desk_refines.proofs.unit_laws.turns_that_work_tell_what_was_foretold.Goals as goal

pub returns : goal.returns
returns c = foretold-so
