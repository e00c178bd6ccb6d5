use Rattle.std.proofs.Common.{refl}
use Rattle.ckr_points.specs.Office.{no_office}
use Rattle.ckr_points_invariant.specs.KeptEvents.{AreKept}
use Rattle.ckr_points_invariant.proofs.KeptEvents.{none-kept}
use Rattle.ckr_desk_turn.proofs.Runs.Rows.{runs-of}
use Rattle.ckr_desk_turn.proofs.Opening.{has-runs, opened-is}
use Rattle.ckr_desk_turn.proofs.opening_law.opened_desks_are_desks.Goals as goal

pub returns : goal.returns
returns c = record {
  opened_so = λ layout office kept has. opened-is layout office kept has;
  at_any_time = λ desk is. has-runs desk is;
  at_first = λ layout. let are : AreKept layout no_office = none-kept layout in opened-is layout no_office are.kept (runs-of no_office (record { states = refl; admitted = tt; stepped = refl; spaced = tt; spaced_legs = tt }) layout are);
}
