-- A turn that serves a checkpoint or a cancel tells an event that may come, or none.
use Rattle.std.proofs.Common.{◌≡◌, ℕ, Bool, true, false, refl, None}
use Rattle.std.specs.List.{AllByRecursion}
use Rattle.ckr_meaning.specs.LibrarySet.{AreWithinSpace}
use Rattle.ckr_points.specs.Office.{Leg}
use Rattle.ckr_points.specs.RuleCases.{rd_in_effect}
use Rattle.ckr_points_invariant.specs.Invariant.{IsKept}
use Rattle.ckr_rules.specs.RuleTables.{suppresses}
use Rattle.ckr_desk_turn.specs.Checkpoints.{checkpoint_fits, checkpoint_try, checkpoint_turn, checkpoint_unless}
use Rattle.ckr_desk_turn.specs.Desk.{DeskModel}
use Rattle.ckr_desk_turn.specs.Invariant.{IsGoing}
use Rattle.ckr_desk_turn.specs.NextEvents.{EventComes}
use Rattle.ckr_desk_turn.specs.Units.{StepProgress}
use Rattle.ckr_desk_turn.proofs.Checkpoints.Events.{may-come}

module _ (desk : DeskModel) (run : ℕ) (progress : StepProgress) (going : IsGoing desk.office (record { run = run; progress = progress; code = None })) (kept : IsKept desk.layout desk.office)
    (spaced : AllByRecursion (λ (leg : Leg). AreWithinSpace leg.start) desk.office.legs) (unclosed : progress.closed ≡ false) where
  try-comes : (fits : Bool) → checkpoint_fits desk.office.tables.sets going.row going.start progress ≡ fits → EventComes desk (checkpoint_try fits desk.office.tables going.row going.start progress).event
  try-comes true fits = may-come desk.layout desk.office (record { run = run; progress = progress; code = None }) (record { kept = kept; spaced = spaced; going = going; uncoded = refl; unclosed = unclosed; fits = fits })
  try-comes false fits = tt

  unless-comes : (suppressed : Bool) → EventComes desk (checkpoint_unless suppressed desk.office.tables going.row going.start progress).event
  unless-comes true = tt
  unless-comes false = try-comes (checkpoint_fits desk.office.tables.sets going.row going.start progress) refl

  pub turn-comes : EventComes desk (checkpoint_turn desk.office.tables going.row going.start progress).event
  turn-comes = unless-comes (suppresses (rd_in_effect going.row going.start.number))
