-- The laws of kept events.
use Rattle.ckr_volumes.specs.declared.layout.Layout.{Layout}
use Rattle.ckr_points_invariant.specs.Invariant.{IsKept}
use Rattle.ckr_points.specs.Office.{Office, no_office}
use Rattle.ckr_points.specs.Soundness.{IsSoundOffice}
use Rattle.ckr_points_invariant.proofs.WaitingRuns.{kept-none}
use Rattle.ckr_points_invariant.proofs.Stamps.Starts.{stamped-none}
use Rattle.ckr_points_invariant.proofs.Soundness.{kept-agrees, kept-passed}
use Rattle.ckr_points_invariant.proofs.Stamps.Tables.{kept-stamped}

pub no_events : (layout : Layout) → IsKept layout no_office
no_events layout = record { events = kept-none layout; stamps = stamped-none; decks = tt }

pub sound : (layout : Layout) (now : Office) → IsKept layout now → IsSoundOffice layout now
sound layout now kept = record {
  extents = kept.events.extents;
  agree = kept-agrees layout now kept.events;
  passed = kept-passed layout now kept.events;
  stamped = kept-stamped layout now kept;
}
