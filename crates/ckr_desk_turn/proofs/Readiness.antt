-- One more event of a desk leaves its events kept.
use Rattle.std.proofs.Common.{None}
use Rattle.ckr_events.specs.declared.event.Event.{Event}
use Rattle.ckr_points.specs.Office.{office_after}
use Rattle.ckr_points_invariant.proofs.KeptEvents.{next-kept}
use Rattle.ckr_desk_turn.specs.Desk.{DeskModel}
use Rattle.ckr_desk_turn.specs.Invariant.{IsDesk}
use Rattle.ckr_desk_turn.specs.NextEvents.{Comes}
use Rattle.ckr_points_invariant.specs.KeptEvents.{AreKept}

-- all that is kept from event to event
pub desk-kept : (desk : DeskModel) → IsDesk desk → AreKept desk.layout desk.office
desk-kept desk is = record { kept = is.kept; pointed = is.pointed; ready = is.ready; begun = is.begun; written = is.written }

pub kept-on : (desk : DeskModel) → IsDesk desk → (event : Event) → Comes desk event → AreKept desk.layout (office_after (event, None) desk.office)
kept-on desk is event comes = next-kept desk.layout desk.office (desk-kept desk is) event None comes
