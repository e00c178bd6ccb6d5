-- The jobs in memory stand for the desk behind the event by which the restart of a run is denied.
use Rattle.std.proofs.Common.{ℕ, ◌&&◌, List, refl, Option, None}
use Rattle.std.specs.Option.{is_some}
use Rattle.ckr_base.proofs.Bools.{and-first}
use Rattle.ckr_events.specs.declared.event.Event.TheVariants.{Denied}
use Rattle.ckr_library.specs.NameMaps.{Name}
use Rattle.ckr_points.specs.declared.run.RunState.TheVariants.{Queued}
use Rattle.ckr_points.specs.Follows.{is_in_state}
use Rattle.ckr_points_invariant.proofs.Holders.Rows.{queued-is}
use Rattle.ckr_points_invariant.proofs.WaitingRuns.{follows-of, tested-run}
use Rattle.ckr_volumes.specs.declared.layout.Layout.{Layout}
use Rattle.ckr_desk_memory.specs.View.{JobsView}
use Rattle.ckr_desk_turn.specs.Desk.{DeskModel, behind}
use Rattle.ckr_desk_turn.specs.Invariant.{IsDesk}
use Rattle.ckr_desk_turn.specs.NextEvents.{Comes}
use Rattle.ckr_desk_refines.specs.Commits.{HasCommitted}
use Rattle.ckr_desk_refines.specs.Moves.{HasSameRecords, HaveMoved}
use Rattle.ckr_desk_refines.specs.Standing.{StandsForDesk}
use Rattle.ckr_desk_refines.proofs.Durable.Events.{quiet-stays}
use Rattle.ckr_desk_refines.proofs.Events.Commits.{committed-moves}
use Rattle.ckr_desk_refines.proofs.Events.Desk.{entered-stands, out-stands}
use Rattle.ckr_desk_refines.proofs.Events.OtherRows.{EntersOut, denied-enters}

pub denied-committed : (layout : Layout) (jobs : JobsView) (before : List ℕ) (desk : DeskModel) (run rule : ℕ) (name : Option Name) → StandsForDesk layout jobs before desk → IsDesk (behind (Denied run rule name) None desk)
    → (image : List ℕ) → HasSameRecords desk.layout before image → HasCommitted desk.layout (behind (Denied run rule name) None desk).office image
denied-committed layout jobs before desk run rule name stands later image same =
    committed-moves desk.layout (behind (Denied run rule name) None desk).office before image later.kept same
    (quiet-stays desk.layout desk.office before (Denied run rule name) None refl stands.is_desk.kept later.kept stands.committed)

pub denied-stands : (layout : Layout) (old new : JobsView) (before after : List ℕ) (desk : DeskModel) (run rule : ℕ) (name : Option Name) → StandsForDesk layout old before desk → Comes desk (Denied run rule name) → IsDesk (behind (Denied run rule name) None desk)
    → HaveMoved (Denied run rule name) None old new → HasSameRecords desk.layout before after → StandsForDesk layout new after (behind (Denied run rule name) None desk)
denied-stands layout old new before after desk run rule name stands comes later moved same =
    tested-run desk.office.tables run (λ row. is_in_state Queued row && is_some row.deck.restart) (follows-of desk.layout desk.office (Denied run rule name) None comes.may)
    (λ row at passes.
    let out : EntersOut desk.office (behind (Denied run rule name) None desk).office =
    denied-enters desk.layout desk.office run rule name row stands.is_desk.kept.events at (queued-is row.state (and-first (is_in_state Queued row) (is_some row.deck.restart) passes)) in
    entered-stands layout old new before after desk (Denied run rule name) None stands moved same refl later out.enters moved.running refl moved.points
    (out-stands desk.office (behind (Denied run rule name) None desk).office out old.points)
    (denied-committed layout old before desk run rule name stands later after same))
