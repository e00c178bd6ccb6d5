-- Jobs in memory stand for a desk that is opened, with the points that were read of the entries in effect.
use Rattle.std.proofs.Common.{◌≡◌, ℕ, true, false, List, [], refl, ap, sym, ◌∙◌, subst}
use Rattle.ckr_base.proofs.Options.{some-one}
use Rattle.ckr_entry.specs.Entry.{entry_in}
use Rattle.ckr_entry.specs.declared.point.State.{State}
use Rattle.ckr_library.specs.declared.sets.Kept.{Kept}
use Rattle.ckr_meaning.specs.States.{StandsFor}
use Rattle.ckr_meaning.specs.StepRun.{case_at}
use Rattle.ckr_points.specs.Office.{Office}
use Rattle.ckr_points.specs.Restart.{kept_at}
use Rattle.ckr_points.specs.Rows.{KeptEntry}
use Rattle.ckr_points_invariant.specs.Invariant.{IsKept}
use Rattle.ckr_points_invariant.specs.Readiness.{AreReady}
use Rattle.ckr_steps.specs.EntryRecords.{bytes_on}
use Rattle.ckr_steps.specs.Units.{AreServed, is_closed}
use Rattle.ckr_volumes.specs.declared.layout.Layout.{Layout}
use Rattle.ckr_desk_memory.specs.View.{JobsView, PointView}
use Rattle.ckr_desk_turn.specs.Checkpoints.{entry_with}
use Rattle.ckr_desk_turn.specs.Desk.{opened}
use Rattle.ckr_desk_turn.specs.Invariant.{IsDesk}
use Rattle.ckr_desk_refines.specs.Commits.{HasCommitted}
use Rattle.ckr_desk_refines.specs.Entries.{AreRead, HasEntries, IsPointOfEntry, IsRead, IsReadInEffect}
use Rattle.ckr_desk_refines.specs.InEffect.{AreInEffect, IsInEffect}
use Rattle.ckr_desk_refines.specs.Standing.{AllStand, OwnStands, StandsForDesk}
use Rattle.ckr_desk_refines.proofs.Entries.InEffect.{effect-read}
use Rattle.ckr_desk_refines.proofs.Standing.Points.{entry_in_effect}

-- a point that was read stands for its entry
pub read-stands : (layout : Layout) (office : Office) (image : List ℕ) (points : List PointView) (run : ℕ) → IsKept layout office → AreReady office → AreInEffect office → HasEntries layout office image → IsRead layout office.tables image points run → OwnStands office points run
read-stands layout office image points run kept ready are has read row entry start at runs found starts =
    let its : IsReadInEffect layout office image row entry start = effect-read layout office image kept ready are has run row entry start at found starts in
    let effect : IsInEffect office row its.effect = are run row its.effect at its.got in
    let same : effect.entry ≡ entry = some-one effect.entry entry (kept_at office.tables.sets its.effect.set its.effect.kept.id) effect.at (sym (ap (entry_in_effect office.tables) its.got) ∙ found) in
    let same_kept : entry.kept ≡ its.effect.kept = ap (λ (e : KeptEntry). e.kept) (sym same) ∙ effect.kept in
    let point : IsPointOfEntry points run (entry_with entry.kept.id its.state entry.point) =
    read row its.effect its.table (entry_with entry.kept.id its.state entry.point) at runs its.got its.at
    (ap (λ (k : Kept). entry_in (bytes_on image layout its.table.set k.place k.bytes)) (sym same_kept) ∙ its.read) in
    let state : point.point.state ≡ its.state = point.state in
    record {
      point = point.point;
      found = point.found;
      stands = subst (λ (s : State). StandsFor s (case_at start) entry.point.taken) (sym state) its.stands;
      writes = point.writes;
      unclosed = ap is_closed state ∙ its.unclosed;
      served = subst (AreServed true false) (sym state) its.served;
    }

module _ (layout : Layout) (office : Office) (jobs : JobsView) (earlier image : List ℕ) (is : IsDesk (opened layout office)) (are : AreInEffect office) (committed : HasCommitted layout office image) (has : HasEntries layout office earlier)
    (tables : jobs.tables.desk ≡ office.tables) (failed : jobs.failed ≡ (opened layout office).failed) (running : jobs.running ≡ []) (read : AreRead layout office.tables earlier jobs.points) where
  pub opened-stands : StandsForDesk layout jobs image (opened layout office)
  opened-stands = record {
    layout_is = refl;
    is_desk = is;
    tables = tables;
    failed = failed;
    running = subst (λ seen. AllStand layout office image seen []) (sym running) tt;
    differ_so = refl;
    points = λ run. read-stands layout office earlier jobs.points run is.kept is.ready are has (read run);
    committed = committed;
  }
