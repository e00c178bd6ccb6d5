-- A run that is held, or released, keeps its checkpoint in effect: the point of it stands in memory still.
use Rattle.std.proofs.Common.{◌≡◌, ℕ, true, List, ap, sym, ◌∙◌, Some, None}
use Rattle.std.proofs.lemmas.Bool.{and_from}
use Rattle.arrayvec.specs.ArrayVec.{ArrayVec}
use Rattle.ckr_base.specs.declared.code.Code.{Code}
use Rattle.ckr_base.proofs.Bools.{and-second}
use Rattle.ckr_base.proofs.Options.{some-one}
use Rattle.ckr_events.specs.declared.event.Event.TheVariants.{Held, Released}
use Rattle.ckr_library.specs.NameMaps.{Named}
use Rattle.ckr_meaning.specs.EffectiveJob.{OwnedStep}
use Rattle.ckr_meaning.specs.declared.place.Place.TheVariants.{Within}
use Rattle.ckr_points_library.specs.Commit.{output_names}
use Rattle.ckr_points.specs.declared.run.RunState.TheVariants.{Held as HeldRun, Released as ReleasedRun}
use Rattle.ckr_points.specs.Follows.{is_within}
use Rattle.ckr_points.specs.Office.{Leg, Office, is_holder, office_after}
use Rattle.ckr_points.specs.Payload.{carries, start_in_office}
use Rattle.ckr_points.specs.Restart.{kept_at, place_of}
use Rattle.ckr_points.specs.Rows.{EffectPoint, KeptEntry, RunRow, TableSet, run_of}
use Rattle.ckr_points.specs.Soundness.{may_come}
use Rattle.ckr_points.specs.Tables.{committed}
use Rattle.ckr_points_invariant.specs.Invariant.{IsAgreed, step_now}
use Rattle.ckr_points_invariant.specs.Readiness.{AreReady}
use Rattle.ckr_points_invariant.proofs.Holders.Rows.{run-same}
use Rattle.ckr_points_invariant.proofs.Readiness.Runs.{kept-entry}
use Rattle.ckr_volumes.specs.declared.layout.Layout.{Layout}
use Rattle.ckr_desk_memory.specs.Invariant.{is_in_step}
use Rattle.ckr_desk_memory.specs.View.{PointView}
use Rattle.ckr_desk_refines.specs.Standing.{OwnStands, PointsStand}
use Rattle.ckr_desk_refines.proofs.Durable.Office.{behind_hold, by-held}
use Rattle.ckr_desk_refines.proofs.Entries.KeptEntries.{kept_at-committed}
use Rattle.ckr_desk_refines.proofs.Events.OtherRows.{released-enters, released-row}
use Rattle.ckr_desk_refines.proofs.Standing.Points.{by-effect, check-by, entry_in_effect}
use Rattle.ckr_points_invariant.proofs.EventRows.{IsCommitting}

module _ (layout : Layout) (now : Office) (agreed : IsAgreed layout now) (ready : AreReady now) (points : List PointView) (stand : PointsStand now points) where
  -- ---- held

  module _ (job writes : ℕ) (code : Code) (lengths : List ℕ) (row : RunRow) (leg : Leg) (owned : OwnedStep) (commits : IsCommitting now job row leg owned writes lengths) where
    abbrev sets : Named TableSet
    sets = committed (output_names row.job.root owned) lengths now.tables.sets

    abbrev next : RunRow
    next = record row { state = HeldRun; initiator = None; code = Some code; place = Some (Within (step_now row) writes) }

    its_row : run_of now.tables job ≡ Some row
    its_row = commits.at.running.holder.row_at

    in-step : is_in_step row ≡ true
    in-step = and_from (is_holder row.state) (is_within (place_of row)) commits.at.running.holder.holds (ap is_within commits.at.running.stands)

    -- its entry is kept still
    entry-kept : (effect : EffectPoint) → row.in_effect ≡ Some effect → (entry : KeptEntry) → kept_at sets effect.set effect.kept.id ≡ Some entry → kept_at now.tables.sets effect.set effect.kept.id ≡ Some entry
    entry-kept effect got entry found =
        check-by layout now agreed ready job row effect its_row in-step got
        (λ leg holder check.
        let there : kept_at now.tables.sets effect.set effect.kept.id ≡ Some check.entry = kept-entry now.tables.sets effect.set effect.kept.id check.entry check.keeps in
        let still : kept_at sets effect.set effect.kept.id ≡ Some check.entry =
        kept_at-committed now.tables.sets effect.set effect.kept.id check.keeps.table check.entry check.keeps.at check.keeps.ends (output_names row.job.root owned) lengths now.tables.sets commits.at.are there in
        there ∙ ap Some (some-one check.entry entry (kept_at sets effect.set effect.kept.id) still found))

    hold-stands : OwnStands (behind_hold now code writes lengths row owned) points job
    hold-stands later entry start at runs found starts =
        let same : next ≡ later =
        some-one next later (run_of (behind_hold now code writes lengths row owned).tables job) (run-same (record now.tables { sets = sets }) next row job its_row (agreed.numbered job row its_row)) at in
        by-effect (behind_hold now code writes lengths row owned).tables later entry found
        (λ effect got there.
        let was : row.in_effect ≡ Some effect = ap (λ (r : RunRow). r.in_effect) same ∙ got in
        stand job row entry start its_row in-step (ap (entry_in_effect now.tables) was ∙ entry-kept effect was entry there) (ap (start_in_office (behind_hold now code writes lengths row owned)) same ∙ starts))

  pub held-stands : (job writes : ℕ) (code : Code) (lengths : ArrayVec ℕ) → may_come layout now (Held job code writes lengths, None) ≡ true → carries layout now (Held job code writes lengths) None ≡ true
      → OwnStands (office_after (Held job code writes lengths, None) now) points job
  held-stands job writes code lengths may carried =
      by-held (λ later. OwnStands later points job) layout now job writes code lengths None agreed may carried (hold-stands job writes code lengths.items)

  -- ---- released

  pub released-stands : (job : ℕ) (row : RunRow) → run_of now.tables job ≡ Some row → row.state ≡ HeldRun → OwnStands (office_after (Released job, None) now) points job
  released-stands job row at held later entry start there runs found starts =
      let next : RunRow = record row { state = ReleasedRun } in
      let same : next ≡ later = released-row layout now job row later agreed at there in
      let in_step : is_in_step row ≡ true = and_from (is_holder row.state) (is_within (place_of row)) (ap is_holder held) (and-second (is_holder next.state) (is_within (place_of next)) (ap is_in_step same ∙ runs)) in
      by-effect (office_after (Released job, None) now).tables later entry found
      (λ effect got kept.
      stand job row entry start at in_step
      (ap (entry_in_effect now.tables) (ap (λ (r : RunRow). r.in_effect) same ∙ got)
      ∙ ap (λ sets. kept_at sets effect.set effect.kept.id) (sym (released-enters layout now job row agreed at held).sets) ∙ kept)
      (ap (start_in_office (office_after (Released job, None) now)) same ∙ starts))
