-- The points of checkpoints in effect stand in memory for their entries behind a rewrite.
use Rattle.std.proofs.Common.{◌≡◌, ◌&&◌, ℕ, true, false, List, refl, ap, sym, ◌∙◌, Option, Some, None}
use Rattle.std.specs.Option.{option_map_or}
use Rattle.std.proofs.lemmas.Bool.{and_from}
use Rattle.ckr_base.proofs.Bools.{and-first, and-second}
use Rattle.ckr_base.proofs.Options.{some-one}
use Rattle.ckr_library.specs.NameMaps.{Named}
use Rattle.ckr_meaning.specs.EffectiveJob.{OwnedStep}
use Rattle.ckr_points_library.specs.Commit.{output_names}
use Rattle.ckr_points.specs.Follows.{are_lengths, is_rewrite, is_running, is_within, lengths_follow, of_step}
use Rattle.ckr_points.specs.Office.{is_holder}
use Rattle.ckr_points.specs.Restart.{kept_at, place_of}
use Rattle.ckr_points.specs.Rows.{EffectPoint, KeptEntry, RunRow, TableSet, run_of}
use Rattle.ckr_points.specs.Tables.{committed, is_updates, name_with_role, table_rewritten}
use Rattle.ckr_points_invariant.specs.Invariant.{step_now}
use Rattle.ckr_points_invariant.proofs.Readiness.Runs.{kept-entry}
use Rattle.ckr_points_invariant.proofs.WaitingRuns.{follows-of}
use Rattle.ckr_desk_memory.specs.Invariant.{is_in_step}
use Rattle.ckr_desk_memory.specs.View.{PointView, RunningStepView}
use Rattle.ckr_desk_memory.proofs.Holders.RowTests.{rewritten-effect}
use Rattle.ckr_desk_turn.specs.Desk.{DeskModel}
use Rattle.ckr_desk_turn.specs.Invariant.{IsDesk}
use Rattle.ckr_desk_refines.specs.Standing.{OwnStands, PointsStand}
use Rattle.ckr_desk_refines.proofs.Entries.Effects.{passes-of}
use Rattle.ckr_desk_refines.proofs.Entries.KeptEntries.{kept_at-committed, kept_at-same}
use Rattle.ckr_desk_refines.proofs.Events.OtherRows.{LeavesRuns}
use Rattle.ckr_desk_refines.proofs.Rewrites.Office.{next, next-at, other-at}
use Rattle.ckr_desk_refines.proofs.Rewrites.Requests.{IsAsked, comes, event, leaves, lengths, row-at, then}
use Rattle.ckr_desk_refines.proofs.Standing.Points.{by-effect, check-by, entry_in_effect, points-next}
use Rattle.ckr_points.specs.Payload.{start_in_office}

module _ (before after : List ℕ) (desk : DeskModel) (is : IsDesk desk) (run : ℕ) (on moved : RunningStepView) (place : ℕ) (image : List ℕ) (taken : ℕ) (asked : IsAsked before after desk run on moved place image taken) where
  abbrev row : RunRow
  row = asked.led.row

  abbrev sets : Named TableSet
  sets = desk.office.tables.sets

  abbrev own : OwnedStep
  own = asked.led.owned

  abbrev told : List ℕ
  told = lengths before after desk is run on moved place image taken asked

  its_row : run_of desk.office.tables asked.step.run ≡ Some row
  its_row = asked.led.running.holder.row_at

  within_so : is_within (place_of row) ≡ true
  within_so = ap is_within asked.led.running.stands

  -- the lengths that the event commits
  lengths-so : are_lengths sets (output_names row.job.root own) told ≡ true
  lengths-so =
      let passes : (is_running row && lengths_follow desk.office.tables row told && of_step row (is_rewrite desk.office.tables place image row)) ≡ true =
      passes-of desk.office.tables row.number (λ row. is_running row && lengths_follow desk.office.tables row told && of_step row (is_rewrite desk.office.tables place image row)) row
      (follows-of desk.layout desk.office (event before after desk is run on moved place image taken asked) None (comes before after desk is run on moved place image taken asked).may)
      (row-at before after desk is run on moved place image taken asked) in
      sym (ap (λ (o : Option OwnedStep). option_map_or (λ owned. are_lengths sets (output_names row.job.root owned) told) o false) asked.led.running.found)
      ∙ and-second (is_running row) _ (and-first (is_running row && lengths_follow desk.office.tables row told) _ passes)

  -- its entry is still kept
  entry-kept : (effect : EffectPoint) → row.in_effect ≡ Some effect → is_in_step row ≡ true → (entry : KeptEntry) → kept_at (then before after desk is run on moved place image taken asked).tables.sets effect.set effect.kept.id ≡ Some entry → kept_at sets effect.set effect.kept.id ≡ Some entry
  entry-kept effect got runs entry found =
      check-by desk.layout desk.office is.kept.events is.ready asked.step.run row effect its_row runs got
      (λ leg holder check.
      let there : kept_at sets effect.set effect.kept.id ≡ Some check.entry = kept-entry sets effect.set effect.kept.id check.entry check.keeps in
      let still : kept_at (then before after desk is run on moved place image taken asked).tables.sets effect.set effect.kept.id ≡ Some check.entry =
      kept_at-same (name_with_role row.job.root own is_updates) effect.set effect.kept.id (table_rewritten own.owner (step_now row)) (committed (output_names row.job.root own) told sets) (λ table. refl)
      ∙ kept_at-committed sets effect.set effect.kept.id check.keeps.table check.entry check.keeps.at check.keeps.ends (output_names row.job.root own) told sets lengths-so there in
      there ∙ ap Some (some-one check.entry entry (kept_at (then before after desk is run on moved place image taken asked).tables.sets effect.set effect.kept.id) still found))

  module _ (points : List PointView) (stand : PointsStand desk.office points) where
    own-points : OwnStands (then before after desk is run on moved place image taken asked) points asked.step.run
    own-points later entry start at runs found starts =
        let its_next : RunRow = next desk before on asked.step asked.led moved.step.writes moved.sets asked.same in
        let same : its_next ≡ later = some-one its_next later (run_of (then before after desk is run on moved place image taken asked).tables asked.step.run) (next-at desk before on asked.step asked.led moved.step.writes moved.sets asked.same) at in
        let running : is_in_step row ≡ true = and_from (is_holder row.state) (is_within (place_of row)) asked.led.running.holder.holds within_so in
        by-effect (then before after desk is run on moved place image taken asked).tables later entry found
        (λ effect got there.
        rewritten-effect row.in_effect effect (ap (λ (r : RunRow). r.in_effect) same ∙ got)
        (λ old was new.
        stand asked.step.run row entry start its_row running
        (ap (entry_in_effect desk.office.tables) was
        ∙ entry-kept old was running entry (ap (λ (e : EffectPoint). kept_at (then before after desk is run on moved place image taken asked).tables.sets e.set e.kept.id) new ∙ there))
        (ap (start_in_office (then before after desk is run on moved place image taken asked)) same ∙ starts)))

    leaves-runs : LeavesRuns desk.office (then before after desk is run on moved place image taken asked) asked.step.run
    leaves-runs = record { rows = other-at desk before on asked.step asked.led moved.step.writes moved.sets asked.same; legs = λ other apart. refl }

    pub points-rewritten : PointsStand (then before after desk is run on moved place image taken asked) points
    points-rewritten =
        points-next desk.layout desk.office is.kept.events is.ready (then before after desk is run on moved place image taken asked) asked.step.run leaves-runs
        (leaves before after desk is run on moved place image taken asked) points points (λ number apart. refl) stand own-points
