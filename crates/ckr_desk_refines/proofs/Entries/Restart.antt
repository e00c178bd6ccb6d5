-- A restart at the start of the step leaves its run without a checkpoint in effect; one at its checkpoint leaves that in effect.
use Rattle.std.proofs.Common.{◌≡◌, ℕ, true, false, refl, ap, sym, ◌∙◌, subst, Option, Some, None}
use Rattle.std.specs.Option.{option_map_or}
use Rattle.std.proofs.lemmas.Option.{same_Some}
use Rattle.ckr_base.specs.declared.code.Code.{Code}
use Rattle.ckr_base.proofs.Options.{some-one}
use Rattle.ckr_entry.specs.declared.point.Present.{Present}
use Rattle.ckr_events.specs.declared.event.Event.TheVariants.{Restarted}
use Rattle.ckr_jcl.specs.declared.deck.Job.{Job}
use Rattle.ckr_library.specs.Catalog.{ends_within}
use Rattle.ckr_library.specs.NameMaps.{Named}
use Rattle.ckr_meaning.specs.EffectiveJob.{OwnedStep, names_of}
use Rattle.ckr_points_library.specs.Commit.{output_names}
use Rattle.ckr_points.specs.Marks.{point_at, present_at, put_back, removed_all, with_point}
use Rattle.ckr_points.specs.Office.{Office}
use Rattle.ckr_points.specs.Restart.{Back, after_event, after_put_back, after_restarted, back_to_entry, back_to_start, by_step, effect_restarted, kept_at, point_restarted, row_on}
use Rattle.ckr_points.specs.Rows.{EffectPoint, KeptEntry, RunRow, TableSet, TablesModel, run_of, step_of_run}
use Rattle.ckr_points_invariant.specs.Invariant.{IsAgreed, step_now}
use Rattle.ckr_points_invariant.specs.Readiness.{AreReady, IsCheck}
use Rattle.ckr_points_invariant.proofs.Readiness.Runs.{kept-entry}
use Rattle.ckr_points_invariant.proofs.Steps.Events.{led-by}
use Rattle.ckr_volumes.specs.declared.layout.Layout.{Layout}
use Rattle.ckr_desk_refines.specs.InEffect.{AreInEffect, IsInEffect}
use Rattle.ckr_desk_refines.proofs.Entries.Effects as effects
use Rattle.ckr_desk_refines.proofs.Entries.KeptEntries.{kept_at-put_back}

module _ (layout : Layout) (now : Office) (agreed : IsAgreed layout now) (job : ℕ) (are : AreInEffect now) where
  abbrev Stays : TablesModel → Type 0
  Stays later = effects.StayInEffect layout now agreed job are later

  abbrev tables : TablesModel
  tables = now.tables

  -- the data sets, and the row, behind a put back
  abbrev sets_back : RunRow → OwnedStep → Back → Named TableSet
  sets_back row owned back = put_back back.marks (output_names row.job.root owned) back.needed (removed_all back.removed tables.sets)

  abbrev row_back : RunRow → OwnedStep → Back → RunRow
  row_back row owned back = record row {
    place = Some back.place;
    count = back.count;
    passed = back.passed;
  }

  has-back : (row next : RunRow) (owned : OwnedStep) (back : Back) → run_of tables job ≡ Some row → next.number ≡ row.number → effects.HasRow layout now agreed job are (after_put_back next owned back tables) (row_back next owned back)
  has-back row next owned back e same =
      effects.row-next layout now agreed job are (record tables { sets = sets_back next owned back }) row (row_back next owned back) (same ∙ agreed.numbered job row e)
      (effects.row-sets layout now agreed job are tables row (sets_back next owned back) (effects.row-first layout now agreed job are row e))

  -- ---- at the start of its step

  pub stays-step : (initiator : ℕ) (code : Code) (deck : Option Job) → Stays (after_event (Restarted job initiator code false) deck tables)
  stays-step initiator code deck =
      effects.by-given layout now agreed job are (λ row. by_step (λ owned step. after_restarted row owned step initiator false tables) row tables) (run_of tables job)
      (λ row e.
      effects.by-given layout now agreed job are (λ owned. after_restarted row owned (step_now row) initiator false tables) (step_of_run row (step_now row))
      (λ owned found.
      effects.by-given layout now agreed job are
      (λ point. after_put_back (record (row_on initiator row) { points = with_point (point_restarted point) row.points; in_effect = None }) owned (back_to_start row owned (step_now row) point) tables)
      (point_at row.points (step_now row))
      (λ point got.
      let next : RunRow = record (row_on initiator row) { points = with_point (point_restarted point) row.points; in_effect = None } in
      let back : Back = back_to_start row owned (step_now row) point in
      effects.by-none layout now agreed job are (after_put_back next owned back tables) (row_back next owned back) (has-back row next owned back e refl) refl)))

  -- ---- at its checkpoint in effect

  module _ (ready : AreReady now) where
    -- the entry ends within the mark to which its data set is put back
    ends-back : (row : RunRow) (effect : EffectPoint) (entry : KeptEntry) → run_of tables job ≡ Some row → row.in_effect ≡ Some effect → kept_at tables.sets effect.set effect.kept.id ≡ Some entry
        → (present : Present) → present_at entry.point.marks effect.set ≡ Some present → ends_within present.length entry.kept ≡ true
    ends-back row effect entry e got there present has =
        let its : IsInEffect now row effect = are job row effect e got in
        led-by layout now job row agreed e its.holds
        (λ leg holder.
        let check : IsCheck tables.sets row leg effect = (ready.runs job row leg holder).check effect its.within got in
        let same : check.entry ≡ entry = some-one check.entry entry (kept_at tables.sets effect.set effect.kept.id) (kept-entry tables.sets effect.set effect.kept.id check.entry check.keeps) there in
        ap (λ (one : KeptEntry). ends_within present.length one.kept) (sym same)
        ∙ check.back present (ap (λ (one : KeptEntry). present_at one.point.marks effect.set) same ∙ has))

    entry-back : (row : RunRow) (owned : OwnedStep) (effect : EffectPoint) (entry : KeptEntry) (initiator : ℕ) → run_of tables job ≡ Some row → row.in_effect ≡ Some effect → kept_at tables.sets effect.set effect.kept.id ≡ Some entry
        → Stays (after_put_back (record (row_on initiator row) { in_effect = Some (effect_restarted effect) }) owned (back_to_entry row owned (step_now row) entry.point) tables)
    entry-back row owned effect entry initiator e got there =
        effects.by-own layout now agreed job are later (row_back next owned back) (has-back row next owned back e refl)
        (λ other f. subst (λ (effect : EffectPoint). effects.IsStill layout now agreed job are later (row_back next owned back) effect) (same_Some (effect_restarted effect) other f) stays-its)
      where
        next : RunRow
        next = record (row_on initiator row) { in_effect = Some (effect_restarted effect) }

        back : Back
        back = back_to_entry row owned (step_now row) entry.point

        later : TablesModel
        later = after_put_back next owned back tables

        stays-its : effects.IsStill layout now agreed job are later (row_back next owned back) (effect_restarted effect)
        stays-its =
            let its : IsInEffect now row effect = are job row effect e got in
            let same : entry ≡ its.entry = some-one entry its.entry (kept_at tables.sets effect.set effect.kept.id) there its.at in
            record {
              holds = refl;
              within = refl;
              owned = its.owned;
              found = its.found;
              among = its.among;
              entry = its.entry;
              at =
                  kept_at-put_back entry.point.marks (output_names row.job.root owned) (names_of row.job.root owned) tables.sets effect.set effect.kept.id entry (ends-back row effect entry e got there) there
                  ∙ ap Some same;
              kept = its.kept;
              same = its.same;
              owner = its.owner;
              step = its.step;
              present = its.present;
            }

    pub stays-checkpoint : (initiator : ℕ) (code : Code) (deck : Option Job) → Stays (after_event (Restarted job initiator code true) deck tables)
    stays-checkpoint initiator code deck =
        effects.by-given layout now agreed job are (λ row. by_step (λ owned step. after_restarted row owned step initiator true tables) row tables) (run_of tables job)
        (λ row e.
        effects.by-given layout now agreed job are (λ owned. after_restarted row owned (step_now row) initiator true tables) (step_of_run row (step_now row))
        (λ owned found.
        effects.by-given layout now agreed job are
        (λ effect.
        option_map_or (λ entry. after_put_back (record (row_on initiator row) { in_effect = Some (effect_restarted effect) }) owned (back_to_entry row owned (step_now row) entry.point) tables)
        (kept_at tables.sets effect.set effect.kept.id) tables)
        row.in_effect
        (λ effect got.
        effects.by-given layout now agreed job are
        (λ entry. after_put_back (record (row_on initiator row) { in_effect = Some (effect_restarted effect) }) owned (back_to_entry row owned (step_now row) entry.point) tables)
        (kept_at tables.sets effect.set effect.kept.id)
        (λ entry there. entry-back row owned effect entry initiator e got there))))
