-- The entry of a checkpoint in effect is read with a state that stands for what it says in its run's own job.
use Rattle.std.proofs.Common.{◌≡◌, ◌≤◌, ℕ, false, true, List, ap, sym, ◌∙◌, subst, Option, Some, None}
use Rattle.std.specs.Prelude.{◌==◌, length, nat_le}
use Rattle.std.specs.List.{AllByRecursion}
use Rattle.std.specs.Option.{option_map_or}
use Rattle.ckr_base.proofs.Bools.{and-first}
use Rattle.ckr_base.proofs.Numbers.{nat_le-true}
use Rattle.ckr_base.proofs.Options.{option-cases, some-not-none, some-one}
use Rattle.ckr_library.specs.NameMaps.{entry_at}
use Rattle.ckr_meaning.specs.JobRun.{start_at}
use Rattle.ckr_meaning.specs.Program.{ProgramCase, records_taken, upto}
use Rattle.ckr_meaning.specs.States.{StandsFor}
use Rattle.ckr_meaning.specs.StepRun.{StepStart, case_at}
use Rattle.ckr_points.specs.Office.{Leg, Office, leg_of}
use Rattle.ckr_points.specs.Payload.{carries_taken, start_in_office}
use Rattle.ckr_points.specs.Restart.{kept_at}
use Rattle.ckr_points.specs.Rows.{EffectPoint, KeptEntry, RunRow, TableSet, run_of}
use Rattle.ckr_points_invariant.specs.Invariant.{IsHolder, IsKept, step_now}
use Rattle.ckr_points_invariant.specs.Readiness.{AreReady, IsCheck}
use Rattle.ckr_points_invariant.proofs.Readiness.Runs.{kept-entry}
use Rattle.ckr_points_invariant.proofs.Steps.Events.{led-by}
use Rattle.ckr_steps.specs.Units.{AreServed, is_closed}
use Rattle.ckr_volumes.specs.declared.layout.Layout.{Layout}
use Rattle.ckr_desk_turn.specs.Jobs.{effect_entry}
use Rattle.ckr_desk_turn.specs.EntryStates.{checkpoint_state}
use Rattle.ckr_desk_refines.specs.Entries.{HasEntries, IsReadBack, IsReadInEffect, jobs_of}
use Rattle.ckr_desk_refines.specs.InEffect.{AreInEffect, HasSameCase, IsInEffect}
use Rattle.ckr_desk_refines.proofs.Entries.Images.{read-back}
use Rattle.ckr_desk_refines.proofs.Entries.Refusal.{kept-table, state-of}
use Rattle.ckr_desk_refines.proofs.Entries.States.{state-served, state-stands, state-unclosed}

module _ (layout : Layout) (office : Office) (image : List ℕ) (kept : IsKept layout office) (ready : AreReady office) (are : AreInEffect office) (has : HasEntries layout office image) where
  module _ (number : ℕ) (row : RunRow) (entry : KeptEntry) (start : StepStart) (e : run_of office.tables number ≡ Some row) (got : effect_entry office.tables row ≡ Some entry) (starts : start_in_office office row ≡ Some start) where
    read-by : (effect : EffectPoint) → row.in_effect ≡ Some effect → kept_at office.tables.sets effect.set effect.kept.id ≡ Some entry → IsReadInEffect layout office image row entry start
    read-by effect is there =
        led-by layout office number row kept.events e its.holds
        (λ leg holder.
        let same : back.state ≡ checkpoint_state (case_at start) entry.point.taken back.of_job.entries = as-own leg holder in
        record {
          effect = effect;
          got = is;
          table = table.0;
          at = table.1;
          state = back.state;
          read = back.read;
          stands = subst (λ state. StandsFor state (case_at start) entry.point.taken) (sym same) (state-stands (case_at start) entry.point.taken back.of_job.entries (taken leg holder));
          unclosed = ap is_closed same ∙ state-unclosed (case_at start) entry.point.taken back.of_job.entries;
          served = subst (AreServed true false) (sym same) (state-served (case_at start) entry.point.taken back.of_job.entries);
        })
      where
        its : IsInEffect office row effect
        its = are number row effect e is

        same_entry : its.entry ≡ entry
        same_entry = some-one its.entry entry (kept_at office.tables.sets effect.set effect.kept.id) its.at there

        table : (table : TableSet) × (entry_at office.tables.sets effect.set ≡ Some table) × ((P : KeptEntry → Type 0) → AllByRecursion P table.entries → P entry)
        table = kept-table office.tables.sets effect.set effect.kept.id entry there

        back : IsReadBack layout office.legs (jobs_of office.tables) image table.0.set entry
        back = table.2 (IsReadBack layout office.legs (jobs_of office.tables) image table.0.set) (read-back layout office image has effect.set table.0 table.1)

        step_is : entry.point.step ≡ step_now row
        step_is = ap (λ (entry : KeptEntry). entry.point.step) (sym same_entry) ∙ its.step

        number_is : row.number ≡ number
        number_is = kept.events.numbered number row e

        own_start : (leg : Leg) → IsHolder office number row leg → start_at leg.job leg.start (step_now row) ≡ Some start
        own_start leg holder =
            sym (ap (λ (o : Option Leg). option_map_or (λ leg. start_at leg.job leg.start (step_now row)) o None) (ap (leg_of office) number_is ∙ holder.leg_at)) ∙ starts

        -- the run's own job comes to the step so
        same_case : HasSameCase office.legs number its.owned entry.point
        same_case =
            subst (λ run. HasSameCase office.legs run its.owned entry.point) number_is
            (subst (λ (entry : KeptEntry). HasSameCase office.legs row.number its.owned entry.point) same_entry its.same)

        start_is : (leg : Leg) → IsHolder office number row leg → same_case.start ≡ start
        start_is leg holder =
            some-one same_case.start start (start_at leg.job leg.start entry.point.step)
            (ap (λ (leg : Leg). start_at leg.job leg.start entry.point.step) (some-one leg same_case.leg (leg_of office number) holder.leg_at same_case.led) ∙ same_case.starts)
            (ap (start_at leg.job leg.start) step_is ∙ own_start leg holder)

        -- so the state of the job that took it is one of the run's own
        as-own : (leg : Leg) → IsHolder office number row leg → back.state ≡ checkpoint_state (case_at start) entry.point.taken back.of_job.entries
        as-own leg holder =
            state-of office.legs entry back.state same_case.taker same_case.begun same_case.taker_led same_case.begins back.of_job
            ∙ ap (λ (case : ProgramCase). checkpoint_state case entry.point.taken back.of_job.entries) same_case.same
            ∙ ap (λ (start : StepStart). checkpoint_state (case_at start) entry.point.taken back.of_job.entries) (start_is leg holder)

        -- its program takes so many records
        taken : (leg : Leg) → IsHolder office number row leg → entry.point.taken ≤ records_taken (case_at start)
        taken leg holder =
            let check : IsCheck office.tables.sets row leg effect = (ready.runs number row leg holder).check effect its.within is in
            let same : check.entry ≡ entry = some-one check.entry entry (kept_at office.tables.sets effect.set effect.kept.id) (kept-entry office.tables.sets effect.set effect.kept.id check.entry check.keeps) there in
            nat_le-true entry.point.taken (records_taken (case_at start))
            (and-first (nat_le entry.point.taken (records_taken (case_at start))) (entry.point.writes == length (upto (case_at start) entry.point.taken))
            (subst (λ (entry : KeptEntry). carries_taken entry.point.taken entry.point.writes start ≡ true) same (check.taken start (own_start leg holder))))

    pub effect-read : IsReadInEffect layout office image row entry start
    effect-read =
        option-cases row.in_effect
        (λ none. absurd (some-not-none entry (sym got ∙ ap (λ (o : Option EffectPoint). option_map_or (λ effect. kept_at office.tables.sets effect.set effect.kept.id) o None) none)))
        (λ effect is. read-by effect is (sym (ap (λ (o : Option EffectPoint). option_map_or (λ effect. kept_at office.tables.sets effect.set effect.kept.id) o None) is) ∙ got))
