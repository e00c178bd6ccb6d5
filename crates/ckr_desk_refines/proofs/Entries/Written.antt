-- The entry that a checkpoint of a running step writes is there behind its event.
use Rattle.std.proofs.Common.{◌≡◌, ℕ, suc, List, [], length, refl, ap, sym, ◌∙◌, subst, Option, Some, None, arith}
use Rattle.std.specs.Prelude.{find, option_and_then}
use Rattle.std.specs.Option.{option_map_or}
use Rattle.ckr_base.proofs.Bools.{and-second}
use Rattle.ckr_base.proofs.Options.{some-not-none}
use Rattle.ckr_entry.specs.Entry.{IsEntry, spelling}
use Rattle.ckr_entry.specs.Parts.{Entry}
use Rattle.ckr_jcl.specs.declared.deck.Dd.{Dd}
use Rattle.ckr_library.specs.declared.sets.DataSet.{DataSet}
use Rattle.ckr_library.specs.NameMaps.{Name, Named, entry_at}
use Rattle.ckr_meaning.specs.EffectiveJob.{Effective, OwnedStep, name_of}
use Rattle.ckr_meaning.specs.JobRun.{start_at}
use Rattle.ckr_meaning.specs.StepRun.{StepStart, case_at}
use Rattle.ckr_meaning.specs.declared.place.Place.{Place}
use Rattle.ckr_meaning.specs.declared.place.Place.TheVariants.{Before}
use Rattle.ckr_points_library.specs.Commit.{output_names}
use Rattle.ckr_points.specs.Office.{Leg, Office, leg_of}
use Rattle.ckr_points.specs.Restart.{place_of, step_in}
use Rattle.ckr_points.specs.Rows.{EntryPoint, RunRow, TableSet, run_of, step_of_run}
use Rattle.ckr_points.specs.Tables.{committed, entry_point, is_checkpoints, name_with_role}
use Rattle.ckr_points_invariant.specs.Invariant.{IsHolder}
use Rattle.ckr_points_invariant.specs.RunningSteps.{IsRunning, its_start}
use Rattle.ckr_points_invariant.proofs.Steps.Commits.{place_so}
use Rattle.ckr_steps.specs.EntryRecords.{HasEntry}
use Rattle.ckr_volumes.specs.declared.layout.Layout.{Layout}
use Rattle.ckr_volumes.specs.SamePlaces.{SamePlaces}
use Rattle.ckr_desk_turn.specs.Checkpoints.{MayCheckpoint, check_set, entry_bytes, entry_end, entry_place, entry_with, lengths_with, next_id, office_behind, step_entries, written_entry}
use Rattle.ckr_desk_turn.specs.Desk.{DeskStep}
use Rattle.ckr_desk_turn.specs.NextEvents.{IsWithinStep}
use Rattle.ckr_desk_turn.proofs.Checkpoints.Bytes.{ending-size}
use Rattle.ckr_desk_turn.proofs.Checkpoints.Events.{by-leg, kept_now}
use Rattle.ckr_desk_turn.proofs.Checkpoints.Ranges.{entry-range}
use Rattle.ckr_desk_refines.specs.Entries.{HasEntries, HasNewEntry, entry_taken}
use Rattle.ckr_desk_refines.proofs.Entries.Checkpoint.{has-taken}
use Rattle.ckr_desk_refines.proofs.Entries.NewEntry.{new-written}
use Rattle.ckr_desk_refines.proofs.Entries.States.{state-most, state-program}

-- ---- its data set

named-by : (root : ℕ) (owned : OwnedStep) (set : Name) (found : Option Dd) → option_and_then (name_of root owned) found ≡ Some set → option_map_or (λ dd. option_map_or (λ name. name) (name_of root owned dd) []) found [] ≡ set
named-by root owned set None is = absurd (some-not-none set (sym is))
named-by root owned set (Some dd) is = ap (λ (o : Option Name). option_map_or (λ name. name) o []) is

module _ (layout : Layout) (office : Office) (step : DeskStep) (may : MayCheckpoint layout office step) where
  abbrev row : RunRow
  row = may.going.row

  abbrev start : StepStart
  start = may.going.start

  abbrev sets : Named TableSet
  sets = office.tables.sets

  abbrev told : List ℕ
  told = lengths_with sets start step.progress.writes (entry_end sets row start step.progress)

  within : IsWithinStep office step.run row may.going.number may.going.committed start
  within = record {
    row_at = may.going.row_at;
    on = may.going.on;
    place = ap (λ (o : Option Place). option_map_or (λ place. place) o (Before 1)) may.going.place;
    start_at = may.going.start_at;
  }

  number_is : row.number ≡ step.run
  number_is = may.kept.events.numbered step.run row may.going.row_at

  abbrev point_of : ℕ → OwnedStep → ℕ → EntryPoint
  point_of root owned number = entry_point row owned number step.progress.taken step.progress.writes (committed (output_names root owned) told sets)

  module _ (image : List ℕ) (set : Name) (table : TableSet) (there : DataSet) (is : check_set start ≡ Some set) (at : entry_at sets set ≡ Some table) (places : SamePlaces table.set there) (fits : IsEntry (written_entry layout office step may))
      (has : HasEntry image layout there (entry_place sets start) (spelling (written_entry layout office step may))) where
    by-step : (leg : Leg) (owned : OwnedStep) → IsRunning office step.run row leg owned may.going.number may.going.committed → start ≡ its_start leg owned may.going.number → HasNewEntry layout office (kept_now layout office step may) step.progress.taken step.progress.writes told image
    by-step leg owned running same =
        new-written layout office may.kept.events.numbered image (kept_now layout office step may) step.progress.taken step.progress.writes told row owned table
        (ap (run_of office.tables) number_is ∙ may.going.row_at)
        (ap (λ (place : Place). step_of_run row (step_in place)) running.stands ∙ running.found)
        (ap (entry_at sets) named ∙ at)
        (record {
          state = (written_entry layout office step may).state;
          of_job = record {
            leg = leg;
            led = led leg running.holder;
            start = start;
            begun = sym (ap (λ (o : Option Leg). option_map_or (λ leg. start_at leg.job leg.start (step_in (place_of row))) o None) (led leg running.holder)) ∙ may.going.start_at;
            entries = suc (step_entries row start.number);
            least = omega arith;
            most = state-most (case_at start) step.progress.taken (suc (step_entries row start.number)) (and-second _ _ (entry-range (written_entry layout office step may) fits));
            is = refl;
          };
          set = there;
          places = places;
          fits = subst IsEntry entry_is fits;
          bytes = ap (λ (e : Entry). length (spelling e)) (sym entry_is) ∙ ending-size sets row start step.progress (entry_end sets row start step.progress) 0;
          there = subst (λ (e : Entry). HasEntry image layout there (entry_place sets start) (spelling e)) entry_is has;
          program = state-program start step.progress.taken _ ∙ ap (λ (s : StepStart). s.owned.step.program) same;
        })
      where
        led : (leg : Leg) → IsHolder office step.run row leg → leg_of office row.number ≡ Some leg
        led leg holder = ap (leg_of office) number_is ∙ holder.leg_at

        job : leg.job ≡ row.job
        job = (place_so layout office step.run row leg owned may.going.number may.going.committed may.kept.events running).job

        named : name_with_role row.job.root owned is_checkpoints ≡ set
        named =
            ap (λ (j : Effective). name_with_role j.root owned is_checkpoints) (sym job)
            ∙ ap (λ (s : StepStart). name_with_role s.root s.owned is_checkpoints) (sym same)
            ∙ named-by start.root start.owned set (find (λ dd. is_checkpoints dd.role) start.owned.step.dds) is

        points : point_of start.root start.owned start.number ≡ point_of row.job.root owned (step_in (place_of row))
        points =
            ap (λ (s : StepStart). point_of s.root s.owned s.number) same
            ∙ ap (λ (place : Place). point_of leg.job.root owned (step_in place)) (sym running.stands)
            ∙ ap (λ (j : Effective). point_of j.root owned (step_in (place_of row))) job

        entry_is : written_entry layout office step may ≡ entry_with (next_id row start) (written_entry layout office step may).state (entry_taken office.tables row owned (kept_now layout office step may) step.progress.taken step.progress.writes told).point
        entry_is = ap (entry_with (next_id row start) (written_entry layout office step may).state) points

    pub has-behind : HasEntries layout office image → HasEntries layout (office_behind layout office step may) image
    has-behind had =
        has-taken layout office may.kept.events.numbered (next_id row start) row.number step.progress.taken step.progress.writes (entry_place sets start) (entry_bytes sets row start step.progress) (record { items = told }) None image had
        (by-leg layout office step.run row may.going.number may.going.committed start within may.kept may.spaced (λ leg owned running same spaced. by-step leg owned running same))
