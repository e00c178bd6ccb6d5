-- The event of a checkpoint that fits may come and carries what its job gives, as does that of a cancel; and what they leave.
use Rattle.std.proofs.Common.{◌≡◌, ◌≤◌, ◌+◌, ℕ, suc, Bool, true, false, ◌&&◌, List, [], length, find, filter, refl, ap, sym, ◌∙◌, subst, Option, Some, None, arith}
use Rattle.std.specs.Prelude.{◌==◌, nat_le, option_and_then}
use Rattle.std.specs.List.{AllByRecursion}
use Rattle.std.specs.Option.{is_none, option_map, option_map_or}
use Rattle.std.proofs.lemmas.Bool.{and_from, false≢true}
use Rattle.std.proofs.lemmas.Option.{same_Some}
use Rattle.ckr_base.proofs.Bools.{and-first, and-second}
use Rattle.ckr_base.proofs.Numbers.{equal-itself, nat_le-from, nat_le-true}
use Rattle.ckr_base.proofs.Options.{is_none-true, option-cases, some-not-none}
use Rattle.ckr_base.proofs.Sequences.{any-filter, find-any, find-passes}
use Rattle.ckr_events.specs.declared.event.Event.TheVariants.{Cancelled as CancelledEvent}
use Rattle.ckr_jcl.specs.declared.deck.Dd.{Dd}
use Rattle.ckr_jcl.specs.declared.deck.Role.{Role}
use Rattle.ckr_jcl.specs.declared.deck.Role.TheVariants.{Reads, Writes, Updates, Checkpoints as ChecksOn, Unused}
use Rattle.ckr_library.specs.declared.sets.Content.TheVariants.{Checkpoints}
use Rattle.ckr_library.specs.declared.sets.Kept.{Kept}
use Rattle.ckr_library.specs.Catalog.{records_of}
use Rattle.ckr_library.specs.NameMaps.{Name, Named, entry_at, same_name, with_changed}
use Rattle.ckr_library.proofs.Named.{name-itself, name-same}
use Rattle.ckr_meaning.specs.Allotments.{is_output}
use Rattle.ckr_meaning.specs.EffectiveJob.{Effective, OwnedStep, is_among, name_of}
use Rattle.ckr_meaning.specs.LibrarySet.{AreWithinSpace, LibrarySet}
use Rattle.ckr_meaning.specs.declared.place.Place.{Place}
use Rattle.ckr_meaning.specs.declared.place.Place.TheVariants.{Before, Within}
use Rattle.ckr_meaning.specs.Program.{records_taken, upto}
use Rattle.ckr_meaning.specs.StepRun.{StepStart, case_at, within_at, work_at}
use Rattle.ckr_volumes.specs.declared.layout.Layout.{Layout}
use Rattle.ckr_points_library.specs.Commit.{output_names}
use Rattle.ckr_points.specs.declared.run.RunState.{RunState}
use Rattle.ckr_points.specs.declared.run.RunState.TheVariants.{On}
use Rattle.ckr_points.specs.Events.{IsNext}
use Rattle.ckr_points.specs.Follows.{are_lengths, is_checkpoint, is_length_of, is_in_state, is_running, is_within, lengths_follow, of_step, state_number}
use Rattle.ckr_points.specs.Office.{Leg, Office, office_after}
use Rattle.ckr_points.specs.Payload.{carries_lengths, carries_taken, commits, have_lengths, of_start, rewrites_nothing, writes_in}
use Rattle.ckr_points.specs.Restart.{kept_at, place_of, step_in}
use Rattle.ckr_points.specs.Rows.{EffectPoint, EntryPoint, KeptEntry, RunRow, TableSet, TablesModel, run_of, step_of_run}
use Rattle.ckr_points.specs.Tables.{after_cancelled, after_checkpointed, committed, entry_point, fresh_effect, is_checkpoints, kept_entry, name_with_role, with_kept_entry}
use Rattle.ckr_points_invariant.specs.Invariant.{IsKept, Shape, set_shape, table_shape}
use Rattle.ckr_points_invariant.specs.Points.{ArePointed}
use Rattle.ckr_points_invariant.specs.RunningSteps.{IsRunning, its_start}
use Rattle.ckr_points_invariant.proofs.Holders.Places.{outputs-among}
use Rattle.ckr_points_invariant.proofs.Holders.Rows.{run-same}
use Rattle.ckr_points_invariant.proofs.Points.Lists.{pointed-next}
use Rattle.ckr_points_invariant.proofs.SoundEvents.{kept-next}
use Rattle.ckr_points_invariant.proofs.Library.Entries.{among-filter_map, is_name}
use Rattle.ckr_points_invariant.proofs.Steps.Commits.{alike_within, formed_step, in_reach, place_so, under_way}
use Rattle.ckr_desk_turn.specs.Checkpoints.{HasRow, MayCheckpoint, check_set, checkpoint_event, checkpoint_fits, entry_bytes, entry_end, written_entry, entry_place, entry_with, written_event, fits_in, is_check_set, is_in_range, lengths_with, next_entry, next_id, office_behind, entry_ending}
use Rattle.ckr_desk_turn.specs.Desk.{DeskStep}
use Rattle.ckr_desk_turn.specs.Invariant.{HasCome, HasComeSo, IsOpen}
use Rattle.ckr_desk_turn.specs.NextEvents.{IsWithinStep}
use Rattle.ckr_desk_turn.specs.Units.{StepProgress}
use Rattle.ckr_desk_turn.proofs.Checkpoints.Content.{KeepsCheckpoints, within-keeps}
use Rattle.ckr_desk_turn.proofs.Checkpoints.Kept.{kept-then}
use Rattle.ckr_desk_turn.proofs.Checkpoints.Lengths.{HasRoom, length-of-check, lengths-follow-with, lengths-had-with}
use Rattle.ckr_desk_turn.proofs.NextEvents.Holders.{by-holder, by-spaced, of-run as holder-run, of-start as holder-start, on-holder}
use Rattle.ckr_desk_turn.proofs.StepEnd.{by-changed}
use Rattle.ckr_desk_turn.proofs.Units.Outputs.{IsOutput, each_output}
use Rattle.ckr_desk_turn.proofs.Checkpoints.Bytes.{spelling-some}

pub checks-output : (role : Role) → is_checkpoints role ≡ true → is_output role ≡ true
checks-output Reads e = absurd (false≢true e)
checks-output Writes e = absurd (false≢true e)
checks-output Updates e = absurd (false≢true e)
checks-output ChecksOn e = refl
checks-output Unused e = absurd (false≢true e)

-- ---- the data set for checkpoints of a step

-- its DD, and its name
pub record IsCheckDd (start : StepStart) (set : Name) : Type 0 where
  pub dd : Dd
  pub at : find (λ one. is_checkpoints one.role) start.owned.step.dds ≡ Some dd
  pub has : name_of start.root start.owned dd ≡ Some set

pub check-dd : (start : StepStart) (set : Name) → check_set start ≡ Some set → IsCheckDd start set
check-dd start set is =
    option-cases (find (λ one. is_checkpoints one.role) start.owned.step.dds)
    (λ none. absurd (some-not-none set (sym is ∙ ap (option_and_then (name_of start.root start.owned)) none)))
    (λ dd at. record { dd = dd; at = at; has = sym (ap (option_and_then (name_of start.root start.owned)) at) ∙ is })

module _ (start : StepStart) (set : Name) (its : IsCheckDd start set) where
  checks : is_checkpoints its.dd.role ≡ true
  checks = find-passes (λ one. is_checkpoints one.role) start.owned.step.dds its.dd its.at

  pub check-among : is_among (output_names start.root start.owned) set ≡ true
  check-among =
      among-filter_map (name_of start.root start.owned) (filter (λ dd. is_output dd.role) start.owned.step.dds) set
      ∙ any-filter (λ dd. is_output dd.role) (λ dd. is_name set (name_of start.root start.owned dd)) start.owned.step.dds
      ∙ find-any (λ one. is_checkpoints one.role) (λ dd. is_output dd.role && is_name set (name_of start.root start.owned dd)) start.owned.step.dds its.dd its.at
      (and_from (is_output its.dd.role) (is_name set (name_of start.root start.owned its.dd)) (checks-output its.dd.role checks)
      (ap (is_name set) its.has ∙ name-itself set))

  pub check-named : name_with_role start.root start.owned is_checkpoints ≡ set
  check-named =
      ap (λ (o : Option Dd). option_map_or (λ dd. option_map_or (λ name. name) (name_of start.root start.owned dd) []) o []) its.at
      ∙ ap (λ (o : Option Name). option_map_or (λ name. name) o []) its.has

-- ---- a step that is running

-- what is known of it, and that its next entry fits
pub record Premises (sets : Named TableSet) (row : RunRow) (committed : ℕ) (step : StepProgress) (start : StepStart) : Type 0 where
  pub fit : step.writes ≤ length (work_at start).writes
  pub plain : rewrites_nothing start committed step.writes ≡ true
  pub come : IsOpen start step
  pub fits : checkpoint_fits sets row start step ≡ true

-- what its event is to be
pub record IsTold (office : Office) (row : RunRow) (step : StepProgress) (start : StepStart) : Type 0 where
  pub follow : lengths_follow office.tables row (lengths_with office.tables.sets start step.writes (entry_end office.tables.sets row start step)) ≡ true
  pub checked : of_step row (is_checkpoint office.tables (next_id row start) (lengths_with office.tables.sets start step.writes (entry_end office.tables.sets row start step)) (entry_place office.tables.sets start) (entry_bytes office.tables.sets row start step) row) ≡ true
  pub carried : (commits office.tables.sets row step.writes (lengths_with office.tables.sets start step.writes (entry_end office.tables.sets row start step)) start && carries_taken step.taken step.writes start) ≡ true

-- what stands under the name of its DD for checkpoints is a data set for checkpoints
module _ (layout : Layout) (office : Office) (run : ℕ) (row : RunRow) (leg : Leg) (owned : OwnedStep) (number committed : ℕ) (kept : IsKept layout office) (running : IsRunning office run row leg owned number committed)
    (set : Name) (table : TableSet) (is : check_set (its_start leg owned number) ≡ Some set) (found : entry_at office.tables.sets set ≡ Some table) where
  abbrev begun : StepStart
  begun = its_start leg owned number

  its_dd : IsCheckDd begun set
  its_dd = check-dd begun set is

  keeps_so : KeepsCheckpoints (within_at begun committed) set
  keeps_so =
      within-keeps begun (formed_step layout office run row leg owned number committed kept.events running)
      (under_way layout office run row leg owned number committed kept.events running).flawless
      its_dd.dd set its_dd.at its_dd.has (checks begun set its_dd) committed

  pub content-now : table.set.content ≡ Checkpoints
  content-now = by (entry_at (within_at begun committed) set) refl
      (sym (ap (option_map table_shape) found)
      ∙ alike_within layout office run row leg owned number committed kept.events running set
      (in_reach layout office run row leg owned number committed kept.events running set (outputs-among leg.job.root owned set (check-among begun set its_dd))))
    where
      by : (entry : Option LibrarySet) → entry_at (within_at begun committed) set ≡ entry → Some (table_shape table) ≡ option_map set_shape entry → table.set.content ≡ Checkpoints
      by None at alike = absurd (some-not-none (table_shape table) alike)
      by (Some other) at alike = ap (λ (s : Shape). s.content) (same_Some (table_shape table) (set_shape other) alike) ∙ keeps_so other at

module _ (layout : Layout) (office : Office) (run : ℕ) (row : RunRow) (leg : Leg) (owned : OwnedStep) (number committed : ℕ) (step : StepProgress)
    (kept : IsKept layout office) (running : IsRunning office run row leg owned number committed) (spaced : AreWithinSpace leg.start)
    (behind : committed ≤ step.writes) (known : Premises office.tables.sets row committed step (its_start leg owned number)) where
  abbrev start : StepStart
  start = its_start leg owned number

  abbrev sets : Named TableSet
  sets = office.tables.sets

  abbrev end : ℕ
  end = entry_end sets row start step

  same_job : leg.job ≡ row.job
  same_job = (place_so layout office run row leg owned number committed kept.events running).job

  each : (name : Name) → is_among (output_names leg.job.root owned) name ≡ true → IsOutput sets (within_at start step.writes) name
  each = each_output layout office run row leg owned number committed step.writes kept.events running spaced behind known.fit known.plain

  module _ (set : Name) (table : TableSet) (is : check_set start ≡ Some set) (found : entry_at sets set ≡ Some table) (fits : fits_in sets row start step set table ≡ true) where
    its : IsCheckDd start set
    its = check-dd start set is

    content_so : table.set.content ≡ Checkpoints
    content_so = content-now layout office run row leg owned number committed kept running set table is found

    place_is : entry_place sets start ≡ table.set.length
    place_is =
        ap (λ (o : Option Name). option_map_or (λ (t : TableSet). t.set.length) (option_and_then (entry_at sets) o) 0) is
        ∙ ap (λ (o : Option TableSet). option_map_or (λ (t : TableSet). t.set.length) o 0) found

    space_so : nat_le end table.set.space ≡ true
    space_so = and-first (nat_le end table.set.space) (is_none (kept_at sets set (next_id row start))) (and-first (nat_le end table.set.space && is_none (kept_at sets set (next_id row start))) (is_in_range (next_entry sets row start step)) fits)

    none_so : is_none (kept_at sets set (next_id row start)) ≡ true
    none_so = and-second (nat_le end table.set.space) (is_none (kept_at sets set (next_id row start))) (and-first (nat_le end table.set.space && is_none (kept_at sets set (next_id row start))) (is_in_range (next_entry sets row start step)) fits)

    has_room : HasRoom sets end set
    has_room =
        let low : table.set.length ≤ end = subst (λ n. n ≤ end) place_is (let k : entry_place sets start ≤ end = omega arith in k) in
        record { table = table; found = found; low = low; high = nat_le-true end table.set.space space_so; content = content_so }

    check_is : (name : Name) → is_check_set start name ≡ same_name name set
    check_is name = ap (λ (o : Option Name). option_map_or (same_name name) o false) is

    each_check : (name : Name) → is_among (output_names leg.job.root owned) name ≡ true → is_check_set start name ≡ true → HasRoom sets end name
    each_check name among e = subst (HasRoom sets end) (sym (name-same name set (sym (check_is name) ∙ e))) has_room

    abbrev lengths_so : List ℕ
    lengths_so = lengths_with sets start step.writes end

    follow_so : lengths_follow office.tables row lengths_so ≡ true
    follow_so =
        ap (λ n. option_map_or (λ owned. are_lengths sets (output_names row.job.root owned) lengths_so) (step_of_run row n) false) (ap step_in running.stands)
        ∙ ap (λ (o : Option OwnedStep). option_map_or (λ owned. are_lengths sets (output_names row.job.root owned) lengths_so) o false) running.found
        ∙ ap (λ (job : Effective). are_lengths sets (output_names job.root owned) lengths_so) (sym same_job)
        ∙ lengths-follow-with (within_at start step.writes) sets (is_check_set start) end (output_names leg.job.root owned) each each_check

    abbrev stands_under : Name → Bool
    stands_under name = option_map_or (λ (t : TableSet). entry_place sets start == t.set.length && is_none (kept_at sets name (next_id row start))) (entry_at sets name) false

    abbrev length_under : Name → List Name → Bool
    length_under name outputs = is_length_of name (entry_place sets start + records_of (entry_bytes sets row start step)) outputs lengths_so

    abbrev checked_under : Name → List Name → Bool
    checked_under name outputs = stands_under name && length_under name outputs

    checked_so : of_step row (is_checkpoint office.tables (next_id row start) lengths_so (entry_place sets start) (entry_bytes sets row start step) row) ≡ true
    checked_so =
        ap (λ n. option_map_or (λ owned. is_checkpoint office.tables (next_id row start) lengths_so (entry_place sets start) (entry_bytes sets row start step) row owned) (step_of_run row n) false) (ap step_in running.stands)
        ∙ ap (λ (o : Option OwnedStep). option_map_or (λ owned. is_checkpoint office.tables (next_id row start) lengths_so (entry_place sets start) (entry_bytes sets row start step) row owned) o false) running.found
        ∙ ap (λ name. checked_under name (output_names row.job.root owned)) (ap (λ (job : Effective). name_with_role job.root owned is_checkpoints) (sym same_job) ∙ check-named start set its)
        ∙ ap (λ (job : Effective). checked_under set (output_names job.root owned)) (sym same_job)
        ∙ and_from (stands_under set) (length_under set (output_names leg.job.root owned))
        (ap (λ (o : Option TableSet). option_map_or (λ (t : TableSet). entry_place sets start == t.set.length && is_none (kept_at sets set (next_id row start))) o false) found
        ∙ and_from (entry_place sets start == table.set.length) (is_none (kept_at sets set (next_id row start))) (ap (λ n. n == table.set.length) place_is ∙ equal-itself table.set.length) none_so)
        (length-of-check (within_at start step.writes) sets (is_check_set start) end set (output_names leg.job.root owned) check_is (check-among start set its))

    carried_so : (commits sets row step.writes lengths_so start && carries_taken step.taken step.writes start) ≡ true
    carried_so =
        let from : writes_in (place_of row) ≡ committed = ap writes_in running.stands in
        and_from (commits sets row step.writes lengths_so start) (carries_taken step.taken step.writes start)
        (and_from (nat_le (writes_in (place_of row)) step.writes && rewrites_nothing start (writes_in (place_of row)) step.writes) (carries_lengths sets step.writes lengths_so start)
        (ap (λ n. nat_le n step.writes && rewrites_nothing start n step.writes) from ∙ and_from (nat_le committed step.writes) (rewrites_nothing start committed step.writes) (nat_le-from committed step.writes behind) known.plain)
        (and_from (nat_le step.writes (length (work_at start).writes)) (have_lengths (within_at start step.writes) sets (output_names leg.job.root owned) lengths_so) (nat_le-from step.writes (length (work_at start).writes) known.fit)
        (lengths-had-with (within_at start step.writes) sets (is_check_set start) end (output_names leg.job.root owned) each each_check)))
        (and_from (nat_le step.taken (records_taken (case_at start))) (step.writes == length (upto (case_at start) step.taken)) (nat_le-from step.taken (records_taken (case_at start)) known.come.taken)
        (ap (λ n. step.writes == n) (sym known.come.writes) ∙ equal-itself step.writes))

    told_here : IsTold office row step start
    told_here = record { follow = follow_so; checked = checked_so; carried = carried_so }

  pub told-so : IsTold office row step start
  told-so =
      option-cases (check_set start)
      (λ none. absurd (false≢true (sym (ap (λ (o : Option Name). option_map_or (λ name. option_map_or (fits_in sets row start step name) (entry_at sets name) false) o false) none) ∙ known.fits)))
      (λ set is.
      let at : option_map_or (fits_in sets row start step set) (entry_at sets set) false ≡ true = sym (ap (λ (o : Option Name). option_map_or (λ name. option_map_or (fits_in sets row start step name) (entry_at sets name) false) o false) is) ∙ known.fits in
      option-cases (entry_at sets set)
      (λ none. absurd (false≢true (sym (ap (λ (o : Option TableSet). option_map_or (fits_in sets row start step set) o false) none) ∙ at)))
      (λ table found. told_here set table is found (sym (ap (λ (o : Option TableSet). option_map_or (fits_in sets row start step set) o false) found) ∙ at)))

-- ---- the run of a step, at an office whose events are kept

module _ (layout : Layout) (office : Office) (run : ℕ) (row : RunRow) (number committed : ℕ) (start : StepStart) (within : IsWithinStep office run row number committed start) where
  pub runs : is_running row ≡ true
  runs = and_from (is_in_state On row) (is_within (place_of row)) (ap (λ (state : RunState). state_number state == 2) within.on) (ap is_within within.place)

  -- a test of the run
  pub of-run : (test : RunRow → Bool) → test row ≡ true → option_map_or test (run_of office.tables run) false ≡ true
  of-run = holder-run layout office run row number committed start (on-holder office run row number committed start within)

  -- a test of its step
  of-start : (test : RunRow → StepStart → Bool) → test row start ≡ true → of_start office run test ≡ true
  of-start = holder-start layout office run row number committed start (on-holder office run row number committed start within)

  -- the event of a cancel may come
  pub cancel-comes : IsNext layout office (CancelledEvent run, None)
  cancel-comes = record { may = and_from _ true (of-run is_running runs) refl; carried = refl }

  -- its leg, and its step there
  pub by-step : {A : Type 0} → IsKept layout office → ((leg : Leg) (owned : OwnedStep) → IsRunning office run row leg owned number committed → start ≡ its_start leg owned number → A) → A
  by-step = by-holder layout office run row number committed start (on-holder office run row number committed start within)

  module _ (kept : IsKept layout office) (all_spaced : AllByRecursion (λ (leg : Leg). AreWithinSpace leg.start) office.legs) where
    -- and its space
    pub by-leg : {A : Type 0} → ((leg : Leg) (owned : OwnedStep) → IsRunning office run row leg owned number committed → start ≡ its_start leg owned number → AreWithinSpace leg.start → A) → A
    by-leg = by-spaced layout office run row number committed start (on-holder office run row number committed start within) kept all_spaced

    module _ (step : StepProgress) (behind : committed ≤ step.writes) (known : Premises office.tables.sets row committed step start) where
      told : IsTold office row step start
      told =
          by-leg (λ leg owned running same spaced.
          subst (λ s. Premises office.tables.sets row committed step s → IsTold office row step s) (sym same)
          (λ known. told-so layout office run row leg owned number committed step kept running spaced behind known) known)

      abbrev then_lengths : List ℕ
      then_lengths = lengths_with office.tables.sets start step.writes (entry_end office.tables.sets row start step)

      abbrev follows_so : RunRow → Bool
      follows_so other =
          is_running other && lengths_follow office.tables other then_lengths
          && of_step other (is_checkpoint office.tables (next_id row start) then_lengths (entry_place office.tables.sets start) (entry_bytes office.tables.sets row start step) other)

      abbrev carries_so : RunRow → StepStart → Bool
      carries_so other begun = commits office.tables.sets other step.writes then_lengths begun && carries_taken step.taken step.writes begun

      -- the event of a checkpoint that fits may come
      pub checkpoint-comes : row.number ≡ run → IsNext layout office (checkpoint_event office.tables.sets row start step, None)
      checkpoint-comes mine = record {
        may =
            and_from (option_map_or follows_so (run_of office.tables row.number) false) true
            (ap (λ n. option_map_or follows_so (run_of office.tables n) false) mine
            ∙ of-run follows_so
            (and_from (is_running row && lengths_follow office.tables row then_lengths) _
            (and_from (is_running row) (lengths_follow office.tables row then_lengths) runs told.follow) told.checked)) refl;
        carried =
            and_from (nat_le 1 (entry_bytes office.tables.sets row start step)) (of_start office row.number carries_so)
            (nat_le-from 1 (entry_bytes office.tables.sets row start step) (spelling-some (entry_ending 0 office.tables.sets row start step)))
            (ap (λ n. of_start office n carries_so) mine ∙ of-start carries_so told.carried);
      }

-- ---- where a checkpoint may be taken

module _ (layout : Layout) (office : Office) (step : DeskStep) (may : MayCheckpoint layout office step) where
  within_so : IsWithinStep office step.run may.going.row may.going.number may.going.committed may.going.start
  within_so = record {
    row_at = may.going.row_at;
    on = may.going.on;
    place = ap (λ (o : Option Place). option_map_or (λ place. place) o (Before 1)) may.going.place;
    start_at = may.going.start_at;
  }

  its_number : may.going.row.number ≡ step.run
  its_number = may.kept.events.numbered step.run may.going.row may.going.row_at

  known_so : Premises office.tables.sets may.going.row may.going.committed step.progress may.going.start
  known_so = record {
    fit = may.going.fit;
    plain = may.going.plain;
    come = subst (HasCome may.going.start step.progress) may.unclosed (subst (λ code. HasComeSo code may.going.start step.progress) may.uncoded may.going.come);
    fits = may.fits;
  }

  pub may-come : IsNext layout office (written_event layout office step may, None)
  may-come = checkpoint-comes layout office step.run may.going.row may.going.number may.going.committed may.going.start within_so may.kept may.spaced step.progress may.going.behind known_so its_number

  pub kept-behind : IsKept layout (office_behind layout office step may)
  kept-behind = kept-next layout office (written_event layout office step may) None refl may.kept may-come

  pub pointed-behind : ArePointed office → ArePointed (office_behind layout office step may)
  pointed-behind pointed = pointed-next layout office (written_event layout office step may) None refl may.kept.events pointed may-come

  abbrev told_lengths : List ℕ
  told_lengths = lengths_with office.tables.sets may.going.start step.progress.writes (entry_end office.tables.sets may.going.row may.going.start step.progress)

  abbrev pub kept_now : Kept
  kept_now = record {
    id = next_id may.going.row may.going.start;
    run = may.going.row.number;
    place = entry_place office.tables.sets may.going.start;
    bytes = entry_bytes office.tables.sets may.going.row may.going.start step.progress;
  }

  -- its row then
  abbrev pub next_row : OwnedStep → RunRow
  next_row owned = record may.going.row {
    count = suc may.going.row.count;
    in_effect = Some (fresh_effect (name_with_role may.going.row.job.root owned is_checkpoints) kept_now);
    place = Some (Within (step_in (place_of may.going.row)) step.progress.writes);
  }

  abbrev pub committed_now : OwnedStep → TablesModel
  committed_now owned = record office.tables { sets = committed (output_names may.going.row.job.root owned) told_lengths office.tables.sets }

  -- the tables behind the event, for the step that the run is in
  abbrev tables_now : OwnedStep → TablesModel
  tables_now owned = after_checkpointed may.going.row owned (step_in (place_of may.going.row)) kept_now step.progress.taken step.progress.writes told_lengths office.tables

  pub behind-by : (Q : TablesModel → Type 0) → ((leg : Leg) (owned : OwnedStep) → may.going.start ≡ its_start leg owned may.going.number → leg.job ≡ may.going.row.job → Q (tables_now owned)) → Q (office_behind layout office step may).tables
  behind-by Q holds =
      by-leg layout office step.run may.going.row may.going.number may.going.committed may.going.start within_so may.kept may.spaced
      (λ leg owned running same spaced.
      by-changed Q office.tables may.going.row.number may.going.row owned
      (λ row owned number. after_checkpointed row owned number kept_now step.progress.taken step.progress.writes told_lengths office.tables)
      (ap (run_of office.tables) its_number ∙ may.going.row_at) (ap (λ place. step_of_run may.going.row (step_in place)) running.stands ∙ running.found)
      (holds leg owned same (place_so layout office step.run may.going.row leg owned may.going.number may.going.committed may.kept.events running).job))

  pub row-now : (owned : OwnedStep) → run_of (tables_now owned) step.run ≡ Some (next_row owned)
  row-now owned = run-same (committed_now owned) (next_row owned) may.going.row step.run may.going.row_at its_number

  -- the run has written an entry more
  pub counts-one : HasRow (office_behind layout office step may) step.run (λ (row : RunRow). row.count ≡ suc may.going.row.count)
  counts-one = behind-by (λ tables. (row : RunRow) × (run_of tables step.run ≡ Some row) × (row.count ≡ suc may.going.row.count)) (λ leg owned same job. (next_row owned, row-now owned, refl))

  -- what the step has written is committed
  pub committed-so : HasRow (office_behind layout office step may) step.run (λ (row : RunRow). place_of row ≡ Within may.going.number step.progress.writes)
  committed-so =
      behind-by (λ tables. (row : RunRow) × (run_of tables step.run ≡ Some row) × (place_of row ≡ Within may.going.number step.progress.writes))
      (λ leg owned same job. (next_row owned, row-now owned, ap (λ (place : Place). Within (step_in place) step.progress.writes) within_so.place))

  -- its entry is in effect
  pub effect-so : HasRow (office_behind layout office step may) step.run (λ (row : RunRow). option_map (λ (effect : EffectPoint). effect.kept.id) row.in_effect ≡ Some (next_id may.going.row may.going.start))
  effect-so =
      behind-by (λ tables. (row : RunRow) × (run_of tables step.run ≡ Some row) × (option_map (λ (effect : EffectPoint). effect.kept.id) row.in_effect ≡ Some (next_id may.going.row may.going.start)))
      (λ leg owned same job. (next_row owned, row-now owned, refl))

  -- ---- what its data set keeps

  abbrev Told : TablesModel → Name → Type 0
  Told tables set =
      option_map (λ (entry : KeptEntry). entry_with entry.kept.id (written_entry layout office step may).state entry.point) (kept_at tables.sets set (next_id may.going.row may.going.start))
      ≡ Some (written_entry layout office step may)

  abbrev point_now : ℕ → OwnedStep → ℕ → EntryPoint
  point_now root owned number =
      entry_point may.going.row owned number step.progress.taken step.progress.writes (committed (output_names root owned) told_lengths office.tables.sets)

  point-same : (leg : Leg) (owned : OwnedStep) → may.going.start ≡ its_start leg owned may.going.number → leg.job ≡ may.going.row.job → point_now may.going.row.job.root owned (step_in (place_of may.going.row)) ≡ point_now may.going.start.root may.going.start.owned may.going.start.number
  point-same leg owned same job =
      ap (λ (j : Effective). point_now j.root owned (step_in (place_of may.going.row))) (sym job)
      ∙ ap (λ (place : Place). point_now leg.job.root owned (step_in place)) within_so.place
      ∙ ap (λ (s : StepStart). point_now s.root s.owned s.number) (sym same)

  abbrev sets_then : OwnedStep → Named TableSet
  sets_then owned = committed (output_names may.going.row.job.root owned) told_lengths office.tables.sets

  abbrev entry_then : OwnedStep → KeptEntry
  entry_then owned = kept_entry kept_now (point_now may.going.row.job.root owned (step_in (place_of may.going.row)))

  module _ (set : Name) (is : check_set may.going.start ≡ Some set) where
    set-named : (leg : Leg) (owned : OwnedStep) → may.going.start ≡ its_start leg owned may.going.number → leg.job ≡ may.going.row.job → name_with_role may.going.row.job.root owned is_checkpoints ≡ set
    set-named leg owned same job =
        ap (λ (j : Effective). name_with_role j.root owned is_checkpoints) (sym job)
        ∙ ap (λ (s : StepStart). name_with_role s.root s.owned is_checkpoints) (sym same)
        ∙ check-named may.going.start set (check-dd may.going.start set is)

    fits_there : option_map_or (fits_in office.tables.sets may.going.row may.going.start step.progress set) (entry_at office.tables.sets set) false ≡ true
    fits_there =
        sym (ap (λ (o : Option Name). option_map_or (λ name. option_map_or (fits_in office.tables.sets may.going.row may.going.start step.progress name) (entry_at office.tables.sets name) false) o false) is)
        ∙ may.fits

    kept-under : (table : TableSet) → entry_at office.tables.sets set ≡ Some table → Told (office_behind layout office step may).tables set
    kept-under table found =
        behind-by (λ tables. Told tables set)
        (λ leg owned same job.
        ap (λ (name : Name). option_map (λ (entry : KeptEntry). entry_with entry.kept.id (written_entry layout office step may).state entry.point) (kept_at (with_changed name (with_kept_entry (entry_then owned)) (sets_then owned)) set (next_id may.going.row may.going.start))) (set-named leg owned same job)
        ∙ ap (option_map (λ (entry : KeptEntry). entry_with entry.kept.id (written_entry layout office step may).state entry.point)) (kept-then (output_names may.going.row.job.root owned) told_lengths office.tables.sets set table (entry_then owned) found none)
        ∙ ap (λ (point : EntryPoint). Some (entry_with (next_id may.going.row may.going.start) (written_entry layout office step may).state point)) (point-same leg owned same job))
      where
        fits_table : fits_in office.tables.sets may.going.row may.going.start step.progress set table ≡ true
        fits_table = sym (ap (λ (o : Option TableSet). option_map_or (fits_in office.tables.sets may.going.row may.going.start step.progress set) o false) found) ∙ fits_there

        none : kept_at office.tables.sets set (next_id may.going.row may.going.start) ≡ None
        none =
            is_none-true (kept_at office.tables.sets set (next_id may.going.row may.going.start))
            (and-second (nat_le (entry_end office.tables.sets may.going.row may.going.start step.progress) table.set.space) (is_none (kept_at office.tables.sets set (next_id may.going.row may.going.start)))
            (and-first _ (is_in_range (next_entry office.tables.sets may.going.row may.going.start step.progress)) fits_table))

    pub kept-so : Told (office_behind layout office step may).tables set
    kept-so =
        option-cases (entry_at office.tables.sets set)
        (λ none. absurd (false≢true (sym (ap (λ (o : Option TableSet). option_map_or (fits_in office.tables.sets may.going.row may.going.start step.progress set) o false) none) ∙ fits_there)))
        kept-under

-- behind a cancel it has written as many as before
pub cancel-count : (office : Office) (row : RunRow) → run_of office.tables row.number ≡ Some row → HasRow (office_after (CancelledEvent row.number, None) office) row.number (λ (next : RunRow). next.count ≡ row.count)
cancel-count office row at =
    subst (λ (o : Option RunRow). (next : RunRow) × (run_of (option_map_or (λ (found : RunRow). after_cancelled found office.tables) o office.tables) row.number ≡ Some next) × (next.count ≡ row.count)) (sym at)
    (record row { in_effect = None }, run-same office.tables (record row { in_effect = None }) row row.number at refl, refl)

-- and none is in effect
pub cancel-withdraws : (office : Office) (row : RunRow) → run_of office.tables row.number ≡ Some row → HasRow (office_after (CancelledEvent row.number, None) office) row.number (λ (next : RunRow). next.in_effect ≡ None)
cancel-withdraws office row at =
    subst (λ (o : Option RunRow). (next : RunRow) × (run_of (option_map_or (λ (found : RunRow). after_cancelled found office.tables) o office.tables) row.number ≡ Some next) × (next.in_effect ≡ None)) (sym at)
    (record row { in_effect = None }, run-same office.tables (record row { in_effect = None }) row row.number at refl, refl)

-- what is kept stays
pub cancel-entries : (office : Office) (job : ℕ) → (office_after (CancelledEvent job, None) office).tables.sets ≡ office.tables.sets
cancel-entries office job = by (run_of office.tables job)
  where
    by : (row : Option RunRow) → (option_map_or (λ (found : RunRow). after_cancelled found office.tables) row office.tables).sets ≡ office.tables.sets
    by None = refl
    by (Some row) = refl
