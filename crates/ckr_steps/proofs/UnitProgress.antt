-- A unit from a place of the step leads to the next place, or ends the step as its work ends.
use Rattle.std.proofs.Common.{◌≡◌, ◌<◌, ℕ, ◌+◌, Bool, true, false, cond, ◌&&◌, List, [], ◌∷◌, ◌++◌, length, take, drop, filter, Option, Some, None, refl, ap, sym, ◌∙◌, subst, arith, append_assoc, append-nil, length-append, ⊎_elim, inl}
use Rattle.std.specs.Prelude.{if◌then◌else◌, option_and_then, slice_get}
use Rattle.std.specs.List.{list_all}
use Rattle.std.specs.Option.{option_map_or, is_some}
use Rattle.std.proofs.lemmas.Bool.{false≢true, lt-ltb, cases_lt}
use Rattle.std.proofs.lemmas.List.{take-append-drop}
use Rattle.ckr_base.specs.declared.code.Code.{Code}
use Rattle.ckr_base.specs.declared.programs.Finish.{Finish}
use Rattle.ckr_base.specs.declared.programs.Finish.TheVariants as Finishes
use Rattle.ckr_base.specs.declared.programs.Heads.{Heads}
use Rattle.ckr_base.specs.declared.programs.Output.{Output}
use Rattle.ckr_base.specs.declared.programs.Output.TheVariants.{Main, Rejects, InPlace}
use Rattle.ckr_base.specs.declared.programs.UnitDone.{UnitDone}
use Rattle.ckr_base.specs.declared.programs.Write.{Write}
use Rattle.ckr_base.proofs.Options.{some-not-none}
use Rattle.ckr_base.specs.Columns.{fitted}
use Rattle.ckr_entry.specs.declared.point.State.{State}
use Rattle.ckr_jcl.specs.declared.deck.Kind.{Kind}
use Rattle.ckr_jcl.specs.declared.deck.Kind.TheVariants.{Update}
use Rattle.ckr_library.specs.declared.sets.DataSet.{DataSet}
use Rattle.ckr_library.specs.Catalog.{Catalog, set_of}
use Rattle.ckr_library.specs.NameMaps.{Name}
use Rattle.ckr_library.proofs.Named.{name-itself}
use Rattle.ckr_programs.specs.Units.{is_returned}
use Rattle.ckr_programs.specs.Work.{Work}
use Rattle.ckr_match.specs.Images.{has_transactions}
use Rattle.ckr_match.specs.State.{has_two_inputs}
use Rattle.ckr_volumes.specs.declared.layout.Layout.{Layout}
use Rattle.ckr_meaning.specs.LibrarySet.{Library}
use Rattle.ckr_meaning.specs.Program.{ProgramCase, OutputRoom, room_after, fitting, records_taken, rest, unit_done, upto, work}
use Rattle.ckr_meaning.specs.States.{StandsFor, first_of}
use Rattle.ckr_meaning.specs.StepRun.{StepStart, case_at, input_names, made_at, set_records, within_at, work_at, written_all}
use Rattle.ckr_meaning.proofs.FittingWrites.{fitting-all, fitting-front}
use Rattle.ckr_meaning.proofs.Prefixes.{takes_one, ends_work, work_in_parts}
use Rattle.ckr_steps.specs.declared.files.Files.{Files}
use Rattle.ckr_steps.specs.declared.files.RecordSource.TheVariants.{InSet}
use Rattle.ckr_steps.specs.declared.step_run.StepRun.{StepRun}
use Rattle.ckr_steps.specs.declared.step_run.Worked.{Worked}
use Rattle.ckr_steps.specs.declared.step_run.Worked.TheVariants.{Went, Rewrite}
use Rattle.ckr_steps.specs.Files.{files_of, set_of_source}
use Rattle.ckr_steps.specs.Inputs.{AreThere}
use Rattle.ckr_steps.specs.Units.{AreServed, state_of, taken_of, is_cancelled, is_checkpointed, is_closed}
use Rattle.ckr_steps.specs.Writes.{is_behind, room_of, rewrite_in, rewrite_first, rewrite_of, done_unless, done_of, count_unless, count_of, worked_by, answer_of, grown, Shows, IsShown, put_all}
use Rattle.ckr_steps.specs.StepUnit.{unit_for, writes_for, worked_for, behind_unit, done_for, HasDone, HasWritten}
use Rattle.ckr_steps.specs.Places.{files_at, names_at, HasSetFor, IsPlain, first_room, return_of, IsStepPlace, ShowsWithin, AreNext, GoesOn}
use Rattle.ckr_steps.proofs.NextHeads.{IsNamed, source_named, keeps_input, first_main, first_rejects, among_names, set_found}
use Rattle.ckr_steps.proofs.Inputs.{IsKept, first_within}
use Rattle.ckr_steps.proofs.UnitWrites.{done_all}
use Rattle.ckr_steps.proofs.NextUnits.{done_is, stands_more, stands_same, taken_is, within_records, closed_is, returns_as}
use Rattle.ckr_steps.proofs.Served.{unit-closed, unit-fresh}
use Rattle.ckr_steps.proofs.Writes.{Kinds, go_behind, rewrites, rewrite, unit_kinds, is_main, front_of_all, rest_of_all, work_mains, program_at, parm_at}
use Rattle.ckr_steps.proofs.LaterWrites.{GoWell, all_put, same_room, room_left, all_fit, room_behind_all, some_fit, ends_for_space, work_fits, within_front, within_more, written_from, room_after-append}

-- ---- small facts

all_counted : (writes : List Write) → list_all is_behind writes ≡ true → filter is_behind writes ≡ writes
all_counted [] all = refl
all_counted (write ∷ writes) all = by (is_behind write) (all_counted writes) all
  where
    by : (b : Bool) → (list_all is_behind writes ≡ true → filter is_behind writes ≡ writes) → (b && list_all is_behind writes) ≡ true → cond b (write ∷ filter is_behind writes) (filter is_behind writes) ≡ write ∷ writes
    by true others all = ap (λ ws. write ∷ ws) (others all)
    by false others all = absurd (false≢true all)

pub no_rewrite : (set : Option DataSet) (writes : List Write) → list_all is_behind writes ≡ true → rewrite_first set writes ≡ None
no_rewrite set [] all = refl
no_rewrite set (write ∷ writes) all = by set write.output write.image all
  where
    by : (set : Option DataSet) (output : Output) (image : List ℕ) → (is_behind (record { output = output; image = image }) && list_all is_behind writes) ≡ true → rewrite_in set output image ≡ None
    by None output image all = refl
    by (Some set) Main image all = refl
    by (Some set) Rejects image all = refl
    by (Some set) (InPlace place) image all = absurd (false≢true all)

-- the parts of a step behind a unit
pub record Parts (old new : StepRun) (heads : Heads) (count : ℕ) : Type 0 where
  state : new.state ≡ state_of old.parm old.state heads
  parm : new.parm ≡ old.parm
  files : new.files ≡ old.files
  writes : new.writes ≡ old.writes + count

pub parts_of : (library : Catalog) (old new : StepRun) (heads : Heads) (count : ℕ) → new ≡ behind_unit library old heads → count_of library old.files (writes_for old heads) ≡ count → Parts old new heads count
unfolding behind_unit
parts_of library old new heads count is counts = record {
  state = ap (λ (s : StepRun). s.state) is;
  parm = ap (λ (s : StepRun). s.parm) is;
  files = ap (λ (s : StepRun). s.files) is;
  writes = ap (λ (s : StepRun). s.writes) is ∙ ap (λ n. old.writes + n) counts;
}

take_all_of : (writes front : List Write) → take (length front) writes ≡ front → writes ≡ front ++ drop (length front) writes
take_all_of writes front is = sym (take-append-drop (length front) writes) ∙ ap (λ w. w ++ drop (length front) writes) is

-- the rewrite of a record that is there
rewrites_there : (library : Catalog) (files : Files) (name : Name) (set : DataSet) (place : ℕ) (bytes : List ℕ) → files.first ≡ InSet name → set_of library name ≡ Some set → place < set.length → rewrite_of library files (rewrite place bytes ∷ []) ≡ Some (place, fitted set.lrecl bytes)
unfolding rewrite_of
rewrites_there library files name set place bytes source found less =
    ap (λ s. rewrite_first (option_and_then (set_of library) (set_of_source s)) (rewrite place bytes ∷ [])) source
    ∙ ap (λ s. rewrite_first s (rewrite place bytes ∷ [])) found
    ∙ ap (λ b. if b then Some (place, fitted set.lrecl bytes) else None) (lt-ltb place set.length less)

has_two : (program : Kind) → program ≡ Update → has_two_inputs program ≡ true
has_two program is = ap has_two_inputs is

-- the library of a step that stands somewhere is the one behind its writes so far
pub so_far_written : (start : StepStart) (taken : ℕ) (step : StepRun) (library : Catalog) → IsStepPlace start taken false step library → within_at start step.writes ≡ written_all start (upto (case_at start) taken) (made_at start)
so_far_written start taken step library stands =
    ap (within_at start) stands.writes
    ∙ within_front start (upto (case_at start) taken) (fitting (rest (case_at start) taken) (room_of library step.files))
    (written_from start (upto (case_at start) taken) [] (rest (case_at start) taken) (room_of library step.files) (work_in_parts (case_at start) taken (within_records step.state (case_at start) taken stands.state)) stands.room)

module _ (told : Type 0) (image later : List ℕ) (layout : Layout) (start : StepStart) (taken : ℕ) (old new : StepRun) (library library' : Catalog) (heads : Heads) (worked : Worked)
    (stands : IsStepPlace start taken false old library) (next : AreNext (case_at start) old.state heads) (done : HasDone heads old new library library' worked)
    (written : HasWritten told image later layout heads old library library') (shows : ShowsWithin told image layout start old.writes library) (there : AreThere old.files library) where
  case : ProgramCase
  case = case_at start

  unit_is : unit_for old heads ≡ unit_done (case_at start) taken
  unit_is = done_is old.parm heads (case_at start) taken (stands.parm ∙ sym (parm_at start)) old.state stands.state next

  writes_are : writes_for old heads ≡ (unit_done (case_at start) taken).writes.items
  writes_are = ap (λ (u : UnitDone). u.writes.items) unit_is

  ends_as : (unit_for old heads).finish ≡ (unit_done (case_at start) taken).finish
  ends_as = ap (λ (u : UnitDone). u.finish) unit_is

  -- where the unit stands in the work
  record Parted (more : List Write) : Type 0 where
    all : (work (case_at start)).writes ≡ upto (case_at start) taken ++ (writes_for old heads ++ more)

  parted_more : taken < records_taken (case_at start) → Parted (rest (case_at start) (taken + 1))
  parted_more less = record {
    all = work_in_parts (case_at start) (taken + 1) (omega arith)
        ∙ ap (λ w. w ++ rest (case_at start) (taken + 1)) ((takes_one (case_at start) taken less).more ∙ ap (λ w. upto (case_at start) taken ++ w) (sym writes_are))
        ∙ append_assoc (upto (case_at start) taken) (writes_for old heads) (rest (case_at start) (taken + 1));
  }

  parted_end : taken ≡ records_taken (case_at start) → Parted []
  parted_end all = record {
    all = (ends_work (case_at start) taken all).all ∙ ap (λ w. upto (case_at start) taken ++ w) (sym writes_are ∙ sym (append-nil (writes_for old heads)));
  }

  -- ---- writes behind last records

  module _ (behind : list_all is_behind (writes_for old heads) ≡ true) (more : List Write) (parted : Parted more) where
    well : GoWell start (writes_for old heads)
    well = record {
      behind = behind;
      mains = λ none.
          front_of_all is_main (writes_for old heads) more
          (rest_of_all is_main (upto (case_at start) taken) (writes_for old heads ++ more)
          (ap (list_all is_main) (sym parted.all) ∙ work_mains (case_at start) (ap has_transactions (program_at start) ∙ none)));
    }

    none : rewrite_of library old.files (writes_for old heads) ≡ None
    unfolding rewrite_of
    none = no_rewrite (option_and_then (set_of library) (set_of_source old.files.first)) (writes_for old heads) behind

    fit : List Write
    fit = fitting (writes_for old heads) (room_of library old.files)

    fit_front : writes_for old heads ≡ fitting (writes_for old heads) (room_of library old.files) ++ drop (length (fitting (writes_for old heads) (room_of library old.files))) (writes_for old heads)
    fit_front = take_all_of (writes_for old heads) (fitting (writes_for old heads) (room_of library old.files)) (fitting-front (writes_for old heads) (room_of library old.files))

    well_fit : GoWell start (fitting (writes_for old heads) (room_of library old.files))
    well_fit = record {
      behind = front_of_all is_behind (fitting (writes_for old heads) (room_of library old.files)) _ (ap (list_all is_behind) (sym fit_front) ∙ well.behind);
      mains = λ no. front_of_all is_main (fitting (writes_for old heads) (room_of library old.files)) _ (ap (list_all is_main) (sym fit_front) ∙ well.mains no);
    }

    done_fit : done_for library old heads ≡ fitting (writes_for old heads) (room_of library old.files)
    unfolding done_for
    done_fit = done_all library old.files (writes_for old heads) none

    counted : count_of library old.files (writes_for old heads) ≡ length (fitting (writes_for old heads) (room_of library old.files))
    unfolding count_of
    counted = ap (λ r. count_unless r (fitting (writes_for old heads) (room_of library old.files))) none ∙ ap length (all_counted (fitting (writes_for old heads) (room_of library old.files)) well_fit.behind)

    parts : Parts old new heads (length (fitting (writes_for old heads) (room_of library old.files)))
    parts = parts_of library old new heads (length (fitting (writes_for old heads) (room_of library old.files))) done.step counted

    answer : (fits : Bool) (finish : Option Finish) → is_some (room_after (writes_for old heads) (room_of library old.files)) ≡ fits → (unit_for old heads).finish ≡ finish → worked ≡ worked_by (taken_of new.state) None fits finish
    unfolding worked_for answer_of
    answer fits finish fits_is finish_is =
        done.answer
        ∙ ap (λ r. worked_by (taken_of (state_of old.parm old.state heads)) r (is_some (room_after (writes_for old heads) (room_of library old.files))) (unit_for old heads).finish) none
        ∙ ap (λ b. worked_by (taken_of (state_of old.parm old.state heads)) None b (unit_for old heads).finish) fits_is
        ∙ ap (worked_by (taken_of (state_of old.parm old.state heads)) None fits) finish_is
        ∙ ap (λ (s : State). worked_by (taken_of s) None fits finish) (sym parts.state)

    -- the library and the disk behind what fits
    shows_behind : (rest : List Write) → (work_at start).writes ≡ (upto (case_at start) taken ++ fitting (writes_for old heads) (room_of library old.files)) ++ rest → ShowsWithin told later layout start new.writes library'
    shows_behind rest is =
        let made : new.writes ≡ length (upto (case_at start) taken ++ fitting (writes_for old heads) (room_of library old.files)) =
        parts.writes ∙ ap (λ n. n + length (fitting (writes_for old heads) (room_of library old.files))) stands.writes
        ∙ sym (length-append (upto (case_at start) taken) (fitting (writes_for old heads) (room_of library old.files))) in
        subst (λ (model : Library). Shows told later layout (names_at start) model library')
        (ap (λ (files : Files). put_all files (done_for library old heads) (within_at start old.writes)) stands.files
        ∙ ap (λ w. put_all (files_at start) w (within_at start old.writes)) done_fit
        ∙ sym (all_put start (fitting (writes_for old heads) (room_of library old.files)) (within_at start old.writes) well_fit)
        ∙ ap (λ n. written_all start (fitting (writes_for old heads) (room_of library old.files)) (within_at start n)) stands.writes
        ∙ sym (within_more start (upto (case_at start) taken) (fitting (writes_for old heads) (room_of library old.files)) rest is)
        ∙ ap (within_at start) (sym made))
        (written.shows (names_at start) (within_at start old.writes) shows)

    -- a write has no space
    no_space : room_after (writes_for old heads) (room_of library old.files) ≡ None → GoesOn told later layout start taken old new library' worked
    no_space full =
        let all = some_fit start (upto (case_at start) taken) (writes_for old heads) more (room_of library old.files) parted.all stands.room full in
        subst (GoesOn told later layout start taken old new library') (sym (answer false (unit_for old heads).finish (ap is_some full) refl))
        (record {
          finish = ends_for_space start (upto (case_at start) taken) (writes_for old heads) more (room_of library old.files) parted.all stands.room full;
          writes = parts.writes ∙ ap (λ n. n + length (fitting (writes_for old heads) (room_of library old.files))) stands.writes
              ∙ sym (length-append (upto (case_at start) taken) (fitting (writes_for old heads) (room_of library old.files))) ∙ sym (ap length all);
          shows = shows_behind [] (all ∙ sym (append-nil (upto (case_at start) taken ++ fitting (writes_for old heads) (room_of library old.files))));
        })

    module _ (left : OutputRoom) (fits : room_after (writes_for old heads) (room_of library old.files) ≡ Some left) where
      all_of_them : fitting (writes_for old heads) (room_of library old.files) ≡ writes_for old heads
      all_of_them = fitting-all (writes_for old heads) (room_of library old.files) left fits

      made_so : new.writes ≡ length (upto (case_at start) taken ++ writes_for old heads)
      made_so =
          parts.writes ∙ ap (λ n. n + length (fitting (writes_for old heads) (room_of library old.files))) stands.writes
          ∙ ap (λ w. length (upto (case_at start) taken) + length w) all_of_them
          ∙ sym (length-append (upto (case_at start) taken) (writes_for old heads))

      room_so : room_after (upto (case_at start) taken ++ writes_for old heads) (first_room start) ≡ Some (room_of library' new.files)
      room_so =
          room_behind_all start (upto (case_at start) taken) (writes_for old heads) more (room_of library old.files) parted.all stands.room left fits
          ∙ ap (λ (r : OutputRoom). Some r) (room_left old.files (writes_for old heads) library library' left there (done.lengths ∙ ap (λ w. grown old.files w library.sets) (done_fit ∙ all_of_them)) fits)
          ∙ ap (λ (files : Files). Some (room_of library' files)) (sym parts.files)

      shows_so : ShowsWithin told later layout start new.writes library'
      shows_so = shows_behind (fitting more left) (all_fit start (upto (case_at start) taken) (writes_for old heads) more (room_of library old.files) parted.all stands.room left fits ∙ ap (λ w. (upto (case_at start) taken ++ w) ++ fitting more left) (sym all_of_them))

      open_so : is_closed new.state ≡ is_returned (unit_for old heads).finish
      open_so = ap is_closed parts.state ∙ closed_is old.parm old.state heads stands.open_or_closed

      -- a record is taken
      takes : taken < records_taken (case_at start) → GoesOn told later layout start taken old new library' worked
      takes less =
          let one = takes_one (case_at start) taken less in
          let state : StandsFor new.state (case_at start) (taken + 1) = subst (λ (s : State). StandsFor s (case_at start) (taken + 1)) (sym parts.state) (stands_more old.parm heads (case_at start) taken (stands.parm ∙ sym (parm_at start)) old.state stands.state next less) in
          let more_writes : upto (case_at start) (taken + 1) ≡ upto (case_at start) taken ++ writes_for old heads = one.more ∙ ap (λ w. upto (case_at start) taken ++ w) (sym writes_are) in
          subst (GoesOn told later layout start taken old new library')
          (ap Went (sym (taken_is new.state (case_at start) (taken + 1) state)) ∙ sym (answer true None (ap is_some fits) (ends_as ∙ one.goes_on)))
          (record {
            closed = false;
            served = subst (AreServed false false) (sym parts.state) (unit-fresh old.parm old.state heads (ends_as ∙ one.goes_on));
            stands = record {
              may = stands.may;
              parm = parts.parm ∙ stands.parm;
              files = parts.files ∙ stands.files;
              state = state;
              open_or_closed = open_so ∙ ap is_returned (ends_as ∙ one.goes_on);
              writes = made_so ∙ ap length (sym more_writes);
              room = ap (λ w. room_after w (first_room start)) more_writes ∙ room_so;
              finish = λ e. absurd (false≢true e);
            };
            shows = shows_so;
          })

      all_writes : taken ≡ records_taken (case_at start) → (work (case_at start)).writes ≡ upto (case_at start) taken ++ writes_for old heads
      all_writes all = (ends_work (case_at start) taken all).all ∙ ap (λ w. upto (case_at start) taken ++ w) (sym writes_are)

      whole : taken ≡ records_taken (case_at start) → work_at start ≡ work (case_at start)
      whole all = work_fits start (room_of library' new.files) (ap (λ w. room_after w (first_room start)) (all_writes all) ∙ room_so)

      -- the program is closed
      closes : (rc : ℕ) → taken ≡ records_taken (case_at start) → (work (case_at start)).finish ≡ Finishes.Returned rc → GoesOn told later layout start taken old new library' worked
      closes rc all returned =
          let finish : (unit_for old heads).finish ≡ Some (Finishes.Returned rc) = ends_as ∙ (ends_work (case_at start) taken all).ends ∙ ap Some returned in
          let state : StandsFor new.state (case_at start) taken = subst (λ (s : State). StandsFor s (case_at start) taken) (sym parts.state) (stands_same old.parm heads (case_at start) taken (stands.parm ∙ sym (parm_at start)) old.state stands.state next all) in
          subst (GoesOn told later layout start taken old new library')
          (ap Went (sym (taken_is new.state (case_at start) taken state)) ∙ sym (answer true (Some (Finishes.Returned rc)) (ap is_some fits) finish))
          (record {
            closed = true;
            served = subst (AreServed (is_checkpointed old.state) (is_cancelled old.state)) (sym parts.state) (unit-closed old.parm old.state heads rc finish);
            stands = record {
              may = stands.may;
              parm = parts.parm ∙ stands.parm;
              files = parts.files ∙ stands.files;
              state = state;
              open_or_closed = open_so ∙ ap is_returned finish;
              writes = made_so ∙ ap length (sym (all_writes all));
              room = ap (λ w. room_after w (first_room start)) (all_writes all) ∙ room_so;
              finish = λ e. ap (λ (w : Work). w.finish) (whole all) ∙ returned ∙ ap Finishes.Returned (sym (returns_as old.parm old.state heads rc finish) ∙ ap return_of (sym parts.state));
            };
            shows = shows_so;
          })

      -- the program ends abnormally
      gives_up : (code : Code) → taken ≡ records_taken (case_at start) → (work (case_at start)).finish ≡ Finishes.Abend code → GoesOn told later layout start taken old new library' worked
      gives_up code all ended =
          let finish : (unit_for old heads).finish ≡ Some (Finishes.Abend code) = ends_as ∙ (ends_work (case_at start) taken all).ends ∙ ap Some ended in
          subst (GoesOn told later layout start taken old new library') (sym (answer true (Some (Finishes.Abend code)) (ap is_some fits) finish))
          (record {
            finish = ap (λ (w : Work). w.finish) (whole all) ∙ ended;
            writes = made_so ∙ ap length (sym (all_writes all)) ∙ ap (λ (w : Work). length w.writes) (sym (whole all));
            shows = shows_so;
          })

  -- a unit whose writes go behind last records
  goes_behind : list_all is_behind (writes_for old heads) ≡ true → GoesOn told later layout start taken old new library' worked
  goes_behind behind =
      ⊎_elim
      (λ less. by_room (room_after (writes_for old heads) (room_of library old.files)) refl
      (no_space behind (rest (case_at start) (taken + 1)) (parted_more less))
      (λ left fits. takes behind (rest (case_at start) (taken + 1)) (parted_more less) left fits less))
      (λ past. let all : taken ≡ records_taken (case_at start) = let within = within_records old.state (case_at start) taken stands.state in omega arith in
      by_room (room_after (writes_for old heads) (room_of library old.files)) refl
      (no_space behind [] (parted_end all))
      (λ left fits. by_finish behind (work (case_at start)).finish refl all left fits))
      (cases_lt taken (records_taken (case_at start)))
    where
      by_room : (found : Option OutputRoom) → room_after (writes_for old heads) (room_of library old.files) ≡ found
          → (room_after (writes_for old heads) (room_of library old.files) ≡ None → GoesOn told later layout start taken old new library' worked)
          → ((left : OutputRoom) → room_after (writes_for old heads) (room_of library old.files) ≡ Some left → GoesOn told later layout start taken old new library' worked)
          → GoesOn told later layout start taken old new library' worked
      by_room None e full fits = full e
      by_room (Some left) e full fits = fits left e

      by_finish : list_all is_behind (writes_for old heads) ≡ true → (finish : Finish) → (work (case_at start)).finish ≡ finish → (all : taken ≡ records_taken (case_at start)) → (left : OutputRoom) → room_after (writes_for old heads) (room_of library old.files) ≡ Some left → GoesOn told later layout start taken old new library' worked
      by_finish behind (Finishes.Returned rc) e all left fits = closes behind [] (parted_end all) left fits rc all e
      by_finish behind (Finishes.Abend code) e all left fits = gives_up behind [] (parted_end all) left fits code all e

  -- a rewrite
  module _ (place : ℕ) (bytes : List ℕ) (is : (case_at start).program ≡ Update) (goes : (unit_for old heads).finish ≡ None) (below : place < first_of old.state) (are : writes_for old heads ≡ rewrite place bytes ∷ []) where
    updated : (name : Name) × ((files_at start).first ≡ InSet name)
    updated = subst (λ k. HasSetFor k (files_at start).first) (sym (program_at start) ∙ is) stands.may.updates

    named : IsNamed start 0 updated.0
    unfolding files_of
    named = source_named start 0 updated.0 updated.1

    plain : IsPlain (made_at start) (Some updated.0)
    plain = subst (λ s. IsPlain (made_at start) (set_of_source s)) updated.1 stands.may.first

    kept : IsKept (within_at start old.writes) (first_of old.state) updated.0 plain.0
    kept = keeps_input start stands.may old.state taken stands.state (within_at start old.writes) (so_far_written start taken old library stands) 0 (first_of old.state)
        (first_main start.owned.step.program) (first_rejects start.owned.step.program) (λ place less. inl less) updated.0 plain.0
        (set_found start (slice_get (input_names start.owned.step.program) 0) named.dd updated.0 named.found named.named) plain.1

    shown : IsShown told image layout kept.set library updated.0
    shown = shows updated.0 kept.set (among_names start (slice_get (input_names start.owned.step.program) 0) named.dd updated.0 named.found named.named (name-itself updated.0)) kept.is (kept.kept.content ∙ plain.2)

    first_length : length (case_at start).first ≡ length kept.set.records
    unfolding case_at
    first_length = ap length (named.input_is ∙ ap (λ entry. option_map_or set_records entry []) plain.1) ∙ sym kept.kept.length

    stands_below : place < length kept.set.records
    stands_below = let within = first_within old.state (case_at start) taken stands.state (has_two (case_at start).program is) in omega (arith, below, within, first_length)

    rewrite_is : rewrite_of library old.files (writes_for old heads) ≡ Some (place, fitted shown.set.lrecl bytes)
    rewrite_is =
        ap (rewrite_of library old.files) are
        ∙ rewrites_there library old.files updated.0 shown.set place bytes (ap (λ (f : Files). f.first) stands.files ∙ updated.1) shown.is (omega (arith, stands_below, shown.shows.length))

    counts : count_of library old.files (writes_for old heads) ≡ 1
    unfolding count_of
    counts = ap (λ r. count_unless r (fitting (writes_for old heads) (room_of library old.files))) rewrite_is

    nothing_done : done_for library old heads ≡ []
    unfolding done_for done_of
    nothing_done = ap (λ r. done_unless r (fitting (writes_for old heads) (room_of library old.files))) rewrite_is

    rewriting_parts : Parts old new heads 1
    rewriting_parts = parts_of library old new heads 1 done.step counts

    rewriting_answer : worked ≡ Rewrite place (fitted shown.set.lrecl bytes) (taken_of new.state)
    unfolding worked_for answer_of
    rewriting_answer =
        done.answer
        ∙ ap (λ r. worked_by (taken_of (state_of old.parm old.state heads)) r (is_some (room_after (writes_for old heads) (room_of library old.files))) (unit_for old heads).finish) rewrite_is
        ∙ ap (λ (s : State). Rewrite place (fitted shown.set.lrecl bytes) (taken_of s)) (sym rewriting_parts.state)

    goes_less : taken < records_taken (case_at start)
    goes_less =
        ⊎_elim (λ less. less)
        (λ past. let all : taken ≡ records_taken (case_at start) = let within = within_records old.state (case_at start) taken stands.state in omega arith in
        absurd (some-not-none (work (case_at start)).finish (sym (ends_as ∙ (ends_work (case_at start) taken all).ends) ∙ goes)))
        (cases_lt taken (records_taken (case_at start)))

    rewriting : GoesOn told later layout start taken old new library' worked
    rewriting =
        let one = takes_one (case_at start) taken goes_less in
        let state : StandsFor new.state (case_at start) (taken + 1) = subst (λ (s : State). StandsFor s (case_at start) (taken + 1)) (sym rewriting_parts.state) (stands_more old.parm heads (case_at start) taken (stands.parm ∙ sym (parm_at start)) old.state stands.state next goes_less) in
        let more_writes : upto (case_at start) (taken + 1) ≡ upto (case_at start) taken ++ rewrite place bytes ∷ [] = one.more ∙ ap (λ w. upto (case_at start) taken ++ w) (sym writes_are ∙ are) in
        let count : new.writes ≡ length (upto (case_at start) taken ++ rewrite place bytes ∷ []) = rewriting_parts.writes ∙ ap (λ n. n + 1) stands.writes ∙ sym (length-append (upto (case_at start) taken) (rewrite place bytes ∷ [])) in
        let same : room_of library' new.files ≡ room_of library old.files = ap (room_of library') rewriting_parts.files ∙ same_room old.files library library' (done.lengths ∙ ap (λ w. grown old.files w library.sets) nothing_done) in
        subst (GoesOn told later layout start taken old new library')
        (ap (Rewrite place (fitted shown.set.lrecl bytes)) (sym (taken_is new.state (case_at start) (taken + 1) state)) ∙ sym rewriting_answer)
        (record {
          stands = record {
            may = stands.may;
            parm = rewriting_parts.parm ∙ stands.parm;
            files = rewriting_parts.files ∙ stands.files;
            state = state;
            open_or_closed = ap is_closed rewriting_parts.state ∙ closed_is old.parm old.state heads stands.open_or_closed ∙ ap is_returned goes;
            writes = count ∙ ap length (sym more_writes);
            room = ap (λ w. room_after w (first_room start)) more_writes
                ∙ room_after-append (upto (case_at start) taken) (rewrite place bytes ∷ []) (first_room start)
                ∙ ap (option_and_then (room_after (rewrite place bytes ∷ []))) stands.room
                ∙ ap (λ (r : OutputRoom). Some r) (sym same);
            finish = λ e. absurd (false≢true e);
          };
          served = subst (AreServed false false) (sym rewriting_parts.state) (unit-fresh old.parm old.state heads goes);
          program = sym (program_at start) ∙ is;
          rewritten = kept.set;
          name = updated.0;
          updates = updated.1;
          stood = kept.is;
          below = stands_below;
          write = rewrite place bytes;
          goes = refl;
          fits = ap (λ lrecl. fitted lrecl bytes) shown.shows.lrecl;
          more = more_writes;
          counted = rewriting_parts.writes;
          shows = subst (λ w. Shows told later layout (names_at start) (put_all old.files w (within_at start old.writes)) library') nothing_done (written.shows (names_at start) (within_at start old.writes) shows);
        })

  pub goes_on : GoesOn told later layout start taken old new library' worked
  goes_on = by (unit_kinds old.parm old.state heads (case_at start) taken stands.state)
    where
      by : Kinds (case_at start).program (unit_for old heads).finish (first_of old.state) (writes_for old heads) → GoesOn told later layout start taken old new library' worked
      by (go_behind behind) = goes_behind behind
      by (rewrites place bytes is goes below are) = rewriting place bytes is goes below are
