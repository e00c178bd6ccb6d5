-- A step that starts stands before its first record, and one that goes on from a point stands there; what is due, and what is done at a count, leaves it where it stands.
use Rattle.std.proofs.Common.{◌≡◌, ◌≤◌, ℕ, ◌+◌, ◌-◌, Bool, true, false, List, [], ◌++◌, length, Option, Some, None, refl, ap, sym, ◌∙◌, subst, arith, length-append}
use Rattle.std.specs.Prelude.{if◌then◌else◌, option_and_then, find, slice_get}
use Rattle.std.specs.Option.{option_map_or}
use Rattle.std.proofs.lemmas.Bool.{false≢true}
use Rattle.std.proofs.lemmas.List.{nil_from_length}
use Rattle.ckr_base.specs.declared.programs.Finish.TheVariants as Finishes
use Rattle.ckr_base.specs.declared.programs.NextDue.{NextDue}
use Rattle.ckr_base.specs.declared.programs.NextDue.TheVariants.{Unit as OneUnit, Checkpoint, Cancel, Finished}
use Rattle.ckr_base.proofs.Options.{some-not-none}
use Rattle.ckr_entry.specs.declared.point.State.{State}
use Rattle.ckr_entry.specs.declared.point.State.TheVariants.{Plain, Matched}
use Rattle.ckr_jcl.specs.declared.deck.Dd.{Dd}
use Rattle.ckr_jcl.specs.declared.deck.Kind.{Kind}
use Rattle.ckr_jcl.specs.declared.deck.Parm.{Parm}
use Rattle.ckr_jcl.specs.Programs.{names_written}
use Rattle.ckr_library.specs.Catalog.{Catalog}
use Rattle.ckr_library.specs.NameMaps.{Name, same_name, entry_at}
use Rattle.ckr_library.proofs.Named.{name-itself, name-turned}
use Rattle.ckr_programs.specs.declared.state.ProgState.{ProgState}
use Rattle.ckr_programs.specs.State as plain
use Rattle.ckr_match.specs.declared.state.MatchState.{MatchState}
use Rattle.ckr_match.specs.State as matched
use Rattle.ckr_match.specs.Units as matched_units
use Rattle.ckr_match.proofs.AllUnits.{first_stands}
use Rattle.ckr_volumes.specs.declared.layout.Layout.{Layout}
use Rattle.ckr_meaning.specs.EffectiveJob.{name_of}
use Rattle.ckr_meaning.specs.LibrarySet.{LibrarySet, Library}
use Rattle.ckr_meaning.specs.Program.{ProgramCase, OutputRoom, match_case, room_after, rest, upto, work}
use Rattle.ckr_meaning.specs.States.{StandsFor}
use Rattle.ckr_meaning.specs.StepRun.{StepStart, case_at, made_at, dd_named, input_names, main_names, room_of as set_room, rejects_dd, room_in, within_at, work_at}
use Rattle.ckr_meaning.proofs.Prefixes.{work_in_parts}
use Rattle.ckr_meaning.proofs.Room.{AreApart}
use Rattle.ckr_meaning.proofs.Units.{write_all, write_the_rest}
use Rattle.ckr_steps.specs.declared.files.RecordSource.{RecordSource}
use Rattle.ckr_steps.specs.declared.files.RecordSource.TheVariants.{Nowhere, InDeck, InSet}
use Rattle.ckr_steps.specs.declared.step_run.StepRun.{StepRun}
use Rattle.ckr_steps.specs.Files.{input_dd, source_in, files_of, set_of_source}
use Rattle.ckr_steps.specs.Inputs.{IsSourceThere, IsSetThere, AreSameSet, AreThere}
use Rattle.ckr_steps.specs.Units.{first_state, state_for, due_of, served_of, is_closed}
use Rattle.ckr_steps.specs.Writes.{IsShown, Shows, room_of}
use Rattle.ckr_steps.specs.Writes as writing
use Rattle.ckr_steps.specs.Places.{files_at, names_at, IsPlain, MayStart, first_room, return_of, IsStepPlace, ShowsWithin, DueAt, HasFewCards, HasMade, HasWithin, IsPointOf}
use Rattle.ckr_steps.proofs.Names.{is_there}
use Rattle.ckr_steps.proofs.NextHeads.{found_among, source_named, among_names}
use Rattle.ckr_steps.proofs.NextUnits.{within_records}
use Rattle.ckr_steps.proofs.OutputSpace.{files-apart, first_room-outputs, outputs_room, room_after-upto, plain-within_at}
use Rattle.ckr_steps.proofs.Writes.{program_at}

-- ---- nothing is written yet

none_written : (count size : ℕ) → count ≤ size → size - count ≡ size → count ≡ 0
none_written count size within same = omega arith

pub nothing_yet : (case : ProgramCase) → upto case 0 ≡ []
nothing_yet case =
    let all : (work case).writes ≡ upto case 0 ++ rest case 0 = work_in_parts case 0 (omega arith) in
    let same : rest case 0 ≡ (work case).writes = sym (write_the_rest case 0 (omega arith)) ∙ write_all case in
    let size : length (work case).writes ≡ length (upto case 0) + length (rest case 0) = ap length all ∙ length-append (upto case 0) (rest case 0) in
    nil_from_length (upto case 0) (let again = ap length same in omega arith)

first_for : (two : Bool) (case : ProgramCase) → matched.has_two_inputs case.program ≡ two → StandsFor (state_for two case.program) case 0
first_for false case e = record {
  program = e;
  stands = record { program = refl; within = omega arith; first = refl; second = refl; rejects = refl; sum = refl };
}
first_for true case e = record { program = e; stands = first_stands (match_case case) }

first_is : (case : ProgramCase) → StandsFor (first_state case.program) case 0
unfolding first_state
first_is case = first_for (matched.has_two_inputs case.program) case refl

first_open : (kind : Kind) → is_closed (first_state kind) ≡ false
unfolding first_state
first_open kind = by (matched.has_two_inputs kind)
  where
    by : (two : Bool) → is_closed (state_for two kind) ≡ false
    by false = refl
    by true = refl

-- ---- the data sets of a step, where the library has those of a library of records

module _ (layout : Layout) (start : StepStart) (may : MayStart start) (library : Catalog) (model : Library) (plainly : (name : Option Name) → IsPlain (made_at start) name → IsPlain model name) (has : Shows ⊥ [] layout (names_at start) model library) where
  -- the data set of a DD, where it hold records of programs
  shown_set : (test : Dd → Bool) (dd : Dd) (name : Name) → find test start.owned.step.dds ≡ Some dd → name_of start.root start.owned dd ≡ Some name → (plain : IsPlain model (Some name)) → IsShown ⊥ [] layout plain.0 library name
  shown_set test dd name found named plain =
      has name plain.0 (found_among (name_of start.root start.owned) test start.owned.step.dds dd name found named (name-itself name)) plain.1 plain.2

  same_room_of : (name : Name) (set : LibrarySet) → entry_at model name ≡ Some set → IsShown ⊥ [] layout set library name → room_in model (Some name) ≡ writing.room_at library (Some name)
  same_room_of name set entry shown =
      ap (λ e. option_map_or set_room e 0) entry
      ∙ (let space = shown.shows.space in let size = shown.shows.length in let same : set.space - length set.records ≡ shown.set.space - shown.set.length = omega arith in same)
      ∙ sym (ap (λ e. option_map_or writing.room_of_set e 0) shown.is)

  -- an output, by the name of its DD
  by_output : (dd_name : Option Name) (set : Option Name) → option_and_then (name_of start.root start.owned) (option_and_then (dd_named start.owned) dd_name) ≡ set → IsPlain model set → room_in model set ≡ writing.room_at library set
  by_output dd_name None is plain = refl
  by_output None (Some name) is plain = absurd (some-not-none name (sym is))
  by_output (Some dd_name) (Some name) is plain = by (dd_named start.owned dd_name) refl is
    where
      by : (dd : Option Dd) → dd_named start.owned dd_name ≡ dd → option_and_then (name_of start.root start.owned) dd ≡ Some name → room_in model (Some name) ≡ writing.room_at library (Some name)
      by None found is = absurd (some-not-none name (sym is))
      by (Some dd) found is = same_room_of name plain.0 plain.1 (shown_set (λ d. same_name dd_name d.name) dd name found is plain)

  there_by : (dd_name : Option Name) (set : Option Name) → option_and_then (name_of start.root start.owned) (option_and_then (dd_named start.owned) dd_name) ≡ set → IsPlain model set → IsSetThere library set
  there_by dd_name None is plain = tt
  there_by None (Some name) is plain = absurd (some-not-none name (sym is))
  there_by (Some dd_name) (Some name) is plain = by (dd_named start.owned dd_name) refl is
    where
      by : (dd : Option Dd) → dd_named start.owned dd_name ≡ dd → option_and_then (name_of start.root start.owned) dd ≡ Some name → IsSetThere library (Some name)
      by None found is = absurd (some-not-none name (sym is))
      by (Some dd) found is = let shown = shown_set (λ d. same_name dd_name d.name) dd name found is plain in is_there library name shown.set shown.is

  rejects_there : IsSetThere library (files_at start).rejects
  unfolding files_of
  rejects_there = there_by (find (same_name rejects_dd) (names_written start.owned.step.program)) (files_at start).rejects refl (plainly (files_at start).rejects may.rejects)

  main_there : IsSetThere library (files_at start).main
  unfolding files_of
  main_there = there_by (slice_get (main_names start.owned.step.program) 0) (files_at start).main refl (plainly (files_at start).main may.main)

  -- the outputs have the same space by both libraries
  room_is : outputs_room start model ≡ room_of library (files_at start)
  unfolding room_of files_of
  room_is = λ i. record {
    main = by_output (slice_get (main_names start.owned.step.program) 0) (files_at start).main refl (plainly (files_at start).main may.main) i;
    rejects = by_output (find (same_name rejects_dd) (names_written start.owned.step.program)) (files_at start).rejects refl (plainly (files_at start).rejects may.rejects) i;
  }

  source_there : (input : ℕ) → HasFewCards (source_in start.root start.owned.owner start.owned.step (input_dd start.owned.step input)) → IsPlain model (set_of_source (source_in start.root start.owned.owner start.owned.step (input_dd start.owned.step input))) → IsSourceThere library (source_in start.root start.owned.owner start.owned.step (input_dd start.owned.step input))
  source_there input few plain = by (source_in start.root start.owned.owner start.owned.step (input_dd start.owned.step input)) refl few plain
    where
      by : (source : RecordSource) → source_in start.root start.owned.owner start.owned.step (input_dd start.owned.step input) ≡ source → HasFewCards source → IsPlain model (set_of_source source) → IsSourceThere library source
      by Nowhere e few plain = tt
      by (InDeck cards) e few plain = few
      by (InSet name) e few plain =
          let named = source_named start input name e in
          let shown = has name plain.0 (among_names start (slice_get (input_names start.owned.step.program) input) named.dd name named.found named.named (name-itself name)) plain.1 plain.2 in
          is_there library name shown.set shown.is

  not_same : (rejects main : Option Name) → AreApart main rejects → AreSameSet rejects main → ⊥
  not_same None main apart same = same
  not_same (Some rejects) None apart same = same
  not_same (Some rejects) (Some main) apart same = false≢true (sym apart ∙ name-turned main rejects ∙ same)

  -- its data sets are there
  all_there : HasFewCards (files_at start).first → HasFewCards (files_at start).second → AreThere (files_at start) library
  unfolding files_of
  all_there first second = record {
    first = source_there 0 first (plainly (set_of_source (files_at start).first) may.first);
    second = source_there 1 second (plainly (set_of_source (files_at start).second) may.second);
    main = main_there;
    rejects = rejects_there;
    differ = not_same (files_at start).rejects (files_at start).main (files-apart start may.distinct);
  }

-- ---- a step that starts

module _ (layout : Layout) (start : StepStart) (may : MayStart start) (library : Catalog) (made : HasMade layout start library) where
  -- the step stands before its first record
  pub begins : (parm : Parm) → parm ≡ start.owned.step.parm → IsStepPlace start 0 false (record { state = first_state start.owned.step.program; parm = parm; files = files_at start; writes = 0 }) library
  begins parm is = record {
    may = may;
    parm = is;
    files = refl;
    state = subst (λ k. StandsFor (first_state k) (case_at start) 0) (program_at start) (first_is (case_at start));
    open_or_closed = first_open start.owned.step.program;
    writes = sym (ap length (nothing_yet (case_at start)));
    room = ap (λ w. room_after w (first_room start)) (nothing_yet (case_at start))
        ∙ ap (λ (r : OutputRoom). Some r) (first_room-outputs start ∙ room_is layout start may library (made_at start) (λ name plain. plain) made);
    finish = λ e. absurd (false≢true e);
  }

  -- and its data sets are there
  pub are_there : HasFewCards (files_at start).first → HasFewCards (files_at start).second → AreThere (files_at start) library
  are_there first second = all_there layout start may library (made_at start) (λ name plain. plain) made first second

-- ---- a step that goes on from a point

module _ (layout : Layout) (start : StepStart) (may : MayStart start) (library : Catalog) (state : State) (writes : ℕ) (has : HasWithin layout start writes library) where
  -- the step stands where the point is
  pub stands-at_point : (taken : ℕ) → IsPointOf start taken state writes → (parm : Parm) → parm ≡ start.owned.step.parm → IsStepPlace start taken false (record { state = state; parm = parm; files = files_at start; writes = writes }) library
  stands-at_point taken of parm is = record {
    may = may;
    parm = is;
    files = refl;
    state = of.stands;
    open_or_closed = of.open_yet;
    writes = of.made;
    room = room_after-upto start taken may.distinct (within_records state (case_at start) taken of.stands) (subst (λ n. n ≤ length (work_at start).writes) of.made of.had_space)
        ∙ ap (λ n. Some (outputs_room start (within_at start n))) (sym of.made)
        ∙ ap (λ (r : OutputRoom). Some r) (room_is layout start may library (within_at start writes) (plain-within_at start writes) has);
    finish = λ e. absurd (false≢true e);
  }

  -- and its data sets are there
  pub there-at_point : HasFewCards (files_at start).first → HasFewCards (files_at start).second → AreThere (files_at start) library
  there-at_point first second = all_there layout start may library (within_at start writes) (plain-within_at start writes) has first second

-- ---- what the library has

-- what a disk shows in full, it shows without the records too
shows-sets : (told : Type 0) (image : List ℕ) (layout : Layout) (names : List Name) (model : Library) (library : Catalog) → Shows told image layout names model library → Shows ⊥ [] layout names model library
shows-sets told image layout names model library shows name set among is plain =
    let shown = shows name set among is plain in
    record { set = shown.set; is = shown.is; shows = record { lrecl = shown.shows.lrecl; space = shown.shows.space; length = shown.shows.length; records = λ none. absurd none } }

pub shows_made : (told : Type 0) (image : List ℕ) (layout : Layout) (start : StepStart) (library : Catalog) → Shows told image layout (names_at start) (made_at start) library → HasMade layout start library
shows_made told image layout start library shows = shows-sets told image layout (names_at start) (made_at start) library shows

pub shows-within : (told : Type 0) (image : List ℕ) (layout : Layout) (start : StepStart) (writes : ℕ) (library : Catalog) → ShowsWithin told image layout start writes library → HasWithin layout start writes library
shows-within told image layout start writes library shows = shows-sets told image layout (names_at start) (within_at start writes) library shows

-- ---- what is due, and what is done at a count

due_by : (start : StepStart) (rc : ℕ) (closed checkpoint cancel : Bool) → (closed ≡ true → (work_at start).finish ≡ Finishes.Returned rc) → DueAt start closed (if closed then Finished rc else (if checkpoint then Checkpoint else (if cancel then Cancel else OneUnit)))
due_by start rc true checkpoint cancel finish = finish refl
due_by start rc false true cancel finish = tt
due_by start rc false false true finish = tt
due_by start rc false false false finish = tt

pub due_at : (start : StepStart) (taken : ℕ) (closed : Bool) (step : StepRun) (library : Catalog) → IsStepPlace start taken closed step library → DueAt start closed (due_of step.parm step.state)
unfolding due_of
due_at start taken closed step library stands = subst (λ b. DueAt start b (due_of step.parm step.state)) stands.open_or_closed (by step.state (λ e. stands.finish (sym stands.open_or_closed ∙ e)))
  where
    by : (state : State) → (is_closed state ≡ true → (work_at start).finish ≡ Finishes.Returned (return_of state)) → DueAt start (is_closed state) (due_of step.parm state)
    by (Plain state) finish = due_by start 0 state.closed _ _ finish
    by (Matched state) finish = due_by start (matched.return_code state.rejects) state.closed _ _ finish

-- the same but for what is done at the count
record SameBut (old new : State) : Type 0 where
  stands : (case : ProgramCase) (taken : ℕ) → StandsFor old case taken → StandsFor new case taken
  closed : is_closed new ≡ is_closed old
  returns : return_of new ≡ return_of old

plain_same : (old new : ProgState) → new.kind ≡ old.kind → new.first ≡ old.first → new.second ≡ old.second → new.rejects ≡ old.rejects → new.sum ≡ old.sum → new.closed ≡ old.closed → SameBut (Plain old) (Plain new)
plain_same old new kind first second rejects sum closed = record {
  stands = λ case taken stands. record {
    program = stands.program;
    stands = record {
      program = kind ∙ stands.stands.program;
      within = stands.stands.within;
      first = first ∙ stands.stands.first;
      second = second ∙ stands.stands.second;
      rejects = rejects ∙ stands.stands.rejects;
      sum = sum ∙ stands.stands.sum;
    };
  };
  closed = closed;
  returns = refl;
}

served_same : (parm : Parm) (written : Bool) (state : State) → SameBut state (served_of parm written state)
unfolding served_of
served_same parm written (Plain state) = by (plain.due_in parm state)
  where
    by : (due : NextDue) → SameBut (Plain state) (Plain (plain.served_state due written state))
    by OneUnit = plain_same state state refl refl refl refl refl refl
    by Checkpoint = plain_same state (plain.served_state Checkpoint written state) refl refl refl refl refl refl
    by Cancel = plain_same state (plain.served_state Cancel written state) refl refl refl refl refl refl
    by (Finished rc) = plain_same state state refl refl refl refl refl refl
served_same parm written (Matched state) = by (matched.due_in parm state)
  where
    again : (new : MatchState) → ((case : ProgramCase) (taken : ℕ) → matched_units.StandsFor state (match_case case) taken → matched_units.StandsFor new (match_case case) taken) → new.closed ≡ state.closed → new.rejects ≡ state.rejects → SameBut (Matched state) (Matched new)
    again new stands closed rejects = record {
      stands = λ case taken s. record { program = s.program; stands = stands case taken s.stands };
      closed = closed;
      returns = ap matched.return_code rejects;
    }

    kept : (new : MatchState) → new.kind ≡ state.kind → new.first ≡ state.first → new.second ≡ state.second → new.rejects ≡ state.rejects → new.first_key ≡ state.first_key → new.second_key ≡ state.second_key → new.held ≡ state.held → new.last ≡ state.last
        → (case : ProgramCase) (taken : ℕ) → matched_units.StandsFor state (match_case case) taken → matched_units.StandsFor new (match_case case) taken
    kept new kind first second rejects first_key second_key held last case taken s = record {
      program = kind ∙ s.program;
      within = s.within;
      first = first ∙ s.first;
      second = second ∙ s.second;
      rejects = rejects ∙ s.rejects;
      first_key = ap (λ k. k.items) first_key ∙ s.first_key;
      second_key = ap (λ k. k.items) second_key ∙ s.second_key;
      held = held ∙ s.held;
      last = last ∙ s.last;
    }

    by : (due : NextDue) → SameBut (Matched state) (Matched (matched.served_state due written state))
    by OneUnit = again state (kept state refl refl refl refl refl refl refl refl) refl refl
    by Checkpoint = again (matched.served_state Checkpoint written state) (kept (matched.served_state Checkpoint written state) refl refl refl refl refl refl refl refl) refl refl
    by Cancel = again (matched.served_state Cancel written state) (kept (matched.served_state Cancel written state) refl refl refl refl refl refl refl refl) refl refl
    by (Finished rc) = again state (kept state refl refl refl refl refl refl refl refl) refl refl

pub served_stands : (start : StepStart) (taken : ℕ) (closed written : Bool) (step : StepRun) (library : Catalog) → IsStepPlace start taken closed step library → IsStepPlace start taken closed (record step { state = served_of step.parm written step.state }) library
served_stands start taken closed written step library stands =
    let same = served_same step.parm written step.state in
    record {
      may = stands.may;
      parm = stands.parm;
      files = stands.files;
      state = same.stands (case_at start) taken stands.state;
      open_or_closed = same.closed ∙ stands.open_or_closed;
      writes = stands.writes;
      room = stands.room;
      finish = λ e. stands.finish e ∙ ap Finishes.Returned (sym same.returns);
    }
