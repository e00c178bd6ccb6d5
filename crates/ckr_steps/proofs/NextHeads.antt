-- The heads that the disk reads are the next records of the program's inputs.
use Rattle.std.proofs.Common.{◌≡◌, ◌<◌, ◌≤◌, ℕ, Bool, true, false, cond, not, ◌||◌, List, [], ◌∷◌, Option, Some, None, slice_get, refl, ap, sym, ◌∙◌, subst, arith, inl, inr}
use Rattle.std.specs.Prelude.{if◌then◌else◌, option_and_then, find, ◌⊎◌}
use Rattle.std.specs.List.{filter_map, cons_option}
use Rattle.std.specs.Option.{option_map_or}
use Rattle.std.proofs.lemmas.Bool.{lt-ltb, le-ltb, cases_lt, not-true}
use Rattle.std.proofs.lemmas.Option.{same_Some, slice_get_past}
use Rattle.std.proofs.Common.{⊎_elim}
use Rattle.ckr_base.specs.declared.programs.Output.{Output}
use Rattle.ckr_base.specs.declared.programs.Output.TheVariants.{Main, Rejects, InPlace}
use Rattle.ckr_base.proofs.Bools.{or-true}
use Rattle.ckr_base.proofs.Options.{some-not-none}
use Rattle.ckr_uses.specs.Uses.{are_distinct}
use Rattle.ckr_jcl.specs.declared.deck.Dd.{Dd}
use Rattle.ckr_jcl.specs.declared.deck.Kind.{Kind}
use Rattle.ckr_jcl.specs.declared.deck.Kind.TheVariants.{Copy, Br14}
use Rattle.ckr_jcl.specs.declared.deck.Origin.{Origin}
use Rattle.ckr_jcl.specs.declared.deck.Origin.TheVariants.{InStream, Named, Temporary, Unnamed, Sysout, Dummy}
use Rattle.ckr_entry.specs.declared.point.State.{State}
use Rattle.ckr_library.specs.Catalog.{Catalog, set_of}
use Rattle.ckr_library.specs.NameMaps.{Name, same_name, entry_at}
use Rattle.ckr_library.proofs.Named.{name-itself, name-same}
use Rattle.ckr_programs.specs.Work.{read_by}
use Rattle.ckr_volumes.specs.declared.layout.Layout.{Layout}
use Rattle.ckr_volumes.specs.Lists.{record_listed}
use Rattle.ckr_volumes.specs.Records.{record_at}
use Rattle.ckr_meaning.specs.EffectiveJob.{name_of, is_among}
use Rattle.ckr_meaning.specs.LibrarySet.{LibrarySet, Library}
use Rattle.ckr_meaning.specs.Program.{upto}
use Rattle.ckr_meaning.specs.States.{StandsFor, first_of, second_of}
use Rattle.ckr_meaning.specs.StepRun.{StepStart, case_at, made_at, within_at, written_all, dd_named, set_name, set_records, records_of_origin, records_in, input_names, input_at, output_dd, output_name}
use Rattle.ckr_meaning.proofs.Room.{AreApart, found_apart}
use Rattle.ckr_steps.specs.declared.files.Files.{Files}
use Rattle.ckr_steps.specs.declared.files.RecordSource.{RecordSource}
use Rattle.ckr_steps.specs.declared.files.RecordSource.TheVariants.{Nowhere, InDeck, InSet}
use Rattle.ckr_steps.specs.declared.step_run.StepRun.{StepRun}
use Rattle.ckr_steps.specs.Files.{input_dd, source_by, source_in, files_of, set_of_source}
use Rattle.ckr_steps.specs.Inputs.{head_of_set, head_of, heads_of}
use Rattle.ckr_steps.specs.Places.{names_at, IsPlain, MayStart, IsStepPlace, ShowsWithin, AreNext}
use Rattle.ckr_steps.specs.StepUnit.{heads_on}
use Rattle.ckr_steps.specs.Writes.{IsShown}
use Rattle.ckr_steps.proofs.Inputs.{KeptFrom, IsKept, upto_within, writes_keep}

-- ---- names of a step

-- the data set of a DD that is found is among those of the step
pub found_among : (f : Dd → Option Name) (test : Dd → Bool) (dds : List Dd) (dd : Dd) (name : Name) → find test dds ≡ Some dd → f dd ≡ Some name → same_name name name ≡ true → is_among (filter_map f dds) name ≡ true
found_among f test [] dd name found named same = absurd (some-not-none dd (sym found))
found_among f test (first ∷ dds) dd name found named same = by (test first) (f first) refl found (λ rest. found_among f test dds dd name rest named same)
  where
    by : (passes : Bool) (its : Option Name) → f first ≡ its → cond passes (Some first) (find test dds) ≡ Some dd → (find test dds ≡ Some dd → is_among (filter_map f dds) name ≡ true) → is_among (cons_option its (filter_map f dds)) name ≡ true
    by true None e found rest = absurd (some-not-none name (sym (sym e ∙ ap f (same_Some first dd found) ∙ named)))
    by true (Some its) e found rest = ap (λ b. b || is_among (filter_map f dds) name) (ap (same_name name) (same_Some its name (sym e ∙ ap f (same_Some first dd found) ∙ named)) ∙ same)
    by false None e found rest = rest found
    by false (Some its) e found rest = ap (λ b. same_name name its || b) (rest found) ∙ or-true (same_name name its)

abbrev are_apart_names : Option Name → Option Name → Bool
are_apart_names None other = true
are_apart_names (Some name) None = true
are_apart_names (Some name) (Some other) = not (same_name other name)

pub first_main : (program : Kind) → are_apart_names (slice_get (input_names program) 0) (output_dd program Main) ≡ true
first_main Copy = refl
first_main _ = refl

pub first_rejects : (program : Kind) → are_apart_names (slice_get (input_names program) 0) (output_dd program Rejects) ≡ true
first_rejects Copy = refl
first_rejects _ = refl

second_main : (program : Kind) → are_apart_names (slice_get (input_names program) 1) (output_dd program Main) ≡ true
second_main Copy = refl
second_main _ = refl

second_rejects : (program : Kind) → are_apart_names (slice_get (input_names program) 1) (output_dd program Rejects) ≡ true
second_rejects Copy = refl
second_rejects _ = refl

second_updated : (program : Kind) (place : ℕ) → are_apart_names (slice_get (input_names program) 1) (output_dd program (InPlace place)) ≡ true
second_updated Copy place = refl
second_updated _ place = refl

-- DDs of different names have different data sets
sets_apart : (start : StepStart) → are_distinct (names_at start) ≡ true → (one other : Option Name) → are_apart_names one other ≡ true → AreApart (option_and_then (set_name start) one) (option_and_then (set_name start) other)
sets_apart start distinct None other apart = tt
sets_apart start distinct (Some one) None apart = none (set_name start one)
  where
    none : (name : Option Name) → AreApart name None
    none None = tt
    none (Some name) = tt
sets_apart start distinct (Some one) (Some other) apart =
    found_apart (name_of start.root start.owned) (λ dd. same_name one dd.name) (λ dd. same_name other dd.name) start.owned.step.dds
    (λ dd is. ap (same_name other) (sym (name-same one dd.name is)) ∙ not-true (same_name other one) apart) distinct

-- the data set of an input that is found
pub set_found : (start : StepStart) (name : Option Name) (dd : Dd) (set : Name) → option_and_then (dd_named start.owned) name ≡ Some dd → name_of start.root start.owned dd ≡ Some set → option_and_then (set_name start) name ≡ Some set
set_found start None dd set found named = absurd (some-not-none dd (sym found))
set_found start (Some name) dd set found named = ap (option_and_then (name_of start.root start.owned)) found ∙ named

pub among_names : (start : StepStart) (name : Option Name) (dd : Dd) (set : Name) → option_and_then (dd_named start.owned) name ≡ Some dd → name_of start.root start.owned dd ≡ Some set → same_name set set ≡ true → is_among (names_at start) set ≡ true
among_names start None dd set found named same = absurd (some-not-none dd (sym found))
among_names start (Some name) dd set found named same = found_among (name_of start.root start.owned) (λ d. same_name name d.name) start.owned.step.dds dd set found named same

-- ---- one input

named_alike : (own : Name) (n : Option Name) → source_by (Named own) n ≡ source_by Unnamed n
named_alike own None = refl
named_alike own (Some n) = refl

temporary_alike : (own : Name) (n : Option Name) → source_by (Temporary own) n ≡ source_by Unnamed n
temporary_alike own None = refl
temporary_alike own (Some n) = refl

sysout_alike : (n : Option Name) → source_by Sysout n ≡ source_by Unnamed n
sysout_alike None = refl
sysout_alike (Some n) = refl

dummy_alike : (n : Option Name) → source_by Dummy n ≡ source_by Unnamed n
dummy_alike None = refl
dummy_alike (Some n) = refl

-- a program with inputs reads them
reads_inputs : (program : Kind) (place : ℕ) (f : Name → Option Dd) (dd : Dd) → option_and_then f (slice_get (input_names program) place) ≡ Some dd → (input : List (List ℕ)) → read_by program input ≡ input
reads_inputs Br14 place f dd found input = absurd (some-not-none dd (sym found))
reads_inputs _ place f dd found input = refl

reads_nothing : (program : Kind) → read_by program [] ≡ []
reads_nothing Copy = refl
reads_nothing _ = refl

module _ (told : Type 0) (is_told : told) (image : List ℕ) (layout : Layout) (library : Catalog) (name : Name) (place : ℕ) where
  -- the head of a data set
  set_head : (old new : LibrarySet) → KeptFrom place old new → IsShown told image layout new library name → head_of_set image layout (set_of library name) place ≡ slice_get old.records place
  set_head old new kept shown =
      ap (λ set. head_of_set image layout set place) shown.is
      ∙ ⊎_elim
      (λ less. ap (λ b. if b then Some (record_at image layout shown.set place) else None) (lt-ltb place shown.set.length less)
      ∙ sym (record_listed image layout shown.set place shown.set.length less)
      ∙ ap (λ (records : List (List ℕ)). slice_get records place) (shown.shows.records is_told)
      ∙ kept.records place (let le : place ≤ place = omega arith in le))
      (λ past. ap (λ b. if b then Some (record_at image layout shown.set place) else None) (le-ltb place shown.set.length past)
      ∙ sym (slice_get_past old.records place (let size = shown.shows.length in let same = kept.length in omega arith)))
      (cases_lt place shown.set.length)

module _ (told : Type 0) (is_told : told) (image : List ℕ) (layout : Layout) (start : StepStart) (library : Catalog) (made : ℕ)
    (shows : ShowsWithin told image layout start made library) (itself : (name : Name) → same_name name name ≡ true) where
  -- the head of an input, whose data set is kept from its next record on
  module _ (input place : ℕ) (kept : (name : Name) (set : LibrarySet) → option_and_then (set_name start) (slice_get (input_names start.owned.step.program) input) ≡ Some name → entry_at (made_at start) name ≡ Some set → IsKept (within_at start made) place name set) where
    in_set : (dd : Dd) (name : Name) → option_and_then (dd_named start.owned) (slice_get (input_names start.owned.step.program) input) ≡ Some dd → name_of start.root start.owned dd ≡ Some name → IsPlain (made_at start) (Some name)
        → head_of_set image layout (set_of library name) place ≡ slice_get (option_map_or set_records (entry_at (made_at start) name) []) place
    in_set dd name found named plain =
        let stands = kept name plain.0 (set_found start (slice_get (input_names start.owned.step.program) input) dd name found named) plain.1 in
        set_head told is_told image layout library name place plain.0 stands.set stands.kept
        (shows name stands.set (among_names start (slice_get (input_names start.owned.step.program) input) dd name found named (itself name)) stands.is (stands.kept.content ∙ plain.2))
        ∙ ap (λ entry. slice_get (option_map_or set_records entry []) place) (sym plain.1)

    by_name : (dd : Dd) → option_and_then (dd_named start.owned) (slice_get (input_names start.owned.step.program) input) ≡ Some dd → (source : Option Name → RecordSource) (same : (n : Option Name) → source n ≡ source_by Unnamed n) → (name : Option Name) → name_of start.root start.owned dd ≡ name → IsPlain (made_at start) (set_of_source (source name))
        → head_of image layout library (source name) place ≡ slice_get (option_map_or set_records (option_and_then (entry_at (made_at start)) name) []) place
    by_name dd found source same None named plain = ap (λ s. head_of image layout library s place) (same None)
    by_name dd found source same (Some name) named plain =
        ap (λ s. head_of image layout library s place) (same (Some name))
        ∙ in_set dd name found named (subst (λ s. IsPlain (made_at start) (set_of_source s)) (same (Some name)) plain)

    by_origin : (dd : Dd) → option_and_then (dd_named start.owned) (slice_get (input_names start.owned.step.program) input) ≡ Some dd → (origin : Origin) → IsPlain (made_at start) (set_of_source (source_by origin (name_of start.root start.owned dd)))
        → head_of image layout library (source_by origin (name_of start.root start.owned dd)) place ≡ slice_get (records_of_origin (made_at start) origin (name_of start.root start.owned dd)) place
    by_origin dd found (InStream cards) plain = refl
    by_origin dd found (Named n) plain = by_name dd found (source_by (Named n)) (named_alike n) (name_of start.root start.owned dd) refl plain
    by_origin dd found (Temporary n) plain = by_name dd found (source_by (Temporary n)) (temporary_alike n) (name_of start.root start.owned dd) refl plain
    by_origin dd found Unnamed plain = by_name dd found (source_by Unnamed) (λ n. refl) (name_of start.root start.owned dd) refl plain
    by_origin dd found Sysout plain = by_name dd found (source_by Sysout) sysout_alike (name_of start.root start.owned dd) refl plain
    by_origin dd found Dummy plain = by_name dd found (source_by Dummy) dummy_alike (name_of start.root start.owned dd) refl plain

    -- the head of an input is the next one of its records
    input_head : IsPlain (made_at start) (set_of_source (source_in start.root start.owned.owner start.owned.step (input_dd start.owned.step input)))
        → head_of image layout library (source_in start.root start.owned.owner start.owned.step (input_dd start.owned.step input)) place ≡ slice_get (input_at start (made_at start) input) place
    input_head plain = by (option_and_then (dd_named start.owned) (slice_get (input_names start.owned.step.program) input)) refl plain
      where
        by : (dd : Option Dd) → option_and_then (dd_named start.owned) (slice_get (input_names start.owned.step.program) input) ≡ dd
            → IsPlain (made_at start) (set_of_source (source_in start.root start.owned.owner start.owned.step dd))
            → head_of image layout library (source_in start.root start.owned.owner start.owned.step dd) place ≡ slice_get (option_map_or (records_in start (made_at start)) dd []) place
        by None found plain = refl
        by (Some dd) found plain = by_origin dd found dd.origin plain

-- a program of inputs reads what it has
read_input : (start : StepStart) (input : ℕ) → read_by start.owned.step.program (input_at start (made_at start) input) ≡ input_at start (made_at start) input
read_input start input = by (option_and_then (dd_named start.owned) (slice_get (input_names start.owned.step.program) input)) refl
  where
    by : (dd : Option Dd) → option_and_then (dd_named start.owned) (slice_get (input_names start.owned.step.program) input) ≡ dd → read_by start.owned.step.program (option_map_or (records_in start (made_at start)) dd []) ≡ option_map_or (records_in start (made_at start)) dd []
    by None found = reads_nothing start.owned.step.program
    by (Some dd) found = reads_inputs start.owned.step.program input (dd_named start.owned) dd found (records_in start (made_at start) dd)

module _ (start : StepStart) (may : MayStart start) (state : State) (taken : ℕ) (stands : StandsFor state (case_at start) taken) (library : Library) (written : library ≡ written_all start (upto (case_at start) taken) (made_at start)) where
  pub keeps_input : (input limit : ℕ) → are_apart_names (slice_get (input_names start.owned.step.program) input) (output_dd start.owned.step.program Main) ≡ true
      → are_apart_names (slice_get (input_names start.owned.step.program) input) (output_dd start.owned.step.program Rejects) ≡ true
      → ((place : ℕ) → place < first_of state → (place < limit) ⊎ (are_apart_names (slice_get (input_names start.owned.step.program) input) (output_dd start.owned.step.program (InPlace place)) ≡ true))
      → (name : Name) (set : LibrarySet) → option_and_then (set_name start) (slice_get (input_names start.owned.step.program) input) ≡ Some name → entry_at (made_at start) name ≡ Some set → IsKept library limit name set
  unfolding output_name
  keeps_input input limit main rejects in_place name set named is =
      let names = slice_get (input_names start.owned.step.program) input in
      let apart : (output : Output) → are_apart_names names (output_dd start.owned.step.program output) ≡ true → AreApart (Some name) (option_and_then (set_name start) (output_dd start.owned.step.program output)) =
      λ output differ. subst (λ n. AreApart n (option_and_then (set_name start) (output_dd start.owned.step.program output))) named (sets_apart start may.distinct names (output_dd start.owned.step.program output) differ) in
      subst (λ l. IsKept l limit name set) (sym written)
      (writes_keep start limit (first_of state) name (apart Main main) (apart Rejects rejects)
      (λ place less. ⊎_elim (λ below. inl below) (λ differ. inr (apart (InPlace place) differ)) (in_place place less))
      (upto (case_at start) taken) (made_at start) set (upto_within state (case_at start) taken stands) is)

-- the heads that the disk reads are the next records
pub next_heads : (told : Type 0) (image : List ℕ) (layout : Layout) (start : StepStart) (taken : ℕ) (step : StepRun) (library : Catalog) → told → IsStepPlace start taken false step library
    → within_at start step.writes ≡ written_all start (upto (case_at start) taken) (made_at start) → ShowsWithin told image layout start step.writes library → AreNext (case_at start) step.state (heads_on image layout library step)
unfolding heads_of files_of case_at
next_heads told image layout start taken step library is_told stands written shows = record {
  first = ap (λ (files : Files). head_of image layout library files.first (first_of step.state)) stands.files
      ∙ input_head told is_told image layout start library step.writes shows name-itself 0 (first_of step.state)
      (keeps_input start stands.may step.state taken stands.state (within_at start step.writes) written 0 (first_of step.state) (first_main start.owned.step.program) (first_rejects start.owned.step.program) (λ place less. inl less))
      stands.may.first
      ∙ ap (λ (input : List (List ℕ)). slice_get input (first_of step.state)) (sym (read_input start 0));
  second = ap (λ (files : Files). head_of image layout library files.second (second_of step.state)) stands.files
      ∙ input_head told is_told image layout start library step.writes shows name-itself 1 (second_of step.state)
      (keeps_input start stands.may step.state taken stands.state (within_at start step.writes) written 1 (second_of step.state) (second_main start.owned.step.program) (second_rejects start.owned.step.program) (λ place less. inr (second_updated start.owned.step.program place)))
      stands.may.second;
}

-- the data set of an input comes from its DD
pub record IsNamed (start : StepStart) (input : ℕ) (name : Name) : Type 0 where
  pub dd : Dd
  pub found : option_and_then (dd_named start.owned) (slice_get (input_names start.owned.step.program) input) ≡ Some dd
  pub named : name_of start.root start.owned dd ≡ Some name
  pub input_is : input_at start (made_at start) input ≡ option_map_or set_records (entry_at (made_at start) name) []

source_parts : (own : Option Name) (name : Name) → source_by Unnamed own ≡ InSet name → own ≡ Some name
source_parts None name is = absurd (unlike is)
  where
    unlike : Nowhere ≡ InSet name → ⊥
    unlike e = cc
source_parts (Some own) name is = cc

in_deck : (cards : List (List ℕ)) (name : Name) → InDeck cards ≡ InSet name → ⊥
in_deck cards name is = cc

nowhere : (name : Name) → Nowhere ≡ InSet name → ⊥
nowhere name is = cc

pub source_named : (start : StepStart) (input : ℕ) (name : Name) → source_in start.root start.owned.owner start.owned.step (input_dd start.owned.step input) ≡ InSet name → IsNamed start input name
source_named start input name is = by (option_and_then (dd_named start.owned) (slice_get (input_names start.owned.step.program) input)) refl is
  where
    in_dd : (dd : Dd) → option_and_then (dd_named start.owned) (slice_get (input_names start.owned.step.program) input) ≡ Some dd → (origin : Origin) → dd.origin ≡ origin
        → ((n : Option Name) → records_of_origin (made_at start) origin n ≡ option_map_or set_records (option_and_then (entry_at (made_at start)) n) [])
        → name_of start.root start.owned dd ≡ Some name → IsNamed start input name
    in_dd dd found origin e records named = record {
      dd = dd;
      found = found;
      named = named;
      input_is = ap (λ d. option_map_or (records_in start (made_at start)) d []) found
          ∙ ap (λ o. records_of_origin (made_at start) o (name_of start.root start.owned dd)) e
          ∙ records (name_of start.root start.owned dd)
          ∙ ap (λ n. option_map_or set_records (option_and_then (entry_at (made_at start)) n) []) named;
    }

    by_origin : (dd : Dd) → option_and_then (dd_named start.owned) (slice_get (input_names start.owned.step.program) input) ≡ Some dd → (origin : Origin) → dd.origin ≡ origin → source_by origin (name_of start.root start.owned dd) ≡ InSet name → IsNamed start input name
    by_origin dd found (InStream cards) e is = absurd (in_deck cards name is)
    by_origin dd found (Named own) e is = in_dd dd found (Named own) e (λ n. refl) (source_parts (name_of start.root start.owned dd) name (sym (named_alike own (name_of start.root start.owned dd)) ∙ is))
    by_origin dd found (Temporary own) e is = in_dd dd found (Temporary own) e (λ n. refl) (source_parts (name_of start.root start.owned dd) name (sym (temporary_alike own (name_of start.root start.owned dd)) ∙ is))
    by_origin dd found Unnamed e is = in_dd dd found Unnamed e (λ n. refl) (source_parts (name_of start.root start.owned dd) name is)
    by_origin dd found Sysout e is = in_dd dd found Sysout e (λ n. refl) (source_parts (name_of start.root start.owned dd) name (sym (sysout_alike (name_of start.root start.owned dd)) ∙ is))
    by_origin dd found Dummy e is = in_dd dd found Dummy e (λ n. refl) (source_parts (name_of start.root start.owned dd) name (sym (dummy_alike (name_of start.root start.owned dd)) ∙ is))

    by : (dd : Option Dd) → option_and_then (dd_named start.owned) (slice_get (input_names start.owned.step.program) input) ≡ dd → source_in start.root start.owned.owner start.owned.step dd ≡ InSet name → IsNamed start input name
    by None found is = absurd (nowhere name is)
    by (Some dd) found is = by_origin dd found dd.origin refl is
