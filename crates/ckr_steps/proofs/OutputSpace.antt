-- The space of a step's outputs by the library of records, and what its writes leave of it.
use Rattle.std.proofs.Common.{◌≡◌, ◌≤◌, ◌<◌, ℕ, zero, suc, ◌-◌, Bool, true, false, List, [], ◌∷◌, ◌++◌, length, take, Option, Some, None, refl, ap, sym, ◌∙◌, subst, arith, append-nil, length-append}
use Rattle.std.specs.Prelude.{option_and_then, find, if◌then◌else◌}
use Rattle.std.specs.Option.{option_map_or}
use Rattle.std.proofs.lemmas.Bool.{false≢true}
use Rattle.std.proofs.lemmas.Option.{same_Some}
use Rattle.ckr_base.specs.declared.programs.Output.{Output}
use Rattle.ckr_base.specs.declared.programs.Output.TheVariants.{Main, Rejects, InPlace}
use Rattle.ckr_base.specs.declared.programs.Write.{Write}
use Rattle.ckr_base.specs.Columns.{fitted}
use Rattle.ckr_base.proofs.Options.{some-not-none}
use Rattle.ckr_uses.specs.Uses.{are_distinct}
use Rattle.ckr_jcl.specs.declared.deck.Kind.{Kind}
use Rattle.ckr_jcl.specs.declared.deck.Kind.TheVariants.{Copy, Select, Merge, Master, Update, Print, Br14}
use Rattle.ckr_jcl.specs.Programs.{names_written}
use Rattle.ckr_library.specs.NameMaps.{Name, same_name, entry_at}
use Rattle.ckr_library.proofs.Named.{at-with_changed-other, name-same, name-turned}
use Rattle.ckr_programs.specs.Work.{Work}
use Rattle.ckr_match.specs.Images.{has_transactions}
use Rattle.ckr_meaning.specs.LibrarySet.{LibrarySet, Library}
use Rattle.ckr_meaning.specs.Program.{OutputRoom, fitting, fitting_in, less_main, less_rejects, room_after, room_behind, records_taken, rest, upto, work_within}
use Rattle.ckr_meaning.specs.StepRun.{StepStart, case_at, changed_in, extended, made_at, output_name, rejects_dd, rewritten, room_at, room_in, room_of, within_at, work_at, written_all, written_one, written_set}
use Rattle.ckr_meaning.proofs.FittingWrites.{fitting-append, fitting-some}
use Rattle.ckr_meaning.proofs.Prefixes.{work_in_parts}
use Rattle.ckr_meaning.proofs.Room.{AreApart, outputs_apart}
use Rattle.ckr_steps.specs.Files.{dd_in, set_in, files_of}
use Rattle.ckr_steps.specs.Places.{IsPlain, files_at, first_room, names_at}
use Rattle.ckr_steps.proofs.Inputs.{set_length}
use Rattle.ckr_steps.proofs.LaterWrites.{main_is, rejects_are, within_front, written_from}
use Rattle.ckr_steps.proofs.Names.{changed_here, changed_nothing}
use Rattle.ckr_steps.proofs.Writes.{work_in_room}

-- ---- what a data set holds stays

plain-changed : (change : LibrarySet → LibrarySet) → ((set : LibrarySet) → (change set).content ≡ set.content) → (other name : Option Name) (library : Library) → IsPlain library name → IsPlain (changed_in other change library) name
plain-changed change kept other None library plain = tt
plain-changed change kept None (Some name) library plain = plain
plain-changed change kept (Some other) (Some name) library plain = by (same_name name other) refl
  where
    by : (same : Bool) → same_name name other ≡ same → IsPlain (changed_in (Some other) change library) (Some name)
    by true e = subst (λ n. IsPlain (changed_in (Some n) change library) (Some name)) (name-same name other e) (change plain.0, changed_here name change library plain.0 plain.1, kept plain.0 ∙ plain.2)
    by false e = (plain.0, at-with_changed-other other name change library e ∙ plain.1, plain.2)

content-written : (start : StepStart) (output : Output) (image : List ℕ) (set : LibrarySet) → (written_set start output image set).content ≡ set.content
content-written start Main image set = refl
content-written start Rejects image set = refl
content-written start (InPlace place) image set = refl

pub plain-written : (start : StepStart) (writes : List Write) (name : Option Name) (library : Library) → IsPlain library name → IsPlain (written_all start writes library) name
unfolding written_one
plain-written start [] name library plain = plain
plain-written start (write ∷ writes) name library plain =
    plain-written start writes name (written_one start write library)
    (plain-changed (written_set start write.output write.image) (content-written start write.output write.image) (output_name start write.output) name library plain)

pub plain-within_at : (start : StepStart) (writes : ℕ) (name : Option Name) → IsPlain (made_at start) name → IsPlain (within_at start writes) name
unfolding within_at
plain-within_at start writes name plain = plain-written start (take writes (work_at start).writes) name (made_at start) plain

-- ---- the space behind one change

-- a change of another data set leaves it
room_in-apart : (name other : Option Name) (change : LibrarySet → LibrarySet) (library : Library) → AreApart name other → room_in (changed_in other change library) name ≡ room_in library name
room_in-apart None other change library apart = refl
room_in-apart (Some name) None change library apart = refl
room_in-apart (Some name) (Some other) change library apart = ap (λ entry. option_map_or room_of entry 0) (at-with_changed-other other name change library apart)

-- of a record more there is one less
room_in-extended : (name : Option Name) (image : List ℕ) (library : Library) → room_in (changed_in name (extended image) library) name ≡ room_in library name - 1
room_in-extended None image library = refl
room_in-extended (Some name) image library = by (entry_at library name) refl
  where
    by : (entry : Option LibrarySet) → entry_at library name ≡ entry → room_in (changed_in (Some name) (extended image) library) (Some name) ≡ room_in library (Some name) - 1
    by None e =
        let none : room_in library (Some name) ≡ 0 = ap (λ entry. option_map_or room_of entry 0) e in
        ap (λ sets. room_in sets (Some name)) (changed_nothing name (extended image) library e) ∙ none ∙ sym (ap (λ n. n - 1) none)
    by (Some set) e =
        let longer = length-append set.records (fitted set.lrecl image ∷ []) in
        let less : set.space - length (set.records ++ fitted set.lrecl image ∷ []) ≡ set.space - length set.records - 1 = omega (arith, longer) in
        ap (λ entry. option_map_or room_of entry 0) (changed_here name (extended image) library set e) ∙ less ∙ sym (ap (λ entry. option_map_or room_of entry 0 - 1) e)

-- a rewrite leaves all
room_in-rewritten : (name other : Option Name) (owner step place : ℕ) (image : List ℕ) (library : Library) → room_in (changed_in other (rewritten owner step place image) library) name ≡ room_in library name
room_in-rewritten None other owner step place image library = refl
room_in-rewritten (Some name) None owner step place image library = refl
room_in-rewritten (Some name) (Some other) owner step place image library = by (same_name name other) refl
  where
    here : (entry : Option LibrarySet) → entry_at library name ≡ entry → room_in (changed_in (Some name) (rewritten owner step place image) library) (Some name) ≡ room_in library (Some name)
    here None e = ap (λ sets. room_in sets (Some name)) (changed_nothing name (rewritten owner step place image) library e)
    here (Some set) e =
        ap (λ entry. option_map_or room_of entry 0) (changed_here name (rewritten owner step place image) library set e)
        ∙ ap (λ count. set.space - count) (set_length set.records place (fitted set.lrecl image))
        ∙ sym (ap (λ entry. option_map_or room_of entry 0) e)

    by : (same : Bool) → same_name name other ≡ same → room_in (changed_in (Some other) (rewritten owner step place image) library) (Some name) ≡ room_in library (Some name)
    by true e = subst (λ n. room_in (changed_in (Some n) (rewritten owner step place image) library) (Some name) ≡ room_in library (Some name)) (name-same name other e) (here (entry_at library name) refl)
    by false e = room_in-apart (Some name) (Some other) (rewritten owner step place image) library e

-- ---- the outputs of a step

no_rejects : (program : Kind) → has_transactions program ≡ false → find (same_name rejects_dd) (names_written program) ≡ None
no_rejects Copy is = refl
no_rejects Select is = refl
no_rejects Merge is = refl
no_rejects Master is = absurd (false≢true (sym is))
no_rejects Update is = absurd (false≢true (sym is))
no_rejects Print is = refl
no_rejects Br14 is = refl

none_for_rejects : (start : StepStart) → has_transactions start.owned.step.program ≡ false → (files_at start).rejects ≡ None
unfolding files_of
none_for_rejects start is = ap (λ name. set_in start.root start.owned.owner start.owned.step (option_and_then (dd_in start.owned.step) name)) (no_rejects start.owned.step.program is)

apart-none : (name : Option Name) → AreApart name None
apart-none None = tt
apart-none (Some name) = tt

-- they are two data sets
pub files-apart : (start : StepStart) → are_distinct (names_at start) ≡ true → AreApart (files_at start).main (files_at start).rejects
files-apart start distinct = by (has_transactions start.owned.step.program) refl
  where
    by : (has : Bool) → has_transactions start.owned.step.program ≡ has → AreApart (files_at start).main (files_at start).rejects
    by true e = subst (λ name. AreApart name (files_at start).rejects) (main_is start) (subst (AreApart (output_name start Main)) (rejects_are start e) (outputs_apart start distinct))
    by false e = subst (AreApart (files_at start).main) (sym (none_for_rejects start e)) (apart-none (files_at start).main)

-- their space, where the library of records is this one
abbrev pub outputs_room : StepStart → Library → OutputRoom
outputs_room start library = record { main = room_in library (files_at start).main; rejects = room_in library (files_at start).rejects }

pub first_room-outputs : (start : StepStart) → first_room start ≡ outputs_room start (made_at start)
unfolding room_at
first_room-outputs start = λ i. record { main = ap (room_in (made_at start)) (main_is start) i; rejects = by (has_transactions start.owned.step.program) refl i }
  where
    by : (has : Bool) → has_transactions start.owned.step.program ≡ has → (if has then room_in (made_at start) (output_name start Rejects) else 0) ≡ room_in (made_at start) (files_at start).rejects
    by true e = ap (room_in (made_at start)) (rejects_are start e)
    by false e = sym (ap (room_in (made_at start)) (none_for_rejects start e))

apart-turned : (one other : Option Name) → AreApart one other → AreApart other one
apart-turned None None apart = tt
apart-turned None (Some other) apart = tt
apart-turned (Some one) None apart = tt
apart-turned (Some one) (Some other) apart = name-turned other one ∙ apart

module _ (start : StepStart) (distinct : are_distinct (names_at start) ≡ true) where
  outputs_room-main : (image : List ℕ) (library : Library) (left : OutputRoom) → room_behind Main (outputs_room start library) ≡ Some left → left ≡ outputs_room start (changed_in (output_name start Main) (extended image) library)
  outputs_room-main image library left fits = by (room_in library (files_at start).main) refl fits
    where
      own : room_in (changed_in (output_name start Main) (extended image) library) (files_at start).main ≡ room_in library (files_at start).main - 1
      own = ap (λ name. room_in (changed_in name (extended image) library) (files_at start).main) (main_is start) ∙ room_in-extended (files_at start).main image library

      other : room_in (changed_in (output_name start Main) (extended image) library) (files_at start).rejects ≡ room_in library (files_at start).rejects
      other =
          ap (λ name. room_in (changed_in name (extended image) library) (files_at start).rejects) (main_is start)
          ∙ room_in-apart (files_at start).rejects (files_at start).main (extended image) library (apart-turned (files_at start).main (files_at start).rejects (files-apart start distinct))

      by : (main : ℕ) → room_in library (files_at start).main ≡ main → less_main main (room_in library (files_at start).rejects) ≡ Some left → left ≡ outputs_room start (changed_in (output_name start Main) (extended image) library)
      by zero e fits = absurd (some-not-none left (sym fits))
      by (suc main) e fits =
          let less : main ≡ room_in library (files_at start).main - 1 = omega (arith, e) in
          let so : main ≡ room_in (changed_in (output_name start Main) (extended image) library) (files_at start).main = less ∙ sym own in
          sym (same_Some (record { main = main; rejects = room_in library (files_at start).rejects }) left fits) ∙ (λ i. record { main = so i; rejects = sym other i })

  outputs_room-rejects : (image : List ℕ) (library : Library) (left : OutputRoom) → room_behind Rejects (outputs_room start library) ≡ Some left → left ≡ outputs_room start (changed_in (output_name start Rejects) (extended image) library)
  outputs_room-rejects image library left fits = by_kind (has_transactions start.owned.step.program) refl
    where
      by : output_name start Rejects ≡ (files_at start).rejects → (rejects : ℕ) → room_in library (files_at start).rejects ≡ rejects → less_rejects (room_in library (files_at start).main) rejects ≡ Some left
          → left ≡ outputs_room start (changed_in (output_name start Rejects) (extended image) library)
      by are zero e fits = absurd (some-not-none left (sym fits))
      by are (suc rejects) e fits =
          let own : room_in (changed_in (output_name start Rejects) (extended image) library) (files_at start).rejects ≡ room_in library (files_at start).rejects - 1 =
          ap (λ name. room_in (changed_in name (extended image) library) (files_at start).rejects) are ∙ room_in-extended (files_at start).rejects image library in
          let other : room_in (changed_in (output_name start Rejects) (extended image) library) (files_at start).main ≡ room_in library (files_at start).main =
          ap (λ name. room_in (changed_in name (extended image) library) (files_at start).main) are
          ∙ room_in-apart (files_at start).main (files_at start).rejects (extended image) library (files-apart start distinct) in
          let less : rejects ≡ room_in library (files_at start).rejects - 1 = omega (arith, e) in
          let so : rejects ≡ room_in (changed_in (output_name start Rejects) (extended image) library) (files_at start).rejects = less ∙ sym own in
          sym (same_Some (record { main = room_in library (files_at start).main; rejects = rejects }) left fits) ∙ (λ i. record { main = sym other i; rejects = so i })

      -- a program without rejects has no space for them
      by_kind : (has : Bool) → has_transactions start.owned.step.program ≡ has → left ≡ outputs_room start (changed_in (output_name start Rejects) (extended image) library)
      by_kind true has = by (rejects_are start has) (room_in library (files_at start).rejects) refl fits
      by_kind false has =
          let none : room_in library (files_at start).rejects ≡ 0 = ap (room_in library) (none_for_rejects start has) in
          absurd (some-not-none left (sym (ap (less_rejects (room_in library (files_at start).main)) (sym none) ∙ fits)))

  outputs_room-one : (output : Output) (image : List ℕ) (library : Library) (left : OutputRoom) → room_behind output (outputs_room start library) ≡ Some left → left ≡ outputs_room start (changed_in (output_name start output) (written_set start output image) library)
  outputs_room-one Main image library left fits = outputs_room-main image library left fits
  outputs_room-one Rejects image library left fits = outputs_room-rejects image library left fits
  outputs_room-one (InPlace place) image library left fits =
      let owner = start.owned.owner in
      let number = start.number in
      sym (same_Some (outputs_room start library) left fits)
      ∙ (λ i. record {
        main = sym (room_in-rewritten (files_at start).main (output_name start (InPlace place)) owner number place image library) i;
        rejects = sym (room_in-rewritten (files_at start).rejects (output_name start (InPlace place)) owner number place image library) i;
      })

  -- behind writes that had space, what is left is the space by the library with these writes
  pub outputs_room-written : (writes : List Write) (library : Library) (left : OutputRoom) → room_after writes (outputs_room start library) ≡ Some left → left ≡ outputs_room start (written_all start writes library)
  unfolding written_one
  outputs_room-written [] library left fits = sym (same_Some (outputs_room start library) left fits)
  outputs_room-written (write ∷ writes) library left fits = by (room_behind write.output (outputs_room start library)) refl fits (λ later. outputs_room-written writes later left)
    where
      by : (behind : Option OutputRoom) → room_behind write.output (outputs_room start library) ≡ behind → option_and_then (room_after writes) behind ≡ Some left
          → ((later : Library) → room_after writes (outputs_room start later) ≡ Some left → left ≡ outputs_room start (written_all start writes later)) → left ≡ outputs_room start (written_all start (write ∷ writes) library)
      by None e fits others = absurd (some-not-none left (sym fits))
      by (Some behind) e fits others =
          let here : behind ≡ outputs_room start (written_one start write library) = outputs_room-one write.output write.image library behind e in
          others (written_one start write library) (ap (room_after writes) (sym here) ∙ fits)

-- ---- the writes for the first records

-- so many writes of the step had space, where its work within its space isn't shorter
pub upto-fits : (start : StepStart) (taken : ℕ) → taken ≤ records_taken (case_at start) → length (upto (case_at start) taken) ≤ length (work_at start).writes
    → (left : OutputRoom) × (room_after (upto (case_at start) taken) (first_room start) ≡ Some left)
unfolding work_within
upto-fits start taken within long = by (room_after (upto (case_at start) taken) (first_room start)) refl
  where
    front : List Write
    front = upto (case_at start) taken

    cut : room_after front (first_room start) ≡ None → (work_at start).writes ≡ fitting front (first_room start)
    cut none =
        ap (λ (w : Work). w.writes) (work_in_room start)
        ∙ ap (λ w. fitting w (first_room start)) (work_in_parts (case_at start) taken within)
        ∙ fitting-append front (rest (case_at start) taken) (first_room start)
        ∙ ap (λ left. fitting front (first_room start) ++ fitting_in left (rest (case_at start) taken)) none
        ∙ append-nil (fitting front (first_room start))

    by : (found : Option OutputRoom) → room_after front (first_room start) ≡ found → (left : OutputRoom) × (room_after front (first_room start) ≡ Some left)
    by None e =
        let shorter : length (fitting front (first_room start)) < length front = fitting-some front (first_room start) e in
        let same : length (work_at start).writes ≡ length (fitting front (first_room start)) = ap length (cut e) in
        absurd (omega (arith, long, shorter, same))
    by (Some left) e = (left, e)

-- and what is left is the space by the library behind them
pub room_after-upto : (start : StepStart) (taken : ℕ) → are_distinct (names_at start) ≡ true → taken ≤ records_taken (case_at start) → length (upto (case_at start) taken) ≤ length (work_at start).writes
    → room_after (upto (case_at start) taken) (first_room start) ≡ Some (outputs_room start (within_at start (length (upto (case_at start) taken))))
room_after-upto start taken distinct within long =
    let front = upto (case_at start) taken in
    let space = upto-fits start taken within long in
    let library : within_at start (length front) ≡ written_all start front (made_at start) =
    within_front start front (fitting (rest (case_at start) taken) space.0) (written_from start front [] (rest (case_at start) taken) space.0 (work_in_parts (case_at start) taken within) space.1) in
    let left : space.0 ≡ outputs_room start (written_all start front (made_at start)) = outputs_room-written start distinct front (made_at start) space.0 (ap (room_after front) (sym (first_room-outputs start)) ∙ space.1) in
    space.1 ∙ ap (λ (room : OutputRoom). Some room) left ∙ ap (λ sets. Some (outputs_room start sets)) (sym library)
