-- A step writes no more than its outputs have space for.
use Rattle.std.proofs.Common.{◌≡◌, ◌≤◌, ℕ, zero, suc, ◌+◌, ◌-◌, Bool, true, false, not, cond, List, [], ◌∷◌, ◌++◌, take, length, Option, Some, None, refl, ap, sym, subst, ◌∙◌, arith, length-append, length-set}
use Rattle.std.specs.Prelude.{option_and_then, slice_get, filter}
use Rattle.ckr_jcl.specs.Programs.{names_written}
use Rattle.std.specs.List.{find, filter_map, cons_option}
use Rattle.std.specs.Option.{option_map_or}
use Rattle.std.specs.Ordering.{is_eq}
use Rattle.std.specs.Cmp.Lexicographic.{nat_list_cmp_total}
use Rattle.std.specs.Cmp.{eq_by_cmp_equiv, tied_itself}
use Rattle.std.specs.FinMap.Entries.{find-put}
use Rattle.ckr_base.specs.declared.programs.Output.{Output}
use Rattle.ckr_base.specs.declared.programs.Output.TheVariants.{Main, Rejects, InPlace}
use Rattle.ckr_base.specs.declared.programs.Write.{Write}
use Rattle.ckr_base.proofs.Bools.{and-first, and-second, or-first-false, or-second-false}
use Rattle.ckr_base.proofs.Options.{some-not-none}
use Rattle.ckr_base.specs.Columns.{fitted}
use Rattle.ckr_uses.specs.Uses.{are_distinct}
use Rattle.ckr_jcl.specs.declared.deck.After.{After}
use Rattle.ckr_jcl.specs.declared.deck.After.TheVariants.{Delete, Keep, Pass, Catlg, Uncatlg}
use Rattle.ckr_jcl.specs.declared.deck.Dd.{Dd}
use Rattle.ckr_jcl.specs.declared.deck.Status.{Status}
use Rattle.ckr_jcl.specs.declared.deck.Status.TheVariants.{New, Old, Shr, Mod}
use Rattle.ckr_library.specs.declared.sets.Stamp.{Stamp}
use Rattle.ckr_library.specs.NameMaps.{Name, name_cmp, same_name, entry_at, with_entry, with_change}
use Rattle.ckr_library.proofs.Named.{each-with_changed, each-with_entry, each-without_entry}
use Rattle.ckr_meaning.specs.LibrarySet.{LibrarySet, Library, IsWithinSpace, AreWithinSpace, record_ways}
use Rattle.ckr_meaning.specs.Allotments.{AllotmentModel, found, made, refused, DdAllotment, opened_by, opened_one, opened_all, is_output}
use Rattle.ckr_meaning.specs.Dispositions.{Disposal, Stock, sets_after, disposed_one, disposed_all}
use Rattle.ckr_meaning.specs.EffectiveJob.{name_of, names_of, is_among, disposals_of}
use Rattle.ckr_meaning.specs.Program.{OutputRoom, room_behind, less_main, less_rejects, fitting, work, work_within}
use Rattle.ckr_meaning.specs.StepRun.{StepStart, placed_at, stamp_at, opened_at, fresh_set, made_one, made_all, made_at, case_at, set_name, rejects_dd, main_names, output_name, room_of, room_in, room_at, extended, rewritten, written_set, changed_in, written_one, written_all, work_at, within_at, disposed_at}
use Rattle.ckr_meaning.specs.declared.place.Place.{Place}
use Rattle.ckr_meaning.specs.EffectiveJob.{Effective, OwnedStep, HasDistinctNames}
use Rattle.ckr_meaning.specs.JobRun.{at, job_run}
use Rattle.ckr_meaning.proofs.SetProperties.{EachFine, at_holds, job_run_holds}
use Rattle.std.specs.List.{list_all}
use Rattle.std.proofs.lemmas.Bool.{not-true, true≢false}
use Rattle.std.proofs.lemmas.Option.{same_Some}

-- ---- what is opened and made

opened_by-within : (stamp : Stamp) (status : Status) (set : LibrarySet) → IsWithinSpace set → IsWithinSpace (opened_by record_ways stamp status set)
opened_by-within stamp New set within = within
opened_by-within stamp Old set within = omega arith
opened_by-within stamp Shr set within = within
opened_by-within stamp Mod set within = within

opened_one-within : (stamp : Stamp) (placed : DdAllotment) (allotment : AllotmentModel) (output : Bool) (library : Library) → AreWithinSpace library → AreWithinSpace (opened_one record_ways stamp placed allotment output library)
opened_one-within stamp placed found true library within =
    each-with_changed IsWithinSpace placed.name (opened_by record_ways stamp placed.dd.disp.status) library (opened_by-within stamp placed.dd.disp.status) within
opened_one-within stamp placed found false library within = within
opened_one-within stamp placed made output library within = within
opened_one-within stamp placed (refused flaw) output library within = within

opened_all-within : (stamp : Stamp) (all : List DdAllotment) (library : Library) → AreWithinSpace library → AreWithinSpace (opened_all record_ways stamp all library)
opened_all-within stamp [] library within = within
opened_all-within stamp (placed ∷ rest) library within =
    opened_all-within stamp rest _ (opened_one-within stamp placed placed.allotment (is_output placed.dd.role) library within)

made_one-within : (stamp : Stamp) (placed : DdAllotment) (allotment : AllotmentModel) (library : Library) → AreWithinSpace library → AreWithinSpace (made_one stamp placed allotment library)
made_one-within stamp placed found library within = within
made_one-within stamp placed made library within = each-with_entry IsWithinSpace placed.name (fresh_set stamp placed.dd) library (omega arith) within
made_one-within stamp placed (refused flaw) library within = within

made_all-within : (stamp : Stamp) (all : List DdAllotment) (library : Library) → AreWithinSpace library → AreWithinSpace (made_all stamp all library)
made_all-within stamp [] library within = within
made_all-within stamp (placed ∷ rest) library within = made_all-within stamp rest _ (made_one-within stamp placed placed.allotment library within)

pub opened_at-within : (start : StepStart) → AreWithinSpace start.standing.sets → AreWithinSpace (opened_at start)
unfolding opened_at
opened_at-within start within = opened_all-within (stamp_at start) (placed_at start) start.standing.sets within

made_at-within : (start : StepStart) → AreWithinSpace start.standing.sets → AreWithinSpace (made_at start)
unfolding made_at
made_at-within start within = made_all-within (stamp_at start) (placed_at start) (opened_at start) (opened_at-within start within)

-- ---- the two outputs are two data sets

abbrev pub AreApart : Option Name → Option Name → Type 0
AreApart None other = Unit {0}
AreApart (Some name) None = Unit {0}
AreApart (Some name) (Some other) = same_name name other ≡ false

none_apart : (name : Option Name) → AreApart name None
none_apart None = tt
none_apart (Some name) = tt

apart_back : (one other : Option Name) → AreApart one other → AreApart other one
apart_back None None apart = tt
apart_back None (Some other) apart = tt
apart_back (Some one) None apart = tt
apart_back (Some one) (Some other) apart = (eq_by_cmp_equiv nat_list_cmp_total).symm other one ∙ apart

-- a name that isn't among those of DDs is apart from the name of a DD that is found there
apart_from_found : (f : Dd → Option Name) (test : Dd → Bool) (dds : List Dd) (name : Name) → is_among (filter_map f dds) name ≡ false → AreApart (Some name) (option_and_then f (find test dds))
apart_from_found f test [] name free = tt
apart_from_found f test (dd ∷ dds) name free =
    by (test dd) (f dd) refl free (λ others. apart_from_found f test dds name others)
  where
    by : (passes : Bool) (its : Option Name) → f dd ≡ its → is_among (cons_option its (filter_map f dds)) name ≡ false → (is_among (filter_map f dds) name ≡ false → AreApart (Some name) (option_and_then f (find test dds))) → AreApart (Some name) (option_and_then f (cond passes (Some dd) (find test dds)))
    by true None e free rest = subst (AreApart (Some name)) (sym e) tt
    by true (Some its) e free rest = subst (AreApart (Some name)) (sym e) (or-first-false (same_name name its) _ free)
    by false None e free rest = rest free
    by false (Some its) e free rest = rest (or-second-false (same_name name its) _ free)

-- two DDs of different names have different data sets, where no data set stands twice
pub found_apart : (f : Dd → Option Name) (one other : Dd → Bool) (dds : List Dd) → ((dd : Dd) → one dd ≡ true → other dd ≡ false) → are_distinct (filter_map f dds) ≡ true → AreApart (option_and_then f (find one dds)) (option_and_then f (find other dds))
found_apart f one other [] never distinct = tt
found_apart f one other (dd ∷ dds) never distinct =
    by (one dd) (other dd) refl refl (f dd) refl distinct (λ rest. found_apart f one other dds never rest)
  where
    by : (first second : Bool) → one dd ≡ first → other dd ≡ second → (its : Option Name) → f dd ≡ its → are_distinct (cons_option its (filter_map f dds)) ≡ true → (are_distinct (filter_map f dds) ≡ true → AreApart (option_and_then f (find one dds)) (option_and_then f (find other dds))) → AreApart (option_and_then f (cond first (Some dd) (find one dds))) (option_and_then f (cond second (Some dd) (find other dds)))
    by true true a b its e distinct rest = absurd (true≢false (sym b ∙ never dd a))
    by true false a b None e distinct rest = subst (λ name. AreApart name (option_and_then f (find other dds))) (sym e) tt
    by true false a b (Some its) e distinct rest =
        subst (λ name. AreApart name (option_and_then f (find other dds))) (sym e)
        (apart_from_found f other dds its (not-true _ (and-first (not (is_among (filter_map f dds) its)) _ distinct)))
    by false true a b None e distinct rest = subst (AreApart (option_and_then f (find one dds))) (sym e) (none_apart _)
    by false true a b (Some its) e distinct rest =
        subst (AreApart (option_and_then f (find one dds))) (sym e)
        (apart_back (Some its) (option_and_then f (find one dds)) (apart_from_found f one dds its (not-true _ (and-first (not (is_among (filter_map f dds) its)) _ distinct))))
    by false false a b None e distinct rest = rest distinct
    by false false a b (Some its) e distinct rest = rest (and-second (not (is_among (filter_map f dds) its)) _ distinct)

-- the first item of those that pass passes
first_passes : (test : Name → Bool) (names : List Name) (name : Name) → slice_get (filter test names) 0 ≡ Some name → test name ≡ true
first_passes test [] name at = absurd (some-not-none name (sym at))
first_passes test (first ∷ rest) name at =
    by (test first) refl at (λ others. first_passes test rest name others)
  where
    by : (passes : Bool) → test first ≡ passes → slice_get (cond passes (first ∷ filter test rest) (filter test rest)) 0 ≡ Some name → (slice_get (filter test rest) 0 ≡ Some name → test name ≡ true) → test name ≡ true
    by true e at rest = ap test (sym (same_Some first name at)) ∙ e
    by false e at rest = rest at

pub outputs_apart : (start : StepStart) → are_distinct (names_of start.root start.owned) ≡ true → AreApart (output_name start Main) (output_name start Rejects)
unfolding output_name
outputs_apart start distinct = by (slice_get (main_names start.owned.step.program) 0) refl
  where
    by : (main : Option Name) → slice_get (main_names start.owned.step.program) 0 ≡ main → AreApart (option_and_then (set_name start) main) (set_name start rejects_dd)
    by None e = tt
    by (Some main) e =
        found_apart (name_of start.root start.owned) (λ dd. same_name main dd.name) (λ dd. same_name rejects_dd dd.name) start.owned.step.dds
        (λ dd is.
        let same = eq_by_cmp_equiv nat_list_cmp_total in
        same.symm rejects_dd dd.name ∙ sym (same.congr main dd.name rejects_dd is) ∙ same.symm main rejects_dd
        ∙ not-true (same_name rejects_dd main) (first_passes (λ name. not (same_name rejects_dd name)) (names_written start.owned.step.program) main e)) distinct

-- ---- the writes

entry_at-tied : (name other : Name) (library : Library) → same_name name other ≡ true → entry_at library name ≡ entry_at library other
entry_at-tied name other [] tied = refl
entry_at-tied name other (entry ∷ rest) tied =
    ap (λ b. cond b (Some entry.1) (entry_at rest name)) ((eq_by_cmp_equiv nat_list_cmp_total).congr name other entry.0 tied)
    ∙ ap (cond (same_name other entry.0) (Some entry.1)) (entry_at-tied name other rest tied)

entry_at-put : (name other : Name) (set : LibrarySet) (library : Library) → entry_at (with_entry name set library) other ≡ cond (same_name other name) (Some set) (entry_at library other)
entry_at-put name other set library = find-put name_cmp nat_list_cmp_total other name set library

-- the room that is counted is there
record HasRoom (own other : Option Name) (mine theirs : ℕ) (library : Library) : Type 0 where
  within : AreWithinSpace library
  own_room : mine ≤ room_in library own
  other_room : theirs ≤ room_in library other

turned : (own other : Option Name) (mine theirs : ℕ) (library : Library) → HasRoom own other mine theirs library → HasRoom other own theirs mine library
turned own other mine theirs library has = record { within = has.within; own_room = has.other_room; other_room = has.own_room }

put_apart : (name : Name) (other : Option Name) (set : LibrarySet) (library : Library) → AreApart (Some name) other → room_in (with_entry name set library) other ≡ room_in library other
put_apart name None set library apart = refl
put_apart name (Some other) set library apart =
    ap (λ entry. option_map_or room_of entry 0)
    (entry_at-put name other set library ∙ ap (λ b. cond b (Some set) (entry_at library other)) ((eq_by_cmp_equiv nat_list_cmp_total).symm other name ∙ apart))

put_own : (name : Name) (set : LibrarySet) (library : Library) → room_in (with_entry name set library) (Some name) ≡ room_of set
put_own name set library =
    ap (λ entry. option_map_or room_of entry 0)
    (entry_at-put name name set library ∙ ap (λ b. cond b (Some set) (entry_at library name)) (ap is_eq (tied_itself nat_list_cmp_total name)))

longer : (records : List (List ℕ)) (image : List ℕ) → length (records ++ image ∷ []) ≡ length records + 1
longer records image = length-append records (image ∷ [])

-- a record more takes one of the room
extends : (own other : Option Name) (mine theirs : ℕ) (image : List ℕ) (library : Library) → AreApart own other → HasRoom own other (suc mine) theirs library → HasRoom own other mine theirs (changed_in own (extended image) library)
extends None other mine theirs image library apart has =
    let none : suc mine ≤ 0 = has.own_room in absurd (omega (arith, none))
extends (Some name) other mine theirs image library apart has = by (entry_at library name) refl
  where
    by : (entry : Option LibrarySet) → entry_at library name ≡ entry → HasRoom (Some name) other mine theirs (with_change name (extended image) library entry)
    by None e =
        let none : suc mine ≤ 0 = subst (λ room. suc mine ≤ room) (ap (λ entry. option_map_or room_of entry 0) e) has.own_room in absurd (omega (arith, none))
    by (Some set) e =
        let room : suc mine ≤ set.space - length set.records = subst (λ room. suc mine ≤ room) (ap (λ entry. option_map_or room_of entry 0) e) has.own_room in
        let more : length (set.records ++ fitted set.lrecl image ∷ []) ≡ length set.records + 1 = longer set.records (fitted set.lrecl image) in
        record {
          within = each-with_entry IsWithinSpace name (extended image set) library (omega (arith, room, more)) has.within;
          own_room =
              let left : mine ≤ set.space - length (set.records ++ fitted set.lrecl image ∷ []) = omega (arith, room, more) in
              subst (λ r. mine ≤ r) (sym (put_own name (extended image set) library)) left;
          other_room = subst (λ r. theirs ≤ r) (sym (put_apart name other (extended image set) library apart)) has.other_room;
        }

-- a rewrite takes none
rewritten_room : (owner step place : ℕ) (image : List ℕ) (set : LibrarySet) → length (rewritten owner step place image set).records ≡ length set.records
rewritten_room owner step place image set = length-set set.records place (fitted set.lrecl image)

room_in-rewritten : (changed : Option Name) (owner step place : ℕ) (image : List ℕ) (library : Library) (name : Option Name) → room_in (changed_in changed (rewritten owner step place image) library) name ≡ room_in library name
room_in-rewritten None owner step place image library name = refl
room_in-rewritten (Some changed) owner step place image library None = refl
room_in-rewritten (Some changed) owner step place image library (Some name) = by (entry_at library changed) refl
  where
    tied : (set : LibrarySet) → entry_at library changed ≡ Some set → (b : Bool) → same_name name changed ≡ b → option_map_or room_of (cond b (Some (rewritten owner step place image set)) (entry_at library name)) 0 ≡ option_map_or room_of (entry_at library name) 0
    tied set e true same =
        ap (λ count. set.space - count) (rewritten_room owner step place image set)
        ∙ sym (ap (λ entry. option_map_or room_of entry 0) (entry_at-tied name changed library same ∙ e))
    tied set e false apart = refl

    by : (entry : Option LibrarySet) → entry_at library changed ≡ entry → room_in (with_change changed (rewritten owner step place image) library entry) (Some name) ≡ room_in library (Some name)
    by None e = refl
    by (Some set) e =
        ap (λ entry. option_map_or room_of entry 0) (entry_at-put changed name (rewritten owner step place image set) library)
        ∙ tied set e (same_name name changed) refl

rewrites_within : (changed : Option Name) (owner step place : ℕ) (image : List ℕ) (library : Library) → AreWithinSpace library → AreWithinSpace (changed_in changed (rewritten owner step place image) library)
rewrites_within None owner step place image library within = within
rewrites_within (Some name) owner step place image library within =
    each-with_changed IsWithinSpace name (rewritten owner step place image) library
    (λ set inside. let e : length (rewritten owner step place image set).records ≡ length set.records = rewritten_room owner step place image set in
    subst (λ count. count ≤ set.space) (sym e) inside) within

as_much : (count : ℕ) → count ≤ count
as_much count = omega arith

module _ (start : StepStart) (distinct : are_distinct (names_of start.root start.owned) ≡ true) where
  abbrev Roomy : OutputRoom → Library → Type 0
  Roomy room library = HasRoom (output_name start Main) (output_name start Rejects) room.main room.rejects library

  apart : AreApart (output_name start Main) (output_name start Rejects)
  apart = outputs_apart start distinct

  one_write : (output : Output) (image : List ℕ) (room left : OutputRoom) (library : Library) → Roomy room library → room_behind output room ≡ Some left → Roomy left (changed_in (output_name start output) (written_set start output image) library)
  one_write Main image room left library has e = by room.main refl e
    where
      by : (main : ℕ) → room.main ≡ main → less_main main room.rejects ≡ Some left → Roomy left (changed_in (output_name start Main) (extended image) library)
      by zero same e = absurd (some-not-none left (sym e))
      by (suc main) same e =
          subst (λ after. Roomy after (changed_in (output_name start Main) (extended image) library)) (same_Some (record { main = main; rejects = room.rejects }) left e)
          (extends (output_name start Main) (output_name start Rejects) main room.rejects image library apart
          (subst (λ count. HasRoom (output_name start Main) (output_name start Rejects) count room.rejects library) same has))
  one_write Rejects image room left library has e = by room.rejects refl e
    where
      by : (rejects : ℕ) → room.rejects ≡ rejects → less_rejects room.main rejects ≡ Some left → Roomy left (changed_in (output_name start Rejects) (extended image) library)
      by zero same e = absurd (some-not-none left (sym e))
      by (suc rejects) same e =
          subst (λ after. Roomy after (changed_in (output_name start Rejects) (extended image) library)) (same_Some (record { main = room.main; rejects = rejects }) left e)
          (turned (output_name start Rejects) (output_name start Main) rejects room.main (changed_in (output_name start Rejects) (extended image) library)
          (extends (output_name start Rejects) (output_name start Main) rejects room.main image library (apart_back (output_name start Main) (output_name start Rejects) apart)
          (turned (output_name start Main) (output_name start Rejects) room.main (suc rejects) library
          (subst (λ count. HasRoom (output_name start Main) (output_name start Rejects) room.main count library) same has))))
  one_write (InPlace place) image room left library has e =
      subst (λ after. Roomy after (changed_in (output_name start (InPlace place)) (rewritten start.owned.owner start.number place image) library)) (same_Some room left e)
      (record {
        within = rewrites_within (output_name start (InPlace place)) start.owned.owner start.number place image library has.within;
        own_room = subst (λ r. room.main ≤ r) (sym (room_in-rewritten (output_name start (InPlace place)) start.owned.owner start.number place image library (output_name start Main))) has.own_room;
        other_room = subst (λ r. room.rejects ≤ r) (sym (room_in-rewritten (output_name start (InPlace place)) start.owned.owner start.number place image library (output_name start Rejects))) has.other_room;
      })

  written_one_roomy : (write : Write) (room left : OutputRoom) (library : Library) → Roomy room library → room_behind write.output room ≡ Some left → Roomy left (written_one start write library)
  unfolding written_one
  written_one_roomy write room left library has e = one_write write.output write.image room left library has e

  written_within : (count : ℕ) (writes : List Write) (room : OutputRoom) (library : Library) → Roomy room library → AreWithinSpace (written_all start (take count (fitting writes room)) library)
  written_within zero writes room library has = has.within
  written_within (suc count) [] room library has = has.within
  written_within (suc count) (write ∷ writes) room library has =
      by (room_behind write.output room) refl (λ left e. written_within count writes left (written_one start write library) (written_one_roomy write room left library has e))
    where
      by : (behind : Option OutputRoom) → room_behind write.output room ≡ behind → ((left : OutputRoom) → room_behind write.output room ≡ Some left → AreWithinSpace (written_all start (take count (fitting writes left)) (written_one start write library))) → AreWithinSpace (written_all start (take (suc count) (option_map_or (λ left. write ∷ fitting writes left) behind [])) library)
      by None e rest = has.within
      by (Some left) e rest = rest left e

  pub within_at-within : (writes : ℕ) → AreWithinSpace start.standing.sets → AreWithinSpace (within_at start writes)
  unfolding within_at work_at work_within room_at
  within_at-within writes within =
      written_within writes (work (case_at start)).writes (room_at start) (made_at start)
      (record { within = made_at-within start within; own_room = as_much _; other_room = as_much _ })

-- ---- the dispositions

sets_after-within : (after : After) (name : Name) (library : Library) → AreWithinSpace library → AreWithinSpace (sets_after record_ways after name library)
sets_after-within Delete name library within = each-without_entry IsWithinSpace name library within
sets_after-within Keep name library within = within
sets_after-within Pass name library within = within
sets_after-within Catlg name library within = each-with_changed IsWithinSpace name (record_ways.marked true) library (λ set inside. inside) within
sets_after-within Uncatlg name library within = each-with_changed IsWithinSpace name (record_ways.marked false) library (λ set inside. inside) within

disposed_all-within : (disposals : List Disposal) (standing : Stock LibrarySet) → AreWithinSpace standing.sets → AreWithinSpace (disposed_all record_ways disposals standing).sets
disposed_all-within [] standing within = within
disposed_all-within (disposal ∷ rest) standing within =
    disposed_all-within rest (disposed_one record_ways disposal standing) (sets_after-within disposal.after disposal.name standing.sets within)

pub disposed_at-within : (start : StepStart) (abnormal : Bool) (library : Library) → AreWithinSpace library → AreWithinSpace (disposed_at start abnormal library).sets
unfolding disposed_at
disposed_at-within start abnormal library within =
    disposed_all-within (disposals_of start.earlier abnormal (placed_at start)) (record { sets = library; passed = start.standing.passed }) within

-- ---- a job

-- each step's names differ
abbrev HasDistinct : ℕ → OwnedStep → Type 0
HasDistinct root owned = are_distinct (names_of root owned) ≡ true

each_distinct : (root : ℕ) (steps : List OwnedStep) → list_all (λ owned. are_distinct (names_of root owned)) steps ≡ true → EachFine IsWithinSpace HasDistinct (λ start fine. opened_at-within start) (λ start fine. within_at-within start fine) disposed_at-within root steps
each_distinct root [] distinct = tt
each_distinct root (owned ∷ rest) distinct = (
  and-first (are_distinct (names_of root owned)) _ distinct,
  each_distinct root rest (and-second (are_distinct (names_of root owned)) _ distinct),
)

pub at-within : (job : Effective) (library : Library) (place : Place) → HasDistinctNames job → AreWithinSpace library → AreWithinSpace (at job library place).sets
at-within job library place distinct within =
    at_holds IsWithinSpace HasDistinct (λ start fine. opened_at-within start) (λ start fine. within_at-within start fine) disposed_at-within job library (each_distinct job.root job.steps distinct) within place

pub job_run-within : (job : Effective) (library : Library) (cut : Option Place) → HasDistinctNames job → AreWithinSpace library → AreWithinSpace (job_run job library cut)
job_run-within job library cut distinct within =
    job_run_holds IsWithinSpace HasDistinct (λ start fine. opened_at-within start) (λ start fine. within_at-within start fine) disposed_at-within job library (each_distinct job.root job.steps distinct) within cut
