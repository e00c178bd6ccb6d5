-- What a step does with the data sets of its names depends on these alone.
use Rattle.std.proofs.Common.{◌≡◌, ℕ, suc, Bool, true, false, not, cond, List, [], ◌∷◌, map, take, Option, Some, None, refl, ap, sym, subst, ◌∙◌}
use Rattle.std.specs.Prelude.{option_and_then, slice_get}
use Rattle.std.specs.List.{find, filter_map, cons_option}
use Rattle.std.specs.Option.{option_map, option_map_or}
use Rattle.std.specs.Ordering.{is_eq}
use Rattle.std.specs.Cmp.Lexicographic.{nat_list_cmp_total}
use Rattle.std.specs.Cmp.{alike_right}
use Rattle.std.specs.FinMap.Entries.{find-put, find-where_key}
use Rattle.ckr_base.specs.declared.programs.Output.{Output}
use Rattle.ckr_base.specs.declared.programs.Output.TheVariants.{Main, Rejects}
use Rattle.ckr_base.specs.declared.programs.Write.{Write}
use Rattle.ckr_jcl.specs.declared.deck.After.{After}
use Rattle.ckr_jcl.specs.declared.deck.After.TheVariants.{Delete, Keep, Pass, Catlg, Uncatlg}
use Rattle.ckr_jcl.specs.declared.deck.Dd.{Dd}
use Rattle.ckr_jcl.specs.declared.deck.Origin.{Origin}
use Rattle.ckr_jcl.specs.declared.deck.Origin.TheVariants.{InStream, Named as NamedOrigin, Temporary, Unnamed, Sysout, Dummy}
use Rattle.ckr_library.specs.declared.sets.Stamp.{Stamp}
use Rattle.ckr_library.specs.NameMaps.{Name, name_cmp, same_name, entry_at, with_entry, without_entry, with_change, with_changed}
use Rattle.ckr_entry.specs.declared.point.Passed.{Passed}
use Rattle.ckr_programs.specs.Work.{Work}
use Rattle.ckr_meaning.specs.LibrarySet.{LibrarySet, Library, record_ways}
use Rattle.ckr_meaning.specs.Allotments.{AllotmentModel, found, made, refused, DdAllotment, allotment_of, is_passed, opened_by, opened_one, opened_all, is_output}
use Rattle.ckr_meaning.specs.Dispositions.{Disposal, Stock, sets_after, passed_after, disposed_one, disposed_all}
use Rattle.ckr_meaning.specs.EffectiveJob.{OwnedStep, name_of, names_of, flaws_in, placed_one, placed_from, disposals_of}
use Rattle.ckr_meaning.specs.Program.{work, work_within}
use Rattle.ckr_meaning.specs.StepRun.{StepStart, placed_at, stamp_at, opened_at, fresh_set, made_one, made_all, made_at, dd_named, set_name, set_records, records_of_origin, records_in, input_names, input_at, case_at, output_dd, output_name, room_of, room_in, room_at, written_set, changed_in, written_one, written_all, work_at, within_at, disposed_at, end_by, end_at}
use Rattle.ckr_meaning.specs.JobRun.{with_sets}

-- the same step on another library
abbrev pub start_on : Library → StepStart → StepStart
start_on library start = record start { standing = with_sets library start.standing }

module _ (P : Name → Type 0) where
  -- two libraries agree on the names that are looked at
  abbrev pub Same : Library → Library → Type 0
  Same first second = (name : Name) → P name → entry_at first name ≡ entry_at second name

  -- each of these names is looked at
  abbrev pub Each : List Name → Type 0
  Each [] = Unit {0}
  Each (name ∷ names) = P name × Each names

  same-with_entry : (name : Name) (set : LibrarySet) (first second : Library) → Same first second → Same (with_entry name set first) (with_entry name set second)
  same-with_entry name set first second same other looked =
      find-put name_cmp nat_list_cmp_total other name set first
      ∙ ap (cond (same_name other name) (Some set)) (same other looked)
      ∙ sym (find-put name_cmp nat_list_cmp_total other name set second)

  pub same-without_entry : (name : Name) (first second : Library) → Same first second → Same (without_entry name first) (without_entry name second)
  same-without_entry name first second same other looked =
      gone first ∙ ap (λ entry. cond (not (same_name name other)) entry None) (same other looked) ∙ sym (gone second)
    where
      gone : (library : Library) → entry_at (without_entry name library) other ≡ cond (not (same_name name other)) (entry_at library other) None
      gone library =
          find-where_key name_cmp (λ x. not (same_name name x)) other (λ x tied. ap (λ r. not (is_eq r)) (sym (alike_right nat_list_cmp_total other x name tied))) library

  same-with_change : (name : Name) (change : LibrarySet → LibrarySet) (first second : Library) (entry : Option LibrarySet) → Same first second → Same (with_change name change first entry) (with_change name change second entry)
  same-with_change name change first second None same = same
  same-with_change name change first second (Some set) same = same-with_entry name (change set) first second same

  same-with_changed : (name : Name) (change : LibrarySet → LibrarySet) (first second : Library) → P name → Same first second → Same (with_changed name change first) (with_changed name change second)
  same-with_changed name change first second named same other looked =
      same-with_change name change first second (entry_at first name) same other looked
      ∙ ap (λ entry. entry_at (with_change name change second entry) other) (same name named)

  -- ---- what a step allocates

  abbrev names_in : List DdAllotment → List Name
  names_in placed = map (λ one. one.name) placed

  same-placed : (root : ℕ) (owned : OwnedStep) (passed : List Passed) (first second : Library) → Same first second → (number : ℕ) (dds : List Dd) → Each (filter_map (name_of root owned) dds) → placed_from record_ways (record { sets = first; passed = passed }) root owned number dds ≡ placed_from record_ways (record { sets = second; passed = passed }) root owned number dds
  same-placed root owned passed first second same number [] named = refl
  same-placed root owned passed first second same number (dd ∷ dds) named =
      by (name_of root owned dd) named (λ others. same-placed root owned passed first second same (suc number) dds others)
    where
      by : (name : Option Name) → Each (cons_option name (filter_map (name_of root owned) dds)) → (Each (filter_map (name_of root owned) dds) → placed_from record_ways (record { sets = first; passed = passed }) root owned (suc number) dds ≡ placed_from record_ways (record { sets = second; passed = passed }) root owned (suc number) dds) → cons_option (option_map (placed_one record_ways (record { sets = first; passed = passed }) number dd) name) (placed_from record_ways (record { sets = first; passed = passed }) root owned (suc number) dds) ≡ cons_option (option_map (placed_one record_ways (record { sets = second; passed = passed }) number dd) name) (placed_from record_ways (record { sets = second; passed = passed }) root owned (suc number) dds)
      by None named rest = rest named
      by (Some name) named rest =
          ap (λ one. one ∷ placed_from record_ways (record { sets = first; passed = passed }) root owned (suc number) dds)
          (ap (λ entry. record { dd = dd; number = number; name = name; allotment = allotment_of dd (is_passed passed name) (option_map record_ways.known entry) }) (same name named.0))
          ∙ ap (λ others. placed_one record_ways (record { sets = second; passed = passed }) number dd name ∷ others) (rest named.1)

  each_in_placed : (root : ℕ) (owned : OwnedStep) (standing : Stock LibrarySet) (number : ℕ) (dds : List Dd) → Each (filter_map (name_of root owned) dds) → Each (names_in (placed_from record_ways standing root owned number dds))
  each_in_placed root owned standing number [] named = tt
  each_in_placed root owned standing number (dd ∷ dds) named =
      by (name_of root owned dd) named (λ others. each_in_placed root owned standing (suc number) dds others)
    where
      by : (name : Option Name) → Each (cons_option name (filter_map (name_of root owned) dds)) → (Each (filter_map (name_of root owned) dds) → Each (names_in (placed_from record_ways standing root owned (suc number) dds))) → Each (names_in (cons_option (option_map (placed_one record_ways standing number dd) name) (placed_from record_ways standing root owned (suc number) dds)))
      by None named rest = rest named
      by (Some name) named rest = (named.0, rest named.1)

  same-opened_one : (stamp : Stamp) (placed : DdAllotment) (allotment : AllotmentModel) (output : Bool) (first second : Library) → P placed.name → Same first second → Same (opened_one record_ways stamp placed allotment output first) (opened_one record_ways stamp placed allotment output second)
  same-opened_one stamp placed found true first second named same =
      same-with_changed placed.name (opened_by record_ways stamp placed.dd.disp.status) first second named same
  same-opened_one stamp placed found false first second named same = same
  same-opened_one stamp placed made output first second named same = same
  same-opened_one stamp placed (refused flaw) output first second named same = same

  same-opened_all : (stamp : Stamp) (all : List DdAllotment) (first second : Library) → Each (names_in all) → Same first second → Same (opened_all record_ways stamp all first) (opened_all record_ways stamp all second)
  same-opened_all stamp [] first second named same = same
  same-opened_all stamp (placed ∷ rest) first second named same =
      same-opened_all stamp rest _ _ named.1 (same-opened_one stamp placed placed.allotment (is_output placed.dd.role) first second named.0 same)

  same-made_one : (stamp : Stamp) (placed : DdAllotment) (allotment : AllotmentModel) (first second : Library) → Same first second → Same (made_one stamp placed allotment first) (made_one stamp placed allotment second)
  same-made_one stamp placed found first second same = same
  same-made_one stamp placed made first second same = same-with_entry placed.name (fresh_set stamp placed.dd) first second same
  same-made_one stamp placed (refused flaw) first second same = same

  same-made_all : (stamp : Stamp) (all : List DdAllotment) (first second : Library) → Same first second → Same (made_all stamp all first) (made_all stamp all second)
  same-made_all stamp [] first second same = same
  same-made_all stamp (placed ∷ rest) first second same =
      same-made_all stamp rest _ _ (same-made_one stamp placed placed.allotment first second same)

  -- ---- what a step reads and writes

  -- a DD that is found by its name has a name that is looked at
  abbrev Looked : Option Name → Type 0
  Looked None = Unit {0}
  Looked (Some name) = P name

  found_looked : (f : Dd → Option Name) (test : Dd → Bool) (dds : List Dd) → Each (filter_map f dds) → Looked (option_and_then f (find test dds))
  found_looked f test [] named = tt
  found_looked f test (dd ∷ dds) named = by (test dd) (f dd) refl named (λ others. found_looked f test dds others)
    where
      by : (passes : Bool) (its : Option Name) → f dd ≡ its → Each (cons_option its (filter_map f dds)) → (Each (filter_map f dds) → Looked (option_and_then f (find test dds))) → Looked (option_and_then f (cond passes (Some dd) (find test dds)))
      by true None e named rest = subst Looked (sym e) tt
      by true (Some name) e named rest = subst Looked (sym e) named.0
      by false None e named rest = rest named
      by false (Some name) e named rest = rest named.1

  same-entry : (name : Option Name) (first second : Library) → Looked name → Same first second → option_and_then (entry_at first) name ≡ option_and_then (entry_at second) name
  same-entry None first second looked same = refl
  same-entry (Some name) first second looked same = same name looked

  same-records_of : (origin : Origin) (name : Option Name) (first second : Library) → Looked name → Same first second → records_of_origin first origin name ≡ records_of_origin second origin name
  same-records_of (InStream cards) name first second looked same = refl
  same-records_of (NamedOrigin text) name first second looked same = ap (λ entry. option_map_or set_records entry []) (same-entry name first second looked same)
  same-records_of (Temporary text) name first second looked same = ap (λ entry. option_map_or set_records entry []) (same-entry name first second looked same)
  same-records_of Unnamed name first second looked same = ap (λ entry. option_map_or set_records entry []) (same-entry name first second looked same)
  same-records_of Sysout name first second looked same = ap (λ entry. option_map_or set_records entry []) (same-entry name first second looked same)
  same-records_of Dummy name first second looked same = ap (λ entry. option_map_or set_records entry []) (same-entry name first second looked same)

  same-records_in : (start : StepStart) (dd : Option Dd) (first second : Library) → Looked (option_and_then (name_of start.root start.owned) dd) → Same first second → option_map_or (records_in start first) dd [] ≡ option_map_or (records_in start second) dd []
  same-records_in start None first second looked same = refl
  same-records_in start (Some dd) first second looked same = same-records_of dd.origin (name_of start.root start.owned dd) first second looked same

  same-input : (start : StepStart) (first second : Library) (place : ℕ) → Each (names_of start.root start.owned) → Same first second → input_at start first place ≡ input_at start second place
  same-input start first second place named same = by (slice_get (input_names start.owned.step.program) place)
    where
      by : (dd : Option Name) → option_map_or (records_in start first) (option_and_then (dd_named start.owned) dd) [] ≡ option_map_or (records_in start second) (option_and_then (dd_named start.owned) dd) []
      by None = refl
      by (Some dd) =
          same-records_in start (dd_named start.owned dd) first second (found_looked (name_of start.root start.owned) (λ one. same_name dd one.name) start.owned.step.dds named) same

  output_looked : (start : StepStart) (output : Output) → Each (names_of start.root start.owned) → Looked (output_name start output)
  unfolding output_name
  output_looked start output named = by (output_dd start.owned.step.program output)
    where
      by : (dd : Option Name) → Looked (option_and_then (set_name start) dd)
      by None = tt
      by (Some dd) = found_looked (name_of start.root start.owned) (λ one. same_name dd one.name) start.owned.step.dds named

  -- one step on two libraries
  module _ (start : StepStart) (other : Library) (named : Each (names_of start.root start.owned)) (same : Same start.standing.sets other) where
    abbrev there : StepStart
    there = start_on other start

    pub placed_there : placed_at start ≡ placed_at there
    unfolding placed_at
    placed_there = same-placed start.root start.owned start.standing.passed start.standing.sets other same 1 start.owned.step.dds named

    placed_named : Each (names_in (placed_at start))
    unfolding placed_at
    placed_named = each_in_placed start.root start.owned start.standing 1 start.owned.step.dds named

    pub opened_there : Same (opened_at start) (opened_at there)
    unfolding opened_at
    opened_there name looked =
        same-opened_all (stamp_at start) (placed_at start) start.standing.sets other placed_named same name looked
        ∙ ap (λ all. entry_at (opened_all record_ways (stamp_at start) all other) name) placed_there

    made_there : Same (made_at start) (made_at there)
    unfolding made_at
    made_there name looked =
        same-made_all (stamp_at start) (placed_at start) (opened_at start) (opened_at there) opened_there name looked
        ∙ ap (λ all. entry_at (made_all (stamp_at start) all (opened_at there)) name) placed_there

    pub case_there : case_at start ≡ case_at there
    unfolding case_at
    case_there =
        ap (λ first. record { program = start.owned.step.program; parm = start.owned.step.parm; first = first; second = input_at start (made_at start) 1 })
        (same-input start (made_at start) (made_at there) 0 named made_there)
        ∙ ap (λ second. record { program = start.owned.step.program; parm = start.owned.step.parm; first = input_at start (made_at there) 0; second = second })
        (same-input start (made_at start) (made_at there) 1 named made_there)

    output_there : (output : Output) → output_name start output ≡ output_name there output
    unfolding output_name
    output_there output = refl

    room_on : (output : Output) → room_in (made_at start) (output_name start output) ≡ room_in (made_at there) (output_name there output)
    room_on output =
        ap (λ entry. option_map_or room_of entry 0) (same-entry (output_name start output) (made_at start) (made_at there) (output_looked start output named) made_there)
        ∙ ap (room_in (made_at there)) (output_there output)

    room_there : room_at start ≡ room_at there
    unfolding room_at
    room_there =
        ap (λ main. record { main = main; rejects = room_in (made_at start) (output_name start Rejects) }) (room_on Main)
        ∙ ap (λ rejects. record { main = room_in (made_at there) (output_name there Main); rejects = rejects }) (room_on Rejects)

    pub work_there : work_at start ≡ work_at there
    unfolding work_at
    work_there = ap (λ room. work_within room (work (case_at start))) room_there ∙ ap (λ case. work_within (room_at there) (work case)) case_there

    changed_there : (name : Option Name) (change : LibrarySet → LibrarySet) (first second : Library) → Looked name → Same first second → Same (changed_in name change first) (changed_in name change second)
    changed_there None change first second looked same = same
    changed_there (Some name) change first second looked same = same-with_changed name change first second looked same

    written_one_there : (write : Write) (first second : Library) → Same first second → Same (written_one start write first) (written_one there write second)
    unfolding written_one output_name
    written_one_there write first second same =
        changed_there (output_name start write.output) (written_set start write.output write.image) first second (output_looked start write.output named) same

    written_there : (writes : List Write) (first second : Library) → Same first second → Same (written_all start writes first) (written_all there writes second)
    written_there [] first second same = same
    written_there (write ∷ writes) first second same = written_there writes _ _ (written_one_there write first second same)

    pub within_there : (writes : ℕ) → Same (within_at start writes) (within_at there writes)
    unfolding within_at
    within_there writes name looked =
        written_there (take writes (work_at start).writes) (made_at start) (made_at there) made_there name looked
        ∙ ap (λ (all : Work). entry_at (written_all there (take writes all.writes) (made_at there)) name) work_there

    pub end_there : end_at start ≡ end_at there
    unfolding end_at
    end_there =
        ap (λ all. end_by (flaws_in all) (work_at start).finish) placed_there
        ∙ ap (λ (all : Work). end_by (flaws_in (placed_at there)) all.finish) work_there

  -- ---- dispositions

  same-sets_after : (after : After) (name : Name) (first second : Library) → P name → Same first second → Same (sets_after record_ways after name first) (sets_after record_ways after name second)
  same-sets_after Delete name first second named same = same-without_entry name first second same
  same-sets_after Keep name first second named same = same
  same-sets_after Pass name first second named same = same
  same-sets_after Catlg name first second named same = same-with_changed name (record_ways.marked true) first second named same
  same-sets_after Uncatlg name first second named same = same-with_changed name (record_ways.marked false) first second named same

  abbrev disposed_names : List Disposal → List Name
  disposed_names disposals = map (λ one. one.name) disposals

  same-disposed : (disposals : List Disposal) (first second : Stock LibrarySet) → Each (disposed_names disposals) → Same first.sets second.sets → Same (disposed_all record_ways disposals first).sets (disposed_all record_ways disposals second).sets
  same-disposed [] first second named same = same
  same-disposed (disposal ∷ rest) first second named same =
      same-disposed rest (disposed_one record_ways disposal first) (disposed_one record_ways disposal second) named.1
      (same-sets_after disposal.after disposal.name first.sets second.sets named.0 same)

  same-passed : (disposals : List Disposal) (first second : Stock LibrarySet) → first.passed ≡ second.passed → (disposed_all record_ways disposals first).passed ≡ (disposed_all record_ways disposals second).passed
  same-passed [] first second same = same
  same-passed (disposal ∷ rest) first second same =
      same-passed rest (disposed_one record_ways disposal first) (disposed_one record_ways disposal second)
      (ap (passed_after disposal.after disposal.name disposal.made) same)

  each_disposed : (earlier : List Name) (abnormal : Bool) (placed : List DdAllotment) → Each (names_in placed) → Each (disposed_names (disposals_of earlier abnormal placed))
  each_disposed earlier abnormal [] named = tt
  each_disposed earlier abnormal (one ∷ rest) named = (named.0, each_disposed earlier abnormal rest named.1)

  module _ (start : StepStart) (other : Library) (named : Each (names_of start.root start.owned)) (same : Same start.standing.sets other) where
    pub disposed_there : (abnormal : Bool) (first second : Library) → Same first second → Same (disposed_at start abnormal first).sets (disposed_at (start_on other start) abnormal second).sets
    unfolding disposed_at
    disposed_there abnormal first second agree name looked =
        same-disposed (disposals_of start.earlier abnormal (placed_at start)) (record { sets = first; passed = start.standing.passed }) (record { sets = second; passed = start.standing.passed })
        (each_disposed start.earlier abnormal (placed_at start) (placed_named start other named same)) agree name looked
        ∙ ap (λ all. entry_at (disposed_all record_ways (disposals_of start.earlier abnormal all) (record { sets = second; passed = start.standing.passed })).sets name) (placed_there start other named same)

    pub passed_there : (abnormal : Bool) (first second : Library) → (disposed_at start abnormal first).passed ≡ (disposed_at (start_on other start) abnormal second).passed
    unfolding disposed_at
    passed_there abnormal first second =
        same-passed (disposals_of start.earlier abnormal (placed_at start)) (record { sets = first; passed = start.standing.passed }) (record { sets = second; passed = start.standing.passed }) refl
        ∙ ap (λ all. (disposed_all record_ways (disposals_of start.earlier abnormal all) (record { sets = second; passed = start.standing.passed })).passed) (placed_there start other named same)
