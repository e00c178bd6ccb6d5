-- The names of a step have data sets once the step's data sets are made, and each keeps its data set.
use Rattle.std.proofs.Common.{◌≡◌, ◌≤◌, Bool, true, false, cond, not, ◌&&◌, ◌||◌, ℕ, List, [], ◌∷◌, filter, map, length, refl, ap, sym, ◌∙◌, subst, Option, Some, None, arith, length-append}
use Rattle.std.specs.List.{list_all}
use Rattle.std.specs.Option.{is_none, is_some, option_map, option_map_or}
use Rattle.std.proofs.lemmas.Bool.{false≢true, not-true}
use Rattle.ckr_base.specs.declared.programs.Output.{Output}
use Rattle.ckr_base.specs.declared.programs.Output.TheVariants.{Main, Rejects, InPlace}
use Rattle.ckr_base.specs.declared.programs.Write.{Write}
use Rattle.ckr_base.proofs.Bools.{and-first, and-second, bool-cases}
use Rattle.ckr_base.specs.Columns.{fitted}
use Rattle.ckr_library.specs.NameMaps.{Name, same_name, entry_at, with_changed, with_entry}
use Rattle.ckr_library.proofs.Named.{at-with_changed, at-with_entry}
use Rattle.ckr_meaning.specs.LibrarySet.{Library, LibrarySet, record_ways}
use Rattle.ckr_meaning.specs.Allotments.{AllotmentModel, found, made, refused, DdAllotment, is_made, is_output, opened_all, opened_by, opened_one}
use Rattle.ckr_meaning.specs.EffectiveJob.{flaws_in, is_among, names_made, names_of}
use Rattle.ckr_meaning.specs.StepRun.{StepStart, changed_in, extended, fresh_set, made_all, made_at, made_one, opened_at, output_name, placed_at, set_records, stamp_at, written_all, written_one, written_set}
use Rattle.ckr_points.specs.Payload.{is_in_place, records_under}
use Rattle.ckr_points_invariant.proofs.StepEnd.Disposals.{names_made-placed}

-- ---- a name that has a data set

abbrev pub IsThere : Library → Name → Type 0
IsThere library name = is_some (entry_at library name) ≡ true

changed-there : (library : Library) (to name : Name) (change : LibrarySet → LibrarySet) → IsThere library name → IsThere (with_changed to change library) name
changed-there library to name change there =
    ap is_some (at-with_changed to name change library) ∙ by (same_name name to) (entry_at library name) there
  where
    by : (same : Bool) (entry : Option LibrarySet) → is_some entry ≡ true → is_some (cond same (option_map change entry) entry) ≡ true
    by true None there = absurd (false≢true there)
    by true (Some set) there = refl
    by false entry there = there

entry-there : (library : Library) (to name : Name) (set : LibrarySet) → IsThere library name → IsThere (with_entry to set library) name
entry-there library to name set there =
    ap is_some (at-with_entry to name set library) ∙ by (same_name name to) there
  where
    by : (same : Bool) → is_some (entry_at library name) ≡ true → is_some (cond same (Some set) (entry_at library name)) ≡ true
    by true there = refl
    by false there = there

module _ (start : StepStart) (name : Name) where
  opened_one-there : (placed : DdAllotment) (allotment : AllotmentModel) (output : Bool) (library : Library) → IsThere library name → IsThere (opened_one record_ways (stamp_at start) placed allotment output library) name
  opened_one-there placed found true library there = changed-there library placed.name name (opened_by record_ways (stamp_at start) placed.dd.disp.status) there
  opened_one-there placed found false library there = there
  opened_one-there placed made output library there = there
  opened_one-there placed (refused flaw) output library there = there

  opened_all-there : (all : List DdAllotment) (library : Library) → IsThere library name → IsThere (opened_all record_ways (stamp_at start) all library) name
  opened_all-there [] library there = there
  opened_all-there (placed ∷ rest) library there = opened_all-there rest _ (opened_one-there placed placed.allotment (is_output placed.dd.role) library there)

  made_one-there : (placed : DdAllotment) (allotment : AllotmentModel) (library : Library) → IsThere library name → IsThere (made_one (stamp_at start) placed allotment library) name
  made_one-there placed found library there = there
  made_one-there placed made library there = entry-there library placed.name name (fresh_set (stamp_at start) placed.dd) there
  made_one-there placed (refused flaw) library there = there

  made_all-there : (all : List DdAllotment) (library : Library) → IsThere library name → IsThere (made_all (stamp_at start) all library) name
  made_all-there [] library there = there
  made_all-there (placed ∷ rest) library there = made_all-there rest _ (made_one-there placed placed.allotment library there)

  made_one-made : (placed : DdAllotment) (allotment : AllotmentModel) (library : Library) → is_made allotment ≡ true → same_name name placed.name ≡ true → IsThere (made_one (stamp_at start) placed allotment library) name
  made_one-made placed found library makes same = absurd (false≢true makes)
  made_one-made placed made library makes same =
      ap is_some (at-with_entry placed.name name (fresh_set (stamp_at start) placed.dd) library)
      ∙ ap (λ b. is_some (cond b (Some (fresh_set (stamp_at start) placed.dd)) (entry_at library name))) same
  made_one-made placed (refused flaw) library makes same = absurd (false≢true makes)

  made_all-made : (all : List DdAllotment) (library : Library) → is_among (names_made all) name ≡ true → IsThere (made_all (stamp_at start) all library) name
  made_all-made [] library among = absurd (false≢true among)
  made_all-made (placed ∷ rest) library among =
      bool-cases (is_made placed.allotment)
      (λ makes.
      bool-cases (same_name name placed.name)
      (λ same. made_all-there rest _ (made_one-made placed placed.allotment library makes same))
      (λ apart. made_all-made rest _ (sym (parted ∙ ap (λ b. cond b (same_name name placed.name || is_among (names_made rest) name) (is_among (names_made rest) name)) makes ∙ ap (λ b. b || is_among (names_made rest) name) apart) ∙ among)))
      (λ isnt. made_all-made rest _ (sym (parted ∙ ap (λ b. cond b (same_name name placed.name || is_among (names_made rest) name) (is_among (names_made rest) name)) isnt) ∙ among))
    where
      parted : is_among (names_made (placed ∷ rest)) name ≡ cond (is_made placed.allotment) (same_name name placed.name || is_among (names_made rest) name) (is_among (names_made rest) name)
      parted =
          elim (is_made placed.allotment) as (λ b. is_among (map (λ (one : DdAllotment). one.name) (cond b (placed ∷ filter (λ one. is_made one.allotment) rest) (filter (λ one. is_made one.allotment) rest))) name ≡ cond b (same_name name placed.name || is_among (names_made rest) name) (is_among (names_made rest) name)) [
            | true ↦ refl
            | false ↦ refl
          ]

  -- a step that has no flaw has all its names
  pub made_at-there : flaws_in (placed_at start) ≡ [] → is_among (names_of start.root start.owned) name ≡ true → IsThere (made_at start) name
  unfolding made_at opened_at placed_at
  made_at-there flawless among =
      by (entry_at start.standing.sets name) refl
    where
      by : (entry : Option LibrarySet) → entry_at start.standing.sets name ≡ entry → IsThere (made_all (stamp_at start) (placed_at start) (opened_all record_ways (stamp_at start) (placed_at start) start.standing.sets)) name
      by None none =
          made_all-made (placed_at start) _
          (names_made-placed start.standing start.root start.owned 1 start.owned.step.dds name flawless
          ∙ ap (λ entry. is_none entry && is_among (names_of start.root start.owned) name) none ∙ among)
      by (Some set) some = made_all-there (placed_at start) _ (opened_all-there (placed_at start) start.standing.sets (ap is_some some))

  -- ---- writes

  changed_in-there : (to : Option Name) (change : LibrarySet → LibrarySet) (library : Library) → IsThere library name → IsThere (changed_in to change library) name
  changed_in-there None change library there = there
  changed_in-there (Some to) change library there = changed-there library to name change there

  written_one-there : (write : Write) (library : Library) → IsThere library name → IsThere (written_one start write library) name
  unfolding written_one
  written_one-there write library there = changed_in-there (output_name start write.output) (written_set start write.output write.image) library there

  -- no write removes it
  pub written_all-there : (writes : List Write) (library : Library) → IsThere library name → IsThere (written_all start writes library) name
  written_all-there [] library there = there
  written_all-there (write ∷ writes) library there = written_all-there writes _ (written_one-there write library there)

  -- ---- lengths

  abbrev pub count_in : Library → ℕ
  count_in library = length (records_under library name)

  extended-longer : (to : Option Name) (image : List ℕ) (library : Library) → count_in library ≤ count_in (changed_in to (extended image) library)
  extended-longer None image library = omega arith
  extended-longer (Some to) image library =
      subst (λ (entry : Option LibrarySet). count_in library ≤ length (option_map_or set_records entry [])) (sym (at-with_changed to name (extended image) library))
      (by (same_name name to) (entry_at library name))
    where
      by : (same : Bool) (entry : Option LibrarySet) → length (option_map_or set_records entry []) ≤ length (option_map_or set_records (cond same (option_map (extended image) entry) entry) [])
      by true None = omega arith
      by true (Some set) = omega (arith, length-append set.records (fitted set.lrecl image ∷ []))
      by false entry = omega arith

  written_one-longer : (output : Output) (image : List ℕ) (library : Library) → is_in_place output ≡ false → count_in library ≤ count_in (written_one start (record { output = output; image = image }) library)
  unfolding written_one
  written_one-longer Main image library kept = extended-longer (output_name start Main) image library
  written_one-longer Rejects image library kept = extended-longer (output_name start Rejects) image library
  written_one-longer (InPlace place) image library kept = absurd (false≢true (sym kept))

  -- writes that rewrite nothing leave it as long, or longer
  pub written_all-longer : (writes : List Write) (library : Library) → list_all (λ (write : Write). not (is_in_place write.output)) writes ≡ true → count_in library ≤ count_in (written_all start writes library)
  written_all-longer [] library kept = omega arith
  written_all-longer (write ∷ writes) library kept =
      let one : count_in library ≤ count_in (written_one start write library) = written_one-longer write.output write.image library (not-true (is_in_place write.output) (and-first (not (is_in_place write.output)) _ kept)) in
      let others : count_in (written_one start write library) ≤ count_in (written_all start writes (written_one start write library)) = written_all-longer writes (written_one start write library) (and-second (not (is_in_place write.output)) _ kept) in
      omega arith
