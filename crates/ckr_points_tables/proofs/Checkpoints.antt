-- What runs have written, and the data sets as they are seen, behind a checkpoint.
use Rattle.std.proofs.Common.{◌≡◌, ℕ, zero, suc, ◌&&◌, ◌==◌, Bool, true, false, not, cond, if◌then◌else◌, nat_eq, List, [], ◌∷◌, ◌++◌, map, find, slice_get, slice_set, refl, ap, sym, ◌∙◌, subst, Option, Some, None, T}
use Rattle.std.specs.declared.cmp.Ordering.{Ordering}
use Rattle.std.specs.declared.cmp.Ordering.TheVariants.{Less, Equal, Greater}
use Rattle.std.specs.Option.{is_none, option_map_or}
use Rattle.std.specs.List.{list_all}
use Rattle.std.specs.Ordering.{is_eq}
use Rattle.std.specs.Cmp.Lexicographic.{nat_list_cmp_total}
use Rattle.std.specs.FinMap.Entries.{is_sorted}
use Rattle.std.proofs.lemmas.Bool.{and_from, false≢true, not-true}
use Rattle.ckr_base.specs.RoomyLists.{Roomy}
use Rattle.ckr_base.proofs.Bools.{T-and-first, T-and-second, and-first, and-second}
use Rattle.ckr_base.proofs.Numbers.{nat_eq-false, nat_eq-true}
use Rattle.ckr_base.proofs.Sequences.{get-set-same}
use Rattle.ckr_library.specs.declared.sets.Kept.{Kept}
use Rattle.ckr_library.specs.Catalog.{Holding, with_kept}
use Rattle.ckr_library.specs.NameMaps.{Name, Named, entry_at, name_cmp, same_name}
use Rattle.ckr_library.proofs.Named.{name-turned}
use Rattle.ckr_library.proofs.OrderedLists.{find-tied}
use Rattle.ckr_points.specs.Rows.{KeptEntry}
use Rattle.ckr_points.specs.Tables.{kept_entry, with_kept_entry}
use Rattle.ckr_points_runs.specs.declared.run_table.WrittenEntry.{WrittenEntry}
use Rattle.ckr_points_runs.specs.View.{Writing, writing_of, written_of}
use Rattle.ckr_points_tables.specs.View.{Writings, find_last, is_entry, later_or, no_point, point_for, table_in, written_by}
pub use Rattle.ckr_points_runs.proofs.CheckpointNames.{checkpoint-named, role-named}
use Rattle.ckr_points_tables.proofs.NamedViews.{viewed, viewed-same}
use Rattle.ckr_points_tables.proofs.Runs.{get-other}
use Rattle.ckr_points_tables.proofs.SetViews.{find_last-behind}

-- ---- one more writing of a run

abbrev entries_in : Writings → Name → List Kept → List KeptEntry
entries_in writings name kept = map (λ one. kept_entry one (point_for writings name one)) kept

-- no entry that is kept has this identifier
abbrev pub IsUnkept : Name → Option Holding → Type 0
IsUnkept id None = Unit {0}
IsUnkept id (Some holding) = list_all (λ (one : Kept). not (same_name one.id id)) holding.kept ≡ true

pub unkept : (writings : Writings) (name id : Name) (kept : List Kept) → is_none (find (λ (entry : KeptEntry). same_name entry.kept.id id) (entries_in writings name kept)) ≡ true → list_all (λ (one : Kept). not (same_name one.id id)) kept ≡ true
unkept writings name id [] none = refl
unkept writings name id (one ∷ kept) none = by (same_name one.id id) refl none (unkept writings name id kept)
  where
    by : (same : Bool) → same_name one.id id ≡ same
        → is_none (cond same (Some (kept_entry one (point_for writings name one))) (find (λ (entry : KeptEntry). same_name entry.kept.id id) (entries_in writings name kept))) ≡ true
        → (is_none (find (λ (entry : KeptEntry). same_name entry.kept.id id) (entries_in writings name kept)) ≡ true → list_all (λ (other : Kept). not (same_name other.id id)) kept ≡ true)
        → list_all (λ (other : Kept). not (same_name other.id id)) (one ∷ kept) ≡ true
    by true same none later = absurd (false≢true none)
    by false same none later = and_from (not (same_name one.id id)) _ (ap not same) (later none)

map-behind : {A B : Type 0} (f : A → B) (items : List A) (item : A) → map f (items ++ item ∷ []) ≡ map f items ++ f item ∷ []
map-behind f [] item = refl
map-behind f (first ∷ items) item = ap (λ rest. f first ∷ rest) (map-behind f items item)

module _ (writings : Writings) (place : ℕ) (before : List Writing) (here : slice_get writings place ≡ Some before) (new : Writing) where
  abbrev pub after : Writings
  after = slice_set writings place (before ++ new ∷ [])

  now-there : written_by after (suc place) ≡ before ++ new ∷ []
  now-there = ap (λ found. option_map_or (λ (written : List Writing). written) found []) (get-set-same writings place (before ++ new ∷ []) before here)

  was-there : written_by writings (suc place) ≡ before
  was-there = ap (λ found. option_map_or (λ (written : List Writing). written) found []) here

  -- the last one of another entry is as it was
  find-other : (test : Writing → Bool) → test new ≡ false → (run : ℕ) → find_last test (written_by after run) ≡ find_last test (written_by writings run)
  find-other test e zero = refl
  find-other test e (suc other) = by (nat_eq other place) refl
    where
      by : (same : Bool) → nat_eq other place ≡ same → find_last test (written_by after (suc other)) ≡ find_last test (written_by writings (suc other))
      by true same =
          let is : other ≡ place = nat_eq-true other place same in
          ap (λ n. find_last test (written_by after (suc n))) is
          ∙ ap (find_last test) now-there ∙ find_last-behind test before new
          ∙ ap (λ b. later_or (if b then Some new else None) (find_last test before)) e
          ∙ ap (find_last test) (sym was-there) ∙ ap (λ n. find_last test (written_by writings (suc n))) (sym is)
      by false same =
          ap (λ found. find_last test (option_map_or (λ (written : List Writing). written) found [])) (get-other writings place other (before ++ new ∷ []) (nat_eq-false other place same))

  point-other : (name : Name) (kept : Kept) → is_entry name kept new ≡ false → point_for after name kept ≡ point_for writings name kept
  point-other name kept e = ap (λ found. option_map_or (λ (writing : Writing). writing.point) found no_point) (find-other (is_entry name kept) e kept.run)

  -- its own point is the new one
  point-here : (name : Name) (kept : Kept) → kept.run ≡ suc place → is_entry name kept new ≡ true → point_for after name kept ≡ new.point
  point-here name kept run e =
      ap (λ n. option_map_or (λ (writing : Writing). writing.point) (find_last (is_entry name kept) (written_by after n)) no_point) run
      ∙ ap (λ found. option_map_or (λ (writing : Writing). writing.point) found no_point)
      (ap (find_last (is_entry name kept)) now-there ∙ find_last-behind (is_entry name kept) before new ∙ ap (λ b. later_or (if b then Some new else None) (find_last (is_entry name kept) before)) e)

  -- the entries of another data set
  apart-name : (name : Name) → same_name new.set name ≡ false → (kept : List Kept) → entries_in after name kept ≡ entries_in writings name kept
  apart-name name other [] = refl
  apart-name name other (one ∷ kept) =
      ap (λ point. kept_entry one point ∷ entries_in after name kept) (point-other name one (ap (λ b. b && same_name new.id one.id && new.place == one.place) other))
      ∙ ap (λ rest. kept_entry one (point_for writings name one) ∷ rest) (apart-name name other kept)

  -- the entries of other identifiers
  apart-id : (name : Name) (kept : List Kept) → list_all (λ (one : Kept). not (same_name one.id new.id)) kept ≡ true → entries_in after name kept ≡ entries_in writings name kept
  apart-id name [] all = refl
  apart-id name (one ∷ kept) all =
      let other : same_name new.id one.id ≡ false = name-turned new.id one.id ∙ not-true (same_name one.id new.id) (and-first (not (same_name one.id new.id)) _ all) in
      ap (λ point. kept_entry one point ∷ entries_in after name kept) (point-other name one (ap (λ b. same_name new.set name && b && new.place == one.place) other ∙ none (same_name new.set name) (new.place == one.place)))
      ∙ ap (λ rest. kept_entry one (point_for writings name one) ∷ rest) (apart-id name kept (and-second (not (same_name one.id new.id)) _ all))
    where
      none : (a b : Bool) → (a && false && b) ≡ false
      none true b = refl
      none false b = refl

  -- the data sets are seen as they were, where the new entry isn't kept yet
  pub still-seen : (sets : Named Holding) → T (is_sorted name_cmp sets) → IsUnkept new.id (entry_at sets new.set) → viewed (table_in after) sets ≡ viewed (table_in writings) sets
  still-seen [] rise free = refl
  still-seen (entry ∷ rest) rise free = by (name_cmp new.set entry.0) refl free (still-seen rest (T-and-second _ _ rise))
    where
      both : entries_in after entry.0 entry.1.kept ≡ entries_in writings entry.0 entry.1.kept → viewed (table_in after) rest ≡ viewed (table_in writings) rest → viewed (table_in after) (entry ∷ rest) ≡ viewed (table_in writings) (entry ∷ rest)
      both first others =
          ap (λ entries. (entry.0, record { set = entry.1.set; entries = entries }) ∷ viewed (table_in after) rest) first
          ∙ ap (λ tail. (entry.0, table_in writings entry.0 entry.1) ∷ tail) others

      by : (r : Ordering) → name_cmp new.set entry.0 ≡ r → IsUnkept new.id (cond (is_eq r) (Some entry.1) (entry_at rest new.set))
          → (IsUnkept new.id (entry_at rest new.set) → viewed (table_in after) rest ≡ viewed (table_in writings) rest) → viewed (table_in after) (entry ∷ rest) ≡ viewed (table_in writings) (entry ∷ rest)
      by Less e free later = both (apart-name entry.0 (ap is_eq e) entry.1.kept) (later free)
      by Equal e free later =
          both (apart-id entry.0 entry.1.kept free)
          (later (subst (IsUnkept new.id) (sym (find-tied name_cmp nat_list_cmp_total new.set entry.0 e rest (T-and-first _ _ rise))) tt))
      by Greater e free later = both (apart-name entry.0 (ap is_eq e) entry.1.kept) (later free)

  -- the new entry is kept with its point
  pub keeps-new : (kept : Kept) → kept.run ≡ suc place → is_entry new.set kept new ≡ true → (one : Holding) → table_in after new.set (with_kept kept one) ≡ with_kept_entry (kept_entry kept new.point) (table_in after new.set one)
  keeps-new kept run e one =
      ap (λ entries. record { set = one.set; entries = entries })
      (
      map-behind (λ other. kept_entry other (point_for after new.set other)) one.kept kept
      ∙ ap (λ point. entries_in after new.set one.kept ++ kept_entry kept point ∷ []) (point-here new.set kept run e)
      )

-- ---- a run that has written nothing

begun : (writings : List (Roomy WrittenEntry)) (new : Roomy WrittenEntry) → new.items ≡ [] → (place : ℕ)
    → option_map_or (λ (written : List Writing). written) (slice_get (map written_of (writings ++ new ∷ [])) place) []
    ≡ option_map_or (λ (written : List Writing). written) (slice_get (map written_of writings) place) []
begun [] new empty zero = ap (map writing_of) empty
begun [] new empty (suc place) = refl
begun (first ∷ writings) new empty zero = refl
begun (first ∷ writings) new empty (suc place) = begun writings new empty place

pub seen-begun : (writings : List (Roomy WrittenEntry)) (new : Roomy WrittenEntry) → new.items ≡ [] → (sets : Named Holding) → viewed (table_in (map written_of (writings ++ new ∷ []))) sets ≡ viewed (table_in (map written_of writings)) sets
seen-begun writings new empty sets = viewed-same (table_in (map written_of (writings ++ new ∷ []))) (table_in (map written_of writings)) one sets
  where
    run : (number : ℕ) → written_by (map written_of (writings ++ new ∷ [])) number ≡ written_by (map written_of writings) number
    run zero = refl
    run (suc place) = begun writings new empty place

    each : (name : Name) (kept : List Kept) → entries_in (map written_of (writings ++ new ∷ [])) name kept ≡ entries_in (map written_of writings) name kept
    each name [] = refl
    each name (entry ∷ kept) =
        ap (λ written. kept_entry entry (option_map_or (λ (writing : Writing). writing.point) (find_last (is_entry name entry) written) no_point) ∷ entries_in (map written_of (writings ++ new ∷ [])) name kept) (run entry.run)
        ∙ ap (λ rest. kept_entry entry (point_for (map written_of writings) name entry) ∷ rest) (each name kept)

    one : (name : Name) (holding : Holding) → table_in (map written_of (writings ++ new ∷ [])) name holding ≡ table_in (map written_of writings) name holding
    one name holding = ap (λ entries. record { set = holding.set; entries = entries }) (each name holding.kept)
