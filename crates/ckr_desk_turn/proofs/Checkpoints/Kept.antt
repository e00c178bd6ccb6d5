-- The data set for checkpoints keeps the entry that was written, with its point.
use Rattle.std.proofs.Common.{◌≡◌, ℕ, Bool, true, false, cond, List, [], ◌∷◌, find, refl, ap, sym, ◌∙◌, Option, Some, None}
use Rattle.std.specs.Option.{option_map, option_map_or}
use Rattle.ckr_base.proofs.Sequences.{find-append, find-filter-none}
use Rattle.ckr_library.specs.NameMaps.{Name, Named, entry_at, same_name, with_changed}
use Rattle.ckr_library.proofs.Named.{at-with_changed, name-itself}
use Rattle.ckr_points.specs.Restart.{kept_at}
use Rattle.ckr_points.specs.Rows.{KeptEntry, TableSet, cut_set}
use Rattle.ckr_points.specs.Tables.{committed, with_kept_entry}

abbrev has_id : Name → KeptEntry → Bool
has_id id entry = same_name entry.kept.id id

-- committed lengths bring no entry
keeps-none : (names : List Name) (lengths : List ℕ) (sets : Named TableSet) (set id : Name) → kept_at sets set id ≡ None → kept_at (committed names lengths sets) set id ≡ None
keeps-none [] lengths sets set id none = none
keeps-none (name ∷ names) [] sets set id none = none
keeps-none (name ∷ names) (most ∷ lengths) sets set id none =
    keeps-none names lengths (with_changed name (cut_set most) sets) set id
    (ap (λ (o : Option TableSet). option_map_or (λ table. find (has_id id) table.entries) o None) (at-with_changed name set (cut_set most) sets)
    ∙ by (same_name set name) (entry_at sets set) none)
  where
    by : (same : Bool) (entry : Option TableSet) → option_map_or (λ table. find (has_id id) table.entries) entry None ≡ None → option_map_or (λ table. find (has_id id) table.entries) (cond same (option_map (cut_set most) entry) entry) None ≡ None
    by true None none = refl
    by true (Some table) none = find-filter-none (has_id id) _ table.entries none
    by false entry none = none

-- and they take no data set away
committed-there : (names : List Name) (lengths : List ℕ) (sets : Named TableSet) (set : Name) (table : TableSet) → entry_at sets set ≡ Some table → (later : TableSet) × (entry_at (committed names lengths sets) set ≡ Some later)
committed-there [] lengths sets set table found = (table, found)
committed-there (name ∷ names) [] sets set table found = (table, found)
committed-there (name ∷ names) (most ∷ lengths) sets set table found =
    by (same_name set name) refl (λ later is. committed-there names lengths (with_changed name (cut_set most) sets) set later is)
  where
    by : (same : Bool) → same_name set name ≡ same → ((one : TableSet) → entry_at (with_changed name (cut_set most) sets) set ≡ Some one → (later : TableSet) × (entry_at (committed names lengths (with_changed name (cut_set most) sets)) set ≡ Some later)) → (later : TableSet) × (entry_at (committed names lengths (with_changed name (cut_set most) sets)) set ≡ Some later)
    by true e later = later (cut_set most table)
        (at-with_changed name set (cut_set most) sets ∙ ap (λ (b : Bool). cond b (option_map (cut_set most) (entry_at sets set)) (entry_at sets set)) e ∙ ap (option_map (cut_set most)) found)
    by false e later = later table
        (at-with_changed name set (cut_set most) sets ∙ ap (λ (b : Bool). cond b (option_map (cut_set most) (entry_at sets set)) (entry_at sets set)) e ∙ found)

-- an entry that is kept where none has its identifier is the first one that has it
pub kept-then : (names : List Name) (lengths : List ℕ) (sets : Named TableSet) (set : Name) (table : TableSet) (entry : KeptEntry) → entry_at sets set ≡ Some table → kept_at sets set entry.kept.id ≡ None
    → kept_at (with_changed set (with_kept_entry entry) (committed names lengths sets)) set entry.kept.id ≡ Some entry
kept-then names lengths sets set table entry found none =
    let there = committed-there names lengths sets set table found in
    let later : TableSet = there.0 in
    let before : find (has_id entry.kept.id) later.entries ≡ None =
    sym (ap (λ (o : Option TableSet). option_map_or (λ table. find (has_id entry.kept.id) table.entries) o None) there.1) ∙ keeps-none names lengths sets set entry.kept.id none in
    ap (λ (o : Option TableSet). option_map_or (λ table. find (has_id entry.kept.id) table.entries) o None)
    (at-with_changed set set (with_kept_entry entry) (committed names lengths sets)
    ∙ ap (λ (b : Bool). cond b (option_map (with_kept_entry entry) (entry_at (committed names lengths sets) set)) (entry_at (committed names lengths sets) set)) (name-itself set)
    ∙ ap (option_map (with_kept_entry entry)) there.1)
    ∙ find-append (has_id entry.kept.id) later.entries entry before (name-itself entry.kept.id)
