-- The first entry of an identifier that a data set keeps, through a commit and where data sets are put back.
use Rattle.std.proofs.Common.{◌≡◌, ◌≤◌, ℕ, ◌+◌, Bool, true, false, cond, ◌&&◌, List, [], ◌∷◌, refl, ap, sym, ◌∙◌, Option, Some, None, arith}
use Rattle.std.specs.Prelude.{IsTrue, find, nat_le}
use Rattle.std.specs.Option.{option_map, option_map_or, is_some}
use Rattle.ckr_base.proofs.Bools.{and-first, and-second}
use Rattle.ckr_base.proofs.Numbers.{nat_le-from, nat_le-true}
use Rattle.ckr_base.proofs.Sequences.{find-filter}
use Rattle.ckr_entry.specs.declared.point.Mark.{Mark}
use Rattle.ckr_entry.specs.declared.point.Present.{Present}
use Rattle.ckr_library.specs.Catalog.{ends_within, records_of}
use Rattle.ckr_library.specs.NameMaps.{Name, Named, entry_at, same_name, with_changed}
use Rattle.ckr_library.proofs.Named.{at-with_changed, at-with_changed-keeps, name-same}
use Rattle.ckr_meaning.specs.EffectiveJob.{is_among}
use Rattle.ckr_points.specs.Follows.{are_lengths}
use Rattle.ckr_points.specs.Marks.{present_at, put_back, put_back_length}
use Rattle.ckr_points.specs.Restart.{kept_at}
use Rattle.ckr_points.specs.Rows.{KeptEntry, TableSet, cut_set}
use Rattle.ckr_points.specs.Tables.{committed}
use Rattle.ckr_points_invariant.proofs.PutBack.Sets.{back_to, changed_if, put_back-marked, put_back-none, to_catalog, to_length}

-- ---- what a search finds

-- ---- a data set by its name

abbrev has_id : Name → KeptEntry → Bool
has_id id entry = same_name entry.kept.id id

abbrev pub kept_in : Name → Option TableSet → Option KeptEntry
kept_in id entry = option_map_or (λ table. find (has_id id) table.entries) entry None

-- a change that leaves the entries leaves the one of an identifier
pub kept_at-same : (name set id : Name) (change : TableSet → TableSet) (sets : Named TableSet) → ((table : TableSet) → (change table).entries ≡ table.entries) → kept_at (with_changed name change sets) set id ≡ kept_at sets set id
kept_at-same name set id change sets same =
    by (entry_at (with_changed name change sets) set)
    ∙ ap (λ (o : Option (List KeptEntry)). option_map_or (find (has_id id)) o None) (at-with_changed-keeps (λ (table : TableSet). table.entries) name set change sets same)
    ∙ sym (by (entry_at sets set))
  where
    by : (entry : Option TableSet) → kept_in id entry ≡ option_map_or (find (has_id id)) (option_map (λ (table : TableSet). table.entries) entry) None
    by None = refl
    by (Some table) = refl

-- an entry that ends within the length which was committed stays
module _ (first : Named TableSet) (set id : Name) (table : TableSet) (entry : KeptEntry) (at : entry_at first set ≡ Some table) (ends : IsTrue (ends_within table.set.length entry.kept)) where
  long-enough : (name : Name) (now : ℕ) → same_name set name ≡ true → option_map_or (λ table. nat_le table.set.length now && nat_le now table.set.space) (entry_at first name) false ≡ true → ends_within now entry.kept ≡ true
  long-enough name now same fits =
      let its : (nat_le table.set.length now && nat_le now table.set.space) ≡ true =
      sym (ap (λ (o : Option TableSet). option_map_or (λ table. nat_le table.set.length now && nat_le now table.set.space) o false) (ap (entry_at first) (sym (name-same set name same)) ∙ at)) ∙ fits in
      let below : table.set.length ≤ now = nat_le-true table.set.length now (and-first (nat_le table.set.length now) (nat_le now table.set.space) its) in
      let end : entry.kept.place + records_of entry.kept.bytes ≤ table.set.length = nat_le-true _ _ ends in
      nat_le-from (entry.kept.place + records_of entry.kept.bytes) now (omega (arith, below, end))

  pub kept_at-committed : (names : List Name) (lengths : List ℕ) (sets : Named TableSet) → are_lengths first names lengths ≡ true → kept_at sets set id ≡ Some entry → kept_at (committed names lengths sets) set id ≡ Some entry
  kept_at-committed [] lengths sets are kept = kept
  kept_at-committed (name ∷ names) [] sets are kept = kept
  kept_at-committed (name ∷ names) (now ∷ lengths) sets are kept =
      kept_at-committed names lengths (with_changed name (cut_set now) sets)
      (and-second (option_map_or (λ table. nat_le table.set.length now && nat_le now table.set.space) (entry_at first name) false) (are_lengths first names lengths) are)
      (ap (kept_in id) (at-with_changed name set (cut_set now) sets)
      ∙ by (same_name set name) (entry_at sets set) (λ same. long-enough name now same (and-first (option_map_or (λ table. nat_le table.set.length now && nat_le now table.set.space) (entry_at first name) false) (are_lengths first names lengths) are)) kept)
    where
      by : (same : Bool) (found : Option TableSet) → (same ≡ true → ends_within now entry.kept ≡ true) → kept_in id found ≡ Some entry → kept_in id (cond same (option_map (cut_set now) found) found) ≡ Some entry
      by true None fits kept = kept
      by true (Some table) fits kept = find-filter (has_id id) (λ (one : KeptEntry). ends_within now one.kept) table.entries entry kept (fits refl)
      by false found fits kept = kept

-- committed lengths take no data set away
pub there-committed : (names : List Name) (lengths : List ℕ) (sets : Named TableSet) (set : Name) → is_some (entry_at sets set) ≡ true → is_some (entry_at (committed names lengths sets) set) ≡ true
there-committed [] lengths sets set there = there
there-committed (name ∷ names) [] sets set there = there
there-committed (name ∷ names) (now ∷ lengths) sets set there =
    there-committed names lengths (with_changed name (cut_set now) sets) set
    (ap is_some (at-with_changed name set (cut_set now) sets) ∙ by (same_name set name) (entry_at sets set) there)
  where
    by : (same : Bool) (found : Option TableSet) → is_some found ≡ true → is_some (cond same (option_map (cut_set now) found) found) ≡ true
    by true None there = there
    by true (Some table) there = refl
    by false found there = there

-- ---- put back

length-back : (most : ℕ) (id : Name) (entry : KeptEntry) (table : TableSet) → ends_within most entry.kept ≡ true → find (has_id id) table.entries ≡ Some entry → find (has_id id) (put_back_length most table).entries ≡ Some entry
length-back most id entry table ends at = by (nat_le most table.set.length)
  where
    by : (shorter : Bool) → find (has_id id) (cond shorter (cut_set most table) table).entries ≡ Some entry
    by true = find-filter (has_id id) (λ (one : KeptEntry). ends_within most one.kept) table.entries entry at ends
    by false = at

catalog-back : (needed : Bool) (present : Present) (id : Name) (entry : KeptEntry) (table : TableSet) → find (has_id id) table.entries ≡ Some entry → find (has_id id) (changed_if needed (to_catalog present) table).entries ≡ Some entry
catalog-back true present id entry table at = at
catalog-back false present id entry table at = at

table-back : (output needed : Bool) (present : Present) (id : Name) (entry : KeptEntry) (found : Option TableSet) → ends_within present.length entry.kept ≡ true → kept_in id found ≡ Some entry → kept_in id (option_map (back_to output needed present) found) ≡ Some entry
table-back output needed present id entry None ends at = at
table-back true needed present id entry (Some table) ends at = catalog-back needed present id entry (to_length present table) (length-back present.length id entry table ends at)
table-back false needed present id entry (Some table) ends at = catalog-back needed present id entry table at

-- an entry stays that ends within the mark to which its data set is put back
pub kept_at-put_back : (marks : List Mark) (outputs needed : List Name) (sets : Named TableSet) (set id : Name) (entry : KeptEntry) → ((present : Present) → present_at marks set ≡ Some present → ends_within present.length entry.kept ≡ true)
    → kept_at sets set id ≡ Some entry → kept_at (put_back marks outputs needed sets) set id ≡ Some entry
kept_at-put_back marks outputs needed sets set id entry ends at = by (present_at marks set) refl
  where
    by : (present : Option Present) → present_at marks set ≡ present → kept_at (put_back marks outputs needed sets) set id ≡ Some entry
    by None has = ap (kept_in id) (put_back-none marks outputs needed sets set has) ∙ at
    by (Some present) has =
        ap (kept_in id) (put_back-marked marks outputs needed sets present set has)
        ∙ table-back (is_among outputs set) (is_among needed set) present id entry (entry_at sets set) (ends present has) at
