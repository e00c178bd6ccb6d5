-- The entries that a data set keeps go on through what a step commits and what a restart puts back; the one found under an identifier is among those of it.
use Rattle.std.proofs.Common.{◌≡◌, ℕ, nat_le, Bool, true, false, cond, if◌then◌else◌, List, [], ◌∷◌, refl, sym, ◌∙◌, subst, Option, Some, None}
use Rattle.std.specs.List.{AllByRecursion, find}
use Rattle.std.specs.Option.{is_none, option_map, option_map_or}
use Rattle.std.proofs.lemmas.Bool.{false≢true}
use Rattle.std.proofs.lemmas.Option.{same_Some}
use Rattle.ckr_base.proofs.Options.{some-not-none}
use Rattle.ckr_base.proofs.Sequences.{each-filter}
use Rattle.ckr_entry.specs.declared.point.Mark.{Mark}
use Rattle.ckr_entry.specs.declared.point.Present.{Present}
use Rattle.ckr_library.proofs.Named.{at-with_changed}
use Rattle.ckr_library.specs.NameMaps.{Name, Named, entry_at, same_name, with_changed}
use Rattle.ckr_points.specs.Marks.{present_at, put_back, put_back_catalogs, put_back_length, put_back_lengths}
use Rattle.ckr_points.specs.Restart.{kept_at}
use Rattle.ckr_points.specs.Rows.{KeptEntry, TableSet, cut_set, table_ways}
use Rattle.ckr_points.specs.Tables.{committed}
use Rattle.ckr_library.specs.Catalog.{ends_within}
use Rattle.ckr_desk_memory.specs.Holders.{EachKept}

-- ---- each entry

-- what changes a data set leaves its entries so
abbrev Leaves : (KeptEntry → Type 0) → (TableSet → TableSet) → Type 0
Leaves P change = (table : TableSet) → AllByRecursion P table.entries → AllByRecursion P (change table).entries

module _ (P : KeptEntry → Type 0) where
  pub kept-changed : (name other : Name) (change : TableSet → TableSet) (sets : Named TableSet) → Leaves P change → EachKept P sets other → EachKept P (with_changed name change sets) other
  kept-changed name other change sets leaves each table at =
      by (same_name other name) (entry_at sets other) refl (sym (at-with_changed name other change sets) ∙ at)
    where
      by : (same : Bool) (old : Option TableSet) → entry_at sets other ≡ old → cond same (option_map change old) old ≡ Some table → AllByRecursion P table.entries
      by true None e is = absurd (some-not-none table (sym is))
      by true (Some old) e is = subst (λ (t : TableSet). AllByRecursion P t.entries) (same_Some (change old) table is) (leaves old (each old e))
      by false old e is = each table (e ∙ is)

  cut-leaves : (most : ℕ) → Leaves P (cut_set most)
  cut-leaves most table each = each-filter P (λ (entry : KeptEntry). ends_within most entry.kept) table.entries each

  back-leaves : (most : ℕ) → Leaves P (put_back_length most)
  back-leaves most table each = by (nat_le most table.set.length)
    where
      by : (within : Bool) → AllByRecursion P (if within then cut_set most table else table).entries
      by true = cut-leaves most table each
      by false = each

  pub kept-committed : (names : List Name) (lengths : List ℕ) (sets : Named TableSet) (other : Name) → EachKept P sets other → EachKept P (committed names lengths sets) other
  kept-committed [] lengths sets other each = each
  kept-committed (name ∷ names) [] sets other each = each
  kept-committed (name ∷ names) (most ∷ lengths) sets other each =
      kept-committed names lengths (with_changed name (cut_set most) sets) other (kept-changed name other (cut_set most) sets (cut-leaves most) each)

  kept-lengths : (marks : List Mark) (names : List Name) (sets : Named TableSet) (other : Name) → EachKept P sets other → EachKept P (put_back_lengths marks names sets) other
  kept-lengths marks [] sets other each = each
  kept-lengths marks (name ∷ names) sets other each = kept-lengths marks names _ other (by (present_at marks name))
    where
      by : (found : Option Present) → EachKept P (option_map_or (λ (present : Present). with_changed name (put_back_length present.length) sets) found sets) other
      by None = each
      by (Some present) = kept-changed name other (put_back_length present.length) sets (back-leaves present.length) each

  kept-catalogs : (marks : List Mark) (names : List Name) (sets : Named TableSet) (other : Name) → EachKept P sets other → EachKept P (put_back_catalogs marks names sets) other
  kept-catalogs marks [] sets other each = each
  kept-catalogs marks (name ∷ names) sets other each = kept-catalogs marks names _ other (by (present_at marks name))
    where
      by : (found : Option Present) → EachKept P (option_map_or (λ (present : Present). with_changed name (table_ways.marked present.cataloged) sets) found sets) other
      by None = each
      by (Some present) = kept-changed name other (table_ways.marked present.cataloged) sets (λ table its. its) each

  pub kept-put_back : (marks : List Mark) (outputs needed : List Name) (sets : Named TableSet) (other : Name) → EachKept P sets other → EachKept P (put_back marks outputs needed sets) other
  kept-put_back marks outputs needed sets other each = kept-catalogs marks needed (put_back_lengths marks outputs sets) other (kept-lengths marks outputs sets other each)

-- ---- the entries of an identifier

module _ (Q : KeptEntry → Type 0) (id : Name) where
  abbrev OfIt : KeptEntry → Type 0
  OfIt entry = same_name entry.kept.id id ≡ true → Q entry

  found-of : (entries : List KeptEntry) (entry : KeptEntry) → AllByRecursion OfIt entries → find (λ (entry : KeptEntry). same_name entry.kept.id id) entries ≡ Some entry → Q entry
  found-of [] entry each found = absurd (some-not-none entry (sym found))
  found-of (first ∷ rest) entry each found = by (found-of rest entry each.1) (same_name first.kept.id id) refl found
    where
      by : (find (λ (entry : KeptEntry). same_name entry.kept.id id) rest ≡ Some entry → Q entry) → (same : Bool) → same_name first.kept.id id ≡ same → cond same (Some first) (find (λ (entry : KeptEntry). same_name entry.kept.id id) rest) ≡ Some entry → Q entry
      by later true e is = subst Q (same_Some first entry is) (each.0 e)
      by later false e is = later is

  -- the one that is found is one of them
  pub kept-of : (sets : Named TableSet) (set : Name) (entry : KeptEntry) → EachKept OfIt sets set → kept_at sets set id ≡ Some entry → Q entry
  kept-of sets set entry each found = by (entry_at sets set) refl found
    where
      by : (o : Option TableSet) → entry_at sets set ≡ o → option_map_or (λ (table : TableSet). find (λ (entry : KeptEntry). same_name entry.kept.id id) table.entries) o None ≡ Some entry → Q entry
      by None e is = absurd (some-not-none entry (sym is))
      by (Some table) e is = found-of table.entries entry (each table e) is

  none-of : (entries : List KeptEntry) → is_none (find (λ (entry : KeptEntry). same_name entry.kept.id id) entries) ≡ true → AllByRecursion OfIt entries
  none-of [] none = tt
  none-of (first ∷ rest) none = by (none-of rest) (same_name first.kept.id id) refl none
    where
      by : (is_none (find (λ (entry : KeptEntry). same_name entry.kept.id id) rest) ≡ true → AllByRecursion OfIt rest) → (same : Bool) → same_name first.kept.id id ≡ same → is_none (cond same (Some first) (find (λ (entry : KeptEntry). same_name entry.kept.id id) rest)) ≡ true → OfIt first × AllByRecursion OfIt rest
      by later true e is = absurd (false≢true is)
      by later false e is = ((λ same. absurd (false≢true (sym e ∙ same))), later is)

  -- where none is found there is none of them
  pub none-kept : (sets : Named TableSet) (set : Name) → is_none (kept_at sets set id) ≡ true → EachKept OfIt sets set
  none-kept sets set none table at = none-of table.entries (subst (λ (o : Option TableSet). is_none (option_map_or (λ (table : TableSet). find (λ (entry : KeptEntry). same_name entry.kept.id id) table.entries) o None) ≡ true) at none)
