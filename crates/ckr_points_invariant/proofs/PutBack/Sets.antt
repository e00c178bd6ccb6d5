-- What stands under a name once data sets are put back, and what holds of each data set then.
use Rattle.std.proofs.Common.{◌≡◌, Bool, true, false, cond, ◌||◌, if◌then◌else◌, List, [], ◌∷◌, filter, refl, ap, sym, ◌∙◌, subst, Option, Some, None, arith}
use Rattle.std.specs.Prelude.{nat_le}
use Rattle.std.specs.Option.{option_map, option_map_or}
use Rattle.std.proofs.lemmas.Bool.{false≢true}
use Rattle.ckr_base.proofs.Bools.{bool-cases}
use Rattle.ckr_base.proofs.Numbers.{nat_le-from, nat_le-true}
use Rattle.ckr_base.proofs.Options.{option-cases}
use Rattle.ckr_base.proofs.Sequences.{filter-twice}
use Rattle.ckr_entry.specs.declared.point.Mark.{Mark}
use Rattle.ckr_entry.specs.declared.point.Present.{Present}
use Rattle.ckr_library.specs.Catalog.{ends_within}
use Rattle.ckr_library.specs.NameMaps.{EachEntry, Name, Named, same_name, entry_at, with_changed, without_entry}
use Rattle.ckr_library.proofs.Named.{at-with_changed, at-without_entry, each-with_changed, each-without_entry, name-same}
use Rattle.ckr_meaning.specs.EffectiveJob.{is_among}
use Rattle.ckr_volumes.specs.declared.layout.Layout.{Layout}
use Rattle.ckr_volumes.specs.Layouts.{StandsIn}
use Rattle.ckr_points.specs.Marks.{present_at, put_back, put_back_catalogs, put_back_length, put_back_lengths, removed_all}
use Rattle.ckr_points.specs.Rows.{KeptEntry, TableSet, cut_set, table_ways}
use Rattle.ckr_points.specs.Soundness.{AreLaidOut}
use Rattle.ckr_points_invariant.proofs.Library.Extents.{IsSpreadAs, laid-changed, laid-without, stands_as}

-- ---- changes by marks

-- the data sets of these names, each changed by what its mark has
abbrev changed_by : (Present → TableSet → TableSet) → List Mark → Name → Named TableSet → Named TableSet
changed_by change marks name sets = option_map_or (λ present. with_changed name (change present) sets) (present_at marks name) sets

abbrev changed_all : (Present → TableSet → TableSet) → List Mark → List Name → Named TableSet → Named TableSet
changed_all change marks [] sets = sets
changed_all change marks (name ∷ names) sets = changed_all change marks names (changed_by change marks name sets)

abbrev pub to_length : Present → TableSet → TableSet
to_length present = put_back_length present.length

abbrev pub to_catalog : Present → TableSet → TableSet
to_catalog present = table_ways.marked present.cataloged

lengths-are : (marks : List Mark) (names : List Name) (sets : Named TableSet) → put_back_lengths marks names sets ≡ changed_all to_length marks names sets
lengths-are marks [] sets = refl
lengths-are marks (name ∷ names) sets = lengths-are marks names (changed_by to_length marks name sets)

catalogs-are : (marks : List Mark) (names : List Name) (sets : Named TableSet) → put_back_catalogs marks names sets ≡ changed_all to_catalog marks names sets
catalogs-are marks [] sets = refl
catalogs-are marks (name ∷ names) sets = catalogs-are marks names (changed_by to_catalog marks name sets)

put_back-is : (marks : List Mark) (outputs needed : List Name) (sets : Named TableSet) → put_back marks outputs needed sets ≡ changed_all to_catalog marks needed (changed_all to_length marks outputs sets)
put_back-is marks outputs needed sets =
    catalogs-are marks needed (put_back_lengths marks outputs sets) ∙ ap (changed_all to_catalog marks needed) (lengths-are marks outputs sets)

-- a change where a name is among those that are changed
abbrev pub changed_if : Bool → (TableSet → TableSet) → TableSet → TableSet
changed_if true change table = change table
changed_if false change table = table

-- a length that is put back once more stays
length-twice : (present : Present) (table : TableSet) → to_length present (to_length present table) ≡ to_length present table
length-twice present table =
    by (nat_le present.length table.set.length) refl
  where
    by : (b : Bool) → nat_le present.length table.set.length ≡ b → put_back_length present.length (if b then cut_set present.length table else table) ≡ (if b then cut_set present.length table else table)
    by true e =
        ap (λ b. if b then cut_set present.length (cut_set present.length table) else cut_set present.length table) (nat_le-from present.length present.length (omega arith))
        ∙ ap (λ (entries : List KeptEntry). let cut : TableSet = record (cut_set present.length table) { entries = entries } in cut) (filter-twice (λ entry. ends_within present.length entry.kept) table.entries)
    by false e = ap (λ b. if b then cut_set present.length table else table) e

module _ (change : Present → TableSet → TableSet) where
  -- ---- what stands under a name

  same_entry : (entry : Option TableSet) → entry ≡ option_map (λ table. table) entry
  same_entry None = refl
  same_entry (Some table) = refl

  under-apart : (marks : List Mark) (first name : Name) (sets : Named TableSet) → same_name name first ≡ false → entry_at (changed_by change marks first sets) name ≡ entry_at sets name
  under-apart marks first name sets apart =
      option-cases (present_at marks first)
      (λ none. ap (λ (o : Option Present). entry_at (option_map_or (λ present. with_changed first (change present) sets) o sets) name) none)
      (λ present has.
      ap (λ (o : Option Present). entry_at (option_map_or (λ present. with_changed first (change present) sets) o sets) name) has
      ∙ at-with_changed first name (change present) sets
      ∙ ap (λ b. cond b (option_map (change present) (entry_at sets name)) (entry_at sets name)) apart)

  under-marked : (marks : List Mark) (present : Present) (first name : Name) (sets : Named TableSet) → present_at marks name ≡ Some present → entry_at (changed_by change marks first sets) name ≡ option_map (changed_if (same_name name first) (change present)) (entry_at sets name)
  under-marked marks present first name sets has =
      bool-cases (same_name name first)
      (λ same.
      ap (λ (o : Option Present). entry_at (option_map_or (λ present. with_changed first (change present) sets) o sets) name) (ap (present_at marks) (sym (name-same name first same)) ∙ has)
      ∙ at-with_changed first name (change present) sets
      ∙ ap (λ b. cond b (option_map (change present) (entry_at sets name)) (entry_at sets name)) same
      ∙ ap (λ b. option_map (changed_if b (change present)) (entry_at sets name)) (sym same))
      (λ apart.
      under-apart marks first name sets apart ∙ same_entry (entry_at sets name)
      ∙ ap (λ b. option_map (changed_if b (change present)) (entry_at sets name)) (sym apart))

  under-none : (marks : List Mark) (first name : Name) (sets : Named TableSet) → present_at marks name ≡ None → entry_at (changed_by change marks first sets) name ≡ entry_at sets name
  under-none marks first name sets none =
      bool-cases (same_name name first)
      (λ same. ap (λ (o : Option Present). entry_at (option_map_or (λ present. with_changed first (change present) sets) o sets) name) (ap (present_at marks) (sym (name-same name first same)) ∙ none))
      (λ apart. under-apart marks first name sets apart)

  twice_by : (present : Present) → ((table : TableSet) → change present (change present table) ≡ change present table) → (later first : Bool) (entry : Option TableSet) → option_map (changed_if later (change present)) (option_map (changed_if first (change present)) entry) ≡ option_map (changed_if (first || later) (change present)) entry
  twice_by present twice later first None = refl
  twice_by present twice true true (Some table) = ap Some (twice table)
  twice_by present twice true false (Some table) = refl
  twice_by present twice false true (Some table) = refl
  twice_by present twice false false (Some table) = refl

  all-marked : ((present : Present) (table : TableSet) → change present (change present table) ≡ change present table) → (marks : List Mark) (present : Present) (name : Name) → present_at marks name ≡ Some present → (names : List Name) (sets : Named TableSet) → entry_at (changed_all change marks names sets) name ≡ option_map (changed_if (is_among names name) (change present)) (entry_at sets name)
  all-marked twice marks present name has [] sets = same_entry (entry_at sets name)
  all-marked twice marks present name has (first ∷ rest) sets =
      all-marked twice marks present name has rest (changed_by change marks first sets)
      ∙ ap (option_map (changed_if (is_among rest name) (change present))) (under-marked marks present first name sets has)
      ∙ twice_by present (twice present) (is_among rest name) (same_name name first) (entry_at sets name)

  all-none : (marks : List Mark) (name : Name) → present_at marks name ≡ None → (names : List Name) (sets : Named TableSet) → entry_at (changed_all change marks names sets) name ≡ entry_at sets name
  all-none marks name none [] sets = refl
  all-none marks name none (first ∷ rest) sets = all-none marks name none rest (changed_by change marks first sets) ∙ under-none marks first name sets none

  all-apart : (marks : List Mark) (name : Name) (names : List Name) (sets : Named TableSet) → is_among names name ≡ false → entry_at (changed_all change marks names sets) name ≡ entry_at sets name
  all-apart marks name [] sets out = refl
  all-apart marks name (first ∷ rest) sets out =
      bool-cases (same_name name first)
      (λ same. absurd (false≢true (sym out ∙ ap (λ b. b || is_among rest name) same)))
      (λ apart.
      all-apart marks name rest (changed_by change marks first sets) (sym (ap (λ b. b || is_among rest name) apart) ∙ out)
      ∙ under-apart marks first name sets apart)

  -- ---- what holds of each data set

  by-laid : (layout : Layout) → ((present : Present) (table : TableSet) → IsSpreadAs (change present table) table) → ((present : Present) (table : TableSet) → StandsIn layout table.set → StandsIn layout (change present table).set) → (present : Option Present) (name : Name) (sets : Named TableSet) → AreLaidOut layout sets → AreLaidOut layout (option_map_or (λ present. with_changed name (change present) sets) present sets)
  by-laid layout spread stands None name sets laid = laid
  by-laid layout spread stands (Some present) name sets laid = laid-changed layout name (change present) sets (spread present) (λ table e. stands present table) laid

  all-laid : (layout : Layout) → ((present : Present) (table : TableSet) → IsSpreadAs (change present table) table) → ((present : Present) (table : TableSet) → StandsIn layout table.set → StandsIn layout (change present table).set) → (marks : List Mark) (names : List Name) (sets : Named TableSet) → AreLaidOut layout sets → AreLaidOut layout (changed_all change marks names sets)
  all-laid layout spread stands marks [] sets laid = laid
  all-laid layout spread stands marks (name ∷ rest) sets laid =
      all-laid layout spread stands marks rest (changed_by change marks name sets) (by-laid layout spread stands (present_at marks name) name sets laid)

  by-holds : (Q : TableSet → Type 0) → ((present : Present) (table : TableSet) → Q table → Q (change present table)) → (present : Option Present) (name : Name) (sets : Named TableSet) → EachEntry Q sets → EachEntry Q (option_map_or (λ present. with_changed name (change present) sets) present sets)
  by-holds Q keeps None name sets each = each
  by-holds Q keeps (Some present) name sets each = each-with_changed Q name (change present) sets (keeps present) each

  all-holds : (Q : TableSet → Type 0) → ((present : Present) (table : TableSet) → Q table → Q (change present table)) → (marks : List Mark) (names : List Name) (sets : Named TableSet) → EachEntry Q sets → EachEntry Q (changed_all change marks names sets)
  all-holds Q keeps marks [] sets each = each
  all-holds Q keeps marks (name ∷ rest) sets each = all-holds Q keeps marks rest (changed_by change marks name sets) (by-holds Q keeps (present_at marks name) name sets each)

-- ---- put back

-- what a data set is put back to, as an output and as a needed name
abbrev pub back_to : Bool → Bool → Present → TableSet → TableSet
back_to output needed present table = changed_if needed (to_catalog present) (changed_if output (to_length present) table)

joined : {X Y Z : Type 0} (f : X → Y) (g : Y → Z) (entry : Option X) → option_map g (option_map f entry) ≡ option_map (λ x. g (f x)) entry
joined f g None = refl
joined f g (Some x) = refl

-- a name that is marked present
pub put_back-marked : (marks : List Mark) (outputs needed : List Name) (sets : Named TableSet) (present : Present) (name : Name) → present_at marks name ≡ Some present → entry_at (put_back marks outputs needed sets) name ≡ option_map (back_to (is_among outputs name) (is_among needed name) present) (entry_at sets name)
put_back-marked marks outputs needed sets present name has =
    ap (λ all. entry_at all name) (put_back-is marks outputs needed sets)
    ∙ all-marked to_catalog (λ present table. refl) marks present name has needed (changed_all to_length marks outputs sets)
    ∙ ap (option_map (changed_if (is_among needed name) (to_catalog present))) (all-marked to_length length-twice marks present name has outputs sets)
    ∙ joined (changed_if (is_among outputs name) (to_length present)) (changed_if (is_among needed name) (to_catalog present)) (entry_at sets name)

-- a name that isn't
pub put_back-none : (marks : List Mark) (outputs needed : List Name) (sets : Named TableSet) (name : Name) → present_at marks name ≡ None → entry_at (put_back marks outputs needed sets) name ≡ entry_at sets name
put_back-none marks outputs needed sets name none =
    ap (λ all. entry_at all name) (put_back-is marks outputs needed sets)
    ∙ all-none to_catalog marks name none needed (changed_all to_length marks outputs sets)
    ∙ all-none to_length marks name none outputs sets

-- a name that is neither an output nor needed
pub put_back-apart : (marks : List Mark) (outputs needed : List Name) (sets : Named TableSet) (name : Name) → is_among outputs name ≡ false → is_among needed name ≡ false → entry_at (put_back marks outputs needed sets) name ≡ entry_at sets name
put_back-apart marks outputs needed sets name out other =
    ap (λ all. entry_at all name) (put_back-is marks outputs needed sets)
    ∙ all-apart to_catalog marks name needed (changed_all to_length marks outputs sets) other
    ∙ all-apart to_length marks name outputs sets out

-- ---- the extents

length-spread : (present : Present) (table : TableSet) → IsSpreadAs (to_length present table) table
length-spread present table = by (nat_le present.length table.set.length)
  where
    by : (b : Bool) → IsSpreadAs (if b then cut_set present.length table else table) table
    by true = record { parts = refl; lrecl = refl }
    by false = record { parts = refl; lrecl = refl }

length-stands : (layout : Layout) (present : Present) (table : TableSet) → StandsIn layout table.set → StandsIn layout (to_length present table).set
length-stands layout present table stands = by (nat_le present.length table.set.length) refl
  where
    by : (b : Bool) → nat_le present.length table.set.length ≡ b → StandsIn layout (if b then cut_set present.length table else table).set
    by true e = stands_as layout _ table.set refl refl refl (let below = nat_le-true present.length table.set.length e in let fits = stands.length_fits in omega (arith, below, fits)) stands
    by false e = stands

pub put_back-laid : (layout : Layout) (marks : List Mark) (outputs needed : List Name) (sets : Named TableSet) → AreLaidOut layout sets → AreLaidOut layout (put_back marks outputs needed sets)
put_back-laid layout marks outputs needed sets laid =
    let lengths : AreLaidOut layout (put_back_lengths marks outputs sets) = by_lengths (sym (lengths-are marks outputs sets)) in
    by_catalogs lengths (sym (catalogs-are marks needed (put_back_lengths marks outputs sets)))
  where
    by_lengths : changed_all to_length marks outputs sets ≡ put_back_lengths marks outputs sets → AreLaidOut layout (put_back_lengths marks outputs sets)
    by_lengths e = subst (AreLaidOut layout) e (all-laid to_length layout length-spread (length-stands layout) marks outputs sets laid)

    by_catalogs : AreLaidOut layout (put_back_lengths marks outputs sets) → changed_all to_catalog marks needed (put_back_lengths marks outputs sets) ≡ put_back marks outputs needed sets → AreLaidOut layout (put_back marks outputs needed sets)
    by_catalogs lengths e =
        subst (AreLaidOut layout) e
        (all-laid to_catalog layout (λ present table. record { parts = refl; lrecl = refl }) (λ present table stands. stands_as layout _ table.set refl refl refl stands.length_fits stands) marks needed (put_back_lengths marks outputs sets) lengths)

-- ---- the entries

length-holds : (E : List KeptEntry → Type 0) → ((kept : KeptEntry → Bool) (entries : List KeptEntry) → E entries → E (filter kept entries)) → (present : Present) (table : TableSet) → E table.entries → E (to_length present table).entries
length-holds E fewer present table its = by (nat_le present.length table.set.length)
  where
    by : (b : Bool) → E (if b then cut_set present.length table else table).entries
    by true = fewer (λ entry. ends_within present.length entry.kept) table.entries its
    by false = its

-- what holds of fewer entries too holds of those that are left
pub put_back-holds : (E : List KeptEntry → Type 0) → ((kept : KeptEntry → Bool) (entries : List KeptEntry) → E entries → E (filter kept entries)) → (marks : List Mark) (outputs needed : List Name) (sets : Named TableSet) → EachEntry (λ (table : TableSet). E table.entries) sets → EachEntry (λ (table : TableSet). E table.entries) (put_back marks outputs needed sets)
put_back-holds E fewer marks outputs needed sets each =
    subst (EachEntry (λ (table : TableSet). E table.entries)) (sym (put_back-is marks outputs needed sets))
    (all-holds to_catalog (λ (table : TableSet). E table.entries) (λ present table its. its) marks needed (changed_all to_length marks outputs sets)
    (all-holds to_length (λ (table : TableSet). E table.entries) (length-holds E fewer) marks outputs sets each))

-- ---- removed

pub at-removed_all : (names : List Name) (sets : Named TableSet) (name : Name) → entry_at (removed_all names sets) name ≡ cond (is_among names name) None (entry_at sets name)
at-removed_all [] sets name = refl
at-removed_all (first ∷ rest) sets name =
    at-removed_all rest (without_entry first sets) name
    ∙ ap (cond (is_among rest name) None) (at-without_entry first name sets)
    ∙ by (same_name name first) (is_among rest name) (entry_at sets name)
  where
    by : (here later : Bool) (entry : Option TableSet) → cond later None (cond here None entry) ≡ cond (here || later) None entry
    by true true entry = refl
    by true false entry = refl
    by false later entry = refl

pub removed_all-laid : (layout : Layout) (names : List Name) (sets : Named TableSet) → AreLaidOut layout sets → AreLaidOut layout (removed_all names sets)
removed_all-laid layout [] sets laid = laid
removed_all-laid layout (name ∷ rest) sets laid = removed_all-laid layout rest (without_entry name sets) (laid-without layout name sets laid)

pub removed_all-holds : (Q : TableSet → Type 0) (names : List Name) (sets : Named TableSet) → EachEntry Q sets → EachEntry Q (removed_all names sets)
removed_all-holds Q [] sets each = each
removed_all-holds Q (name ∷ rest) sets each = removed_all-holds Q rest (without_entry name sets) (each-without_entry Q name sets each)
