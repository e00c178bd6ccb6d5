-- What a library has of the data sets that were taken over from another one.
use Rattle.std.proofs.Common.{◌≡◌, ◌||◌, ◌≤◌, Bool, true, false, cond, IsTrue, List, [], ◌∷◌, refl, ap, sym, ◌∙◌, subst, Option, None, Some}
use Rattle.std.specs.List.{cons_option, filter_map}
use Rattle.std.specs.Option.{is_some, option_map, option_map_or}
use Rattle.std.proofs.lemmas.Option.{same_Some}
use Rattle.ckr_base.proofs.Options.{some-not-none}
use Rattle.ckr_jcl.specs.declared.deck.Dd.{Dd}
use Rattle.ckr_library.specs.declared.sets.DataSet.{DataSet}
use Rattle.ckr_library.specs.Catalog.{Catalog, Holding, fresh_holding, set_of}
use Rattle.ckr_library.specs.NameMaps.{Name, Named, entry_at, has_entry, same_name, with_entry}
use Rattle.ckr_library.proofs.Named.{at-viewed, at-with_entry, each-at, name-same}
use Rattle.ckr_meaning.specs.EffectiveJob.{is_among}
use Rattle.ckr_volumes.specs.declared.layout.Layout.{Layout}
use Rattle.ckr_volumes.specs.Layouts.{StandsIn, lie_apart}
use Rattle.ckr_points.specs.Rows.{TableSet, holding_of}
use Rattle.ckr_points.specs.Soundness.{AreLaidOut}
use Rattle.ckr_desk_plans.specs.Model.Inputs.{AreStored}
use Rattle.ckr_points_tables.specs.View.{seen_by}
use Rattle.ckr_desk_memory.specs.Start.{AllFit, set_in_tables, with_all_taken, with_any_taken}

abbrev fresh : Holding → Holding
fresh held = fresh_holding held.set

-- what stands under a name that stood there, or else what is taken over
abbrev either : Option Holding → Bool → Option Holding → Option Holding
either entry among taken = cond (is_some entry) entry (cond among taken None)

none_taken : (among : Bool) (taken : Option Holding) → taken ≡ None → cond among taken None ≡ taken
none_taken true taken none = refl
none_taken false taken none = sym none

module _ (from : Named Holding) (name : Name) where
  abbrev the_taken : Option Holding
  the_taken = option_map fresh (entry_at from name)

  taken_one : (sets : Named Holding) (among : Bool) (other : Name) (has : Bool) → has_entry sets other ≡ has → (held : Option Holding) → entry_at from other ≡ held → (same : Bool) → same_name name other ≡ same
      → either (entry_at (cond has sets (option_map_or (λ (held : Holding). with_entry other (fresh_holding held.set) sets) held sets)) name) among the_taken ≡ either (entry_at sets name) (same || among) the_taken
  taken_one sets among other true is held at true same =
      let has : is_some (entry_at sets name) ≡ true = ap (λ n. is_some (entry_at sets n)) (name-same name other same) ∙ is in
      ap (λ b. cond b (entry_at sets name) (cond among the_taken None)) has ∙ sym (ap (λ b. cond b (entry_at sets name) the_taken) has)
  taken_one sets among other true is held at false same = refl
  taken_one sets among other false is None at true same =
      ap (λ taken. cond (is_some (entry_at sets name)) (entry_at sets name) taken)
      (none_taken among the_taken (ap (λ n. option_map fresh (entry_at from n)) (name-same name other same) ∙ ap (option_map fresh) at))
  taken_one sets among other false is None at false same = refl
  taken_one sets among other false is (Some held) at true same =
      let has : is_some (entry_at sets name) ≡ false = ap (λ n. is_some (entry_at sets n)) (name-same name other same) ∙ is in
      ap (λ entry. either entry among the_taken) (at-with_entry other name (fresh held) sets ∙ ap (λ b. cond b (Some (fresh held)) (entry_at sets name)) same)
      ∙ sym (ap (λ b. cond b (entry_at sets name) the_taken) has ∙ ap (λ n. option_map fresh (entry_at from n)) (name-same name other same) ∙ ap (option_map fresh) at)
  taken_one sets among other false is (Some held) at false same =
      ap (λ entry. either entry among the_taken) (at-with_entry other name (fresh held) sets ∙ ap (λ b. cond b (Some (fresh held)) (entry_at sets name)) same)

  taken_any : (sets : Named Holding) (names : List Name) (its : Option Name) → either (entry_at (with_any_taken from its sets) name) (is_among names name) the_taken ≡ either (entry_at sets name) (is_among (cons_option its names) name) the_taken
  taken_any sets names None = refl
  taken_any sets names (Some other) = taken_one sets (is_among names name) other (has_entry sets other) refl (entry_at from other) refl (same_name name other) refl

  nothing_more : (entry : Option Holding) → entry ≡ cond (is_some entry) entry None
  nothing_more None = refl
  nothing_more (Some held) = refl

  all_taken : (its : Dd → Option Name) (dds : List Dd) (sets : Named Holding) → entry_at (with_all_taken its from dds sets) name ≡ either (entry_at sets name) (is_among (filter_map its dds) name) the_taken
  all_taken its [] sets = nothing_more (entry_at sets name)
  all_taken its (dd ∷ dds) sets = all_taken its dds (with_any_taken from (its dd) sets) ∙ taken_any sets (filter_map its dds) (its dd)

-- ---- from the tables

abbrev the_set : TableSet → DataSet
the_set table = table.set

seen_set : (entry : Option TableSet) → option_map (λ (held : Holding). held.set) (option_map fresh (option_map holding_of entry)) ≡ option_map the_set entry
seen_set None = refl
seen_set (Some table) = refl

-- the data sets of names, as the tables have them
pub taken-sets : (its : Dd → Option Name) (dds : List Dd) (tables : Named TableSet) (from : Named Holding) (catalog : Catalog) → from ≡ seen_by holding_of tables → catalog.sets ≡ with_all_taken its from dds []
    → (name : Name) → set_of catalog name ≡ cond (is_among (filter_map its dds) name) (set_in_tables tables name) None
taken-sets its dds tables from catalog seen is name =
    ap (λ sets. option_map (λ (held : Holding). held.set) (entry_at sets name)) is
    ∙ ap (option_map (λ (held : Holding). held.set)) (all_taken from name its dds [])
    ∙ by (is_among (filter_map its dds) name)
  where
    by : (among : Bool) → option_map (λ (held : Holding). held.set) (cond among (option_map fresh (entry_at from name)) None) ≡ cond among (set_in_tables tables name) None
    by true =
        ap (λ sets. option_map (λ (held : Holding). held.set) (option_map fresh (entry_at sets name))) seen
        ∙ ap (λ entry. option_map (λ (held : Holding). held.set) (option_map fresh entry)) (at-viewed holding_of tables name)
        ∙ seen_set (entry_at tables name)
    by false = refl

-- ---- laid out

record IsInTables (tables : Named TableSet) (name : Name) (set : DataSet) : Type 0 where
  table : TableSet
  at : entry_at tables name ≡ Some table
  same : table.set ≡ set

in_tables : (tables : Named TableSet) (name : Name) (among : Bool) (set : DataSet) → cond among (set_in_tables tables name) None ≡ Some set → IsInTables tables name set
in_tables tables name false set is = absurd (some-not-none set (sym is))
in_tables tables name true set is = by (entry_at tables name) refl is
  where
    by : (entry : Option TableSet) → entry_at tables name ≡ entry → option_map the_set entry ≡ Some set → IsInTables tables name set
    by None at is = absurd (some-not-none set (sym is))
    by (Some table) at is = record { table = table; at = at; same = same_Some table.set set is }

pub are-stored : (layout : Layout) (tables : Named TableSet) (catalog : Catalog) (among : Name → Bool) → AreLaidOut layout tables → ((name : Name) → set_of catalog name ≡ cond (among name) (set_in_tables tables name) None) → AreStored layout catalog
are-stored layout tables catalog among laid has = record {
  stands = λ name set at.
      let its = in_tables tables name (among name) set (sym (has name) ∙ at) in
      subst (StandsIn layout) its.same (each-at (λ (table : TableSet). StandsIn layout table.set) tables laid.stand name its.table its.at);
  apart = λ one other first second different at there.
      let its = in_tables tables one (among one) first (sym (has one) ∙ at) in
      let next = in_tables tables other (among other) second (sym (has other) ∙ there) in
      subst (λ s. IsTrue (lie_apart s second)) its.same (subst (λ s. IsTrue (lie_apart its.table.set s)) next.same (laid.apart one other its.table next.table different its.at next.at));
}

-- no data set is longer than its space
pub all-fit : (layout : Layout) (tables : Named TableSet) (from : Named Holding) → AreLaidOut layout tables → from ≡ seen_by holding_of tables → AllFit from
all-fit layout tables from laid seen = λ name held at.
    let is = sym (at-viewed holding_of tables name) ∙ sym (ap (λ sets. entry_at sets name) seen) ∙ at in
    by name held (entry_at tables name) refl is
  where
    by : (name : Name) (held : Holding) (entry : Option TableSet) → entry_at tables name ≡ entry → option_map holding_of entry ≡ Some held → held.set.length ≤ held.set.space
    by name held None at is = absurd (some-not-none held (sym is))
    by name held (Some table) at is =
        subst (λ (h : Holding). h.set.length ≤ h.set.space) (same_Some (holding_of table) held is)
        (each-at (λ (table : TableSet). StandsIn layout table.set) tables laid.stand name table at).length_fits
