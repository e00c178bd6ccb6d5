-- The lines of the data sets, place by place, and the data sets that no run holds.
use Rattle.std.proofs.Common.{◌≡◌, ℕ, zero, suc, Bool, true, false, cond, IsTrue, T, List, [], ◌∷◌, slice_get, refl, ap, sym, ◌∙◌, subst, Option, Some, None}
use Rattle.std.specs.declared.cmp.Ordering.{Ordering}
use Rattle.std.specs.declared.cmp.Ordering.TheVariants.{Less, Equal, Greater}
use Rattle.std.specs.Option.{option_map, option_map_or}
use Rattle.std.specs.Ordering.{is_eq}
use Rattle.std.specs.Cmp.Lexicographic.{nat_list_cmp_total}
use Rattle.std.specs.Cmp.{tied_itself}
use Rattle.std.specs.FinMap.Entries.{is_sorted}
use Rattle.std.proofs.lemmas.Option.{same_Some, slice_get-map}
use Rattle.ckr_base.proofs.Bools.{T-and-first, T-and-second, T-from-true}
use Rattle.ckr_base.proofs.Options.{some-not-none}
use Rattle.ckr_desk_memory.specs.View.{JobsView}
use Rattle.ckr_library.specs.declared.sets.Content.{Content}
use Rattle.ckr_library.specs.declared.sets.Content.TheVariants.{Plain, Checkpoints}
use Rattle.ckr_library.specs.declared.sets.DataSet.{DataSet}
use Rattle.ckr_library.specs.Catalog.{Holding}
use Rattle.ckr_library.specs.NameMaps.{Name, Named, are_named_in_order, entry_at, name_cmp, names_of}
use Rattle.ckr_library.proofs.OrderedLists.{find-tied}
use Rattle.ckr_points.specs.Office.{model_records}
use Rattle.ckr_points.specs.Rows.{TableSet, TablesModel, holding_of}
use Rattle.ckr_desk_refines.specs.Standing.{StandsForDesk}
use Rattle.ckr_desk_memory.specs.Model.View.{seen_by}
use Rattle.ckr_desk_turn.specs.Desk.{DeskModel}
use Rattle.ckr_volumes.specs.declared.layout.Layout.{Layout}
use Rattle.ckr_volumes.specs.Records.{records_on}
use Rattle.ckr_desk_refines.specs.Lengths.{length_seen, line_seen}
use Rattle.ckr_desk_refines.specs.Listing.{free_set, is_held, length_by, line_of, listed, records_by, records_of, set_by}
use Rattle.ckr_desk_refines.proofs.Listing.Lengths.{longest-so}

-- ---- by the place of a name

at-place : {X : Type 0} (sets : Named X) → T (is_sorted name_cmp sets) → (place : ℕ) (entry : Name × X) → slice_get sets place ≡ Some entry → entry_at sets entry.0 ≡ Some entry.1
at-place [] rise place entry there = absurd (some-not-none _ (sym there))
at-place {X = X} (one ∷ sets) rise zero entry there =
    subst (λ (e : Name × X). entry_at (one ∷ sets) e.0 ≡ Some e.1) (same_Some one entry there) (ap (λ r. cond (is_eq r) (Some one.1) (entry_at sets one.0)) (tied_itself nat_list_cmp_total one.0))
at-place (one ∷ sets) rise (suc place) entry there = by (name_cmp entry.0 one.0) refl (at-place sets (T-and-second _ _ rise) place entry there)
  where
    by : (r : Ordering) → name_cmp entry.0 one.0 ≡ r → entry_at sets entry.0 ≡ Some entry.1 → cond (is_eq r) (Some one.1) (entry_at sets entry.0) ≡ Some entry.1
    by Less e more = more
    by Equal e more = absurd (some-not-none _ (sym more ∙ find-tied name_cmp nat_list_cmp_total entry.0 one.0 e sets (T-and-first _ _ rise)))
    by Greater e more = more

-- what stands under a name is seen so
entry-seen : (tables : Named TableSet) (name : Name) → entry_at (seen_by holding_of tables) name ≡ option_map holding_of (entry_at tables name)
entry-seen [] name = refl
entry-seen (one ∷ tables) name = by (is_eq (name_cmp name one.0)) (entry-seen tables name)
  where
    by : (same : Bool) → entry_at (seen_by holding_of tables) name ≡ option_map holding_of (entry_at tables name)
        → cond same (Some (holding_of one.1)) (entry_at (seen_by holding_of tables) name) ≡ option_map holding_of (cond same (Some one.1) (entry_at tables name))
    by true rest = refl
    by false rest = rest

set-seen : (sets : Named Holding) (tables : Named TableSet) → sets ≡ seen_by holding_of tables → (name : Name) (entry : Option TableSet) → entry_at tables name ≡ entry
    → option_map (λ (h : Holding). h.set) (entry_at sets name) ≡ option_map (λ (h : Holding). h.set) (option_map holding_of entry)
set-seen sets tables same name entry is = ap (option_map (λ (h : Holding). h.set)) (ap (λ s. entry_at s name) same ∙ entry-seen tables name ∙ ap (option_map holding_of) is)

-- the set that was found
table-there : (sets : Named Holding) (tables : Named TableSet) → sets ≡ seen_by holding_of tables → (name : Name) (set : DataSet) → Some set ≡ option_map (λ (h : Holding). h.set) (entry_at sets name)
    → (table : TableSet) × (entry_at tables name ≡ Some table) × (table.set ≡ set)
table-there sets tables same name set found = by (entry_at tables name) refl
  where
    by : (entry : Option TableSet) → entry_at tables name ≡ entry → (table : TableSet) × (entry_at tables name ≡ Some table) × (table.set ≡ set)
    by None e = absurd (some-not-none set (found ∙ set-seen sets tables same name None e))
    by (Some table) e = (table, e, sym (same_Some set table.set (found ∙ set-seen sets tables same name (Some table) e)))

pub table-none : (sets : Named Holding) (tables : Named TableSet) → sets ≡ seen_by holding_of tables → (name : Name) → None ≡ option_map (λ (h : Holding). h.set) (entry_at sets name) → entry_at tables name ≡ None
table-none sets tables same name none = by (entry_at tables name) refl
  where
    by : (entry : Option TableSet) → entry_at tables name ≡ entry → entry_at tables name ≡ None
    by None e = e
    by (Some table) e = absurd (some-not-none table.set (sym (none ∙ set-seen sets tables same name (Some table) e)))

-- ---- the lines

-- the line of a data set that is there, by its name and its place
module _ (layout : Layout) (jobs : JobsView) (image : List ℕ) (desk : DeskModel) (stands : StandsForDesk layout jobs image desk) where
  length-so : (name : Name) (table : TableSet) → entry_at desk.office.tables.sets name ≡ Some table
      → length_seen table.set.content jobs.running name table.set.length ≡ length_by table.set.content desk name table.set.length
  length-so name table found = by table.set.content refl
    where
      by : (content : Content) → table.set.content ≡ content → length_seen content jobs.running name table.set.length ≡ length_by content desk name table.set.length
      by Plain is = longest-so desk stands.is_desk name table found is image jobs.running desk.running stands.is_desk.going stands.running table.set.length
      by Checkpoints is = refl

  line-so : (name : Name) (table : TableSet) → entry_at desk.office.tables.sets name ≡ Some table → line_seen jobs.running name table.set ≡ line_of desk name table
  line-so name table found = ap (λ n. (name, record table.set { length = n })) (length-so name table found)

  abbrev all : Named TableSet
  all = desk.office.tables.sets

  module _ (sets : Named Holding) (same : sets ≡ seen_by holding_of jobs.tables.desk.sets) (rise : IsTrue (are_named_in_order sets)) (place : ℕ) where
    same-all : sets ≡ seen_by holding_of all
    same-all = same ∙ ap (λ (t : TablesModel). seen_by holding_of t.sets) stands.tables

    line-at : slice_get (listed desk) place ≡ option_map (λ (entry : Name × TableSet). line_of desk entry.0 entry.1) (slice_get all place)
    unfolding listed
    line-at = slice_get-map (λ (entry : Name × TableSet). line_of desk entry.0 entry.1) all place

    holding-at : slice_get sets place ≡ option_map (λ (entry : Name × TableSet). (entry.0, holding_of entry.1)) (slice_get all place)
    holding-at = ap (λ some. slice_get some place) same-all ∙ slice_get-map (λ (entry : Name × TableSet). (entry.0, holding_of entry.1)) all place

    name-at : slice_get (names_of sets) place ≡ option_map (λ (entry : Name × TableSet). entry.0) (slice_get all place)
    name-at = slice_get-map (λ (entry : Name × Holding). entry.0) sets place ∙ ap (option_map (λ (entry : Name × Holding). entry.0)) holding-at ∙ by (slice_get all place)
      where
        by : (found : Option (Name × TableSet)) → option_map (λ (entry : Name × Holding). entry.0) (option_map (λ (entry : Name × TableSet). (entry.0, holding_of entry.1)) found) ≡ option_map (λ (entry : Name × TableSet). entry.0) found
        by None = refl
        by (Some entry) = refl

    -- behind the last data set there is none
    pub no-line : None ≡ slice_get (names_of sets) place → None ≡ slice_get (listed desk) place
    no-line none = by (slice_get all place) (none ∙ name-at) ∙ sym line-at
      where
        by : (found : Option (Name × TableSet)) → None ≡ option_map (λ (entry : Name × TableSet). entry.0) found
            → None ≡ option_map (λ (entry : Name × TableSet). line_of desk entry.0 entry.1) found
        by None e = refl
        by (Some entry) e = absurd (some-not-none entry.0 (sym e))

    entry-of : (name : Name) → Some name ≡ slice_get (names_of sets) place → (table : TableSet) × (slice_get all place ≡ Some (name, table)) × (entry_at sets name ≡ Some (holding_of table))
    entry-of name named = by (slice_get all place) refl
      where
        by : (found : Option (Name × TableSet)) → slice_get all place ≡ found → (table : TableSet) × (slice_get all place ≡ Some (name, table)) × (entry_at sets name ≡ Some (holding_of table))
        by None e = absurd (some-not-none name (named ∙ name-at ∙ ap (option_map (λ (one : Name × TableSet). one.0)) e))
        by (Some entry) e =
            let mine : entry.0 ≡ name = sym (same_Some name entry.0 (named ∙ name-at ∙ ap (option_map (λ (one : Name × TableSet). one.0)) e)) in
            let here : slice_get sets place ≡ Some (entry.0, holding_of entry.1) = holding-at ∙ ap (option_map (λ (one : Name × TableSet). (one.0, holding_of one.1))) e in
            (entry.1, e ∙ ap (λ n. Some (n, entry.1)) mine, ap (entry_at sets) (sym mine) ∙ at-place sets (T-from-true _ rise) place (entry.0, holding_of entry.1) here)

    -- a name of the library has a data set
    pub no-set : (name : Name) → Some name ≡ slice_get (names_of sets) place → None ≡ option_map (λ (h : Holding). h.set) (entry_at sets name) → ⊥
    no-set name named none = let entry = entry-of name named in some-not-none entry.0.set (sym (none ∙ ap (option_map (λ (h : Holding). h.set)) entry.2))

    pub line-there : (name : Name) (set : DataSet) → Some name ≡ slice_get (names_of sets) place → Some set ≡ option_map (λ (h : Holding). h.set) (entry_at sets name)
        → Some (line_seen jobs.running name set) ≡ slice_get (listed desk) place
    line-there name set named found =
        let entry = entry-of name named in
        let its : set ≡ entry.0.set = same_Some set entry.0.set (found ∙ ap (option_map (λ (h : Holding). h.set)) entry.2) in
        let there = table-there sets all same-all name set found in
        ap (λ s. Some (line_seen jobs.running name s)) (sym there.2)
        ∙ ap Some (line-so name there.0 there.1)
        ∙ ap (λ (s : DataSet). let one : Name × DataSet = (name, record s { length = length_by s.content desk name s.length }) in Some one) (there.2 ∙ its)
        ∙ sym (line-at ∙ ap (option_map (λ (one : Name × TableSet). line_of desk one.0 one.1)) entry.1)

-- ---- the data sets that no run holds

-- by its content
pub set-there : (sets : Named Holding) (tables : TablesModel) → sets ≡ seen_by holding_of tables.sets → (name : Name) (set : DataSet) → Some set ≡ option_map (λ (h : Holding). h.set) (entry_at sets name)
    → free_set tables name ≡ set_by set.content tables name set
set-there sets tables same name set found =
    let there = table-there sets tables.sets same name set found in
    ap (λ (o : Option TableSet). option_map_or (λ table. set_by table.set.content tables name table.set) o None) there.1
    ∙ ap (λ (s : DataSet). set_by s.content tables name s) there.2

pub set-none : (sets : Named Holding) (tables : TablesModel) → sets ≡ seen_by holding_of tables.sets → (name : Name) → None ≡ option_map (λ (h : Holding). h.set) (entry_at sets name)
    → free_set tables name ≡ None
set-none sets tables same name none = ap (λ (o : Option TableSet). option_map_or (λ table. set_by table.set.content tables name table.set) o None) (table-none sets tables.sets same name none)

-- the records of such a data set are those of the desk
pub records-so : (layout : Layout) (jobs : JobsView) (image : List ℕ) (desk : DeskModel) → StandsForDesk layout jobs image desk → (name : Name)
    → option_map (λ (set : DataSet). records_on image layout set set.length) (free_set jobs.tables.desk name) ≡ records_of desk name
unfolding records_of
records-so layout jobs image desk stands name =
    ap (λ (t : TablesModel). option_map (λ (set : DataSet). records_on image layout set set.length) (free_set t name)) stands.tables ∙ by (entry_at desk.office.tables.sets name) refl
  where
    held : (table : TableSet) → records_on image layout table.set table.set.length ≡ model_records desk.office name → (b : Bool)
        → option_map (λ (set : DataSet). records_on image layout set set.length) (cond b None (Some table.set)) ≡ cond b None (Some (model_records desk.office name))
    held table same true = refl
    held table same false = ap Some same

    of_content : (table : TableSet) → entry_at desk.office.tables.sets name ≡ Some table → (content : Content) → table.set.content ≡ content
        → option_map (λ (set : DataSet). records_on image layout set set.length) (set_by content desk.office.tables name table.set) ≡ records_by content desk.office name
    of_content table found Plain is =
        held table (ap (λ l. records_on image l table.set table.set.length) (sym stands.layout_is) ∙ stands.committed name table found is) (is_held desk.office.tables name)
    of_content table found Checkpoints is = refl

    by : (entry : Option TableSet) → entry_at desk.office.tables.sets name ≡ entry
        → option_map (λ (set : DataSet). records_on image layout set set.length) (option_map_or (λ table. set_by table.set.content desk.office.tables name table.set) entry None)
        ≡ option_map_or (λ table. records_by table.set.content desk.office name) entry None
    by None e = refl
    by (Some table) e = of_content table e table.set.content refl
