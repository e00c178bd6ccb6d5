-- What a step and the end of a run do to the tables, they do to a library: what is alike under a name stays so.
use Rattle.std.proofs.Common.{◌≡◌, ℕ, suc, Bool, true, false, cond, if◌then◌else◌, List, [], ◌∷◌, refl, ap, sym, ◌∙◌, Option, Some, None}
use Rattle.std.specs.List.{AllByRecursion, cons_option, filter_map}
use Rattle.std.specs.Option.{option_map, is_none}
use Rattle.std.proofs.lemmas.Bool.{or_left, or_parts, or_right}
use Rattle.ckr_base.proofs.Options.{option_map-cond}
use Rattle.ckr_entry.specs.declared.point.Passed.{Passed}
use Rattle.ckr_events.specs.declared.event.Made.{Made}
use Rattle.ckr_jcl.specs.declared.deck.After.{After}
use Rattle.ckr_jcl.specs.declared.deck.After.TheVariants.{Delete, Keep, Pass, Catlg, Uncatlg}
use Rattle.ckr_jcl.specs.declared.deck.Dd.{Dd}
use Rattle.ckr_jcl.specs.declared.deck.Status.{Status}
use Rattle.ckr_jcl.specs.declared.deck.Status.TheVariants.{New, Old, Shr, Mod}
use Rattle.ckr_library.specs.declared.sets.Stamp.{Stamp}
use Rattle.ckr_library.specs.NameMaps.{Name, Named, same_name, entry_at, with_entry, with_changed, without_entry}
use Rattle.ckr_library.proofs.Named.{at-with_changed, at-with_entry, at-without_entry, name-equivalence}
use Rattle.ckr_meaning.specs.LibrarySet.{Known, LibrarySet, Library, SetWays, record_ways}
use Rattle.ckr_meaning.specs.Allotments.{AllotmentModel, found, made, refused, DdAllotment, allotment_of, is_output, is_passed, opened_by, opened_one, opened_all}
use Rattle.ckr_meaning.specs.Dispositions.{Disposal, Stock, disposed_all, disposed_one, passed_after, passed_ended, sets_after}
use Rattle.ckr_meaning.specs.EffectiveJob.{OwnedStep, is_among, name_of, names_of, placed_from, placed_in, placed_one}
use Rattle.ckr_meaning.specs.StepRun.{fresh_set, made_all, made_one}
use Rattle.ckr_points.specs.Tables.{fresh_table, made_table, made_tables, parts_from}
use Rattle.ckr_points_invariant.specs.Invariant.{AreAlike, Shape, counted, set_shape, table_shape}
use Rattle.ckr_points.specs.Rows.{TableSet, table_ways}

-- two changes that make the same of a shape
pub record Matches (change : TableSet → TableSet) (other : LibrarySet → LibrarySet) (shape : Shape → Shape) : Type 0 where
  pub tables : (table : TableSet) → table_shape (change table) ≡ shape (table_shape table)
  pub sets : (set : LibrarySet) → set_shape (other set) ≡ shape (set_shape set)

mapped : {X Y : Type 0} (view : X → Y) (change : X → X) (shape : Y → Y) → ((x : X) → view (change x) ≡ shape (view x)) → (entry : Option X) → option_map view (option_map change entry) ≡ option_map shape (option_map view entry)
mapped view change shape same None = refl
mapped view change shape same (Some x) = ap Some (same x)

-- one name
module _ (name : Name) where
  pub alike-changed : (changed : Name) (change : TableSet → TableSet) (other : LibrarySet → LibrarySet) (shape : Shape → Shape) → Matches change other shape → (sets : Named TableSet) (library : Library) → AreAlike sets library name → AreAlike (with_changed changed change sets) (with_changed changed other library) name
  alike-changed changed change other shape matches sets library alike =
      ap (option_map table_shape) (at-with_changed changed name change sets)
      ∙ option_map-cond table_shape (same_name name changed) _ _
      ∙ ap (λ entry. cond (same_name name changed) entry (option_map table_shape (entry_at sets name))) (mapped table_shape change shape matches.tables (entry_at sets name))
      ∙ ap (λ entry. cond (same_name name changed) (option_map shape entry) entry) alike
      ∙ sym (
      ap (option_map set_shape) (at-with_changed changed name other library)
      ∙ option_map-cond set_shape (same_name name changed) _ _
      ∙ ap (λ entry. cond (same_name name changed) entry (option_map set_shape (entry_at library name))) (mapped set_shape other shape matches.sets (entry_at library name)))

  pub alike-entry : (changed : Name) (table : TableSet) (set : LibrarySet) → table_shape table ≡ set_shape set → (sets : Named TableSet) (library : Library) → AreAlike sets library name → AreAlike (with_entry changed table sets) (with_entry changed set library) name
  alike-entry changed table set same sets library alike =
      ap (option_map table_shape) (at-with_entry changed name table sets)
      ∙ option_map-cond table_shape (same_name name changed) _ _
      ∙ ap (λ shape. cond (same_name name changed) (Some shape) (option_map table_shape (entry_at sets name))) same
      ∙ ap (cond (same_name name changed) (Some (set_shape set))) alike
      ∙ sym (ap (option_map set_shape) (at-with_entry changed name set library) ∙ option_map-cond set_shape (same_name name changed) _ _)

  pub alike-without : (gone : Name) (sets : Named TableSet) (library : Library) → AreAlike sets library name → AreAlike (without_entry gone sets) (without_entry gone library) name
  alike-without gone sets library alike =
      ap (option_map table_shape) (at-without_entry gone name sets)
      ∙ option_map-cond table_shape (same_name name gone) None _
      ∙ ap (cond (same_name name gone) None) alike
      ∙ sym (ap (option_map set_shape) (at-without_entry gone name library) ∙ option_map-cond set_shape (same_name name gone) None _)

  -- ---- opened and made

  abbrev shape_opened : Stamp → Status → Shape → Shape
  shape_opened stamp New shape = record shape { stamp = stamp }
  shape_opened stamp Old shape = record shape { stamp = stamp; length = counted shape.content 0 }
  shape_opened stamp Shr shape = record shape { stamp = stamp }
  shape_opened stamp Mod shape = record shape { stamp = stamp }

  opens : (stamp : Stamp) (status : Status) → Matches (opened_by table_ways stamp status) (opened_by record_ways stamp status) (shape_opened stamp status)
  opens stamp New = record { tables = λ table. refl; sets = λ set. refl }
  opens stamp Old = record { tables = λ table. refl; sets = λ set. refl }
  opens stamp Shr = record { tables = λ table. refl; sets = λ set. refl }
  opens stamp Mod = record { tables = λ table. refl; sets = λ set. refl }

  opened_one-alike : (stamp : Stamp) (placed : DdAllotment) (allotment : AllotmentModel) (output : Bool) (sets : Named TableSet) (library : Library) → AreAlike sets library name → AreAlike (opened_one table_ways stamp placed allotment output sets) (opened_one record_ways stamp placed allotment output library) name
  opened_one-alike stamp placed found true sets library alike =
      alike-changed placed.name (opened_by table_ways stamp placed.dd.disp.status) (opened_by record_ways stamp placed.dd.disp.status) (shape_opened stamp placed.dd.disp.status) (opens stamp placed.dd.disp.status) sets library alike
  opened_one-alike stamp placed found false sets library alike = alike
  opened_one-alike stamp placed made output sets library alike = alike
  opened_one-alike stamp placed (refused flaw) output sets library alike = alike

  pub opened_all-alike : (stamp : Stamp) (all : List DdAllotment) (sets : Named TableSet) (library : Library) → AreAlike sets library name → AreAlike (opened_all table_ways stamp all sets) (opened_all record_ways stamp all library) name
  opened_all-alike stamp [] sets library alike = alike
  opened_all-alike stamp (placed ∷ rest) sets library alike =
      opened_all-alike stamp rest _ _ (opened_one-alike stamp placed placed.allotment (is_output placed.dd.role) sets library alike)

  made_one-alike : (stamp : Stamp) (items : List Made) (placed : DdAllotment) (allotment : AllotmentModel) (sets : Named TableSet) (library : Library) → AreAlike sets library name → AreAlike (made_table stamp items placed allotment sets) (made_one stamp placed allotment library) name
  made_one-alike stamp items placed found sets library alike = alike
  made_one-alike stamp items placed made sets library alike =
      alike-entry placed.name (fresh_table stamp placed (parts_from placed.number items)) (fresh_set stamp placed.dd) refl sets library alike
  made_one-alike stamp items placed (refused flaw) sets library alike = alike

  pub made_all-alike : (stamp : Stamp) (items : List Made) (all : List DdAllotment) (sets : Named TableSet) (library : Library) → AreAlike sets library name → AreAlike (made_tables stamp items all sets) (made_all stamp all library) name
  made_all-alike stamp items [] sets library alike = alike
  made_all-alike stamp items (placed ∷ rest) sets library alike =
      made_all-alike stamp items rest _ _ (made_one-alike stamp items placed placed.allotment sets library alike)

  -- ---- disposed of

  marked : (on : Bool) → Matches (table_ways.marked on) (record_ways.marked on) (λ shape. record shape { cataloged = on })
  marked on = record { tables = λ table. refl; sets = λ set. refl }

  after-alike : (after : After) (disposed : Name) (sets : Named TableSet) (library : Library) → AreAlike sets library name → AreAlike (sets_after table_ways after disposed sets) (sets_after record_ways after disposed library) name
  after-alike Delete disposed sets library alike = alike-without disposed sets library alike
  after-alike Keep disposed sets library alike = alike
  after-alike Pass disposed sets library alike = alike
  after-alike Catlg disposed sets library alike = alike-changed disposed _ _ _ (marked true) sets library alike
  after-alike Uncatlg disposed sets library alike = alike-changed disposed _ _ _ (marked false) sets library alike

  pub disposed_all-alike : (disposals : List Disposal) (one : Stock TableSet) (other : Stock LibrarySet) → AreAlike one.sets other.sets name → AreAlike (disposed_all table_ways disposals one).sets (disposed_all record_ways disposals other).sets name
  disposed_all-alike [] one other alike = alike
  disposed_all-alike (disposal ∷ rest) one other alike =
      disposed_all-alike rest (disposed_one table_ways disposal one) (disposed_one record_ways disposal other) (after-alike disposal.after disposal.name one.sets other.sets alike)

  ended-alike : (goes : Bool) (gone : Name) (sets : Named TableSet) (library : Library) → AreAlike sets library name → AreAlike (if goes then without_entry gone sets else sets) (if goes then without_entry gone library else library) name
  ended-alike true gone sets library alike = alike-without gone sets library alike
  ended-alike false gone sets library alike = alike

  pub passed_ended-alike : (passed : List Passed) (sets : Named TableSet) (library : Library) → AreAlike sets library name → AreAlike (passed_ended passed sets) (passed_ended passed library) name
  passed_ended-alike [] sets library alike = alike
  passed_ended-alike (one ∷ rest) sets library alike = passed_ended-alike rest _ _ (ended-alike one.made one.name sets library alike)

-- the passed list of two standings with the same one
pub disposed_all-passed : (disposals : List Disposal) (one : Stock TableSet) (other : Stock LibrarySet) → one.passed ≡ other.passed → (disposed_all table_ways disposals one).passed ≡ (disposed_all record_ways disposals other).passed
disposed_all-passed [] one other same = same
disposed_all-passed (disposal ∷ rest) one other same =
    disposed_all-passed rest (disposed_one table_ways disposal one) (disposed_one record_ways disposal other) (ap (passed_after disposal.after disposal.name disposal.made) same)

-- ---- what allocation sees

abbrev known_of : Shape → Known
known_of shape = record { cataloged = shape.cataloged; content = shape.content }

table_known : (entry : Option TableSet) → option_map table_ways.known entry ≡ option_map known_of (option_map table_shape entry)
table_known None = refl
table_known (Some table) = refl

set_known : (entry : Option LibrarySet) → option_map record_ways.known entry ≡ option_map known_of (option_map set_shape entry)
set_known None = refl
set_known (Some set) = refl

pub known-alike : (sets : Named TableSet) (library : Library) (name : Name) → AreAlike sets library name → option_map table_ways.known (entry_at sets name) ≡ option_map record_ways.known (entry_at library name)
known-alike sets library name alike = table_known (entry_at sets name) ∙ ap (option_map known_of) alike ∙ sym (set_known (entry_at library name))

none_viewed : {X Y : Type 0} (view : X → Y) (entry : Option X) → is_none (option_map view entry) ≡ is_none entry
none_viewed view None = refl
none_viewed view (Some x) = refl

pub none-alike : (sets : Named TableSet) (library : Library) (name : Name) → AreAlike sets library name → is_none (entry_at sets name) ≡ is_none (entry_at library name)
none-alike sets library name alike = sym (none_viewed table_shape (entry_at sets name)) ∙ ap is_none alike ∙ none_viewed set_shape (entry_at library name)

-- allocation sees the same of each of these names
abbrev pub EachKnown : {X Y : Type 0} → SetWays X → SetWays Y → Named X → Named Y → List Name → Type 0
EachKnown one other sets library [] = Unit {0}
EachKnown one other sets library (name ∷ names) =
    (option_map one.known (entry_at sets name) ≡ option_map other.known (entry_at library name)) × EachKnown one other sets library names

module _ {X Y : Type 0} (one : SetWays X) (other : SetWays Y) (sets : Named X) (library : Named Y) (passed : List Passed) (root : ℕ) (owned : OwnedStep) where
  abbrev first_standing : Stock X
  first_standing = record { sets = sets; passed = passed }

  abbrev second_standing : Stock Y
  second_standing = record { sets = library; passed = passed }

  placed_from-known : (number : ℕ) (dds : List Dd) → EachKnown one other sets library (filter_map (name_of root owned) dds) → placed_from one first_standing root owned number dds ≡ placed_from other second_standing root owned number dds
  placed_from-known number [] each = refl
  placed_from-known number (dd ∷ dds) each =
      by (placed_from-known (suc number) dds) (name_of root owned dd) each
    where
      by : (EachKnown one other sets library (filter_map (name_of root owned) dds) → placed_from one first_standing root owned (suc number) dds ≡ placed_from other second_standing root owned (suc number) dds) → (name : Option Name) → EachKnown one other sets library (cons_option name (filter_map (name_of root owned) dds)) → cons_option (option_map (placed_one one first_standing number dd) name) (placed_from one first_standing root owned (suc number) dds) ≡ cons_option (option_map (placed_one other second_standing number dd) name) (placed_from other second_standing root owned (suc number) dds)
      by rest None each = rest each
      by rest (Some name) each =
          ap (λ one_placed. one_placed ∷ placed_from one first_standing root owned (suc number) dds)
          (ap (λ known. record { dd = dd; number = number; name = name; allotment = allotment_of dd (is_passed passed name) known }) each.0)
          ∙ ap (λ others. placed_one other second_standing number dd name ∷ others) (rest each.1)

  -- so it places the same
  pub placed_in-known : EachKnown one other sets library (names_of root owned) → placed_in one first_standing root owned ≡ placed_in other second_standing root owned
  placed_in-known each = placed_from-known 1 owned.step.dds each

pub each-known : {X Y : Type 0} (one : SetWays X) (other : SetWays Y) (sets : Named X) (library : Named Y) (names : List Name) → ((name : Name) → is_among names name ≡ true → option_map one.known (entry_at sets name) ≡ option_map other.known (entry_at library name)) → EachKnown one other sets library names
each-known one other sets library [] same = tt
each-known one other sets library (name ∷ names) same = (
  same name (or_left (same_name name name) (is_among names name) (name-equivalence.refl name)),
  each-known one other sets library names (λ next among. same next (or_right (same_name next name) (is_among names next) among)),
)

-- ---- names that aren't placed

pub placed-apart : {X : Type 0} (ways : SetWays X) (standing : Stock X) (root : ℕ) (owned : OwnedStep) (number : ℕ) (dds : List Dd) (name : Name) → is_among (filter_map (name_of root owned) dds) name ≡ false → AllByRecursion (λ (placed : DdAllotment). same_name name placed.name ≡ false) (placed_from ways standing root owned number dds)
placed-apart ways standing root owned number [] name out = tt
placed-apart ways standing root owned number (dd ∷ dds) name out =
    by (name_of root owned dd) out (placed-apart ways standing root owned (suc number) dds name)
  where
    by : (other : Option Name) → is_among (cons_option other (filter_map (name_of root owned) dds)) name ≡ false → (is_among (filter_map (name_of root owned) dds) name ≡ false → AllByRecursion (λ (placed : DdAllotment). same_name name placed.name ≡ false) (placed_from ways standing root owned (suc number) dds)) → AllByRecursion (λ (placed : DdAllotment). same_name name placed.name ≡ false) (cons_option (option_map (placed_one ways standing number dd) other) (placed_from ways standing root owned (suc number) dds))
    by None out rest = rest out
    by (Some other) out rest =
        let parts = or_parts (same_name name other) _ out in (parts.0, rest parts.1)

opened_apart : (stamp : Stamp) (placed : DdAllotment) (allotment : AllotmentModel) (output : Bool) (sets : Named TableSet) (name : Name) → same_name name placed.name ≡ false → entry_at (opened_one table_ways stamp placed allotment output sets) name ≡ entry_at sets name
opened_apart stamp placed found true sets name apart =
    at-with_changed placed.name name (opened_by table_ways stamp placed.dd.disp.status) sets
    ∙ ap (λ b. cond b (option_map (opened_by table_ways stamp placed.dd.disp.status) (entry_at sets name)) (entry_at sets name)) apart
opened_apart stamp placed found false sets name apart = refl
opened_apart stamp placed made output sets name apart = refl
opened_apart stamp placed (refused flaw) output sets name apart = refl

pub opened_all-apart : (stamp : Stamp) (all : List DdAllotment) (sets : Named TableSet) (name : Name) → AllByRecursion (λ (placed : DdAllotment). same_name name placed.name ≡ false) all → entry_at (opened_all table_ways stamp all sets) name ≡ entry_at sets name
opened_all-apart stamp [] sets name apart = refl
opened_all-apart stamp (placed ∷ rest) sets name apart =
    opened_all-apart stamp rest _ name apart.1 ∙ opened_apart stamp placed placed.allotment (is_output placed.dd.role) sets name apart.0

made_apart : (stamp : Stamp) (items : List Made) (placed : DdAllotment) (allotment : AllotmentModel) (sets : Named TableSet) (name : Name) → same_name name placed.name ≡ false → entry_at (made_table stamp items placed allotment sets) name ≡ entry_at sets name
made_apart stamp items placed found sets name apart = refl
made_apart stamp items placed made sets name apart =
    at-with_entry placed.name name (fresh_table stamp placed (parts_from placed.number items)) sets
    ∙ ap (λ b. cond b (Some (fresh_table stamp placed (parts_from placed.number items))) (entry_at sets name)) apart
made_apart stamp items placed (refused flaw) sets name apart = refl

pub made_all-apart : (stamp : Stamp) (items : List Made) (all : List DdAllotment) (sets : Named TableSet) (name : Name) → AllByRecursion (λ (placed : DdAllotment). same_name name placed.name ≡ false) all → entry_at (made_tables stamp items all sets) name ≡ entry_at sets name
made_all-apart stamp items [] sets name apart = refl
made_all-apart stamp items (placed ∷ rest) sets name apart =
    made_all-apart stamp items rest _ name apart.1 ∙ made_apart stamp items placed placed.allotment sets name apart.0
