-- What holds of the data set of each name goes on to hold through what an event does to data sets, where it holds of one that is cut,
-- marked, stamped or made.
use Rattle.std.proofs.Common.{◌≡◌, ℕ, Bool, true, false, cond, if◌then◌else◌, List, [], ◌∷◌, refl, sym, ◌∙◌, subst, Option, Some, None}
use Rattle.std.specs.Prelude.{nat_le}
use Rattle.std.specs.Option.{option_map, option_map_or}
use Rattle.std.proofs.lemmas.Option.{same_Some}
use Rattle.ckr_base.proofs.Options.{some-not-none}
use Rattle.ckr_entry.specs.declared.point.Mark.{Mark}
use Rattle.ckr_entry.specs.declared.point.Passed.{Passed}
use Rattle.ckr_entry.specs.declared.point.Present.{Present}
use Rattle.ckr_events.specs.declared.event.Made.{Made}
use Rattle.ckr_jcl.specs.declared.deck.After.{After}
use Rattle.ckr_jcl.specs.declared.deck.After.TheVariants.{Delete, Keep, Pass, Catlg, Uncatlg}
use Rattle.ckr_jcl.specs.declared.deck.Status.{Status}
use Rattle.ckr_jcl.specs.declared.deck.Status.TheVariants.{New, Old, Shr, Mod}
use Rattle.ckr_library.specs.declared.sets.Part.{Part}
use Rattle.ckr_library.specs.declared.sets.Stamp.{Stamp}
use Rattle.ckr_library.specs.NameMaps.{Name, Named, entry_at, same_name, with_changed, with_entry, without_entry}
use Rattle.ckr_library.proofs.Named.{at-with_changed, at-with_entry, at-without_entry}
use Rattle.ckr_meaning.specs.Allotments.{AllotmentModel, found, made, refused, DdAllotment, is_output, opened_all, opened_by, opened_one}
use Rattle.ckr_meaning.specs.Dispositions.{Disposal, Stock, disposed_all, disposed_one, passed_ended, sets_after}
use Rattle.ckr_points.specs.Marks.{present_at, put_back, put_back_catalogs, put_back_length, put_back_lengths, removed_all}
use Rattle.ckr_points.specs.Tables.{committed, fresh_table, made_table, made_tables, parts_from, table_rewritten}
use Rattle.ckr_points.specs.Rows.{TableSet, cut_set, table_ways}
use Rattle.ckr_desk_refines.specs.Entries.{UnderEachName}

-- ---- maps by name

module _ {X : Type 0} (Q : X → Type 0) where
  pub under-with_entry : (name : Name) (x : X) (named : Named X) → Q x → UnderEachName Q named → UnderEachName Q (with_entry name x named)
  under-with_entry name x named one each other y its = by (same_name other name) (sym (at-with_entry name other x named) ∙ its)
    where
      by : (b : Bool) → cond b (Some x) (entry_at named other) ≡ Some y → Q y
      by true e = subst Q (same_Some x y e) one
      by false e = each other y e

  pub under-without_entry : (name : Name) (named : Named X) → UnderEachName Q named → UnderEachName Q (without_entry name named)
  under-without_entry name named each other y its = by (same_name other name) (sym (at-without_entry name other named) ∙ its)
    where
      by : (b : Bool) → cond b None (entry_at named other) ≡ Some y → Q y
      by true e = absurd (some-not-none y (sym e))
      by false e = each other y e

  pub under-with_changed : (name : Name) (change : X → X) (named : Named X) → ((other : Name) (x : X) → same_name other name ≡ true → entry_at named other ≡ Some x → Q (change x)) → UnderEachName Q named → UnderEachName Q (with_changed name change named)
  under-with_changed name change named keeps each other y its = by (same_name other name) (entry_at named other) refl refl (sym (at-with_changed name other change named) ∙ its)
    where
      by : (b : Bool) (entry : Option X) → same_name other name ≡ b → entry_at named other ≡ entry → cond b (option_map change entry) entry ≡ Some y → Q y
      by true None same e is = absurd (some-not-none y (sym is))
      by true (Some x) same e is = subst Q (same_Some (change x) y is) (keeps other x same e)
      by false entry same e is = each other y (e ∙ is)

  pub under-changed : (name : Name) (change : X → X) (named : Named X) → ((x : X) → Q x → Q (change x)) → UnderEachName Q named → UnderEachName Q (with_changed name change named)
  under-changed name change named keeps each = under-with_changed name change named (λ other x same e. keeps x (each other x e)) each

-- ---- data sets

-- it holds of a data set that is cut, marked, stamped or made
pub record Stays (E : TableSet → Type 0) : Type 0 where
  pub cut : (most : ℕ) (table : TableSet) → E table → E (cut_set most table)
  pub marked : (on : Bool) (table : TableSet) → E table → E (table_ways.marked on table)
  pub stamped : (stamp : Stamp) (table : TableSet) → E table → E (table_ways.stamped stamp table)
  pub fresh : (stamp : Stamp) (placed : DdAllotment) (parts : List Part) → E (fresh_table stamp placed parts)

module _ (E : TableSet → Type 0) (stays : Stays E) where
  opened-stays : (stamp : Stamp) (status : Status) (table : TableSet) → E table → E (opened_by table_ways stamp status table)
  opened-stays stamp New table its = stays.stamped stamp table its
  opened-stays stamp Old table its = stays.stamped stamp (cut_set 0 table) (stays.cut 0 table its)
  opened-stays stamp Shr table its = stays.stamped stamp table its
  opened-stays stamp Mod table its = stays.stamped stamp table its

  opened_one-stays : (stamp : Stamp) (placed : DdAllotment) (allotment : AllotmentModel) (output : Bool) (sets : Named TableSet) → UnderEachName E sets → UnderEachName E (opened_one table_ways stamp placed allotment output sets)
  opened_one-stays stamp placed found true sets each = under-changed E placed.name (opened_by table_ways stamp placed.dd.disp.status) sets (opened-stays stamp placed.dd.disp.status) each
  opened_one-stays stamp placed found false sets each = each
  opened_one-stays stamp placed made output sets each = each
  opened_one-stays stamp placed (refused flaw) output sets each = each

  pub opened_all-stays : (stamp : Stamp) (all : List DdAllotment) (sets : Named TableSet) → UnderEachName E sets → UnderEachName E (opened_all table_ways stamp all sets)
  opened_all-stays stamp [] sets each = each
  opened_all-stays stamp (placed ∷ rest) sets each = opened_all-stays stamp rest _ (opened_one-stays stamp placed placed.allotment (is_output placed.dd.role) sets each)

  made_one-stays : (stamp : Stamp) (items : List Made) (placed : DdAllotment) (allotment : AllotmentModel) (sets : Named TableSet) → UnderEachName E sets → UnderEachName E (made_table stamp items placed allotment sets)
  made_one-stays stamp items placed found sets each = each
  made_one-stays stamp items placed made sets each = under-with_entry E placed.name (fresh_table stamp placed (parts_from placed.number items)) sets (stays.fresh stamp placed (parts_from placed.number items)) each
  made_one-stays stamp items placed (refused flaw) sets each = each

  pub made_all-stays : (stamp : Stamp) (items : List Made) (all : List DdAllotment) (sets : Named TableSet) → UnderEachName E sets → UnderEachName E (made_tables stamp items all sets)
  made_all-stays stamp items [] sets each = each
  made_all-stays stamp items (placed ∷ rest) sets each = made_all-stays stamp items rest _ (made_one-stays stamp items placed placed.allotment sets each)

  pub committed-stays : (names : List Name) (lengths : List ℕ) (sets : Named TableSet) → UnderEachName E sets → UnderEachName E (committed names lengths sets)
  committed-stays [] lengths sets each = each
  committed-stays (name ∷ names) [] sets each = each
  committed-stays (name ∷ names) (now ∷ lengths) sets each =
      committed-stays names lengths (with_changed name (cut_set now) sets) (under-changed E name (cut_set now) sets (stays.cut now) each)

  pub rewritten-stays : (name : Name) (owner step : ℕ) (sets : Named TableSet) → UnderEachName E sets → UnderEachName E (with_changed name (table_rewritten owner step) sets)
  rewritten-stays name owner step sets each = under-changed E name (table_rewritten owner step) sets (λ table its. stays.stamped _ table its) each

  after-stays : (after : After) (name : Name) (sets : Named TableSet) → UnderEachName E sets → UnderEachName E (sets_after table_ways after name sets)
  after-stays Delete name sets each = under-without_entry E name sets each
  after-stays Keep name sets each = each
  after-stays Pass name sets each = each
  after-stays Catlg name sets each = under-changed E name (table_ways.marked true) sets (stays.marked true) each
  after-stays Uncatlg name sets each = under-changed E name (table_ways.marked false) sets (stays.marked false) each

  pub disposed_all-stays : (disposals : List Disposal) (standing : Stock TableSet) → UnderEachName E standing.sets → UnderEachName E (disposed_all table_ways disposals standing).sets
  disposed_all-stays [] standing each = each
  disposed_all-stays (one ∷ rest) standing each = disposed_all-stays rest (disposed_one table_ways one standing) (after-stays one.after one.name standing.sets each)

  ended-stays : (goes : Bool) (name : Name) (sets : Named TableSet) → UnderEachName E sets → UnderEachName E (if goes then without_entry name sets else sets)
  ended-stays true name sets each = under-without_entry E name sets each
  ended-stays false name sets each = each

  pub passed_ended-stays : (passed : List Passed) (sets : Named TableSet) → UnderEachName E sets → UnderEachName E (passed_ended passed sets)
  passed_ended-stays [] sets each = each
  passed_ended-stays (one ∷ rest) sets each = passed_ended-stays rest _ (ended-stays one.made one.name sets each)

  -- ---- put back

  pub removed_all-stays : (names : List Name) (sets : Named TableSet) → UnderEachName E sets → UnderEachName E (removed_all names sets)
  removed_all-stays [] sets each = each
  removed_all-stays (name ∷ names) sets each = removed_all-stays names (without_entry name sets) (under-without_entry E name sets each)

  length-stays : (most : ℕ) (table : TableSet) → E table → E (put_back_length most table)
  length-stays most table its = by (nat_le most table.set.length)
    where
      by : (shorter : Bool) → E (if shorter then cut_set most table else table)
      by true = stays.cut most table its
      by false = its

  -- a data set is changed by its mark, if it has one
  by_mark-stays : (change : Present → TableSet → TableSet) → ((present : Present) (table : TableSet) → E table → E (change present table)) → (present : Option Present) (name : Name) (sets : Named TableSet) → UnderEachName E sets → UnderEachName E (option_map_or (λ present. with_changed name (change present) sets) present sets)
  by_mark-stays change keeps None name sets each = each
  by_mark-stays change keeps (Some present) name sets each = under-changed E name (change present) sets (keeps present) each

  lengths-stays : (marks : List Mark) (names : List Name) (sets : Named TableSet) → UnderEachName E sets → UnderEachName E (put_back_lengths marks names sets)
  lengths-stays marks [] sets each = each
  lengths-stays marks (name ∷ names) sets each =
      lengths-stays marks names _ (by_mark-stays (λ present. put_back_length present.length) (λ present. length-stays present.length) (present_at marks name) name sets each)

  catalogs-stays : (marks : List Mark) (names : List Name) (sets : Named TableSet) → UnderEachName E sets → UnderEachName E (put_back_catalogs marks names sets)
  catalogs-stays marks [] sets each = each
  catalogs-stays marks (name ∷ names) sets each =
      catalogs-stays marks names _ (by_mark-stays (λ present. table_ways.marked present.cataloged) (λ present. stays.marked present.cataloged) (present_at marks name) name sets each)

  pub put_back-stays : (marks : List Mark) (outputs needed : List Name) (sets : Named TableSet) → UnderEachName E sets → UnderEachName E (put_back marks outputs needed sets)
  put_back-stays marks outputs needed sets each = catalogs-stays marks needed (put_back_lengths marks outputs sets) (lengths-stays marks outputs sets each)
