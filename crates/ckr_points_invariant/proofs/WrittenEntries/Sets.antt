-- What holds of each data set under its name goes on to hold through what an event does to data sets: they are cut, marked, stamped and
-- removed, and none comes with an entry.
use Rattle.std.proofs.Common.{◌≡◌, ◌≤◌, ℕ, Bool, true, false, cond, List, [], ◌∷◌, if◌then◌else◌, refl, ap, sym, ◌∙◌, subst, Some, None, arith}
use Rattle.std.specs.Prelude.{nat_le}
use Rattle.std.specs.Option.{option_map}
use Rattle.std.proofs.lemmas.Option.{same_Some}
use Rattle.ckr_base.proofs.Bools.{bool-cases}
use Rattle.ckr_base.proofs.Numbers.{nat_le-true}
use Rattle.ckr_base.proofs.Options.{option-cases, option_map-some, some-not-none}
use Rattle.ckr_entry.specs.declared.point.Mark.{Mark}
use Rattle.ckr_entry.specs.declared.point.Passed.{Passed}
use Rattle.ckr_entry.specs.declared.point.Present.{Present}
use Rattle.ckr_events.specs.declared.event.Made.{Made}
use Rattle.ckr_jcl.specs.declared.deck.After.{After}
use Rattle.ckr_jcl.specs.declared.deck.After.TheVariants.{Delete, Keep, Pass, Catlg, Uncatlg}
use Rattle.ckr_jcl.specs.declared.deck.Status.{Status}
use Rattle.ckr_jcl.specs.declared.deck.Status.TheVariants.{New, Old, Shr, Mod}
use Rattle.ckr_library.specs.declared.sets.Stamp.{Stamp}
use Rattle.ckr_library.specs.NameMaps.{Name, Named, same_name, entry_at, with_changed, with_entry, without_entry}
use Rattle.ckr_library.proofs.Named.{at-with_changed, at-with_entry, at-without_entry}
use Rattle.ckr_meaning.specs.Allotments.{AllotmentModel, found, made, refused, DdAllotment, is_output, opened_all, opened_by, opened_one}
use Rattle.ckr_meaning.specs.Dispositions.{Disposal, Stock, disposed_all, disposed_one, passed_ended, sets_after}
use Rattle.ckr_meaning.specs.EffectiveJob.{is_among}
use Rattle.ckr_points.specs.Marks.{present_at, put_back, removed_all}
use Rattle.ckr_points.specs.Rows.{TableSet, cut_set, table_ways}
use Rattle.ckr_points.specs.Tables.{committed, fresh_table, made_table, made_tables, parts_from, table_rewritten}
use Rattle.ckr_points_invariant.proofs.PutBack.Sets.{at-removed_all, back_to, changed_if, put_back-marked, put_back-none, to_catalog, to_length}

-- it holds of each data set
abbrev pub EachHas : (Name → TableSet → Type 0) → Named TableSet → Type 0
EachHas E sets = (name : Name) (table : TableSet) → entry_at sets name ≡ Some table → E name table

-- it goes on through each change by which a data set doesn't grow, and holds of one that is empty
pub record GoesOnReduced (E : Name → TableSet → Type 0) : Type 0 where
  pub cut : (name : Name) (table : TableSet) (most : ℕ) → most ≤ table.set.length → E name table → E name (cut_set most table)
  pub marked : (name : Name) (table : TableSet) (on : Bool) → E name table → E name (table_ways.marked on table)
  pub stamped : (name : Name) (table : TableSet) (stamp : Stamp) → E name table → E name (table_ways.stamped stamp table)
  pub fresh : (name : Name) (table : TableSet) → table.set.length ≡ 0 → table.entries ≡ [] → E name table

-- it goes on through each change of a data set, also where that grows, and holds of one without entries
pub record GoesOnThrough (E : Name → TableSet → Type 0) : Type 0 where
  pub cut : (name : Name) (table : TableSet) (most : ℕ) → E name table → E name (cut_set most table)
  pub marked : (name : Name) (table : TableSet) (on : Bool) → E name table → E name (table_ways.marked on table)
  pub stamped : (name : Name) (table : TableSet) (stamp : Stamp) → E name table → E name (table_ways.stamped stamp table)
  pub fresh : (name : Name) (table : TableSet) → table.entries ≡ [] → E name table

module _ (E : Name → TableSet → Type 0) where
  pub changed-has : (to : Name) (change : TableSet → TableSet) (sets : Named TableSet) → ((name : Name) (table : TableSet) → E name table → E name (change table)) → EachHas E sets → EachHas E (with_changed to change sets)
  changed-has to change sets keeps each name table e =
      bool-cases (same_name name to)
      (λ same.
      let old = option_map-some change (entry_at sets name) table (sym (ap (λ b. cond b (option_map change (entry_at sets name)) (entry_at sets name)) same) ∙ sym (at-with_changed to name change sets) ∙ e) in
      subst (E name) old.2 (keeps name old.0 (each name old.0 old.1)))
      (λ apart. each name table (sym (ap (λ b. cond b (option_map change (entry_at sets name)) (entry_at sets name)) apart) ∙ sym (at-with_changed to name change sets) ∙ e))

-- ---- through changes by which no data set grows

module _ (E : Name → TableSet → Type 0) (through : GoesOnReduced E) where
  without-reduced : (to : Name) (sets : Named TableSet) → EachHas E sets → EachHas E (without_entry to sets)
  without-reduced to sets each name table e =
      bool-cases (same_name name to)
      (λ same. absurd (some-not-none table (sym e ∙ at-without_entry to name sets ∙ ap (λ b. cond b None (entry_at sets name)) same)))
      (λ apart. each name table (sym (ap (λ b. cond b None (entry_at sets name)) apart) ∙ sym (at-without_entry to name sets) ∙ e))

  with-reduced : (to : Name) (fresh : TableSet) (sets : Named TableSet) → fresh.set.length ≡ 0 → fresh.entries ≡ [] → EachHas E sets → EachHas E (with_entry to fresh sets)
  with-reduced to fresh sets empty none each name table e =
      bool-cases (same_name name to)
      (λ same.
      subst (E name) (same_Some fresh table (sym (ap (λ b. cond b (Some fresh) (entry_at sets name)) same) ∙ sym (at-with_entry to name fresh sets) ∙ e)) (through.fresh name fresh empty none))
      (λ apart. each name table (sym (ap (λ b. cond b (Some fresh) (entry_at sets name)) apart) ∙ sym (at-with_entry to name fresh sets) ∙ e))

  -- ---- a step starts

  opened-reduced : (stamp : Stamp) (status : Status) (name : Name) (table : TableSet) → E name table → E name (opened_by table_ways stamp status table)
  opened-reduced stamp New name table its = through.stamped name table stamp its
  opened-reduced stamp Old name table its = through.stamped name (cut_set 0 table) stamp (through.cut name table 0 (omega arith) its)
  opened-reduced stamp Shr name table its = through.stamped name table stamp its
  opened-reduced stamp Mod name table its = through.stamped name table stamp its

  opened_one-reduced : (stamp : Stamp) (placed : DdAllotment) (allotment : AllotmentModel) (output : Bool) (sets : Named TableSet) → EachHas E sets → EachHas E (opened_one table_ways stamp placed allotment output sets)
  opened_one-reduced stamp placed found true sets each = changed-has E placed.name (opened_by table_ways stamp placed.dd.disp.status) sets (opened-reduced stamp placed.dd.disp.status) each
  opened_one-reduced stamp placed found false sets each = each
  opened_one-reduced stamp placed made output sets each = each
  opened_one-reduced stamp placed (refused flaw) output sets each = each

  pub opened_all-reduced : (stamp : Stamp) (all : List DdAllotment) (sets : Named TableSet) → EachHas E sets → EachHas E (opened_all table_ways stamp all sets)
  opened_all-reduced stamp [] sets each = each
  opened_all-reduced stamp (placed ∷ rest) sets each = opened_all-reduced stamp rest _ (opened_one-reduced stamp placed placed.allotment (is_output placed.dd.role) sets each)

  made_one-reduced : (stamp : Stamp) (items : List Made) (placed : DdAllotment) (allotment : AllotmentModel) (sets : Named TableSet) → EachHas E sets → EachHas E (made_table stamp items placed allotment sets)
  made_one-reduced stamp items placed found sets each = each
  made_one-reduced stamp items placed made sets each = with-reduced placed.name (fresh_table stamp placed (parts_from placed.number items)) sets refl refl each
  made_one-reduced stamp items placed (refused flaw) sets each = each

  pub made_all-reduced : (stamp : Stamp) (items : List Made) (all : List DdAllotment) (sets : Named TableSet) → EachHas E sets → EachHas E (made_tables stamp items all sets)
  made_all-reduced stamp items [] sets each = each
  made_all-reduced stamp items (placed ∷ rest) sets each = made_all-reduced stamp items rest _ (made_one-reduced stamp items placed placed.allotment sets each)

  -- ---- it rewrites

  pub rewritten-reduced : (to : Name) (owner step : ℕ) (sets : Named TableSet) → EachHas E sets → EachHas E (with_changed to (table_rewritten owner step) sets)
  rewritten-reduced to owner step sets each = changed-has E to (table_rewritten owner step) sets (λ name table its. through.stamped name table _ its) each

  -- ---- it ends

  after-reduced : (after : After) (to : Name) (sets : Named TableSet) → EachHas E sets → EachHas E (sets_after table_ways after to sets)
  after-reduced Delete to sets each = without-reduced to sets each
  after-reduced Keep to sets each = each
  after-reduced Pass to sets each = each
  after-reduced Catlg to sets each = changed-has E to (table_ways.marked true) sets (λ name table its. through.marked name table true its) each
  after-reduced Uncatlg to sets each = changed-has E to (table_ways.marked false) sets (λ name table its. through.marked name table false its) each

  pub disposed_all-reduced : (disposals : List Disposal) (standing : Stock TableSet) → EachHas E standing.sets → EachHas E (disposed_all table_ways disposals standing).sets
  disposed_all-reduced [] standing each = each
  disposed_all-reduced (one ∷ rest) standing each = disposed_all-reduced rest (disposed_one table_ways one standing) (after-reduced one.after one.name standing.sets each)

  ended-reduced : (goes : Bool) (to : Name) (sets : Named TableSet) → EachHas E sets → EachHas E (if goes then without_entry to sets else sets)
  ended-reduced true to sets each = without-reduced to sets each
  ended-reduced false to sets each = each

  pub passed_ended-reduced : (passed : List Passed) (sets : Named TableSet) → EachHas E sets → EachHas E (passed_ended passed sets)
  passed_ended-reduced [] sets each = each
  passed_ended-reduced (one ∷ rest) sets each = passed_ended-reduced rest _ (ended-reduced one.made one.name sets each)

  -- ---- it goes back

  length-reduced : (present : Present) (name : Name) (table : TableSet) → E name table → E name (to_length present table)
  length-reduced present name table its = by (nat_le present.length table.set.length) refl
    where
      by : (b : Bool) → nat_le present.length table.set.length ≡ b → E name (if b then cut_set present.length table else table)
      by true shorter = through.cut name table present.length (nat_le-true present.length table.set.length shorter) its
      by false longer = its

  output-reduced : (output : Bool) (present : Present) (name : Name) (table : TableSet) → E name table → E name (changed_if output (to_length present) table)
  output-reduced true present name table its = length-reduced present name table its
  output-reduced false present name table its = its

  needed-reduced : (needed : Bool) (present : Present) (name : Name) (table : TableSet) → E name table → E name (changed_if needed (to_catalog present) table)
  needed-reduced true present name table its = through.marked name table present.cataloged its
  needed-reduced false present name table its = its

  pub put_back-reduced : (marks : List Mark) (outputs needed : List Name) (sets : Named TableSet) → EachHas E sets → EachHas E (put_back marks outputs needed sets)
  put_back-reduced marks outputs needed sets each name table e =
      option-cases (present_at marks name)
      (λ none. each name table (sym (put_back-none marks outputs needed sets name none) ∙ e))
      (λ present has.
      let old = option_map-some (back_to (is_among outputs name) (is_among needed name) present) (entry_at sets name) table (sym (put_back-marked marks outputs needed sets present name has) ∙ e) in
      subst (E name) old.2
      (needed-reduced (is_among needed name) present name (changed_if (is_among outputs name) (to_length present) old.0)
      (output-reduced (is_among outputs name) present name old.0 (each name old.0 old.1))))

  pub removed_all-reduced : (names : List Name) (sets : Named TableSet) → EachHas E sets → EachHas E (removed_all names sets)
  removed_all-reduced names sets each name table e =
      bool-cases (is_among names name)
      (λ gone. absurd (some-not-none table (sym e ∙ at-removed_all names sets name ∙ ap (λ b. cond b None (entry_at sets name)) gone)))
      (λ left. each name table (sym (ap (λ b. cond b None (entry_at sets name)) left) ∙ sym (at-removed_all names sets name) ∙ e))

-- ---- through any change

module _ (E : Name → TableSet → Type 0) (through : GoesOnThrough E) where
  reduces : GoesOnReduced E
  reduces = record {
    cut = λ name table most shorter. through.cut name table most;
    marked = through.marked;
    stamped = through.stamped;
    fresh = λ name table empty. through.fresh name table;
  }

  pub committed-has : (names : List Name) (lengths : List ℕ) (sets : Named TableSet) → EachHas E sets → EachHas E (committed names lengths sets)
  committed-has [] lengths sets each = each
  committed-has (name ∷ names) [] sets each = each
  committed-has (name ∷ names) (now ∷ lengths) sets each =
      committed-has names lengths (with_changed name (cut_set now) sets) (changed-has E name (cut_set now) sets (λ name table. through.cut name table now) each)

  pub opened_all-has : (stamp : Stamp) (all : List DdAllotment) (sets : Named TableSet) → EachHas E sets → EachHas E (opened_all table_ways stamp all sets)
  opened_all-has = opened_all-reduced E reduces

  pub made_all-has : (stamp : Stamp) (items : List Made) (all : List DdAllotment) (sets : Named TableSet) → EachHas E sets → EachHas E (made_tables stamp items all sets)
  made_all-has = made_all-reduced E reduces

  pub rewritten-has : (to : Name) (owner step : ℕ) (sets : Named TableSet) → EachHas E sets → EachHas E (with_changed to (table_rewritten owner step) sets)
  rewritten-has = rewritten-reduced E reduces

  pub disposed_all-has : (disposals : List Disposal) (standing : Stock TableSet) → EachHas E standing.sets → EachHas E (disposed_all table_ways disposals standing).sets
  disposed_all-has = disposed_all-reduced E reduces

  pub passed_ended-has : (passed : List Passed) (sets : Named TableSet) → EachHas E sets → EachHas E (passed_ended passed sets)
  passed_ended-has = passed_ended-reduced E reduces

  pub put_back-has : (marks : List Mark) (outputs needed : List Name) (sets : Named TableSet) → EachHas E sets → EachHas E (put_back marks outputs needed sets)
  put_back-has = put_back-reduced E reduces

  pub removed_all-has : (names : List Name) (sets : Named TableSet) → EachHas E sets → EachHas E (removed_all names sets)
  removed_all-has = removed_all-reduced E reduces
