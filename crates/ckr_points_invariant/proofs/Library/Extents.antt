-- Data sets stay laid out through what the tables do with them.
use Rattle.std.proofs.Common.{◌≡◌, ◌≤◌, ℕ, Bool, true, false, cond, not, ◌&&◌, ◌||◌, if◌then◌else◌, List, [], ◌∷◌, refl, ap, sym, ◌∙◌, subst, Option, Some, None, arith}
use Rattle.std.specs.Prelude.{◌==◌, nat_le, nat_lt, length, sum_by}
use Rattle.std.specs.List.{list_all}
use Rattle.std.specs.Option.{option_map, option_map_or}
use Rattle.std.proofs.lemmas.Bool.{and_from, false≢true}
use Rattle.std.proofs.lemmas.Bool.Decides.{nat_tests}
use Rattle.std.proofs.lemmas.Option.{same_Some}
use Rattle.ckr_base.proofs.Bools.{and-first, and-second, bool-cases, or-turned}
use Rattle.ckr_base.proofs.Numbers.{equal-true, nat_le-true}
use Rattle.ckr_base.proofs.Options.{some-not-none}
use Rattle.ckr_base.proofs.Sequences.{all-implies}
use Rattle.ckr_entry.specs.declared.point.Passed.{Passed}
use Rattle.ckr_events.specs.declared.event.Made.{Made}
use Rattle.ckr_jcl.specs.declared.deck.After.{After}
use Rattle.ckr_jcl.specs.declared.deck.After.TheVariants.{Delete, Keep, Pass, Catlg, Uncatlg}
use Rattle.ckr_jcl.specs.declared.deck.Status.{Status}
use Rattle.ckr_jcl.specs.declared.deck.Status.TheVariants.{New, Old, Shr, Mod}
use Rattle.ckr_library.specs.declared.sets.DataSet.{DataSet}
use Rattle.ckr_library.specs.declared.sets.Stamp.{Stamp}
use Rattle.ckr_library.specs.NameMaps.{EachEntry, Name, Named, same_name, entry_at, with_change, with_changed, with_entry, without_entry}
use Rattle.ckr_library.proofs.Named.{at-with_changed, at-with_entry, at-without_entry, each-at, each-with_entry, each-without_entry, name-same}
use Rattle.ckr_meaning.specs.Allotments.{AllotmentModel, found, made, refused, DdAllotment, is_output, opened_all, opened_by, opened_one}
use Rattle.ckr_meaning.specs.Dispositions.{Disposal, Stock, disposed_all, disposed_one, passed_ended, sets_after}
use Rattle.ckr_volumes.specs.declared.layout.Layout.{Layout}
use Rattle.ckr_volumes.specs.Places.{StretchModel, end_of, stretches_of, stretches_of_parts}
use Rattle.ckr_volumes.specs.Layouts.{StandsIn, all_apart, are_apart, are_disjoint, is_inside, lie_apart, lists_apart, sums_up}
use Rattle.ckr_points.specs.Tables.{committed, fresh_table, made_table, made_tables, parts_from}
use Rattle.ckr_points.specs.Follows.{are_lengths, are_made_clear, is_made_clear, lies_clear, stands_in}
use Rattle.ckr_points.specs.Rows.{TableSet, cut_set, table_ways}
use Rattle.ckr_points.specs.Soundness.{AreLaidOut}

-- ---- apart from both sides

all_swapped : {X Y : Type 0} (P : X → Y → Bool) (xs : List X) (ys : List Y) → list_all (λ x. list_all (P x) ys) xs ≡ true → list_all (λ y. list_all (λ x. P x y) xs) ys ≡ true
all_swapped P xs [] each = refl
all_swapped P xs (y ∷ ys) each =
    and_from (list_all (λ x. P x y) xs) _
    (all-implies (λ x. P x y && list_all (P x) ys) (λ x. P x y) xs (λ x e. and-first (P x y) _ e) each)
    (all_swapped P xs ys (all-implies (λ x. P x y && list_all (P x) ys) (λ x. list_all (P x) ys) xs (λ x e. and-second (P x y) _ e) each))

or_both : (a b c d : Bool) → (a ≡ true → c ≡ true) → (b ≡ true → d ≡ true) → (a || b) ≡ true → (c || d) ≡ true
or_both true b c d f g e = ap (λ x. x || d) (f refl)
or_both false b c d f g e = ap (λ x. c || x) (g e) ∙ or-turned true c refl

equal_turned : (one other : ℕ) → not (one == other) ≡ true → not (other == one) ≡ true
equal_turned one other e = grind (arith, nat_tests)

apart_turned : (lrecl other_lrecl : ℕ) (one other : StretchModel) → are_apart lrecl other_lrecl one other ≡ true → are_apart other_lrecl lrecl other one ≡ true
apart_turned lrecl other_lrecl one other e =
    or_both (not (one.volume == other.volume)) (are_disjoint lrecl other_lrecl one other) (not (other.volume == one.volume)) (are_disjoint other_lrecl lrecl other one)
    (equal_turned one.volume other.volume)
    (or_both (one.records == 0 || other.records == 0) _ (other.records == 0 || one.records == 0) _
    (or-turned (one.records == 0) (other.records == 0))
    (or-turned (nat_le (end_of lrecl one) other.start) (nat_le (end_of other_lrecl other) one.start))) e

pub apart-turned : (one other : DataSet) → lie_apart one other ≡ true → lie_apart other one ≡ true
apart-turned one other e =
    all-implies (λ y. list_all (λ x. are_apart one.lrecl other.lrecl x y) (stretches_of one)) (λ y. list_all (are_apart other.lrecl one.lrecl y) (stretches_of one)) (stretches_of other)
    (λ y. all-implies (λ x. are_apart one.lrecl other.lrecl x y) (are_apart other.lrecl one.lrecl y) (stretches_of one) (λ x. apart_turned one.lrecl other.lrecl x y))
    (all_swapped (are_apart one.lrecl other.lrecl) (stretches_of one) (stretches_of other) e)

-- ---- changes that leave the extents

-- the extents and the record length are those of another
pub record IsSpreadAs (one other : TableSet) : Type 0 where
  pub parts : one.set.parts ≡ other.set.parts
  pub lrecl : one.set.lrecl ≡ other.set.lrecl

abbrev Shadows : Named TableSet → Named TableSet → Type 0
Shadows old new = (name : Name) (one : TableSet) → entry_at new name ≡ Some one → (other : TableSet) × (entry_at old name ≡ Some other) × IsSpreadAs one other

apart_by : (one other two next : TableSet) → IsSpreadAs one other → IsSpreadAs two next → lie_apart other.set next.set ≡ true → lie_apart one.set two.set ≡ true
apart_by one other two next first second e =
    ap (λ n. lists_apart n two.set.lrecl (stretches_of one.set) (stretches_of two.set)) first.lrecl
    ∙ ap (λ n. lists_apart other.set.lrecl n (stretches_of one.set) (stretches_of two.set)) second.lrecl
    ∙ ap (λ parts. lists_apart other.set.lrecl next.set.lrecl (stretches_of_parts parts.items) (stretches_of two.set)) first.parts
    ∙ ap (λ parts. lists_apart other.set.lrecl next.set.lrecl (stretches_of other.set) (stretches_of_parts parts.items)) second.parts
    ∙ e

laid_by : (layout : Layout) (old new : Named TableSet) → AreLaidOut layout old → Shadows old new → EachEntry (λ (table : TableSet). StandsIn layout table.set) new → AreLaidOut layout new
laid_by layout old new laid shadows stand = record {
  stand = stand;
  apart = λ name other one two different here there.
      let first = shadows name one here in
      let second = shadows other two there in
      apart_by one first.0 two second.0 first.2 second.2 (laid.apart name other first.0 second.0 different first.1 second.1);
}

changed_shadows : (name : Name) (change : TableSet → TableSet) (sets : Named TableSet) → ((table : TableSet) → IsSpreadAs (change table) table) → Shadows sets (with_changed name change sets)
changed_shadows name change sets same other one here =
    by (same_name other name) (entry_at sets other) refl (sym (at-with_changed name other change sets) ∙ here)
  where
    by : (b : Bool) (entry : Option TableSet) → entry_at sets other ≡ entry → cond b (option_map change entry) entry ≡ Some one → (old : TableSet) × (entry_at sets other ≡ Some old) × IsSpreadAs one old
    by true None e its = absurd (some-not-none one (sym its))
    by true (Some old) e its = (old, e, subst (λ t. IsSpreadAs t old) (same_Some (change old) one its) (same old))
    by false entry e its = (one, e ∙ its, record { parts = refl; lrecl = refl })

pub laid-changed : (layout : Layout) (name : Name) (change : TableSet → TableSet) (sets : Named TableSet) → ((table : TableSet) → IsSpreadAs (change table) table) → ((table : TableSet) → entry_at sets name ≡ Some table → StandsIn layout table.set → StandsIn layout (change table).set) → AreLaidOut layout sets → AreLaidOut layout (with_changed name change sets)
laid-changed layout name change sets same stands laid =
    laid_by layout sets (with_changed name change sets) laid (changed_shadows name change sets same) (by (entry_at sets name) refl)
  where
    by : (entry : Option TableSet) → entry_at sets name ≡ entry → EachEntry (λ (table : TableSet). StandsIn layout table.set) (with_change name change sets entry)
    by None e = laid.stand
    by (Some table) e =
        each-with_entry (λ (table : TableSet). StandsIn layout table.set) name (change table) sets
        (stands table e (each-at (λ (table : TableSet). StandsIn layout table.set) sets laid.stand name table e)) laid.stand

pub laid-without : (layout : Layout) (name : Name) (sets : Named TableSet) → AreLaidOut layout sets → AreLaidOut layout (without_entry name sets)
laid-without layout name sets laid =
    laid_by layout sets (without_entry name sets) laid
    (λ other one here. by other one (same_name other name) (sym (at-without_entry name other sets) ∙ here))
    (each-without_entry (λ (table : TableSet). StandsIn layout table.set) name sets laid.stand)
  where
    by : (other : Name) (one : TableSet) (b : Bool) → cond b None (entry_at sets other) ≡ Some one → (old : TableSet) × (entry_at sets other ≡ Some old) × IsSpreadAs one old
    by other one true its = absurd (some-not-none one (sym its))
    by other one false its = (one, its, record { parts = refl; lrecl = refl })

-- ---- opened, disposed of, ended

-- a data set stands where another does that differs in its length, its stamp and its catalog mark
pub stands_as : (layout : Layout) (one other : DataSet) → one.parts ≡ other.parts → one.lrecl ≡ other.lrecl → one.space ≡ other.space → one.length ≤ one.space → StandsIn layout other → StandsIn layout one
stands_as layout one other parts lrecl space fits stands = record {
  volumes_exist = ap (λ p. list_all (λ part. nat_lt part.volume (length layout.volumes.items)) p.items) parts ∙ stands.volumes_exist;
  inside = ap (λ n. list_all (is_inside layout.volumes.items n) (stretches_of one)) lrecl ∙ ap (λ p. list_all (is_inside layout.volumes.items other.lrecl) (stretches_of_parts p.items)) parts ∙ stands.inside;
  apart = ap (λ n. all_apart n (stretches_of one)) lrecl ∙ ap (λ p. all_apart other.lrecl (stretches_of_parts p.items)) parts ∙ stands.apart;
  parts = ap (λ p. list_all sums_up p.items) parts ∙ stands.parts;
  sum = ap (λ p. sum_by (λ part. part.records) p.items) parts ∙ stands.sum ∙ sym space;
  length_fits = fits;
  lrecl_above = subst (λ n. 1 ≤ n) (sym lrecl) stands.lrecl_above;
  lrecl_below = subst (λ n. n ≤ 256) (sym lrecl) stands.lrecl_below;
  space_above = subst (λ n. 1 ≤ n) (sym space) stands.space_above;
  space_below = subst (λ n. n ≤ 1000000) (sym space) stands.space_below;
}

opened_stands : (layout : Layout) (stamp : Stamp) (status : Status) (table : TableSet) → StandsIn layout table.set → StandsIn layout (opened_by table_ways stamp status table).set
opened_stands layout stamp New table stands = stands_as layout _ table.set refl refl refl stands.length_fits stands
opened_stands layout stamp Old table stands = stands_as layout _ table.set refl refl refl (omega arith) stands
opened_stands layout stamp Shr table stands = stands_as layout _ table.set refl refl refl stands.length_fits stands
opened_stands layout stamp Mod table stands = stands_as layout _ table.set refl refl refl stands.length_fits stands

opened_spread : (stamp : Stamp) (status : Status) (table : TableSet) → IsSpreadAs (opened_by table_ways stamp status table) table
opened_spread stamp New table = record { parts = refl; lrecl = refl }
opened_spread stamp Old table = record { parts = refl; lrecl = refl }
opened_spread stamp Shr table = record { parts = refl; lrecl = refl }
opened_spread stamp Mod table = record { parts = refl; lrecl = refl }

opened_one-laid : (layout : Layout) (stamp : Stamp) (placed : DdAllotment) (allotment : AllotmentModel) (output : Bool) (sets : Named TableSet) → AreLaidOut layout sets → AreLaidOut layout (opened_one table_ways stamp placed allotment output sets)
opened_one-laid layout stamp placed found true sets laid =
    laid-changed layout placed.name (opened_by table_ways stamp placed.dd.disp.status) sets (opened_spread stamp placed.dd.disp.status) (λ table e. opened_stands layout stamp placed.dd.disp.status table) laid
opened_one-laid layout stamp placed found false sets laid = laid
opened_one-laid layout stamp placed made output sets laid = laid
opened_one-laid layout stamp placed (refused flaw) output sets laid = laid

pub opened_all-laid : (layout : Layout) (stamp : Stamp) (all : List DdAllotment) (sets : Named TableSet) → AreLaidOut layout sets → AreLaidOut layout (opened_all table_ways stamp all sets)
opened_all-laid layout stamp [] sets laid = laid
opened_all-laid layout stamp (placed ∷ rest) sets laid =
    opened_all-laid layout stamp rest _ (opened_one-laid layout stamp placed placed.allotment (is_output placed.dd.role) sets laid)

marked_laid : (layout : Layout) (name : Name) (on : Bool) (sets : Named TableSet) → AreLaidOut layout sets → AreLaidOut layout (with_changed name (table_ways.marked on) sets)
marked_laid layout name on sets laid =
    laid-changed layout name (table_ways.marked on) sets (λ table. record { parts = refl; lrecl = refl })
    (λ table e stands. stands_as layout _ table.set refl refl refl stands.length_fits stands) laid

after_laid : (layout : Layout) (after : After) (name : Name) (sets : Named TableSet) → AreLaidOut layout sets → AreLaidOut layout (sets_after table_ways after name sets)
after_laid layout Delete name sets laid = laid-without layout name sets laid
after_laid layout Keep name sets laid = laid
after_laid layout Pass name sets laid = laid
after_laid layout Catlg name sets laid = marked_laid layout name true sets laid
after_laid layout Uncatlg name sets laid = marked_laid layout name false sets laid

pub disposed_all-laid : (layout : Layout) (disposals : List Disposal) (standing : Stock TableSet) → AreLaidOut layout standing.sets → AreLaidOut layout (disposed_all table_ways disposals standing).sets
disposed_all-laid layout [] standing laid = laid
disposed_all-laid layout (one ∷ rest) standing laid =
    disposed_all-laid layout rest (disposed_one table_ways one standing) (after_laid layout one.after one.name standing.sets laid)

ended_laid : (layout : Layout) (goes : Bool) (name : Name) (sets : Named TableSet) → AreLaidOut layout sets → AreLaidOut layout (if goes then without_entry name sets else sets)
ended_laid layout true name sets laid = laid-without layout name sets laid
ended_laid layout false name sets laid = laid

pub passed_ended-laid : (layout : Layout) (passed : List Passed) (sets : Named TableSet) → AreLaidOut layout sets → AreLaidOut layout (passed_ended passed sets)
passed_ended-laid layout [] sets laid = laid
passed_ended-laid layout (one ∷ rest) sets laid = passed_ended-laid layout rest _ (ended_laid layout one.made one.name sets laid)

-- ---- committed

-- each length is within the space
abbrev Fit : Named TableSet → List Name → List ℕ → Type 0
Fit sets [] lengths = Unit {0}
Fit sets (name ∷ names) [] = Unit {0}
Fit sets (name ∷ names) (now ∷ lengths) = ((table : TableSet) → entry_at sets name ≡ Some table → now ≤ table.set.space) × Fit sets names lengths

pub fit-lengths : (sets : Named TableSet) (names : List Name) (lengths : List ℕ) → are_lengths sets names lengths ≡ true → Fit sets names lengths
fit-lengths sets [] lengths are = tt
fit-lengths sets (name ∷ names) [] are = tt
fit-lengths sets (name ∷ names) (now ∷ lengths) are = (
  λ table e.
      nat_le-true now table.set.space (and-second (nat_le table.set.length now) _
      (sym (ap (λ o. option_map_or (λ table. nat_le table.set.length now && nat_le now table.set.space) o false) e) ∙ and-first _ (are_lengths sets names lengths) are)),
  fit-lengths sets names lengths (and-second (option_map_or (λ table. nat_le table.set.length now && nat_le now table.set.space) (entry_at sets name) false) _ are),
)

fit_changed : (sets : Named TableSet) (changed : Name) (most : ℕ) (names : List Name) (lengths : List ℕ) → Fit sets names lengths → Fit (with_changed changed (cut_set most) sets) names lengths
fit_changed sets changed most [] lengths fit = tt
fit_changed sets changed most (name ∷ names) [] fit = tt
fit_changed sets changed most (name ∷ names) (now ∷ lengths) fit = (
  λ table e. by table (same_name name changed) (entry_at sets name) refl (sym (at-with_changed changed name (cut_set most) sets) ∙ e),
  fit_changed sets changed most names lengths fit.1,
)
  where
    by : (table : TableSet) (b : Bool) (entry : Option TableSet) → entry_at sets name ≡ entry → cond b (option_map (cut_set most) entry) entry ≡ Some table → now ≤ table.set.space
    by table true None e its = absurd (some-not-none table (sym its))
    by table true (Some old) e its = subst (λ (t : TableSet). now ≤ t.set.space) (same_Some (cut_set most old) table its) (fit.0 old e)
    by table false entry e its = fit.0 table (e ∙ its)

pub committed-laid : (layout : Layout) (names : List Name) (lengths : List ℕ) (sets : Named TableSet) → Fit sets names lengths → AreLaidOut layout sets → AreLaidOut layout (committed names lengths sets)
committed-laid layout [] lengths sets fit laid = laid
committed-laid layout (name ∷ names) [] sets fit laid = laid
committed-laid layout (name ∷ names) (now ∷ lengths) sets fit laid =
    committed-laid layout names lengths (with_changed name (cut_set now) sets) (fit_changed sets name now names lengths fit.1)
    (laid-changed layout name (cut_set now) sets (λ table. record { parts = refl; lrecl = refl })
    (λ table e stands. stands_as layout _ table.set refl refl refl (fit.0 table e) stands) laid)

-- ---- made

each_clear : (set : DataSet) (sets : Named TableSet) (name : Name) (table : TableSet) → lies_clear sets set ≡ true → entry_at sets name ≡ Some table → lie_apart set table.set ≡ true
each_clear set [] name table clear e = absurd (some-not-none table (sym e))
each_clear set (entry ∷ rest) name table clear e =
    bool-cases (same_name name entry.0)
    (λ same.
    subst (λ (t : TableSet). lie_apart set t.set ≡ true) (same_Some entry.1 table (sym (ap (λ b. cond b (Some entry.1) (entry_at rest name)) same) ∙ e)) (and-first (lie_apart set entry.1.set) (lies_clear rest set) clear))
    (λ apart. each_clear set rest name table (and-second (lie_apart set entry.1.set) (lies_clear rest set) clear) (sym (ap (λ b. cond b (Some entry.1) (entry_at rest name)) apart) ∙ e))

-- a data set lies apart from each of these
abbrev LiesApart : TableSet → Named TableSet → Type 0
LiesApart table sets = (name : Name) (other : TableSet) → entry_at sets name ≡ Some other → lie_apart table.set other.set ≡ true

laid-entry : (layout : Layout) (name : Name) (table : TableSet) (sets : Named TableSet) → StandsIn layout table.set → LiesApart table sets → AreLaidOut layout sets → AreLaidOut layout (with_entry name table sets)
laid-entry layout name table sets stands clear laid = record {
  stand = each-with_entry (λ (table : TableSet). StandsIn layout table.set) name table sets stands laid.stand;
  apart = λ one other first second different here there.
      by one other first second different (same_name one name) refl (same_name other name) refl
      (sym (at-with_entry name one table sets) ∙ here) (sym (at-with_entry name other table sets) ∙ there);
}
  where
    by : (one other : Name) (first second : TableSet) → same_name one other ≡ false → (a : Bool) → same_name one name ≡ a → (b : Bool) → same_name other name ≡ b → cond a (Some table) (entry_at sets one) ≡ Some first → cond b (Some table) (entry_at sets other) ≡ Some second → lie_apart first.set second.set ≡ true
    by one other first second different true e true f here there =
        absurd (false≢true (sym different ∙ ap (λ n. same_name one n) (name-same other name f) ∙ e))
    by one other first second different true e false f here there =
        subst (λ (t : TableSet). lie_apart t.set second.set ≡ true) (same_Some table first here) (clear other second there)
    by one other first second different false e true f here there =
        subst (λ (t : TableSet). lie_apart first.set t.set ≡ true) (same_Some table second there) (apart-turned table.set first.set (clear one first here))
    by one other first second different false e false f here there = laid.apart one other first second different here there

shadows_same : (sets : Named TableSet) → Shadows sets sets
shadows_same sets name one here = (one, here, record { parts = refl; lrecl = refl })

shadows_on : (first second third : Named TableSet) → Shadows first second → Shadows second third → Shadows first third
shadows_on first second third one other name table here =
    let next = other name table here in
    let last = one name next.0 next.1 in
    (last.0, last.1, record { parts = next.2.parts ∙ last.2.parts; lrecl = next.2.lrecl ∙ last.2.lrecl })

opened_shadows : (stamp : Stamp) (placed : DdAllotment) (allotment : AllotmentModel) (output : Bool) (sets : Named TableSet) → Shadows sets (opened_one table_ways stamp placed allotment output sets)
opened_shadows stamp placed found true sets = changed_shadows placed.name (opened_by table_ways stamp placed.dd.disp.status) sets (opened_spread stamp placed.dd.disp.status)
opened_shadows stamp placed found false sets = shadows_same sets
opened_shadows stamp placed made output sets = shadows_same sets
opened_shadows stamp placed (refused flaw) output sets = shadows_same sets

opened_all-shadows : (stamp : Stamp) (all : List DdAllotment) (sets : Named TableSet) → Shadows sets (opened_all table_ways stamp all sets)
opened_all-shadows stamp [] sets = shadows_same sets
opened_all-shadows stamp (placed ∷ rest) sets =
    shadows_on sets (opened_one table_ways stamp placed placed.allotment (is_output placed.dd.role) sets) _
    (opened_shadows stamp placed placed.allotment (is_output placed.dd.role) sets)
    (opened_all-shadows stamp rest (opened_one table_ways stamp placed placed.allotment (is_output placed.dd.role) sets))

entry_shadows : (name : Name) (table : TableSet) (old new : Named TableSet) → Shadows old new → Shadows (with_entry name table old) (with_entry name table new)
entry_shadows name table old new shadows other one here =
    bool-cases (same_name other name)
    (λ same. (one, at-with_entry name other table old ∙ ap (λ b. cond b (Some table) (entry_at old other)) same ∙ sym (ap (λ b. cond b (Some table) (entry_at new other)) same) ∙ sym (at-with_entry name other table new) ∙ here, record { parts = refl; lrecl = refl }))
    (λ apart.
    let its = shadows other one (sym (ap (λ b. cond b (Some table) (entry_at new other)) apart) ∙ sym (at-with_entry name other table new) ∙ here) in
    (its.0, at-with_entry name other table old ∙ ap (λ b. cond b (Some table) (entry_at old other)) apart ∙ its.1, its.2))

stands_by : (layout : Layout) (set : DataSet) → stands_in layout set ≡ true → StandsIn layout set
stands_by layout set e =
    let to_i = and-first _ (nat_le set.space 1000000) e in
    let to_h = and-first _ (nat_le 1 set.space) to_i in
    let to_g = and-first _ (nat_le set.lrecl 256) to_h in
    let to_f = and-first _ (nat_le 1 set.lrecl) to_g in
    let to_e = and-first _ (nat_le set.length set.space) to_f in
    let to_d = and-first _ (sum_by (λ part. part.records) set.parts.items == set.space) to_e in
    let to_c = and-first _ (list_all sums_up set.parts.items) to_d in
    let to_b = and-first _ (all_apart set.lrecl (stretches_of set)) to_c in
    record {
      volumes_exist = and-first _ (list_all (is_inside layout.volumes.items set.lrecl) (stretches_of set)) to_b;
      inside = and-second _ (list_all (is_inside layout.volumes.items set.lrecl) (stretches_of set)) to_b;
      apart = and-second _ (all_apart set.lrecl (stretches_of set)) to_c;
      parts = and-second _ (list_all sums_up set.parts.items) to_d;
      sum = equal-true _ set.space (and-second _ (sum_by (λ part. part.records) set.parts.items == set.space) to_e);
      length_fits = nat_le-true set.length set.space (and-second _ (nat_le set.length set.space) to_f);
      lrecl_above = nat_le-true 1 set.lrecl (and-second _ (nat_le 1 set.lrecl) to_g);
      lrecl_below = nat_le-true set.lrecl 256 (and-second _ (nat_le set.lrecl 256) to_h);
      space_above = nat_le-true 1 set.space (and-second _ (nat_le 1 set.space) to_i);
      space_below = nat_le-true set.space 1000000 (and-second _ (nat_le set.space 1000000) e);
    }

clear_shadow : (table : TableSet) (old new : Named TableSet) → Shadows old new → lies_clear old table.set ≡ true → LiesApart table new
clear_shadow table old new shadows clear name other here =
    let its = shadows name other here in
    apart_by table table other its.0 (record { parts = refl; lrecl = refl }) its.2 (each_clear table.set old name its.0 clear its.1)

made_laid : (layout : Layout) (stamp : Stamp) (items : List Made) (placed : DdAllotment) (allotment : AllotmentModel) (old new : Named TableSet) → Shadows old new → is_made_clear layout stamp items placed allotment old ≡ true → AreLaidOut layout new → AreLaidOut layout (made_table stamp items placed allotment new)
made_laid layout stamp items placed found old new shadows clear laid = laid
made_laid layout stamp items placed made old new shadows clear laid =
    let table : TableSet = fresh_table stamp placed (parts_from placed.number items) in
    laid-entry layout placed.name table new (stands_by layout table.set (and-first (stands_in layout table.set) (lies_clear old table.set) clear))
    (clear_shadow table old new shadows (and-second (stands_in layout table.set) (lies_clear old table.set) clear)) laid
made_laid layout stamp items placed (refused flaw) old new shadows clear laid = laid

made_shadows : (stamp : Stamp) (items : List Made) (placed : DdAllotment) (allotment : AllotmentModel) (old new : Named TableSet) → Shadows old new → Shadows (made_table stamp items placed allotment old) (made_table stamp items placed allotment new)
made_shadows stamp items placed found old new shadows = shadows
made_shadows stamp items placed made old new shadows = entry_shadows placed.name (fresh_table stamp placed (parts_from placed.number items)) old new shadows
made_shadows stamp items placed (refused flaw) old new shadows = shadows

made_all_laid : (layout : Layout) (stamp : Stamp) (items : List Made) (all : List DdAllotment) (old new : Named TableSet) → Shadows old new → are_made_clear layout stamp items all old ≡ true → AreLaidOut layout new → AreLaidOut layout (made_tables stamp items all new)
made_all_laid layout stamp items [] old new shadows clear laid = laid
made_all_laid layout stamp items (placed ∷ rest) old new shadows clear laid =
    made_all_laid layout stamp items rest _ _ (made_shadows stamp items placed placed.allotment old new shadows)
    (and-second (is_made_clear layout stamp items placed placed.allotment old) _ clear)
    (made_laid layout stamp items placed placed.allotment old new shadows (and-first (is_made_clear layout stamp items placed placed.allotment old) _ clear) laid)

-- what a step opens and makes stays laid out
pub made_all-laid : (layout : Layout) (stamp : Stamp) (items : List Made) (all : List DdAllotment) (sets : Named TableSet) → are_made_clear layout stamp items all sets ≡ true → AreLaidOut layout sets → AreLaidOut layout (made_tables stamp items all (opened_all table_ways stamp all sets))
made_all-laid layout stamp items all sets clear laid =
    made_all_laid layout stamp items all sets (opened_all table_ways stamp all sets) (opened_all-shadows stamp all sets) clear (opened_all-laid layout stamp all sets laid)
