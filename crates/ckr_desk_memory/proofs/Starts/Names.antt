-- The tables have a data set under each name of a step that has started.
use Rattle.std.proofs.Common.{◌≡◌, ◌||◌, ℕ, suc, Bool, true, false, cond, List, [], ◌∷◌, refl, ap, sym, ◌∙◌, subst, Option, None, Some}
use Rattle.std.proofs.lemmas.Bool.{false≢true}
use Rattle.std.specs.List.{AllByRecursion, cons_option, filter_map, list_any}
use Rattle.std.specs.Option.{is_some, option_map}
use Rattle.ckr_base.proofs.Bools.{and-first, and-second, bool-cases}
use Rattle.ckr_events.specs.declared.event.Made.{Made}
use Rattle.ckr_jcl.specs.declared.deck.Dd.{Dd}
use Rattle.ckr_jcl.specs.declared.deck.Status.{Status}
use Rattle.ckr_jcl.specs.declared.deck.Status.TheVariants.{Mod}
use Rattle.ckr_library.specs.declared.sets.Stamp.{Stamp}
use Rattle.ckr_library.specs.NameMaps.{Name, Named, same_name, entry_at, with_changed}
use Rattle.ckr_library.proofs.Named.{at-with_changed, at-with_entry, name-itself, name-same}
use Rattle.ckr_meaning.specs.LibrarySet.{Known}
use Rattle.ckr_meaning.specs.Allotments.{AllotmentModel, FlawModel, found, made, refused, DdAllotment, allotment_by, allotment_of, is_output, opened_all, opened_by, opened_one, with_kind}
use Rattle.ckr_meaning.specs.Dispositions.{Stock}
use Rattle.ckr_meaning.specs.EffectiveJob.{OwnedStep, flaw_in, flaws_in, is_among, name_of, names_of, placed_from, placed_in, placed_one, stamp_of}
use Rattle.ckr_points.specs.Tables.{after_started, fresh_table, made_table, made_tables, parts_from}
use Rattle.ckr_points.specs.Follows.{is_empty}
use Rattle.ckr_points.specs.Rows.{RunRow, TableSet, TablesModel, standing_of, table_ways}
use Rattle.ckr_desk_memory.specs.Start.{has_sets}

abbrev Has : Named TableSet → Name → Type 0
Has sets name = is_some (entry_at sets name) ≡ true

-- ---- what is there stays

still_there : (b : Bool) (one other : Option TableSet) → is_some one ≡ true → is_some other ≡ true → is_some (cond b one other) ≡ true
still_there true one other first second = first
still_there false one other first second = second

has_changed : (changed : Name) (change : TableSet → TableSet) (sets : Named TableSet) (name : Name) → Has sets name → Has (with_changed changed change sets) name
has_changed changed change sets name has =
    ap is_some (at-with_changed changed name change sets) ∙ still_there (same_name name changed) (option_map change (entry_at sets name)) (entry_at sets name) (by (entry_at sets name) has) has
  where
    by : (entry : Option TableSet) → is_some entry ≡ true → is_some (option_map change entry) ≡ true
    by None e = e
    by (Some table) e = refl

opened_has : (stamp : Stamp) (placed : DdAllotment) (allotment : AllotmentModel) (output : Bool) (sets : Named TableSet) (name : Name) → Has sets name → Has (opened_one table_ways stamp placed allotment output sets) name
opened_has stamp placed found true sets name has = has_changed placed.name (opened_by table_ways stamp placed.dd.disp.status) sets name has
opened_has stamp placed found false sets name has = has
opened_has stamp placed made output sets name has = has
opened_has stamp placed (refused flaw) output sets name has = has

opened_all_has : (stamp : Stamp) (all : List DdAllotment) (sets : Named TableSet) (name : Name) → Has sets name → Has (opened_all table_ways stamp all sets) name
opened_all_has stamp [] sets name has = has
opened_all_has stamp (placed ∷ rest) sets name has =
    opened_all_has stamp rest (opened_one table_ways stamp placed placed.allotment (is_output placed.dd.role) sets) name (opened_has stamp placed placed.allotment (is_output placed.dd.role) sets name has)

made_has : (stamp : Stamp) (items : List Made) (placed : DdAllotment) (allotment : AllotmentModel) (sets : Named TableSet) (name : Name) → Has sets name → Has (made_table stamp items placed allotment sets) name
made_has stamp items placed found sets name has = has
made_has stamp items placed made sets name has =
    ap is_some (at-with_entry placed.name name (fresh_table stamp placed (parts_from placed.number items)) sets)
    ∙ still_there (same_name name placed.name) (Some (fresh_table stamp placed (parts_from placed.number items))) (entry_at sets name) refl has
made_has stamp items placed (refused flaw) sets name has = has

made_all_has : (stamp : Stamp) (items : List Made) (all : List DdAllotment) (sets : Named TableSet) (name : Name) → Has sets name → Has (made_tables stamp items all sets) name
made_all_has stamp items [] sets name has = has
made_all_has stamp items (placed ∷ rest) sets name has =
    made_all_has stamp items rest (made_table stamp items placed placed.allotment sets) name (made_has stamp items placed placed.allotment sets name has)

-- ---- what a step finds or makes

-- what is found is there
abbrev IsThere : Named TableSet → DdAllotment → Type 0
IsThere sets placed = placed.allotment ≡ found → Has sets placed.name

flaws_apart : (placed : DdAllotment) (rest : List DdAllotment) → flaws_in (placed ∷ rest) ≡ [] → (flaw_in placed.allotment ≡ None) × (flaws_in rest ≡ [])
flaws_apart placed rest none = by (flaw_in placed.allotment) (flaws_in rest) none
  where
    by : (flaw : Option FlawModel) (others : List (ℕ × FlawModel)) → cons_option (option_map (λ (f : FlawModel). (placed.number, f)) flaw) others ≡ [] → (flaw ≡ None) × (others ≡ [])
    by None others none = (refl, none)
    by (Some flaw) others none = cc

now_there : (stamp : Stamp) (items : List Made) (was sets : Named TableSet) (placed : DdAllotment) (allotment : AllotmentModel) → placed.allotment ≡ allotment → flaw_in allotment ≡ None → IsThere was placed → ((name : Name) → Has was name → Has sets name)
    → Has (made_table stamp items placed allotment sets) placed.name
now_there stamp items was sets placed found is none there grows = grows placed.name (there is)
now_there stamp items was sets placed made is none there grows =
    ap is_some (at-with_entry placed.name placed.name (fresh_table stamp placed (parts_from placed.number items)) sets)
    ∙ ap (λ b. is_some (cond b (Some (fresh_table stamp placed (parts_from placed.number items))) (entry_at sets placed.name))) (name-itself placed.name)
now_there stamp items was sets placed (refused flaw) is none there grows = cc

all_there : (stamp : Stamp) (items : List Made) (was sets : Named TableSet) (all : List DdAllotment) → ((name : Name) → Has was name → Has sets name) → flaws_in all ≡ [] → AllByRecursion (IsThere was) all
    → (name : Name) → list_any (λ (one : DdAllotment). same_name name one.name) all ≡ true → Has (made_tables stamp items all sets) name
all_there stamp items was sets [] grows none there name among = absurd (false≢true among)
all_there stamp items was sets (placed ∷ rest) grows none there name among =
    let flaws = flaws_apart placed rest none in
    let next : Named TableSet = made_table stamp items placed placed.allotment sets in
    bool-cases (same_name name placed.name)
    (λ same.
    made_all_has stamp items rest next name
    (subst (Has next) (sym (name-same name placed.name same)) (now_there stamp items was sets placed placed.allotment refl flaws.0 there.0 grows)))
    (λ other.
    all_there stamp items was next rest (λ one has. made_has stamp items placed placed.allotment sets one (grows one has)) flaws.1 there.1 name
    (sym (ap (λ b. b || list_any (λ (one : DdAllotment). same_name name one.name) rest) other) ∙ among))

-- ---- what allocation says

none_found : (dd : Dd) (passed : Bool) → allotment_of dd passed None ≡ found → ⊥
none_found dd passed e = by dd.disp.status (is_some dd.space) e
  where
    by : (status : Status) (space : Bool) → with_kind dd.role None (allotment_by status false false space) ≡ found → ⊥
    by Mod true e = cc
    by Mod false e = cc
    by _ space e = cc

known_found : (dd : Dd) (passed : Bool) (known : Option Known) → allotment_of dd passed known ≡ found → is_some known ≡ true
known_found dd passed None e = absurd (none_found dd passed e)
known_found dd passed (Some known) e = refl

viewed_some : (entry : Option TableSet) → is_some (option_map table_ways.known entry) ≡ is_some entry
viewed_some None = refl
viewed_some (Some table) = refl

module _ (standing : Stock TableSet) (root : ℕ) (owned : OwnedStep) where
  placed_there : (number : ℕ) (dds : List Dd) → AllByRecursion (IsThere standing.sets) (placed_from table_ways standing root owned number dds)
  placed_there number [] = tt
  placed_there number (dd ∷ dds) = by (name_of root owned dd) (placed_from table_ways standing root owned (suc number) dds) (placed_there (suc number) dds)
    where
      by : (name : Option Name) (rest : List DdAllotment) → AllByRecursion (IsThere standing.sets) rest → AllByRecursion (IsThere standing.sets) (cons_option (option_map (placed_one table_ways standing number dd) name) rest)
      by None rest all = all
      by (Some name) rest all = (λ e. sym (viewed_some (entry_at standing.sets name)) ∙ known_found dd _ (option_map table_ways.known (entry_at standing.sets name)) e, all)

  placed_names : (number : ℕ) (dds : List Dd) (name : Name) → list_any (λ (one : DdAllotment). same_name name one.name) (placed_from table_ways standing root owned number dds) ≡ is_among (filter_map (name_of root owned) dds) name
  placed_names number [] name = refl
  placed_names number (dd ∷ dds) name =
      by (name_of root owned dd) (placed_from table_ways standing root owned (suc number) dds) (filter_map (name_of root owned) dds) (placed_names (suc number) dds name)
    where
      by : (its : Option Name) (rest : List DdAllotment) (names : List Name) → list_any (λ (one : DdAllotment). same_name name one.name) rest ≡ is_among names name
          → list_any (λ (one : DdAllotment). same_name name one.name) (cons_option (option_map (placed_one table_ways standing number dd) its) rest) ≡ is_among (cons_option its names) name
      by None rest names same = same
      by (Some its) rest names same = ap (λ b. same_name name its || b) same

empty-none : {A : Type 0} (items : List A) → is_empty items ≡ true → items ≡ []
empty-none [] e = refl
empty-none (item ∷ items) e = absurd (false≢true e)

pub names-there : (tables : TablesModel) (row : RunRow) (owned : OwnedStep) (step : ℕ) (items : List Made) → is_empty (flaws_in (placed_in table_ways (standing_of row tables) row.job.root owned)) ≡ true
    → (name : Name) → is_among (names_of row.job.root owned) name ≡ true → is_some (entry_at (after_started row owned step items tables).sets name) ≡ true
names-there tables row owned step items none name among =
    let placed : List DdAllotment = placed_in table_ways (standing_of row tables) row.job.root owned in
    all_there (stamp_of owned step) items tables.sets (opened_all table_ways (stamp_of owned step) placed tables.sets) placed
    (λ one has. opened_all_has (stamp_of owned step) placed tables.sets one has) (empty-none (flaws_in placed) none)
    (placed_there (standing_of row tables) row.job.root owned 1 owned.step.dds) name
    (placed_names (standing_of row tables) row.job.root owned 1 owned.step.dds name ∙ among)

-- where all names are there, so is one among them
pub has-among : (sets : Named TableSet) (names : List Name) (name : Name) → has_sets sets names ≡ true → is_among names name ≡ true → is_some (entry_at sets name) ≡ true
has-among sets [] name has among = absurd (false≢true among)
has-among sets (first ∷ rest) name has among =
    bool-cases (same_name name first)
    (λ same. ap (λ n. is_some (entry_at sets n)) (name-same name first same) ∙ and-first (is_some (entry_at sets first)) _ has)
    (λ apart. has-among sets rest name (and-second (is_some (entry_at sets first)) _ has) (sym (ap (λ b. b || is_among rest name) apart) ∙ among))
