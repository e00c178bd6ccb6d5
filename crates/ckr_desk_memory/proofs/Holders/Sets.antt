-- What an event of a run makes of the data sets: those that its job doesn't name stay as they are, and what its step may change stays there.
use Rattle.std.proofs.Common.{◌≡◌, ℕ, suc, Bool, true, false, cond, ◌&&◌, ◌||◌, List, [], ◌∷◌, refl, ap, sym, ◌∙◌, subst, Option, Some, None}
use Rattle.std.specs.List.{AllByRecursion, cons_option, filter_map, list_any}
use Rattle.std.specs.Option.{is_none, is_some, option_map, option_map_or}
use Rattle.std.proofs.lemmas.Bool.{false≢true, or_parts}
use Rattle.ckr_base.proofs.Bools.{bool-cases}
use Rattle.ckr_entry.specs.declared.point.Mark.{Mark}
use Rattle.ckr_entry.specs.declared.point.Present.{Present}
use Rattle.ckr_events.specs.declared.event.Made.{Made}
use Rattle.ckr_jcl.specs.declared.deck.Dd.{Dd}
use Rattle.ckr_library.proofs.Named.{at-with_changed, at-with_changed-other, at-with_entry, name-same}
use Rattle.ckr_library.specs.NameMaps.{Name, Named, entry_at, same_name, with_changed}
use Rattle.ckr_library.specs.declared.sets.Stamp.{Stamp}
use Rattle.ckr_meaning.specs.Allotments.{AllotmentModel, DdAllotment, found, made, refused, is_made, is_output, is_passed, opened_all, opened_by, opened_one}
use Rattle.ckr_meaning.specs.Dispositions.{Disposal, Stock}
use Rattle.ckr_meaning.specs.EffectiveJob.{OwnedStep, flaws_in, is_among, name_of, names_of, placed_from, placed_in, placed_one, stamp_of}
use Rattle.ckr_points.specs.Follows.{is_update}
use Rattle.ckr_points.specs.Marks.{present_at, put_back, put_back_catalogs, put_back_length, put_back_lengths, removed_all}
use Rattle.ckr_points.specs.Office.{passed_made}
use Rattle.ckr_points.specs.Payload.{is_formed_step}
use Rattle.ckr_points.specs.Rows.{RunRow, TableSet, TablesModel, cut_set, standing_of, table_ways}
use Rattle.ckr_points.specs.Tables.{after_dispositions, after_started, committed, earlier_made, fresh_table, is_updates, made_table, made_tables, name_with_role, own_made, parts_from, run_disposal, run_disposals}
use Rattle.ckr_points_invariant.proofs.Holders.Places.{outputs-among}
use Rattle.ckr_points_invariant.proofs.Library.Likeness.{made_all-apart, opened_all-apart, placed-apart}
use Rattle.ckr_points_invariant.proofs.Library.PassedList.{apart-unmade, disposed-apart, disposed-made}
use Rattle.ckr_points_invariant.proofs.Marks.Points.{own_made-out}
use Rattle.ckr_points_invariant.proofs.PutBack.Sets.{at-removed_all, put_back-apart}
use Rattle.ckr_points_invariant.proofs.StepEnd.Disposals.{flawless-first, flawless-rest, makes}
use Rattle.ckr_points_invariant.proofs.Writes.Likeness.{committed-other}
use Rattle.ckr_desk_plans.specs.Model.Commit.{output_names}
use Rattle.ckr_desk_memory.proofs.Holders.Masters.{updated-among}

-- ---- what stays there

changed_or_not : {X : Type 0} (change : X → X) (b : Bool) (entry : Option X) → is_some (cond b (option_map change entry) entry) ≡ is_some entry
changed_or_not change true None = refl
changed_or_not change true (Some x) = refl
changed_or_not change false entry = refl

-- a change takes no name away and brings none
pub there-changed : {X : Type 0} (name other : Name) (change : X → X) (sets : Named X) → is_some (entry_at (with_changed name change sets) other) ≡ is_some (entry_at sets other)
there-changed name other change sets = ap is_some (at-with_changed name other change sets) ∙ changed_or_not change (same_name other name) (entry_at sets other)

pub there-committed : (names : List Name) (lengths : List ℕ) (sets : Named TableSet) (other : Name) → is_some (entry_at (committed names lengths sets) other) ≡ is_some (entry_at sets other)
there-committed [] lengths sets other = refl
there-committed (name ∷ names) [] sets other = refl
there-committed (name ∷ names) (most ∷ lengths) sets other =
    there-committed names lengths (with_changed name (cut_set most) sets) other ∙ there-changed name other (cut_set most) sets

there_opened-one : (stamp : Stamp) (placed : DdAllotment) (allotment : AllotmentModel) (output : Bool) (sets : Named TableSet) (other : Name) → is_some (entry_at (opened_one table_ways stamp placed allotment output sets) other) ≡ is_some (entry_at sets other)
there_opened-one stamp placed found true sets other = there-changed placed.name other (opened_by table_ways stamp placed.dd.disp.status) sets
there_opened-one stamp placed found false sets other = refl
there_opened-one stamp placed made output sets other = refl
there_opened-one stamp placed (refused flaw) output sets other = refl

there-opened : (stamp : Stamp) (all : List DdAllotment) (sets : Named TableSet) (other : Name) → is_some (entry_at (opened_all table_ways stamp all sets) other) ≡ is_some (entry_at sets other)
there-opened stamp [] sets other = refl
there-opened stamp (placed ∷ rest) sets other =
    there-opened stamp rest _ other ∙ there_opened-one stamp placed placed.allotment (is_output placed.dd.role) sets other

-- whether a DD makes the data set of the name
abbrev makes_it : Name → DdAllotment → Bool
makes_it name placed = is_made placed.allotment && same_name name placed.name

entered : {X : Type 0} (x : X) (b : Bool) (entry : Option X) → is_some (cond b (Some x) entry) ≡ (is_some entry || b)
entered x true None = refl
entered x true (Some y) = refl
entered x false None = refl
entered x false (Some y) = refl

there_made-one : (stamp : Stamp) (items : List Made) (placed : DdAllotment) (allotment : AllotmentModel) (sets : Named TableSet) (name : Name) → is_some (entry_at (made_table stamp items placed allotment sets) name) ≡ (is_some (entry_at sets name) || (is_made allotment && same_name name placed.name))
there_made-one stamp items placed found sets name = unmade (is_some (entry_at sets name))
  where
    unmade : (b : Bool) → b ≡ (b || false)
    unmade true = refl
    unmade false = refl
there_made-one stamp items placed made sets name =
    ap is_some (at-with_entry placed.name name (fresh_table stamp placed (parts_from placed.number items)) sets)
    ∙ entered (fresh_table stamp placed (parts_from placed.number items)) (same_name name placed.name) (entry_at sets name)
there_made-one stamp items placed (refused flaw) sets name = unmade (is_some (entry_at sets name))
  where
    unmade : (b : Bool) → b ≡ (b || false)
    unmade true = refl
    unmade false = refl

there-made : (stamp : Stamp) (items : List Made) (all : List DdAllotment) (sets : Named TableSet) (name : Name) → (is_some (entry_at sets name) || list_any (makes_it name) all) ≡ true → is_some (entry_at (made_tables stamp items all sets) name) ≡ true
there-made stamp items [] sets name there = gone (is_some (entry_at sets name)) there
  where
    gone : (b : Bool) → (b || false) ≡ true → b ≡ true
    gone true e = refl
    gone false e = e
there-made stamp items (placed ∷ rest) sets name there =
    there-made stamp items rest (made_table stamp items placed placed.allotment sets) name
    (ap (λ b. b || list_any (makes_it name) rest) (there_made-one stamp items placed placed.allotment sets name)
    ∙ joined (is_some (entry_at sets name)) (makes_it name placed) (list_any (makes_it name) rest) there)
  where
    joined : (a b c : Bool) → (a || (b || c)) ≡ true → ((a || b) || c) ≡ true
    joined true b c e = refl
    joined false b c e = e

known_none : (entry : Option TableSet) → is_none (option_map table_ways.known entry) ≡ is_none entry
known_none None = refl
known_none (Some table) = refl

-- without a flaw a name of the step is there or made
there_placed : (standing : Stock TableSet) (root : ℕ) (owned : OwnedStep) (number : ℕ) (dds : List Dd) (name : Name) → flaws_in (placed_from table_ways standing root owned number dds) ≡ [] → is_among (filter_map (name_of root owned) dds) name ≡ true → (is_some (entry_at standing.sets name) || list_any (makes_it name) (placed_from table_ways standing root owned number dds)) ≡ true
there_placed standing root owned number [] name flawless among = absurd (false≢true among)
there_placed standing root owned number (dd ∷ dds) name flawless among =
    by (name_of root owned dd) flawless among (there_placed standing root owned (suc number) dds name)
  where
    rest_of : List DdAllotment
    rest_of = placed_from table_ways standing root owned (suc number) dds

    here : (other : Name) → (one : DdAllotment) → one ≡ placed_one table_ways standing number dd other → is_made one.allotment ≡ is_none (entry_at standing.sets other) → same_name name other ≡ true → (is_some (entry_at standing.sets name) || (makes_it name (placed_one table_ways standing number dd other) || list_any (makes_it name) (placed_from table_ways standing root owned (suc number) dds))) ≡ true
    here other one is makes same =
        subst (λ n. (is_some (entry_at standing.sets n) || ((is_made (placed_one table_ways standing number dd other).allotment && same_name name other) || list_any (makes_it name) (placed_from table_ways standing root owned (suc number) dds))) ≡ true) (sym (name-same name other same))
        (ap (λ b. is_some (entry_at standing.sets other) || ((b && same_name name other) || list_any (makes_it name) (placed_from table_ways standing root owned (suc number) dds))) (ap (λ (one : DdAllotment). is_made one.allotment) (sym is) ∙ makes)
        ∙ ap (λ b. is_some (entry_at standing.sets other) || ((is_none (entry_at standing.sets other) && b) || list_any (makes_it name) (placed_from table_ways standing root owned (suc number) dds))) same
        ∙ either (entry_at standing.sets other))
      where
        either : (entry : Option TableSet) → (is_some entry || ((is_none entry && true) || list_any (makes_it name) (placed_from table_ways standing root owned (suc number) dds))) ≡ true
        either None = refl
        either (Some table) = refl

    later : (a b c : Bool) → (a || c) ≡ true → (a || (b || c)) ≡ true
    later true b c e = refl
    later false true c e = refl
    later false false c e = e

    by : (other : Option Name) → flaws_in (cons_option (option_map (placed_one table_ways standing number dd) other) (placed_from table_ways standing root owned (suc number) dds)) ≡ [] → is_among (cons_option other (filter_map (name_of root owned) dds)) name ≡ true → (flaws_in (placed_from table_ways standing root owned (suc number) dds) ≡ [] → is_among (filter_map (name_of root owned) dds) name ≡ true → (is_some (entry_at standing.sets name) || list_any (makes_it name) (placed_from table_ways standing root owned (suc number) dds)) ≡ true) → (is_some (entry_at standing.sets name) || list_any (makes_it name) (cons_option (option_map (placed_one table_ways standing number dd) other) (placed_from table_ways standing root owned (suc number) dds))) ≡ true
    by None flawless among rest = rest flawless among
    by (Some other) flawless among rest =
        bool-cases (same_name name other)
        (λ same. here other (placed_one table_ways standing number dd other) refl
        (makes dd (is_passed standing.passed other) (option_map table_ways.known (entry_at standing.sets other)) (flawless-first (placed_one table_ways standing number dd other) (placed_from table_ways standing root owned (suc number) dds) flawless) ∙ known_none (entry_at standing.sets other)) same)
        (λ apart.
        later (is_some (entry_at standing.sets name)) (makes_it name (placed_one table_ways standing number dd other)) (list_any (makes_it name) (placed_from table_ways standing root owned (suc number) dds))
        (rest (flawless-rest (placed_one table_ways standing number dd other) (placed_from table_ways standing root owned (suc number) dds) flawless) (sym (ap (λ b. b || is_among (filter_map (name_of root owned) dds) name) apart) ∙ among)))

-- the names of a step that has started are there
pub there-started : (row : RunRow) (owned : OwnedStep) (step : ℕ) (items : List Made) (tables : TablesModel) (name : Name) → flaws_in (placed_in table_ways (standing_of row tables) row.job.root owned) ≡ [] → is_among (names_of row.job.root owned) name ≡ true → is_some (entry_at (after_started row owned step items tables).sets name) ≡ true
there-started row owned step items tables name flawless among =
    there-made (stamp_of owned step) items placed (opened_all table_ways (stamp_of owned step) placed tables.sets) name
    (ap (λ b. b || list_any (makes_it name) placed) (there-opened (stamp_of owned step) placed tables.sets name)
    ∙ there_placed (standing_of row tables) row.job.root owned 1 owned.step.dds name flawless among)
  where
    placed : List DdAllotment
    placed = placed_in table_ways (standing_of row tables) row.job.root owned

there_lengths : (marks : List Mark) (names : List Name) (sets : Named TableSet) (other : Name) → is_some (entry_at (put_back_lengths marks names sets) other) ≡ is_some (entry_at sets other)
there_lengths marks [] sets other = refl
there_lengths marks (name ∷ names) sets other = there_lengths marks names _ other ∙ by (present_at marks name)
  where
    by : (found : Option Present) → is_some (entry_at (option_map_or (λ (present : Present). with_changed name (put_back_length present.length) sets) found sets) other) ≡ is_some (entry_at sets other)
    by None = refl
    by (Some present) = there-changed name other (put_back_length present.length) sets

there_catalogs : (marks : List Mark) (names : List Name) (sets : Named TableSet) (other : Name) → is_some (entry_at (put_back_catalogs marks names sets) other) ≡ is_some (entry_at sets other)
there_catalogs marks [] sets other = refl
there_catalogs marks (name ∷ names) sets other = there_catalogs marks names _ other ∙ by (present_at marks name)
  where
    by : (found : Option Present) → is_some (entry_at (option_map_or (λ (present : Present). with_changed name (table_ways.marked present.cataloged) sets) found sets) other) ≡ is_some (entry_at sets other)
    by None = refl
    by (Some present) = there-changed name other (table_ways.marked present.cataloged) sets

-- what is put back takes no name away
pub there-put_back : (marks : List Mark) (outputs needed : List Name) (sets : Named TableSet) (name : Name) → is_some (entry_at (put_back marks outputs needed sets) name) ≡ is_some (entry_at sets name)
there-put_back marks outputs needed sets name = there_catalogs marks needed (put_back_lengths marks outputs sets) name ∙ there_lengths marks outputs sets name

-- ---- what a step leaves

module _ (root : ℕ) (owned : OwnedStep) (name : Name) (out : is_among (names_of root owned) name ≡ false) where
  pub committed-outside : (lengths : List ℕ) (sets : Named TableSet) → entry_at (committed (output_names root owned) lengths sets) name ≡ entry_at sets name
  committed-outside lengths sets =
      committed-other (output_names root owned) lengths sets name
      (bool-cases (is_among (output_names root owned) name) (λ among. absurd (false≢true (sym out ∙ outputs-among root owned name among))) (λ e. e))

  pub updated-outside : (change : TableSet → TableSet) (sets : Named TableSet) → is_formed_step root owned ≡ true → is_update owned.step.program ≡ true → entry_at (with_changed (name_with_role root owned is_updates) change sets) name ≡ entry_at sets name
  updated-outside change sets formed updates =
      at-with_changed-other (name_with_role root owned is_updates) name change sets
      (bool-cases (same_name name (name_with_role root owned is_updates))
      (λ same. absurd (false≢true (sym out ∙ ap (is_among (names_of root owned)) (name-same name _ same) ∙ updated-among root owned formed updates)))
      (λ apart. apart))

disposed_of : (root : ℕ) (owned : OwnedStep) (here before : List Name) (abnormal : Bool) (dds : List Dd) (name : Name) → is_among (filter_map (name_of root owned) dds) name ≡ false → AllByRecursion (λ (one : Disposal). same_name name one.name ≡ false) (filter_map (λ dd. option_map (run_disposal here before abnormal dd) (name_of root owned dd)) dds)
disposed_of root owned here before abnormal [] name out = tt
disposed_of root owned here before abnormal (dd ∷ dds) name out =
    by (name_of root owned dd) out (disposed_of root owned here before abnormal dds name)
  where
    by : (other : Option Name) → is_among (cons_option other (filter_map (name_of root owned) dds)) name ≡ false → (is_among (filter_map (name_of root owned) dds) name ≡ false → AllByRecursion (λ (one : Disposal). same_name name one.name ≡ false) (filter_map (λ dd. option_map (run_disposal here before abnormal dd) (name_of root owned dd)) dds)) → AllByRecursion (λ (one : Disposal). same_name name one.name ≡ false) (cons_option (option_map (run_disposal here before abnormal dd) other) (filter_map (λ dd. option_map (run_disposal here before abnormal dd) (name_of root owned dd)) dds))
    by None out rest = rest out
    by (Some other) out rest = let parts = or_parts (same_name name other) _ out in (parts.0, rest parts.1)

module _ (row : RunRow) (owned : OwnedStep) (step : ℕ) (name : Name) (out : is_among (names_of row.job.root owned) name ≡ false) where
  pub started-outside : (items : List Made) (tables : TablesModel) → entry_at (after_started row owned step items tables).sets name ≡ entry_at tables.sets name
  started-outside items tables =
      made_all-apart (stamp_of owned step) items placed (opened_all table_ways (stamp_of owned step) placed tables.sets) name apart
      ∙ opened_all-apart (stamp_of owned step) placed tables.sets name apart
    where
      placed : List DdAllotment
      placed = placed_in table_ways (standing_of row tables) row.job.root owned

      apart : AllByRecursion (λ (one : DdAllotment). same_name name one.name ≡ false) placed
      apart = placed-apart table_ways (standing_of row tables) row.job.root owned 1 owned.step.dds name out

  apart_from : (abnormal : Bool) (tables : TablesModel) → AllByRecursion (λ (one : Disposal). same_name name one.name ≡ false) (run_disposals row owned (own_made row owned step) (earlier_made tables row step) abnormal)
  apart_from abnormal tables = disposed_of row.job.root owned (own_made row owned step) (earlier_made tables row step) abnormal owned.step.dds name out

  pub disposed-outside : (abnormal : Bool) (tables : TablesModel) → entry_at (after_dispositions row owned step abnormal tables).sets name ≡ entry_at tables.sets name
  disposed-outside abnormal tables =
      disposed-apart table_ways (run_disposals row owned (own_made row owned step) (earlier_made tables row step) abnormal) (standing_of row tables) name (apart_from abnormal tables)

  pub passed-outside : (abnormal : Bool) (tables : TablesModel) → is_among (passed_made row.passed) name ≡ false → is_among (passed_made (after_dispositions row owned step abnormal tables).passed) name ≡ false
  passed-outside abnormal tables none =
      disposed-made table_ways name (run_disposals row owned (own_made row owned step) (earlier_made tables row step) abnormal) (standing_of row tables)
      (apart-unmade (run_disposals row owned (own_made row owned step) (earlier_made tables row step) abnormal) name (apart_from abnormal tables)) none

  -- what it wrote is put back
  pub put_back-outside : (marks : List Mark) (sets : Named TableSet) → entry_at (put_back marks (output_names row.job.root owned) (names_of row.job.root owned) sets) name ≡ entry_at sets name
  put_back-outside marks sets =
      put_back-apart marks (output_names row.job.root owned) (names_of row.job.root owned) sets name
      (bool-cases (is_among (output_names row.job.root owned) name) (λ among. absurd (false≢true (sym out ∙ outputs-among row.job.root owned name among))) (λ e. e)) out

  -- by a restart at the start of the step, what it made goes too
  pub restarted-outside : (marks : List Mark) (sets : Named TableSet) → entry_at (put_back marks (output_names row.job.root owned) (names_of row.job.root owned) (removed_all (own_made row owned step) sets)) name ≡ entry_at sets name
  restarted-outside marks sets =
      put_back-outside marks (removed_all (own_made row owned step) sets)
      ∙ at-removed_all (own_made row owned step) sets name
      ∙ ap (λ b. cond b None (entry_at sets name)) (own_made-out row owned step name out)
