-- What the selection of a run that continues another one puts back, and how the tables see it.
use Rattle.std.proofs.Common.{◌≡◌, ℕ, pred, ◌+◌, ◌<◌, ◌&&◌, ◌||◌, Bool, true, false, not, cond, List, [], ◌∷◌, ◌++◌, filter, map, drop, length, slice_get, refl, ap, sym, ◌∙◌, Option, Some, None}
use Rattle.std.specs.List.{flat_map, list_any}
use Rattle.std.specs.Option.{is_some, option_map, option_map_or}
use Rattle.std.proofs.lemmas.Bool.{false≢true}
use Rattle.ckr_entry.specs.declared.point.Mark.{Mark}
use Rattle.ckr_entry.specs.declared.point.Passed.{Passed}
use Rattle.ckr_entry.specs.declared.point.Present.{Present}
use Rattle.ckr_library.specs.Catalog.{Holding, with_catalog}
use Rattle.ckr_library.specs.NameMaps.{EachEntry, Name, Named, entry_at, with_changed}
use Rattle.ckr_library.specs.declared.sets.DataSet.{DataSet}
use Rattle.ckr_library.proofs.Named.{at-viewed as plain-at}
use Rattle.ckr_meaning.specs.EffectiveJob.{Effective, OwnedStep, is_among, names_of_job, names_of_steps}
use Rattle.ckr_points.specs.Marks.{is_as_marked, lost_names, made_names, mark_at, mark_now, present_at, put_back, removed_all, still_exists, sysout_names}
use Rattle.ckr_points.specs.Restart.{carried_point, needed_names, without_names}
use Rattle.ckr_points.specs.Rows.{StartPoint, TableSet}
use Rattle.ckr_points_library.specs.Commit.{output_names}
use Rattle.ckr_points_runs.specs.PutBack.{all_made_gone, catalog_back, catalogs_back, cut_back, lengths_back}
use Rattle.ckr_points_runs.specs.RunJobs.{JobView, effective, names_in}
use Rattle.ckr_points_runs.specs.RunMarks.{names_from}
use Rattle.ckr_points_tables.specs.Selection.{carried_in, sets_resumed}
use Rattle.ckr_points_tables.specs.View.{Writings, table_in}
use Rattle.ckr_points_runs.specs.View.{seen_by, table_of}
use Rattle.ckr_points_tables.proofs.NamedViews.{at-viewed, viewed}
use Rattle.ckr_points_tables.proofs.PutBack.{back-each, back-seen, gone-each, gone-seen}
use Rattle.ckr_points_runs.proofs.RunJobs.{names-next}
use Rattle.ckr_points_tables.proofs.SetViews.{marked_same, marks-seen}
use Rattle.ckr_points_runs.proofs.OwnNames.{among-both}

-- ---- catalog marks

catalogs-append : (marks : List Mark) (first second : List Name) (sets : Named Holding) → catalogs_back marks (first ++ second) sets ≡ catalogs_back marks second (catalogs_back marks first sets)
catalogs-append marks [] second sets = refl
catalogs-append marks (name ∷ first) second sets = catalogs-append marks first second (catalog_back marks name sets)

without-append : (gone first second : List Name) → without_names gone (first ++ second) ≡ without_names gone first ++ without_names gone second
without-append gone [] second = refl
without-append gone (name ∷ first) second = by (is_among gone name) (without-append gone first second)
  where
    by : (b : Bool) → without_names gone (first ++ second) ≡ without_names gone first ++ without_names gone second
        → cond (not b) (name ∷ without_names gone (first ++ second)) (without_names gone (first ++ second)) ≡ cond (not b) (name ∷ without_names gone first) (without_names gone first) ++ without_names gone second
    by true more = more
    by false more = ap (λ rest. name ∷ rest) more

-- those of the step at a place, and of the steps behind it
pub catalogs-next : (marks : List Mark) (gone : List Name) (root : ℕ) (steps : List OwnedStep) (place next : ℕ) (sets : Named Holding) → place < length steps → next ≡ place + 1
    → catalogs_back marks (without_names gone (names_of_steps root (drop place steps))) sets
    ≡ catalogs_back marks (without_names gone (names_of_steps root (drop next steps))) (catalogs_back marks (without_names gone (names_in root (slice_get steps place))) sets)
catalogs-next marks gone root steps place next sets inside is =
    ap (λ names. catalogs_back marks (without_names gone names) sets) (names-next root steps place next inside is)
    ∙ ap (λ names. catalogs_back marks names sets) (without-append gone (names_in root (slice_get steps place)) (names_of_steps root (drop next steps)))
    ∙ catalogs-append marks (without_names gone (names_in root (slice_get steps place))) (without_names gone (names_of_steps root (drop next steps))) sets

-- a name without a mark stays as it is
catalog-unmarked : (marks : List Mark) (name : Name) (sets : Named Holding) → is_some (mark_at marks name) ≡ false → catalog_back marks name sets ≡ sets
catalog-unmarked marks name sets none = by (mark_at marks name) none
  where
    by : (found : Option Mark) → is_some found ≡ false → option_map_or (λ (present : Present). with_changed name (with_catalog present.cataloged) sets) (option_map_or (λ (mark : Mark). mark.present) found None) sets ≡ sets
    by None e = refl
    by (Some mark) e = absurd (false≢true (sym e))

-- so names without marks may be left out
catalogs-marked : (marks : List Mark) (gone names : List Name) (sets : Named Holding) → catalogs_back marks (without_names gone names) sets ≡ catalogs_back marks (without_names gone (filter (λ name. is_some (mark_at marks name)) names)) sets
catalogs-marked marks gone [] sets = refl
catalogs-marked marks gone (name ∷ names) sets = by (is_some (mark_at marks name)) (is_among gone name) refl refl (λ all. catalogs-marked marks gone names all)
  where
    some : List Name
    some = filter (λ other. is_some (mark_at marks other)) names

    by : (marked out : Bool) → is_some (mark_at marks name) ≡ marked → is_among gone name ≡ out
        → ((all : Named Holding) → catalogs_back marks (without_names gone names) all ≡ catalogs_back marks (without_names gone some) all)
        → catalogs_back marks (cond (not out) (name ∷ without_names gone names) (without_names gone names)) sets ≡ catalogs_back marks (without_names gone (cond marked (name ∷ some) some)) sets
    by true true m g more = more sets ∙ ap (λ b. catalogs_back marks (cond (not b) (name ∷ without_names gone some) (without_names gone some)) sets) (sym g)
    by true false m g more = more (catalog_back marks name sets) ∙ ap (λ b. catalogs_back marks (cond (not b) (name ∷ without_names gone some) (without_names gone some)) sets) (sym g)
    by false true m g more = more sets
    by false false m g more = ap (catalogs_back marks (without_names gone names)) (catalog-unmarked marks name sets m) ∙ more sets

without-none : (names : List Name) → without_names [] names ≡ names
without-none [] = refl
without-none (name ∷ names) = ap (λ rest. name ∷ rest) (without-none names)

-- ---- as the tables see it

-- the data sets that go, and the needed names
abbrev pub removed_in : Bool → ℕ → List Mark → OwnedStep → List Name
removed_in true root marks own = made_names marks (sysout_names root own)
removed_in false root marks own = []

abbrev pub needed_in : Bool → Effective → ℕ → List Mark → OwnedStep → List Name
needed_in true job step marks own = without_names (sysout_names job.root own) (needed_names job step marks)
needed_in false job step marks own = needed_names job step marks

module _ (writings : Writings) (run : ℕ) (job : JobView) (step : ℕ) (marks : List Mark) (own : OwnedStep) where
  abbrev see : Named Holding → Named TableSet
  see sets = viewed (table_in writings) sets

  abbrev outputs : List Name
  outputs = output_names job.root own

  pub resumed-seen : (at_start : Bool) (sets : Named Holding) → see (sets_resumed at_start run job step marks own sets) ≡ put_back marks outputs (needed_in at_start (effective run job) step marks own) (removed_all (removed_in at_start job.root marks own) (see sets))
  resumed-seen true sets =
      let printed = sysout_names job.root own in
      let gone = all_made_gone marks printed sets in
      ap see (catalogs-marked marks printed (names_from (pred step) run job) (lengths_back marks outputs gone))
      ∙ back-seen writings marks outputs (needed_in true (effective run job) step marks own) gone
      ∙ ap (put_back marks outputs (needed_in true (effective run job) step marks own)) (gone-seen writings marks printed sets)
  resumed-seen false sets =
      ap see (catalogs-marked marks [] (names_from (pred step) run job) (lengths_back marks outputs sets)
      ∙ ap (λ names. catalogs_back marks names (lengths_back marks outputs sets)) (without-none (needed_names (effective run job) step marks)))
      ∙ back-seen writings marks outputs (needed_names (effective run job) step marks) sets

module _ (Q : Holding → Type 0) (cuts : (most : ℕ) (holding : Holding) → Q holding → Q (cut_back most holding)) (marks_so : (on : Bool) (holding : Holding) → Q holding → Q (with_catalog on holding)) where
  pub resumed-each : (at_start : Bool) (run : ℕ) (job : JobView) (step : ℕ) (marks : List Mark) (own : OwnedStep) (sets : Named Holding) → EachEntry Q sets → EachEntry Q (sets_resumed at_start run job step marks own sets)
  resumed-each true run job step marks own sets each =
      back-each Q cuts marks_so marks (output_names job.root own) (without_names (sysout_names job.root own) (names_from (pred step) run job)) (all_made_gone marks (sysout_names job.root own) sets)
      (gone-each Q cuts marks_so marks (sysout_names job.root own) sets each)
  resumed-each false run job step marks own sets each =
      back-each Q cuts marks_so marks (output_names job.root own) (without_names [] (names_from (pred step) run job)) sets each

-- ---- marks and lost names

pub carried-seen : (writings : Writings) (sets : Named Holding) (run : ℕ) (job : JobView) (point : StartPoint) → carried_in (mark_now (seen_by table_of sets)) run job point ≡ carried_point (effective run job) (viewed (table_in writings) sets) point
carried-seen writings sets run job point =
    ap (λ (all : Named Mark). record point { restarts = 0; marks = map (λ entry. entry.1) all })
    (marked_same (λ name. option_map_or (λ mark. mark) (mark_at point.marks name) (mark_now (seen_by table_of sets) name)) (λ name. option_map_or (λ mark. mark) (mark_at point.marks name) (mark_now (viewed (table_in writings) sets) name))
    (λ name. ap (option_map_or (λ (mark : Mark). mark) (mark_at point.marks name)) (marks-seen writings sets name)) (names_of_job (effective run job)))

stands-seen : (writings : Writings) (sets : Named Holding) (marks : List Mark) (named : List Name) (name : Name) → still_exists marks named (seen_by table_of sets) name ≡ still_exists marks named (viewed (table_in writings) sets) name
stands-seen writings sets marks named name = by (present_at marks name)
  where
    one : (present : Present) (found : Option Holding) → option_map_or (λ (table : TableSet). is_as_marked table present) (option_map table_of found) false ≡ option_map_or (λ (table : TableSet). is_as_marked table present) (option_map (table_in writings name) found) false
    one present None = refl
    one present (Some holding) = refl

    by : (there : Option Present) → (is_among named name && option_map_or (λ (present : Present). option_map_or (λ (table : TableSet). is_as_marked table present) (entry_at (seen_by table_of sets) name) false) there false)
        ≡ (is_among named name && option_map_or (λ (present : Present). option_map_or (λ (table : TableSet). is_as_marked table present) (entry_at (viewed (table_in writings) sets) name) false) there false)
    by None = refl
    by (Some present) =
        ap (λ b. is_among named name && b)
        (
        ap (λ found. option_map_or (λ (table : TableSet). is_as_marked table present) found false) (plain-at table_of sets name)
        ∙ one present (entry_at sets name)
        ∙ ap (λ found. option_map_or (λ (table : TableSet). is_as_marked table present) found false) (sym (at-viewed (table_in writings) sets name)))

pub lost-seen : (writings : Writings) (sets : Named Holding) (marks : List Mark) (named : List Name) (passed : List Passed) → lost_names marks named (seen_by table_of sets) passed ≡ lost_names marks named (viewed (table_in writings) sets) passed
lost-seen writings sets marks named [] = refl
lost-seen writings sets marks named (one ∷ passed) =
    ap (λ b. map (λ (entry : Passed). entry.name) (cond (not b) (one ∷ filter (λ entry. not (still_exists marks named (seen_by table_of sets) entry.name)) passed) (filter (λ entry. not (still_exists marks named (seen_by table_of sets) entry.name)) passed))) (stands-seen writings sets marks named one.name)
    ∙ by (still_exists marks named (viewed (table_in writings) sets) one.name) (lost-seen writings sets marks named passed)
  where
    by : (b : Bool) → lost_names marks named (seen_by table_of sets) passed ≡ lost_names marks named (viewed (table_in writings) sets) passed
        → map (λ (entry : Passed). entry.name) (cond (not b) (one ∷ filter (λ entry. not (still_exists marks named (seen_by table_of sets) entry.name)) passed) (filter (λ entry. not (still_exists marks named (seen_by table_of sets) entry.name)) passed))
        ≡ map (λ (entry : Passed). entry.name) (cond (not b) (one ∷ filter (λ entry. not (still_exists marks named (viewed (table_in writings) sets) entry.name)) passed) (filter (λ entry. not (still_exists marks named (viewed (table_in writings) sets) entry.name)) passed))
    by true more = more
    by false more = ap (λ rest. one.name ∷ rest) more

-- one passed name more
pub lost-more : (marks : List Mark) (named : List Name) (sets : Named TableSet) (passed : List Passed) (one : Passed) (b : Bool) → still_exists marks named sets one.name ≡ b → lost_names marks named sets (passed ++ one ∷ []) ≡ lost_names marks named sets passed ++ cond b [] (one.name ∷ [])
lost-more marks named sets [] one true is = ap (λ b. map (λ (entry : Passed). entry.name) (cond (not b) (one ∷ []) [])) is
lost-more marks named sets [] one false is = ap (λ b. map (λ (entry : Passed). entry.name) (cond (not b) (one ∷ []) [])) is
lost-more marks named sets (first ∷ passed) one b is = by (still_exists marks named sets first.name) (lost-more marks named sets passed one b is)
  where
    kept : List Passed → List Passed
    kept all = filter (λ entry. not (still_exists marks named sets entry.name)) all

    by : (x : Bool) → map (λ (entry : Passed). entry.name) (kept (passed ++ one ∷ [])) ≡ map (λ (entry : Passed). entry.name) (kept passed) ++ cond b [] (one.name ∷ [])
        → map (λ (entry : Passed). entry.name) (cond (not x) (first ∷ kept (passed ++ one ∷ [])) (kept (passed ++ one ∷ []))) ≡ map (λ (entry : Passed). entry.name) (cond (not x) (first ∷ kept passed) (kept passed)) ++ cond b [] (one.name ∷ [])
    by true more = more
    by false more = ap (λ rest. first.name ∷ rest) more

nothing-more : {A : Type 0} (items : List A) → items ++ [] ≡ items
nothing-more [] = refl
nothing-more (item ∷ items) = ap (λ rest. item ∷ rest) (nothing-more items)

-- one that still exists
pub lost-kept : (marks : List Mark) (named : List Name) (sets : Named TableSet) (passed : List Passed) (one : Passed) → still_exists marks named sets one.name ≡ true → lost_names marks named sets (passed ++ one ∷ []) ≡ lost_names marks named sets passed
lost-kept marks named sets passed one is = lost-more marks named sets passed one true is ∙ nothing-more (lost_names marks named sets passed)

-- ---- names of steps

pub among-flat : {A : Type 0} (of : A → List Name) (items : List A) (name : Name) → list_any (λ item. is_among (of item) name) items ≡ is_among (flat_map of items) name
among-flat of [] name = refl
among-flat of (item ∷ items) name = ap (λ b. is_among (of item) name || b) (among-flat of items name) ∙ sym (among-both (of item) (flat_map of items) name)

-- a data set that stands as a mark has it
pub stands-in : (sets : Named Holding) (name : Name) (present : Present)
    → option_map_or (λ (set : DataSet). is_as_marked (record { set = set; entries = [] }) present) (option_map (λ (holding : Holding). holding.set) (entry_at sets name)) false ≡ option_map_or (λ (table : TableSet). is_as_marked table present) (entry_at (seen_by table_of sets) name) false
stands-in sets name present = by (entry_at sets name) ∙ ap (λ found. option_map_or (λ (table : TableSet). is_as_marked table present) found false) (sym (plain-at table_of sets name))
  where
    by : (found : Option Holding) → option_map_or (λ (set : DataSet). is_as_marked (record { set = set; entries = [] }) present) (option_map (λ (holding : Holding). holding.set) found) false ≡ option_map_or (λ (table : TableSet). is_as_marked table present) (option_map table_of found) false
    by None = refl
    by (Some holding) = refl
