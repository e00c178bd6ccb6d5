-- A call on the tables that goes on by the selection of a run that continues another one: what it needs, and what it leaves.
use Rattle.std.proofs.Common.{IsTrue, take, ◌≡◌, ◌&&◌, ◌+◌, ◌-◌, ◌<◌, ◌≤◌, ℕ, suc, true, Bool, nat_eq, not, List, [], length, map, slice_get, slice_set, slice_index_or, refl, ap, sym, ◌∙◌, subst, arith, Some, None, Option}
use Rattle.std.specs.List.{list_all}
use Rattle.std.specs.Option.{is_none, option_and_then, option_eq, option_map, option_map_or, option_or}
use Rattle.std.proofs.lemmas.Bool.{false≢true}
use Rattle.std.proofs.lemmas.Option.{same_Some, slice_get-map, slice_get_within}
use Rattle.ckr_base.proofs.Bools.{and-first, and-second}
use Rattle.ckr_base.proofs.Options.{some-not-none}
use Rattle.ckr_base.proofs.Sequences.{get-from, get-there}
use Rattle.ckr_entry.specs.declared.point.Mark.{Mark}
use Rattle.ckr_events.specs.declared.event.Event.TheVariants.{Selected}
use Rattle.ckr_jcl.specs.declared.deck.Job.{Job}
use Rattle.ckr_jcl.specs.declared.deck.Step.{Step}
use Rattle.ckr_library.specs.Catalog.{Holding, with_catalog}
use Rattle.ckr_library.specs.NameMaps.{EachEntry, Name, Named}
use Rattle.ckr_meaning.specs.EffectiveJob.{HasDistinctNames, OwnedStep, names_of, owned_by, step_at}
use Rattle.ckr_points.specs.declared.run.Run.{Run}
use Rattle.ckr_points.specs.declared.run.RunState.TheVariants.{Queued}
use Rattle.ckr_points.specs.Follows.{is_free, is_in_state, may_hold, selected_follows}
use Rattle.ckr_points.specs.Marks.{mark_now, point_at}
use Rattle.ckr_points.specs.Restart.{after_chosen, after_continued, after_continued_at, after_entry_continued, after_event, continued_row, kept_at, rcs_before, syschk_name}
use Rattle.ckr_points.specs.Syschk.{names_its_set}
use Rattle.ckr_points.specs.Rows.{KeptEntry, RunRow, StartPoint, TablesModel, run_of}
use Rattle.ckr_points_runs.specs.declared.run_table.RunTable.{RunTable}
use Rattle.ckr_points_tables.specs.declared.tables.Tables.TheInside.{Inside}
use Rattle.ckr_points_tables.specs.Invariant.{AreKept, CanContinue, HasNext, HasRoom, HasSelectionRoom, IsIndexOf, IsRun, IsWide, MayContinue, MayFollow, initiator_at, put_at, room_at}
use Rattle.ckr_points_runs.specs.PutBack.{IsFilled}
use Rattle.ckr_points_tables.specs.Parts.{tables_seen, IsKept}
use Rattle.ckr_points_runs.specs.PutBack.{cut_back}
use Rattle.ckr_points_tables.specs.Restart.{line_on}
use Rattle.ckr_points_runs.specs.Rewrite.{has_master}
use Rattle.ckr_uses.specs.Uses.{are_distinct}
use Rattle.ckr_points_runs.specs.RunChange.{Going, desk_with, going}
use Rattle.ckr_points_runs.specs.RunJobs.{IsFitting, JobView, continued_view, effective}
use Rattle.ckr_points_tables.specs.Selection.{Entries, HasLostRoom, IsResumed, Resumption, begun_facts, continued_facts, entries_in, lost_by, prepared, prepared_for, prepared_of, resumed, resumed_at_entry, resumed_run}
use Rattle.ckr_points_tables.specs.View.{NextRun, RoomyTables, Writings, next_of, room_of, row_of, rows_of, seen_under, table_in}
use Rattle.ckr_points_runs.specs.RunJobs.{is_within_limits}
use Rattle.ckr_points_runs.specs.View.{RunTableView, facts_of, row_with, seen_by, table_of, written_of}
use Rattle.ckr_points_tables.proofs.Continuations.{continued-in}
use Rattle.ckr_points_tables.proofs.ContinuedRuns.{continued-distinct, continued-fits, continued-masters, continued-taken}
use Rattle.ckr_points_tables.proofs.Events.{none_on}
use Rattle.ckr_points_runs.proofs.PutBack.{cut-back-filled}
use Rattle.ckr_points_tables.proofs.PutBack.{cut-back-wide}
use Rattle.ckr_points_tables.proofs.RunChanges.{run-in}
use Rattle.ckr_points_runs.proofs.RunJobs.{continued-step}
use Rattle.ckr_points_tables.proofs.RunMoves.{IsPlaced, desk_replaced, is_run, kept_replaced, number_is, of_run-row, placed_so, run_fits, run_found}
use Rattle.ckr_points_tables.proofs.Runs.{length-rows, rows-at}
use Rattle.ckr_points_tables.proofs.Initiators.{index_changed}
use Rattle.ckr_points_tables.proofs.SelectionRooms.{prepared-seen}
use Rattle.ckr_points_tables.proofs.Selections.{resumed-each}
use Rattle.ckr_points_tables.proofs.SetViews.{going_viewed}

-- ---- the parts of a run that was made beforehand

pub record IsPrepared (now : Name → Mark) (entries : Entries) (run number : ℕ) (deck : Job) (earlier : RunTableView) (step : ℕ) (id : Option Name) (next : RunTableView) : Type 0 where
  pub own : OwnedStep
  pub point : StartPoint
  pub at : Resumption
  pub there : step_at (effective number earlier.job) step ≡ Some own
  pub pointed : point_at earlier.points step ≡ Some point
  pub goes : resumed entries deck step point id ≡ Some at
  pub facts : next ≡ continued_facts now run number deck earlier step point at

prepared-parts : (now : Name → Mark) (entries : Entries) (run number : ℕ) (deck : Job) (earlier : RunTableView) (step : ℕ) (id : Option Name) (next : RunTableView)
    → Some next ≡ prepared now entries run number deck earlier step id → IsPrepared now entries run number deck earlier step id next
prepared-parts now entries run number deck earlier step id next is = by_own (step_at (effective number earlier.job) step) refl is
  where
    at_point : StartPoint → Option RunTableView
    at_point point = option_map (continued_facts now run number deck earlier step point) (resumed entries deck step point id)

    by_at : (own : OwnedStep) (point : StartPoint) → step_at (effective number earlier.job) step ≡ Some own → point_at earlier.points step ≡ Some point
        → (found : Option Resumption) → resumed entries deck step point id ≡ found → Some next ≡ option_map (continued_facts now run number deck earlier step point) found → IsPrepared now entries run number deck earlier step id next
    by_at own point there pointed None goes e = absurd (some-not-none next e)
    by_at own point there pointed (Some at) goes e = record { own = own; point = point; at = at; there = there; pointed = pointed; goes = goes; facts = same_Some next (continued_facts now run number deck earlier step point at) e }

    by_point : (own : OwnedStep) → step_at (effective number earlier.job) step ≡ Some own → (found : Option StartPoint) → point_at earlier.points step ≡ found → Some next ≡ option_and_then at_point found
        → IsPrepared now entries run number deck earlier step id next
    by_point own there None pointed e = absurd (some-not-none next e)
    by_point own there (Some point) pointed e = by_at own point there pointed (resumed entries deck step point id) refl e

    by_own : (found : Option OwnedStep) → step_at (effective number earlier.job) step ≡ found → Some next ≡ option_and_then (λ (own : OwnedStep). option_and_then at_point (point_at earlier.points step)) found
        → IsPrepared now entries run number deck earlier step id next
    by_own None there e = absurd (some-not-none next e)
    by_own (Some own) there e = by_point own there (point_at earlier.points step) refl e

-- the run that it continues is there
prepared-other : (desk : TablesModel) (row : RunRow) (earlier step : ℕ) (id : Option Name) (next : RunTableView) → Some next ≡ prepared_for desk row earlier step id → (other : RunRow) × (run_of desk earlier ≡ Some other)
prepared-other desk row earlier step id next is = by (run_of desk earlier) refl is
  where
    by : (found : Option RunRow) → run_of desk earlier ≡ found
        → Some next ≡ option_and_then (λ (other : RunRow). prepared_of (mark_now desk.sets) (kept_at desk.sets) row.number other.number row.deck other.job other.rcs other.points step id) found
        → (other : RunRow) × (run_of desk earlier ≡ Some other)
    by None found e = absurd (some-not-none next e)
    by (Some other) found e = (other, found)

-- where no run is made the tables stay
module _ (desk : TablesModel) (row other : RunRow) (initiator step : ℕ) where
  abbrev begun : StartPoint → Resumption → RunTableView
  begun point =
      begun_facts (mark_now desk.sets) row.number (record { deck = row.deck; root = other.job.root; earlier = other.number; earlier_step = step; taken = take step other.job.steps }) (rcs_before step other.rcs) point

  abbrev at_point : Option Name → StartPoint → Option RunTableView
  at_point id point = option_map (begun point) (resumed (kept_at desk.sets) row.deck step point id)

  abbrev after_at : Option Name → OwnedStep → StartPoint → TablesModel
  after_at id own point = after_continued_at (continued_row row other step point initiator desk.sets) own step point id desk

  nothing-at : (own : OwnedStep) (point : StartPoint) (id : Option Name) → None ≡ at_point id point → desk ≡ after_at id own point
  nothing-at own point None e = absurd (some-not-none _ (sym e))
  nothing-at own point (Some id) e = by (kept_at desk.sets (syschk_name row.deck) id) e
    where
      by : (found : Option KeptEntry) → None ≡ option_map (begun point) (option_map (resumed_at_entry step (syschk_name row.deck)) found)
          → desk ≡ option_map_or (λ entry. after_entry_continued (continued_row row other step point initiator desk.sets) own step (syschk_name row.deck) entry desk) found desk
      by None e = refl
      by (Some entry) e = absurd (some-not-none _ (sym e))

  nothing-continued : (id : Option Name) → None ≡ option_and_then (λ (own : OwnedStep). option_and_then (at_point id) (point_at other.points step)) (step_at other.job step) → desk ≡ after_continued row other step initiator id desk
  nothing-continued id e = by_own (step_at other.job step) e
    where
      by_point : (own : OwnedStep) (found : Option StartPoint) → None ≡ option_and_then (at_point id) found → desk ≡ option_map_or (after_at id own) found desk
      by_point own None e = refl
      by_point own (Some point) e = nothing-at own point id e

      by_own : (found : Option OwnedStep) → None ≡ option_and_then (λ (own : OwnedStep). option_and_then (at_point id) (point_at other.points step)) found
          → desk ≡ option_map_or (λ (own : OwnedStep). option_map_or (after_at id own) (point_at other.points step) desk) found desk
      by_own None e = refl
      by_own (Some own) e = by_point own (point_at other.points step) e

nothing-chosen : (desk : TablesModel) (row : RunRow) (initiator before step : ℕ) (id : Option Name) → None ≡ prepared_for desk row (suc before) step id → desk ≡ after_chosen row initiator (suc before) step id desk
nothing-chosen desk row initiator before step id is = by (run_of desk (suc before)) is
  where
    by : (found : Option RunRow) → None ≡ option_and_then (λ (other : RunRow). prepared_of (mark_now desk.sets) (kept_at desk.sets) row.number other.number row.deck other.job other.rcs other.points step id) found
        → desk ≡ option_map_or (λ (other : RunRow). after_continued row other step initiator id desk) found desk
    by None e = refl
    by (Some other) e = nothing-continued desk row other initiator step id e

-- ---- the call

module _ (a : Inside) (self : RoomyTables) (view : tables_seen a ≡ self) (kept : IsKept a) (job initiator earlier before step : ℕ) (id : Option Name) (first : earlier ≡ suc before) (may : (deck : Option Job) → MayFollow self.desk (Selected job initiator earlier step id) deck) where
  abbrev desk : TablesModel
  desk = (tables_seen a).desk

  abbrev writings : Writings
  writings = map written_of a.writings.items

  abbrev lines : List Run
  lines = a.lines.items

  abbrev tables : List RunTable
  tables = a.tables.items

  may_in : MayFollow desk (Selected job initiator earlier step id) None
  may_in = subst (λ v. MayFollow v.desk (Selected job initiator earlier step id) None) (sym view) (may None)

  pub continued_placed : IsPlaced job lines tables
  continued_placed = placed_so a (tables_seen a) refl kept job (selected_follows may_in.0 desk initiator earlier step id) may_in.1

  pub continued_low : job ≤ 9999999
  continued_low = omega (arith, continued_placed.tabled, kept.few)

  -- the run's line and table, however often they are read
  pub own_line : (line : Run) × (slice_get lines (job - 1) ≡ Some line)
  own_line = get-there lines (job - 1) continued_placed.lined

  pub own_table : (table : RunTable) × (slice_get tables (job - 1) ≡ Some table)
  own_table = get-there tables (job - 1) continued_placed.tabled

  pub line_read : (line : Run) → line ≡ slice_index_or lines (job - 1) line → line ≡ own_line.0
  line_read line read = same_Some line own_line.0 (sym (get-from lines (job - 1) line continued_placed.lined read) ∙ own_line.1)

  pub table_read : (table : RunTable) → table ≡ slice_index_or tables (job - 1) table → table ≡ own_table.0
  table_read table read = same_Some table own_table.0 (sym (get-from tables (job - 1) table continued_placed.tabled read) ∙ own_table.1)

  module _ (room : HasRoom self (Selected job initiator earlier step id)) where
    abbrev line : Run
    line = own_line.0

    abbrev table : RunTable
    table = own_table.0

    lined : slice_get lines (job - 1) ≡ Some line
    lined = own_line.1

    tabled : slice_get tables (job - 1) ≡ Some table
    tabled = own_table.1

    abbrev facts : RunTableView
    facts = facts_of table

    abbrev now : Going Holding
    now = going line facts a.library.sets

    abbrev row : RunRow
    row = row_with line facts

    own_is : IsRun (1 + (job - 1)) line table
    own_is = is_run a.library.sets lines tables a.index a.spare.marks.items a.writings.items kept (job - 1) line table lined tabled

    found : run_of desk line.number ≡ Some row
    found = run_found a.library.sets lines tables a.index a.spare.marks.items a.writings.items kept (job - 1) line table lined tabled

    numbered : line.number ≡ job
    numbered = number_is a.library.sets lines tables a.index a.spare.marks.items a.writings.items kept (job - 1) line table lined tabled ∙ sym continued_placed.next

    row_found : run_of desk job ≡ Some row
    row_found = ap (run_of desk) (sym numbered) ∙ found

    selected : selected_follows may_in.0 desk initiator earlier step id row ≡ true
    selected = of_run-row desk job (selected_follows may_in.0 desk initiator earlier step id) row row_found may_in.1

    has_next : HasNext (tables_seen a) row (suc before) step id
    has_next =
        let here : HasRoom (tables_seen a) (Selected job initiator earlier step id) = subst (λ v. HasRoom v (Selected job initiator earlier step id)) (sym view) room in
        subst (λ n. HasSelectionRoom (tables_seen a) row n step id) first
        (here.run row (room_of table) row_found (ap (room_at (tables_seen a).room) continued_placed.next ∙ slice_get-map room_of tables (job - 1) ∙ ap (option_map room_of) tabled))

    -- what the event comes to, by the row
    event-is : (deck : Option Job) → after_event (Selected job initiator earlier step id) deck desk ≡ after_chosen row initiator (suc before) step id desk
    event-is deck =
        run-in desk line facts found job (λ one. after_chosen one initiator earlier step id desk) numbered
        ∙ ap (λ n. after_chosen row initiator n step id desk) first

    pub nothing-there : a.spare.next ≡ None → (deck : Option Job) → desk ≡ after_event (Selected job initiator earlier step id) deck self.desk
    nothing-there none deck =
        nothing-chosen desk row initiator before step id (ap (λ (next : Option RunTable). option_map (λ (one : NextRun). one.facts) (option_map next_of next)) (sym none) ∙ has_next.facts)
        ∙ sym (event-is deck)
        ∙ ap (λ v. after_event (Selected job initiator earlier step id) deck v.desk) view

    -- no run is on the initiator
    free : is_free may_in.0 desk initiator ≡ true
    free = and-second (is_in_state Queued row) _ (and-first (is_in_state Queued row && is_free may_in.0 desk initiator) _ (and-first (is_in_state Queued row && is_free may_in.0 desk initiator && may_hold desk row) _ selected))

    none_there : (k : ℕ) → initiator_at lines k ≡ Some initiator → ⊥
    none_there k on = by (slice_get lines k) refl on
      where
        by : (there : Option Run) → slice_get lines k ≡ there → option_and_then (λ (l : Run). l.initiator) there ≡ Some initiator → ⊥
        by None is on = some-not-none _ (sym on)
        by (Some l) is on =
            let long = length-rows 1 lines tables kept.runs in
            let there = get-there tables k (omega (arith, long.0, slice_get_within lines k l is)) in
            none_on desk.runs initiator (and-second _ (list_all (λ (one : RunRow). not (option_eq nat_eq one.initiator (Some initiator))) desk.runs) free) k (row_of l there.0) (rows-at lines tables k l there.0 is there.1) on

    module _ (next : RunTable) (spare : a.spare.next ≡ Some next) where
      prepared_is : Some (facts_of next) ≡ prepared_for desk row (suc before) step id
      prepared_is = ap (λ (there : Option RunTable). option_map (λ (one : NextRun). one.facts) (option_map next_of there)) (sym spare) ∙ has_next.facts

      other_found : (other : RunRow) × (run_of desk (suc before) ≡ Some other)
      other_found = prepared-other desk row (suc before) step id (facts_of next) prepared_is

      pub earlier_inside : before < length tables
      earlier_inside = omega (arith, slice_get_within desk.runs before other_found.0 other_found.1, (length-rows 1 lines tables kept.runs).1)

      module _ (prior : RunTable) (prior_read : prior ≡ slice_index_or tables before prior) where
        other_tabled : slice_get tables before ≡ Some prior
        other_tabled = get-from tables before prior earlier_inside prior_read

        pub other_line : (other : Run) × (slice_get lines before ≡ Some other)
        other_line = get-there lines before (omega (arith, earlier_inside, (length-rows 1 lines tables kept.runs).0))

        abbrev other : Run
        other = other_line.0

        other_is : IsRun (1 + before) other prior
        other_is = is_run a.library.sets lines tables a.index a.spare.marks.items a.writings.items kept before other prior other_line.1 other_tabled

        other_row_found : run_of desk (suc before) ≡ Some (row_with other (facts_of prior))
        other_row_found = rows-at lines tables before other prior other_line.1 other_tabled

        other_numbered : other.number ≡ suc before
        other_numbered = number_is a.library.sets lines tables a.index a.spare.marks.items a.writings.items kept before other prior other_line.1 other_tabled

        other_fits : IsFitting (effective other.number prior.job)
        other_fits = run_fits a.library.sets lines tables a.index a.spare.marks.items a.writings.items kept before other prior other_line.1 other_tabled

        pub parts : IsPrepared (mark_now (seen_by table_of a.library.sets)) (entries_in writings a.library.sets) line.number other.number facts.job.deck (facts_of prior) step id (facts_of next)
        parts =
            prepared-parts (mark_now (seen_by table_of a.library.sets)) (entries_in writings a.library.sets) line.number other.number facts.job.deck (facts_of prior) step id (facts_of next)
            (
            prepared_is
            ∙ ap (λ (there : Option RunRow). option_and_then (λ (one : RunRow). prepared_of (mark_now desk.sets) (kept_at desk.sets) row.number one.number row.deck one.job one.rcs one.points step id) there) other_row_found
            ∙ sym (prepared-seen writings a.library.sets line.number other.number facts.job.deck (facts_of prior) step id)
            )

        abbrev next_job : JobView
        next_job = continued_view other.number facts.job.deck prior.job step

        job_is : next.job ≡ next_job
        job_is = ap (λ (v : RunTableView). v.job) parts.facts

        pub next_fits : IsFitting (effective job next.job)
        next_fits = subst (λ j. IsFitting (effective job j)) (sym job_is) (continued-fits other.number job step facts.job.deck prior.job other_fits own_is.limits continued_low)

        pub next_at : next.job.earlier_step ≡ step
        next_at = ap (λ (j : JobView). j.earlier_step) job_is

        pub next_syschk : names_its_set next.job.deck.syschk ≡ true
        next_syschk = ap (λ (j : JobView). names_its_set j.deck.syschk) job_is ∙ own_is.syschk

        pub next_none : next.lost.items ≡ []
        next_none = ap (λ (v : RunTableView). v.lost) parts.facts

        pub next_room : HasLostRoom next
        next_room = omega (arith, next.lost.ok.0, ap length next_none, has_next.lost (next_of next) (ap (option_map next_of) spare))

        -- what is asked of it as it goes on
        pub own_there : step_at (effective job next.job) step ≡ Some parts.own
        own_there = ap (λ j. step_at (effective job j) step) job_is ∙ continued-step other.number job step facts.job.deck prior.job parts.own parts.there

        pub at_there : resumed (entries_in writings a.library.sets) next.job.deck step parts.point id ≡ Some parts.at
        at_there = ap (λ (j : JobView). resumed (entries_in writings a.library.sets) j.deck step parts.point id) job_is ∙ parts.goes

        module _ (new : RunTable) (after_sets : Named Holding) (back : IsResumed (is_none id) job step parts.at.marks parts.own (facts_of next) (facts_of new) a.library.sets after_sets) (after : RunTable)
            (effect : facts_of after ≡ record (facts_of new) { in_effect = option_or (facts_of new).in_effect facts.in_effect }) (continues : MayContinue (Selected job initiator earlier step id) self.desk) where
          back_at : IsResumed (is_none id) line.number step parts.at.marks parts.own (facts_of next) (facts_of new) a.library.sets after_sets
          back_at = subst (λ n. IsResumed (is_none id) n step parts.at.marks parts.own (facts_of next) (facts_of new) a.library.sets after_sets) (sym numbered) back

          abbrev lost_in : Named Holding → RunTableView
          lost_in sets = record (facts_of next) { lost = lost_by line.number next.job parts.at.marks next.passed.items sets; in_effect = option_or (facts_of next).in_effect facts.in_effect }

          goes_on : going (line_on initiator line) (facts_of after) after_sets ≡ resumed_run (is_none id) initiator step parts.at.marks (facts_of next) now parts.own
          goes_on =
              ap (λ v. going (line_on initiator line) v after_sets) (effect ∙ ap (λ (v : RunTableView). record v { in_effect = option_or v.in_effect facts.in_effect }) back_at.facts)
              ∙ ap (λ sets. going (line_on initiator line) (lost_in sets) sets) back_at.sets

          after_job : after.job ≡ next_job
          after_job = ap (λ (v : RunTableView). v.job) effect ∙ ap (λ (v : RunTableView). v.job) back_at.facts ∙ job_is

          can : CanContinue row (row_with other (facts_of prior))
          can =
              subst (λ v. MayContinue (Selected job initiator earlier step id) v.desk) (sym view) continues row (row_with other (facts_of prior)) row_found
              (ap (run_of desk) first ∙ other_row_found)

          at_number : 1 + (job - 1) ≤ 9999999
          at_number = omega (arith, continued_low, continued_placed.first)

          is_after : IsRun (1 + (job - 1)) (line_on initiator line) after
          is_after = record {
            numbered = own_is.numbered;
            named = own_is.named ∙ ap (λ (j : JobView). j.deck.name) (sym after_job);
            limits = subst (λ (j : JobView). IsTrue (is_within_limits j.deck)) (sym after_job) own_is.limits;
            fits = subst (λ j. IsFitting (effective (1 + (job - 1)) j)) (sym after_job) (continued-fits other.number (1 + (job - 1)) step facts.job.deck prior.job other_fits own_is.limits at_number);
            distinct =
                subst (λ j. HasDistinctNames (effective (1 + (job - 1)) j)) (sym after_job)
                (continued-distinct other.number (1 + (job - 1)) step facts.job.deck prior.job
                (subst (λ n. HasDistinctNames (effective n prior.job)) (sym other_is.numbered) other_is.distinct)
                (subst (λ n. list_all (λ (one : Step). are_distinct (names_of prior.job.root (owned_by n facts.job.deck one))) facts.job.deck.steps ≡ true) own_is.numbered can.distinct));
            masters =
                subst (λ j. list_all (λ (own : OwnedStep). has_master own.step) (effective (1 + (job - 1)) j).steps ≡ true) (sym after_job)
                (continued-masters other.number (1 + (job - 1)) step facts.job.deck prior.job
                (subst (λ n. list_all (λ (own : OwnedStep). has_master own.step) (effective n prior.job).steps ≡ true) (sym other_is.numbered) other_is.masters) can.masters);
            syschk = ap (λ (j : JobView). names_its_set j.deck.syschk) after_job ∙ own_is.syschk;
            free = λ queued. absurd (false≢true queued);
            taken =
                subst (λ (j : JobView). length j.taken ≡ j.earlier_step) (sym after_job)
                (continued-taken other.number (1 + (job - 1)) step facts.job.deck prior.job parts.own parts.there);
          }

          resumed_so : (Q : Holding → Type 0) → ((most : ℕ) (holding : Holding) → Q holding → Q (cut_back most holding)) → ((on : Bool) (holding : Holding) → Q holding → Q (with_catalog on holding)) → EachEntry Q a.library.sets → EachEntry Q after_sets
          resumed_so Q cuts marks each =
              subst (EachEntry Q) (sym back_at.sets) (resumed-each Q cuts marks (is_none id) line.number next.job step parts.at.marks parts.own a.library.sets each)

          pub kept_continued : (marks : List Mark) → marks ≡ [] → ((i : ℕ) → Some initiator ≡ Some i → i < 256) → (index : List ℕ) → index ≡ put_at (Some initiator) job (put_at line.initiator 0 a.index)
              → AreKept after_sets (slice_set lines (job - 1) (line_on initiator line)) (slice_set tables (job - 1) after) index marks a.writings.items
          kept_continued marks empty fits index is =
              kept_replaced a.library.sets lines tables a.index a.spare.marks.items a.writings.items kept (job - 1) line table lined tabled (line_on initiator line) after after_sets refl is_after index marks
              (resumed_so IsWide cut-back-wide (λ on holding is. is) kept.wide)
              (resumed_so IsFilled cut-back-filled (λ on holding is. is) kept.filled)
              (subst (λ all. IsIndexOf all (slice_set lines (job - 1) (line_on initiator line))) (ap (λ n. put_at (Some initiator) n (put_at line.initiator 0 a.index)) (sym continued_placed.next) ∙ sym is)
              (index_changed lines a.index kept.indexed (job - 1) line lined (line_on initiator line) fits (λ i k on there. absurd (none_there k (there ∙ sym on)))))
              empty

          pub desk_continued : (deck : Option Job) → (let all : TablesModel = record { sets = seen_under (table_in writings) after_sets; runs = rows_of (slice_set lines (job - 1) (line_on initiator line)) (slice_set tables (job - 1) after) } in all) ≡ after_event (Selected job initiator earlier step id) deck self.desk
          desk_continued deck =
              desk_replaced a.library.sets lines tables a.index a.spare.marks.items a.writings.items kept (job - 1) line table lined tabled (line_on initiator line) after after_sets refl is_after
              ∙ ap (λ seen. desk_with seen desk) (ap (going_viewed (table_in writings)) goes_on)
              ∙ ap (λ (v : RunTableView). desk_with (going_viewed (table_in writings) (resumed_run (is_none id) initiator step parts.at.marks v now parts.own)) desk) parts.facts
              ∙ sym (
              event-is deck
              ∙ run-in desk other (facts_of prior) (ap (run_of desk) other_numbered ∙ other_row_found) (suc before) (λ one. after_continued row one step initiator id desk) other_numbered
              ∙ continued-in writings a.library.sets desk.runs line other facts (facts_of prior) step initiator parts.own parts.point id parts.at parts.there parts.pointed parts.goes
              )
              ∙ ap (λ v. after_event (Selected job initiator earlier step id) deck v.desk) view
