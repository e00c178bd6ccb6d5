-- The selection of a run that continues another one makes of the tables what it makes of the run and of the library.
use Rattle.std.proofs.Common.{◌≡◌, ℕ, Bool, true, false, List, [], ◌∷◌, ◌++◌, ap, sym, ◌∙◌, Option, Some, None}
use Rattle.std.specs.Option.{is_none, option_map, option_map_or, option_or}
use Rattle.std.proofs.lemmas.Option.{same_Some}
use Rattle.ckr_base.proofs.Options.{some-not-none}
use Rattle.ckr_library.specs.Catalog.{Holding}
use Rattle.ckr_library.specs.NameMaps.{Name, Named}
use Rattle.ckr_meaning.specs.EffectiveJob.{Effective, OwnedStep, step_at}
use Rattle.ckr_points.specs.declared.run.Run.{Run}
use Rattle.ckr_points.specs.Marks.{deck_names, lost_names, point_at}
use Rattle.ckr_points.specs.Restart.{Back, after_continued, after_continued_at, after_entry_continued, after_taken_over, carried_point, rcs_before, row_on, spliced, syschk_name}
use Rattle.ckr_points.specs.Marks.{mark_now}
use Rattle.ckr_points.specs.Rows.{KeptEntry, RunRow, StartPoint, TableSet, TablesModel, with_run}
use Rattle.ckr_points_runs.specs.RunChange.{Going, desk_with, going}
use Rattle.ckr_points_tables.specs.Restart.{line_on}
use Rattle.ckr_points_runs.specs.RunJobs.{JobView, continued_view, effective}
use Rattle.ckr_points_runs.specs.RunMarks.{own_names_of}
use Rattle.ckr_points_tables.specs.Selection.{Resumption, continued_facts, entries_in, resumed, resumed_at_entry, resumed_at_start, resumed_run, sets_resumed}
use Rattle.ckr_points_runs.specs.View.{RunTableView, row_with, seen_by, table_of}
use Rattle.ckr_points_tables.specs.View.{Writings, table_in}
use Rattle.ckr_points_tables.proofs.NamedViews.{viewed}
use Rattle.ckr_points_tables.proofs.Restarts.Views.{kept-seen}
use Rattle.ckr_points_runs.proofs.RunJobs.{spliced-is}
use Rattle.ckr_points_tables.proofs.Selections.{carried-seen, lost-seen, needed_in, removed_in, resumed-seen}
use Rattle.ckr_points_tables.proofs.SetViews.{going_viewed}

module _ (writings : Writings) (sets : Named Holding) (runs : List RunRow) (line other : Run) (facts earlier : RunTableView) (step initiator : ℕ) (own : OwnedStep) (point : StartPoint) where
  abbrev desk : TablesModel
  desk = record { sets = viewed (table_in writings) sets; runs = runs }

  abbrev now : Going Holding
  now = going line facts sets

  abbrev row : RunRow
  row = row_with line facts

  abbrev job : JobView
  job = continued_view other.number facts.job.deck earlier.job step

  abbrev steps : Effective
  steps = effective line.number job

  -- the row of the run as it is continued, with these steps
  abbrev row_at : Effective → RunRow
  row_at all = record (row_on initiator row) {
    job = all;
    earlier = other.number;
    earlier_step = step;
    rcs = rcs_before step earlier.rcs;
    points = carried_point all desk.sets point ∷ [];
  }

  abbrev back : Bool → Resumption → Back
  back at_start at = record {
    place = at.place;
    count = at.count;
    marks = at.marks;
    passed = at.passed;
    removed = removed_in at_start steps.root at.marks own;
    needed = needed_in at_start steps step at.marks own;
  }

  abbrev next : Resumption → RunTableView
  next at = continued_facts (mark_now (seen_by table_of sets)) line.number other.number facts.job.deck earlier step point at

  -- the tables with the run, by its data sets, its lost names and its step point
  abbrev all_with : Resumption → Named TableSet → List Name → StartPoint → TablesModel
  all_with at put lost carried =
      with_run
      (row_with (line_on initiator line) (record (next at) { lost = lost; points = carried ∷ []; in_effect = option_or at.in_effect facts.in_effect }))
      (record desk { sets = put })

  taken-over : (at_start : Bool) (at : Resumption)
      → after_taken_over (record (row_at steps) { in_effect = option_or at.in_effect facts.in_effect }) own (back at_start at) desk
      ≡ desk_with (going_viewed (table_in writings) (resumed_run at_start initiator step at.marks (next at) now own)) desk
  taken-over at_start at =
      let after = sets_resumed at_start line.number job step at.marks own sets in
      let named = own_names_of line.number job ++ deck_names job.root line.number facts.job.deck in
      ap (λ put. all_with at put (lost_names at.marks named put at.passed) (carried_point steps desk.sets point)) (sym (resumed-seen writings line.number job step at.marks own at_start sets))
      ∙ ap (λ lost. all_with at (viewed (table_in writings) after) lost (carried_point steps desk.sets point)) (sym (lost-seen writings after at.marks named at.passed))
      ∙ ap (all_with at (viewed (table_in writings) after) (lost_names at.marks named (seen_by table_of after) at.passed)) (sym (carried-seen writings sets line.number job point))

  continued-at : (id : Option Name) (at : Resumption) → resumed (entries_in writings sets) facts.job.deck step point id ≡ Some at
      → after_continued_at (row_at steps) own step point id desk ≡ desk_with (going_viewed (table_in writings) (resumed_run (is_none id) initiator step at.marks (next at) now own)) desk
  continued-at None at is =
      taken-over true (resumed_at_start step point)
      ∙ ap (λ one. desk_with (going_viewed (table_in writings) (resumed_run true initiator step one.marks (next one) now own)) desk) (same_Some (resumed_at_start step point) at is)
  continued-at (Some id) at is =
      ap (λ found. option_map_or (λ entry. after_entry_continued (row_at steps) own step set entry desk) found desk) (kept-seen writings sets set id)
      ∙ by (entries_in writings sets set id) is
    where
      set : Name
      set = syschk_name facts.job.deck

      by : (found : Option KeptEntry) → option_map (resumed_at_entry step set) found ≡ Some at
          → option_map_or (λ entry. after_entry_continued (row_at steps) own step set entry desk) found desk ≡ desk_with (going_viewed (table_in writings) (resumed_run false initiator step at.marks (next at) now own)) desk
      by None e = absurd (some-not-none at (sym e))
      by (Some entry) e =
          taken-over false (resumed_at_entry step set entry)
          ∙ ap (λ one. desk_with (going_viewed (table_in writings) (resumed_run false initiator step one.marks (next one) now own)) desk) (same_Some (resumed_at_entry step set entry) at e)

  -- the tables of a run that is continued so
  pub continued-in : (id : Option Name) (at : Resumption) → step_at (effective other.number earlier.job) step ≡ Some own → point_at earlier.points step ≡ Some point
      → resumed (entries_in writings sets) facts.job.deck step point id ≡ Some at
      → after_continued row (row_with other earlier) step initiator id desk ≡ desk_with (going_viewed (table_in writings) (resumed_run (is_none id) initiator step at.marks (next at) now own)) desk
  continued-in id at there pointed is =
      ap (λ found. option_map_or (λ owned. option_map_or (λ one. after_continued_at (row_at_spliced one) owned step one id desk) (point_at earlier.points step) desk) found desk) there
      ∙ ap (λ found. option_map_or (λ one. after_continued_at (row_at_spliced one) own step one id desk) found desk) pointed
      ∙ ap (λ all. after_continued_at (row_at all) own step point id desk) (spliced-is other.number line.number step facts.job.deck earlier.job own there)
      ∙ continued-at id at is
    where
      row_at_spliced : StartPoint → RunRow
      row_at_spliced one =
          let all = spliced (effective other.number earlier.job) step line.number facts.job.deck in
          record (row_on initiator row) {
            job = all;
            earlier = other.number;
            earlier_step = step;
            rcs = rcs_before step earlier.rcs;
            points = carried_point all desk.sets one ∷ [];
          }
