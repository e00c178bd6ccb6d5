-- When a run that continues another one may be selected: what holds of the two then.
use Rattle.std.proofs.Common.{◌≡◌, ◌≢◌, ℕ, suc, pred, Bool, true, false, not, ◌&&◌, refl, ap, sym, ◌∙◌, Option, Some, None}
use Rattle.std.specs.Prelude.{◌==◌, slice_get}
use Rattle.std.specs.Option.{option_map_or, is_none, is_some}
use Rattle.std.proofs.lemmas.Bool.{false≢true}
use Rattle.ckr_points_invariant.specs.EarlierRuns.{IsEntryOf, MayContinue, has_marks, wanted_by}
use Rattle.ckr_base.proofs.Bools.{and-first, and-second}
use Rattle.ckr_base.proofs.Numbers.{equal-true}
use Rattle.ckr_base.proofs.Options.{is_none-true, is_some-true}
use Rattle.ckr_jcl.specs.declared.deck.Restart.{Restart}
use Rattle.ckr_jcl.specs.declared.deck.Step.{Step}
use Rattle.ckr_library.specs.NameMaps.{Name, same_name}
use Rattle.ckr_events.specs.declared.event.Event.TheVariants.{Selected}
use Rattle.ckr_jcl.specs.declared.deck.Job.{Job}
use Rattle.ckr_meaning.specs.EffectiveJob.{Effective, OwnedStep, step_at}
use Rattle.ckr_volumes.specs.declared.layout.Layout.{Layout}
use Rattle.ckr_points.specs.declared.run.RunState.TheVariants.{Queued}
use Rattle.ckr_points.specs.Follows.{is_free, is_in_state, is_point_of, may_continue, may_hold, may_restart, of_run, same_restart, selected_follows}
use Rattle.ckr_points.specs.Marks.{point_at, sysout_names}
use Rattle.ckr_points.specs.Freshness.{fresh}
use Rattle.ckr_points.specs.Restart.{after_chosen, after_continued, after_continued_at, after_event, continued_row, kept_at, needed_names, spliced, syschk_name, without_names}
use Rattle.ckr_points.specs.RuleCases.{Wanted, is_ended, is_same_step, entry_denial, number_named, stale_denial, start_denial, was_selected}
use Rattle.ckr_points.specs.Rows.{KeptEntry, RunRow, StartPoint, TablesModel, run_of}
use Rattle.ckr_points.specs.Statements.{same_statements}

module _ (layout : Layout) (tables : TablesModel) (job initiator earlier step : ℕ) (id : Option Name) where
  entry-of : (other : RunRow) (id : Option Name) (entry : Option KeptEntry) → option_map_or (is_point_of other.number step) entry (not (is_some id)) ≡ true → IsEntryOf other step id entry
  entry-of other None entry e = tt
  entry-of other (Some text) None e = absurd (false≢true e)
  entry-of other (Some text) (Some entry) e =
      (equal-true entry.point.run other.number (and-first (entry.point.run == other.number) _ e), equal-true entry.point.step step (and-second (entry.point.run == other.number) _ e))

  -- what may_continue says, part by part
  continue-parts : (row other : RunRow) (restart : Restart) → run_of tables job ≡ Some row → is_in_state Queued row ≡ true → is_free layout tables initiator ≡ true → may_hold tables row ≡ true → row.deck.restart ≡ Some restart → restart.step ≡ step
      → run_of tables earlier ≡ Some other → may_continue tables row other (wanted_by tables row other step id) ≡ true → MayContinue layout tables job initiator earlier step id
  continue-parts row other restart row_at queued free may has numbered other_at continues =
      let wanted : Wanted = wanted_by tables row other step id in
      let selected : Bool = was_selected other in
      let one = selected && same_name other.deck.name row.deck.name in
      let two = one && is_ended other.state in
      let three = two && is_some (point_at other.points step) in
      let four = three && option_map_or (is_same_step other wanted) wanted.step false in
      let five = four && is_none (stale_denial row wanted tables) in
      let e5 = and-first five _ continues in
      let e4 = and-first four _ e5 in
      let e3 = and-first three _ e4 in
      let e2 = and-first two _ e3 in
      let e1 = and-first one _ e2 in
      is_some-true (point_at other.points step) (and-second two _ e3)
      (λ point at_point.
      by_step (slice_get row.deck.steps (pred step)) refl (and-second three _ e4)
      (λ mine its same.
      by_owned mine (step_at other.job step) refl (and-second (number_named other mine.name == step) _ same)
      (λ owned found statements. record {
        row = row;
        row_at = row_at;
        queued = queued;
        free = free;
        may = may;
        restart = restart;
        has = has;
        numbered = numbered;
        other = other;
        other_at = other_at;
        selected = and-first selected _ e1;
        named = and-second selected _ e1;
        ended = and-second one _ e2;
        point = point;
        at_point = at_point;
        mine = mine;
        its = its;
        owned = owned;
        found = found;
        same = and-first (same_statements owned.step mine) _ statements;
        marks = and-second (same_statements owned.step mine) _ statements;
        counted = and-first (number_named other mine.name == step) _ same;
        fresh = is_none-true (stale_denial row wanted tables) (and-second four _ e5);
        entry = entry-of other id wanted.entry (and-second five _ continues);
      })))
    where
      by_step : (step_found : Option Step) → slice_get row.deck.steps (pred step) ≡ step_found → option_map_or (is_same_step other (wanted_by tables row other step id)) step_found false ≡ true
          → ((mine : Step) → slice_get row.deck.steps (pred step) ≡ Some mine → is_same_step other (wanted_by tables row other step id) mine ≡ true → MayContinue layout tables job initiator earlier step id) → MayContinue layout tables job initiator earlier step id
      by_step None e same gives = absurd (false≢true same)
      by_step (Some mine) e same gives = gives mine e same

      by_owned : (mine : Step) (step_owned : Option OwnedStep) → step_at other.job step ≡ step_owned → option_map_or (λ owned. same_statements owned.step mine && has_marks other (wanted_by tables row other step id) owned) step_owned false ≡ true
          → ((owned : OwnedStep) → step_at other.job step ≡ Some owned → (same_statements owned.step mine && has_marks other (wanted_by tables row other step id) owned) ≡ true → MayContinue layout tables job initiator earlier step id) → MayContinue layout tables job initiator earlier step id
      by_owned mine None e same gives = absurd (false≢true same)
      by_owned mine (Some owned) e same gives = gives owned e same

  parts-of : (row : RunRow) → run_of tables job ≡ Some row → selected_follows layout tables initiator earlier step id row ≡ true → (restart : Restart) → row.deck.restart ≡ Some restart → may_restart tables row restart earlier step id ≡ true → MayContinue layout tables job initiator earlier step id
  parts-of row row_at follows restart has may =
      let same : same_restart restart step id ≡ true = and-first (same_restart restart step id) _ may in
      by (run_of tables earlier) refl (and-second (same_restart restart step id) _ may)
      (λ other other_at continues.
      let early = and-first (is_in_state Queued row && is_free layout tables initiator && may_hold tables row) _ follows in
      let first = and-first (is_in_state Queued row && is_free layout tables initiator) _ early in
      continue-parts row other restart row_at (and-first (is_in_state Queued row) _ first) (and-second (is_in_state Queued row) _ first) (and-second (is_in_state Queued row && is_free layout tables initiator) _ early) has
      (equal-true restart.step step (and-first (restart.step == step) _ same)) other_at continues)
    where
      by : (other : Option RunRow) → run_of tables earlier ≡ other → option_map_or (λ other. may_continue tables row other (wanted_by tables row other step id)) other false ≡ true
          → ((other : RunRow) → run_of tables earlier ≡ Some other → may_continue tables row other (wanted_by tables row other step id) ≡ true → MayContinue layout tables job initiator earlier step id) → MayContinue layout tables job initiator earlier step id
      by None e may gives = absurd (false≢true may)
      by (Some other) e may gives = gives other e may

  -- So it is where the event follows.
  pub may-continue : earlier ≢ 0 → of_run tables job (selected_follows layout tables initiator earlier step id) ≡ true → MayContinue layout tables job initiator earlier step id
  may-continue there follows = by (run_of tables job) refl follows
    where
      by_restart : (row : RunRow) → run_of tables job ≡ Some row → selected_follows layout tables initiator earlier step id row ≡ true → (restart : Option Restart) → row.deck.restart ≡ restart → option_map_or (λ restart. may_restart tables row restart earlier step id) restart (earlier == 0 && step == 0 && is_none id) ≡ true → MayContinue layout tables job initiator earlier step id
      by_restart row e follows None has is = absurd (there (equal-true earlier 0 (and-first (earlier == 0) _ (and-first (earlier == 0 && step == 0) _ is))))
      by_restart row e follows (Some restart) has is = parts-of row e follows restart has is

      by : (row : Option RunRow) → run_of tables job ≡ row → option_map_or (selected_follows layout tables initiator earlier step id) row false ≡ true → MayContinue layout tables job initiator earlier step id
      by None e follows = absurd (false≢true follows)
      by (Some row) e follows = by_restart row e follows row.deck.restart refl (and-second (is_in_state Queued row && is_free layout tables initiator && may_hold tables row) _ follows)

-- ---- what was judged

module _ (layout : Layout) (tables : TablesModel) (job initiator earlier step : ℕ) where
  -- the effective job of the run
  abbrev pub job_of : (id : Option Name) → MayContinue layout tables job initiator earlier step id → Effective
  job_of id its = spliced its.other.job step its.row.number its.row.deck

  -- at the start of a step the point is fresh
  pub fresh-start : (its : MayContinue layout tables job initiator earlier step None) → fresh its.other.job.root its.owned its.point.marks (without_names (sysout_names its.other.job.root its.owned) (needed_names (job_of None its) step its.point.marks)) tables.sets ≡ None
  fresh-start its =
      sym (
      ap (λ (o : Option OwnedStep). option_map_or (λ owned. start_denial its.row its.other step owned tables) o None) its.found
      ∙ ap (λ (o : Option StartPoint). option_map_or (λ point. fresh its.other.job.root its.owned point.marks (without_names (sysout_names its.other.job.root its.owned) (needed_names (job_of None its) step point.marks)) tables.sets) o None) its.at_point)
      ∙ its.fresh

  -- and at a checkpoint its entry is
  pub fresh-entry : (id : Name) (its : MayContinue layout tables job initiator earlier step (Some id)) (entry : KeptEntry) → kept_at tables.sets (syschk_name its.row.deck) id ≡ Some entry → fresh its.other.job.root its.owned entry.point.marks (needed_names (job_of (Some id) its) step entry.point.marks) tables.sets ≡ None
  fresh-entry id its entry kept =
      sym (
      ap (λ (o : Option OwnedStep). option_map_or (λ owned. option_map_or (λ entry. entry_denial its.row its.other step owned entry.point tables) (kept_at tables.sets (syschk_name its.row.deck) id) None) o None) its.found
      ∙ ap (λ (o : Option KeptEntry). option_map_or (λ entry. entry_denial its.row its.other step its.owned entry.point tables) o None) kept)
      ∙ its.fresh

-- ---- the tables behind the event

module _ (layout : Layout) (tables : TablesModel) (job initiator before step : ℕ) (id : Option Name) (deck : Option Job) (its : MayContinue layout tables job initiator (suc before) step id) where
  pub after-selected : after_event (Selected job initiator (suc before) step id) deck tables ≡ after_continued_at (continued_row its.row its.other step its.point initiator tables.sets) its.owned step its.point id tables
  after-selected =
      ap (λ (o : Option RunRow). option_map_or (λ row. after_chosen row initiator (suc before) step id tables) o tables) its.row_at
      ∙ ap (λ (o : Option RunRow). option_map_or (λ other. after_continued its.row other step initiator id tables) o tables) its.other_at
      ∙ ap (λ (o : Option OwnedStep). option_map_or (λ owned. option_map_or (λ point. after_continued_at (continued_row its.row its.other step point initiator tables.sets) owned step point id tables) (point_at its.other.points step) tables) o tables) its.found
      ∙ ap (λ (o : Option StartPoint). option_map_or (λ point. after_continued_at (continued_row its.row its.other step point initiator tables.sets) its.owned step point id tables) o tables) its.at_point
