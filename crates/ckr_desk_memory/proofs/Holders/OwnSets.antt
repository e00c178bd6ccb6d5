-- A running step stays that of its run, with its data sets beside the tables: by an event of another run, and by those of its own run by which it
-- starts or goes on.
use Rattle.std.proofs.Common.{◌≡◌, ◌≢◌, ◌≤◌, ℕ, Bool, true, false, cond, if◌then◌else◌, List, [], ◌∷◌, map, refl, ap, sym, ◌∙◌, subst, Option, Some, None, arith}
use Rattle.std.specs.List.{AllByRecursion}
use Rattle.std.specs.Option.{is_some, option_map, option_map_or}
use Rattle.std.proofs.lemmas.Bool.{false≢true}
use Rattle.std.proofs.lemmas.Option.{same_Some}
use Rattle.ckr_base.proofs.Options.{some-not-none}
use Rattle.ckr_library.proofs.Named.{at-with_changed, name-same}
use Rattle.ckr_library.specs.Catalog.{Holding, set_of}
use Rattle.ckr_library.specs.NameMaps.{Name, Named, entry_at, same_name, with_changed}
use Rattle.ckr_library.specs.declared.sets.DataSet.{DataSet}
use Rattle.ckr_meaning.specs.EffectiveJob.{Effective, OwnedStep, is_among, names_of, step_at}
use Rattle.ckr_points.specs.declared.run.RunState.{RunState}
use Rattle.ckr_points.specs.declared.run.RunState.TheVariants.{On}
use Rattle.ckr_points.specs.Follows.{is_within, own_step}
use Rattle.ckr_points.specs.Office.{is_holder}
use Rattle.ckr_points.specs.Restart.{place_of, step_in}
use Rattle.ckr_points.specs.Rows.{RunRow, TableSet, TablesModel, cut_set, run_of, step_of_run}
use Rattle.ckr_points.specs.Tables.{after_rewritten, committed, row_rewritten, is_updates, name_with_role, table_rewritten}
use Rattle.ckr_points.specs.Payload.{is_formed_step}
use Rattle.ckr_points_invariant.proofs.Writes.Likeness.{committed-other}
use Rattle.ckr_desk_plans.specs.Model.Commit.{output_names}
use Rattle.ckr_desk_plans.specs.Model.Units.{first_state, program_of, served_of, state_for}
use Rattle.ckr_desk_plans.specs.Model.Files.{files_of}
use Rattle.ckr_desk_plans.specs.StepTypes.StepRun.{StepRun}
use Rattle.ckr_base.specs.declared.programs.NextDue.{NextDue}
use Rattle.ckr_base.specs.declared.programs.NextDue.TheVariants.{Unit, Checkpoint, Cancel, Finished}
use Rattle.ckr_entry.specs.declared.point.State.{State}
use Rattle.ckr_entry.specs.declared.point.State.TheVariants.{Plain, Matched}
use Rattle.ckr_jcl.specs.declared.deck.Kind.{Kind}
use Rattle.ckr_jcl.specs.declared.deck.Parm.{Parm}
use Rattle.ckr_match.specs.State as matched
use Rattle.ckr_programs.specs.State as plain
use Rattle.ckr_meaning.specs.declared.place.Place.{Place}
use Rattle.ckr_meaning.specs.declared.place.Place.TheVariants.{Before, Within}
use Rattle.ckr_desk_turn.specs.Queue.{AreNumbered}
use Rattle.ckr_desk_memory.proofs.Holders.Moves.{RowGoesOn, others-keep, row-accepted, row-as_is, row-next}
use Rattle.ckr_desk_memory.proofs.Holders.Names.{changed-named, step-formed}
use Rattle.ckr_desk_memory.proofs.Holders.Masters.{updated-changed, updated-not_output}
use Rattle.ckr_desk_memory.specs.EventChanges.{served_step}
use Rattle.ckr_desk_memory.specs.Invariant.{IsAcceptedRow, IsPlacedRow}
use Rattle.ckr_desk_memory.specs.Start.{HasNew, has_sets, set_in_tables}
use Rattle.ckr_desk_memory.specs.View.{PointView, RunningStepView, begun, length_in, resumed}
use Rattle.ckr_desk_memory.proofs.Starts.Names.{has-among}
use Rattle.ckr_desk_memory.specs.Holders.{AreHolders, changed_names}
use Rattle.ckr_desk_memory.specs.OwnSets.{AreCopies, AreEven, AreUpTo, IsCopy, IsRunningOf}

-- ---- changes of the tables

module _ (own : Option DataSet) where
  -- by a change under a name, where under that name it leaves a copy
  pub copies-changed : (other name : Name) (change : TableSet → TableSet) (sets : Named TableSet) → (same_name name other ≡ true → (table : TableSet) (set : DataSet) → own ≡ Some set → IsCopy table.set set → IsCopy (change table).set set)
      → AreCopies (entry_at sets name) own → AreCopies (entry_at (with_changed other change sets) name) own
  copies-changed other name change sets keeps are =
      subst (λ entry. AreCopies entry own) (sym (at-with_changed other name change sets))
      (by (same_name name other) (entry_at sets name) own keeps are)
    where
      by : (b : Bool) (entry : Option TableSet) (o : Option DataSet) → (b ≡ true → (table : TableSet) (set : DataSet) → o ≡ Some set → IsCopy table.set set → IsCopy (change table).set set) → AreCopies entry o → AreCopies (cond b (option_map change entry) entry) o
      by true None o keeps are = are
      by true (Some table) None keeps are = are
      by true (Some table) (Some set) keeps are = keeps refl table set refl are
      by false entry o keeps are = are

  pub copies-committed : (names : List Name) (lengths : List ℕ) (owns : Named Holding) (sets : Named TableSet) (name : Name) → AreUpTo owns names lengths → own ≡ option_map (λ (h : Holding). h.set) (entry_at owns name)
      → AreCopies (entry_at sets name) own → AreCopies (entry_at (committed names lengths sets) name) own
  copies-committed [] lengths owns sets name up is are = are
  copies-committed (first ∷ names) [] owns sets name up is are = are
  copies-committed (first ∷ names) (most ∷ lengths) owns sets name up is are =
      copies-committed names lengths owns (with_changed first (cut_set most) sets) name up.1 is
      (copies-changed first name (cut_set most) sets
      (λ same table set own_is copy. record {
        lrecl = copy.lrecl;
        space = copy.space;
        length = long (entry_at owns name) set (sym is ∙ own_is) (subst (λ n. most ≤ length_in owns n) (sym (name-same name first same)) up.0);
      }) are)
    where
      long : (held : Option Holding) (set : DataSet) → option_map (λ (h : Holding). h.set) held ≡ Some set → most ≤ option_map_or (λ (h : Holding). h.set.length) held 0 → most ≤ set.length
      long None set is at_most = absurd (some-not-none set (sym is))
      long (Some held) set is at_most = subst (λ (s : DataSet). most ≤ s.length) (same_Some held.set set is) at_most

  pub even-changed : (other name : Name) (change : TableSet → TableSet) (sets : Named TableSet) → ((table : TableSet) → (change table).set.length ≡ table.set.length) → AreEven (entry_at sets name) own → AreEven (entry_at (with_changed other change sets) name) own
  even-changed other name change sets keeps are =
      subst (λ entry. AreEven entry own) (sym (at-with_changed other name change sets)) (by (same_name name other) (entry_at sets name) own are)
    where
      by : (b : Bool) (entry : Option TableSet) (o : Option DataSet) → AreEven entry o → AreEven (cond b (option_map change entry) entry) o
      by true None o are = are
      by true (Some table) None are = are
      by true (Some table) (Some set) are = are ∙ sym (keeps table)
      by false entry o are = are

-- lengths are at most themselves
pub up_to-itself : (owns : Named Holding) (names : List Name) → AreUpTo owns names (map (length_in owns) names)
up_to-itself owns [] = tt
up_to-itself owns (name ∷ names) = (omega arith, up_to-itself owns names)

-- ---- an event of another run

on-holder : (state : RunState) → state ≡ On → is_holder state ≡ true
on-holder state is = ap is_holder is

module _ (tables after : TablesModel) (job : ℕ) (goes : RowGoesOn tables after job) (rows : AllByRecursion IsAcceptedRow tables.runs) (numbered : AreNumbered 1 tables.runs) (placed : AllByRecursion IsPlacedRow tables.runs) (are : AreHolders tables)
    (on : RunningStepView) (is : IsRunningOf tables on) where
  formed-so : is_formed_step is.row.job.root is.owned ≡ true
  formed-so = step-formed is.row (step_in (place_of is.row)) is.owned (row-accepted tables on.run is.row rows is.row_at) is.found

  pub running-other : on.run ≢ job → IsRunningOf after on
  running-other apart = record {
    row = is.row;
    owned = is.owned;
    row_at = goes.rows.others on.run apart ∙ is.row_at;
    state = is.state;
    within = is.within;
    found = is.found;
    program = is.program;
    parm = is.parm;
    files = is.files;
    changed = λ name among. subst (λ entry. AreCopies entry (set_of on.sets name)) (sym (same name among)) (is.changed name among);
    updated = λ updates.
        subst (λ entry. AreEven entry (set_of on.sets (name_with_role is.row.job.root is.owned is_updates)))
        (sym (same (name_with_role is.row.job.root is.owned is_updates) (updated-changed is.row.job.root is.owned formed-so updates))) (is.updated updates);
  }
    where
      same : (name : Name) → is_among (changed_names is.row.job.root is.owned) name ≡ true → entry_at after.sets name ≡ entry_at tables.sets name
      same name among = others-keep tables after job goes rows numbered placed are on.run is.row is.owned name apart is.row_at (on-holder is.row.state is.state) is.found among

-- ---- events of its own run

-- the same data sets, and the run in the same step
pub running-same : (tables after : TablesModel) (on : RunningStepView) (is : IsRunningOf tables on) (next : RunRow) → run_of after on.run ≡ Some next → next.state ≡ is.row.state → next.place ≡ is.row.place → next.job ≡ is.row.job → after.sets ≡ tables.sets → IsRunningOf after on
running-same tables after on is next at state place job sets = record {
  row = next;
  owned = is.owned;
  row_at = at;
  state = state ∙ is.state;
  within = ap is_within stands ∙ is.within;
  found = ap (λ (p : Place). step_of_run next (step_in p)) stands ∙ ap (λ job. step_at job (step_in (place_of is.row))) job ∙ is.found;
  program = is.program;
  parm = is.parm;
  files = is.files ∙ ap (λ (job : Effective). files_of job.root is.owned.owner is.owned.step) (sym job);
  changed = λ name among.
      subst (λ sets. AreCopies (entry_at sets name) (set_of on.sets name)) (sym sets)
      (is.changed name (ap (λ (job : Effective). is_among (changed_names job.root is.owned) name) (sym job) ∙ among));
  updated = λ updates.
      subst (λ sets. AreEven (entry_at sets (name_with_role next.job.root is.owned is_updates)) (set_of on.sets (name_with_role next.job.root is.owned is_updates))) (sym sets)
      (subst (λ (job : Effective). AreEven (entry_at tables.sets (name_with_role job.root is.owned is_updates)) (set_of on.sets (name_with_role job.root is.owned is_updates))) (sym job) (is.updated updates));
}
  where
    stands : place_of next ≡ place_of is.row
    stands = ap (λ (o : Option Place). option_map_or (λ place. place) o (Before 1)) place

pub served-program : (parm : Parm) (written : Bool) (state : State) → program_of (served_of parm written state) ≡ program_of state
unfolding served_of
served-program parm written (Plain state) = by (plain.due_in parm state)
  where
    by : (due : NextDue) → (plain.served_state due written state).kind ≡ state.kind
    by Checkpoint = refl
    by Cancel = refl
    by Unit = refl
    by (Finished rc) = refl
served-program parm written (Matched state) = by (matched.due_in parm state)
  where
    by : (due : NextDue) → (matched.served_state due written state).kind ≡ state.kind
    by Checkpoint = refl
    by Cancel = refl
    by Unit = refl
    by (Finished rc) = refl

-- what is due of it is done
pub running-served : (tables : TablesModel) (on : RunningStepView) → IsRunningOf tables on → IsRunningOf tables (served_step on)
running-served tables on is = record {
  row = is.row;
  owned = is.owned;
  row_at = is.row_at;
  state = is.state;
  within = is.within;
  found = is.found;
  program = served-program on.step.parm false on.step.state ∙ is.program;
  parm = is.parm;
  files = is.files;
  changed = is.changed;
  updated = is.updated;
}

-- its lengths are committed, up to those that it has, and the stamp of what it updates tells a rewrite
pub running-rewritten : (tables : TablesModel) (on : RunningStepView) (is : IsRunningOf tables on) (writes : ℕ) (lengths : List ℕ) → AllByRecursion IsAcceptedRow tables.runs → is.row.number ≡ on.run → AreUpTo on.sets.sets (output_names is.row.job.root is.owned) lengths → IsRunningOf (after_rewritten is.row is.owned (step_in (place_of is.row)) writes lengths tables) on
running-rewritten tables on is writes lengths rows number up = record {
  row = record (row_rewritten step is.row) { place = Some (Within step writes) };
  owned = is.owned;
  row_at = (row-next tables tables on.run is.row _ (after_rewritten is.row is.owned step writes lengths tables).sets (row-as_is tables on.run is.row is.row_at) number).now;
  state = is.state;
  within = refl;
  found = is.found;
  program = is.program;
  parm = is.parm;
  files = is.files;
  changed = λ name among.
      copies-changed (set_of on.sets name) updated name (table_rewritten is.owned.owner step) (committed outputs lengths tables.sets)
      (λ same table set its copy. record { lrecl = copy.lrecl; space = copy.space; length = copy.length })
      (copies-committed (set_of on.sets name) outputs lengths on.sets.sets tables.sets name up refl (is.changed name among));
  updated = λ updates.
      even-changed (set_of on.sets updated) updated updated (table_rewritten is.owned.owner step) (committed outputs lengths tables.sets) (λ table. refl)
      (subst (λ entry. AreEven entry (set_of on.sets updated))
      (sym (committed-other outputs lengths tables.sets updated (updated-not_output is.row.job.root is.owned (step-formed is.row step is.owned (row-accepted tables on.run is.row rows is.row_at) is.found) updates)))
      (is.updated updates));
}
  where
    step : ℕ
    step = step_in (place_of is.row)

    outputs : List Name
    outputs = output_names is.row.job.root is.owned

    updated : Name
    updated = name_with_role is.row.job.root is.owned is_updates

-- ---- a step that starts

first_program : (program : Kind) → program_of (first_state program) ≡ program
unfolding first_state
first_program program = by (matched.has_two_inputs program)
  where
    by : (two : Bool) → program_of (state_for two program) ≡ program
    by true = refl
    by false = refl

copies_new : (entry : Option TableSet) (own : Option DataSet) → is_some entry ≡ true → own ≡ option_map (λ (table : TableSet). table.set) entry → AreCopies entry own
copies_new None own there is = absurd (false≢true there)
copies_new (Some table) own there is = subst (AreCopies (Some table)) (sym is) (record { lrecl = refl; space = refl; length = omega arith })

even_new : (among : Bool) (entry : Option TableSet) (own : Option DataSet) → own ≡ (if among then option_map (λ (table : TableSet). table.set) entry else None) → AreEven entry own
even_new true None own is = tt
even_new true (Some table) own is = subst (AreEven (Some table)) (sym is) refl
even_new false None own is = tt
even_new false (Some table) own is = subst (AreEven (Some table)) (sym is) tt

-- at a place of its work, where what it may change is there
running_at : (after : TablesModel) (job : ℕ) (row : RunRow) (owned : OwnedStep) (place : StepRun) (old new : List RunningStepView) → run_of after job ≡ Some row → row.state ≡ On → is_within (place_of row) ≡ true → own_step row ≡ Some owned
    → program_of place.state ≡ owned.step.program → place.parm ≡ owned.step.parm → place.files ≡ files_of row.job.root owned.owner owned.step
    → ((name : Name) → is_among (changed_names row.job.root owned) name ≡ true → is_some (entry_at after.sets name) ≡ true) → (starts : HasNew job row.job.root owned place after.sets old new) → IsRunningOf after starts.on
running_at after job row owned place old new at state within found program parm files there starts = record {
  row = row;
  owned = owned;
  row_at = ap (run_of after) starts.run ∙ at;
  state = state;
  within = within;
  found = found;
  program = ap (λ (step : StepRun). program_of step.state) starts.step ∙ program;
  parm = ap (λ (step : StepRun). step.parm) starts.step ∙ parm;
  files = ap (λ (step : StepRun). step.files) starts.step ∙ files;
  changed = λ name among.
      copies_new (entry_at after.sets name) (set_of starts.on.sets name)
      (there name among)
      (starts.sets name ∙ ap (λ b. if b then set_in_tables after.sets name else None) (changed-named row.job.root owned name among));
  updated = λ updates. even_new (is_among (names_of row.job.root owned) _) (entry_at after.sets _) (set_of starts.on.sets _) (starts.sets _);
}

-- at its beginning
pub running-new : (after : TablesModel) (job : ℕ) (row : RunRow) (owned : OwnedStep) (old new : List RunningStepView) → run_of after job ≡ Some row → row.state ≡ On → is_within (place_of row) ≡ true → own_step row ≡ Some owned → AreHolders after
    → (starts : HasNew job row.job.root owned (begun row.job.root owned) after.sets old new) → IsRunningOf after starts.on
running-new after job row owned old new at state within found are starts =
    running_at after job row owned (begun row.job.root owned) old new at state within found (first_program owned.step.program) refl refl
    (λ name among. are.changed job row at owned name (ap is_holder state) within found among) starts

-- at the point of its run
pub running-again : (after : TablesModel) (job : ℕ) (row : RunRow) (owned : OwnedStep) (point : PointView) (old new : List RunningStepView) → run_of after job ≡ Some row → row.state ≡ On → is_within (place_of row) ≡ true → own_step row ≡ Some owned
    → program_of point.state ≡ owned.step.program → has_sets after.sets (names_of row.job.root owned) ≡ true → (starts : HasNew job row.job.root owned (resumed row.job.root owned point) after.sets old new) → IsRunningOf after starts.on
running-again after job row owned point old new at state within found program has starts =
    running_at after job row owned (resumed row.job.root owned point) old new at state within found program refl refl
    (λ name among. has-among after.sets (names_of row.job.root owned) name has (changed-named row.job.root owned name among)) starts
