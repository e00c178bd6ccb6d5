-- A running step behind the entry of its checkpoint: it is that of its run, and its data set for checkpoints is as long as the tables have it.
use Rattle.std.proofs.Common.{◌≡◌, ◌≤◌, ℕ, suc, Bool, true, false, cond, List, refl, ap, sym, ◌∙◌, subst, Option, Some, None}
use Rattle.std.specs.Prelude.{if◌then◌else◌, nat_lt, option_and_then}
use Rattle.std.specs.List.{AllByRecursion}
use Rattle.std.specs.Option.{option_map}
use Rattle.ckr_library.proofs.Named.{at-with_changed, name-same}
use Rattle.ckr_library.specs.Catalog.{Holding, set_of, with_length}
use Rattle.ckr_library.specs.NameMaps.{Name, Named, entry_at, same_name, with_changed}
use Rattle.ckr_library.specs.declared.sets.DataSet.{DataSet}
use Rattle.ckr_library.specs.declared.sets.Kept.{Kept}
use Rattle.ckr_meaning.specs.declared.place.Place.TheVariants.{Within}
use Rattle.ckr_points.specs.Restart.{place_of, step_in}
use Rattle.ckr_points.specs.Rows.{RunRow, TableSet, TablesModel, run_of}
use Rattle.ckr_points.specs.Tables.{after_checkpointed, committed, fresh_effect, is_checkpoints, is_updates, name_with_role}
use Rattle.ckr_points_invariant.proofs.Writes.Likeness.{committed-other}
use Rattle.ckr_desk_plans.specs.Model.Commit.{output_names}
use Rattle.ckr_points_tables.specs.Checkpoint.{checkpoint_name}
use Rattle.ckr_desk_plans.specs.Model.Units.{entries_of, program_of}
use Rattle.ckr_desk_plans.specs.StepTypes.StepRun.{StepRun}
use Rattle.ckr_desk_memory.proofs.Holders.CheckSets.{check-among, check-named, not-among}
use Rattle.ckr_desk_memory.proofs.Holders.Masters.{updated-not_output}
use Rattle.ckr_desk_memory.proofs.Holders.Moves.{row-accepted, row-as_is, row-next}
use Rattle.ckr_desk_memory.proofs.Holders.Names.{step-formed}
use Rattle.ckr_desk_memory.proofs.Holders.OwnSets.{copies-changed, copies-committed, even-changed, served-program}
use Rattle.ckr_desk_memory.specs.EventChanges.{IsEntered, check_name, check_name_in, has_space, with_entry_end}
use Rattle.ckr_desk_memory.specs.Invariant.{IsAcceptedRow}
use Rattle.ckr_desk_memory.specs.OwnSets.{AreCopies, AreEven, AreUpTo, IsRunningOf}
use Rattle.ckr_desk_memory.specs.View.{RunningStepView}

-- ---- the step's own data sets behind the entry

abbrev the_set : Holding → DataSet
the_set held = held.set

copy_lengthened : (entry : Option TableSet) (held : Option Holding) (most : ℕ) → ((table : TableSet) → entry ≡ Some table → table.set.length ≤ most) → AreCopies entry (option_map the_set held) → AreCopies entry (option_map the_set (option_map (with_length most) held))
copy_lengthened None held most low are = absurd are
copy_lengthened (Some table) None most low are = absurd are
copy_lengthened (Some table) (Some held) most low are = record { lrecl = are.lrecl; space = are.space; length = low table refl }

-- a copy stays one, where the tables' data set isn't longer than the entry's end
copy_behind : (check : Option Name) (most : ℕ) (owns : Named Holding) (sets : Named TableSet) (name : Name) → ((other : Name) (table : TableSet) → check ≡ Some other → entry_at sets other ≡ Some table → table.set.length ≤ most)
    → AreCopies (entry_at sets name) (option_map the_set (entry_at owns name)) → AreCopies (entry_at sets name) (option_map the_set (entry_at (with_entry_end check most owns) name))
copy_behind None most owns sets name low are = are
copy_behind (Some other) most owns sets name low are = by (has_space most other owns)
  where
    changed : (b : Bool) → same_name name other ≡ b → AreCopies (entry_at sets name) (option_map the_set (cond b (option_map (with_length most) (entry_at owns name)) (entry_at owns name)))
    changed true same = copy_lengthened (entry_at sets name) (entry_at owns name) most (λ table at. low other table refl (ap (entry_at sets) (sym (name-same name other same)) ∙ at)) are
    changed false same = are

    by : (b : Bool) → AreCopies (entry_at sets name) (option_map the_set (entry_at (if b then with_changed other (with_length most) owns else owns) name))
    by true = subst (λ held. AreCopies (entry_at sets name) (option_map the_set held)) (sym (at-with_changed other name (with_length most) owns)) (changed (same_name name other) refl)
    by false = are

-- another data set stays as it is
own_other : (check : Option Name) (most : ℕ) (owns : Named Holding) (name : Name) → ((other : Name) → check ≡ Some other → same_name name other ≡ false) → entry_at (with_entry_end check most owns) name ≡ entry_at owns name
own_other None most owns name apart = refl
own_other (Some other) most owns name apart = by (has_space most other owns)
  where
    by : (b : Bool) → entry_at (if b then with_changed other (with_length most) owns else owns) name ≡ entry_at owns name
    by true = at-with_changed other name (with_length most) owns ∙ ap (λ b. cond b (option_map (with_length most) (entry_at owns name)) (entry_at owns name)) (apart other refl)
    by false = refl

-- ---- the step

module _ (tables : TablesModel) (on new : RunningStepView) (is : IsRunningOf tables on) (rows : AllByRecursion IsAcceptedRow tables.runs) (number : is.row.number ≡ on.run) (kept : Kept) (taken writes most : ℕ) (lengths : List ℕ)
    (low : (table : TableSet) → entry_at tables.sets (name_with_role is.row.job.root is.owned is_checkpoints) ≡ Some table → table.set.length ≤ most)
    (up : AreUpTo (with_entry_end (checkpoint_name is.row.job.root is.owned) most on.sets.sets) (output_names is.row.job.root is.owned) lengths) where
  abbrev step : ℕ
  step = step_in (place_of is.row)

  abbrev outputs : List Name
  outputs = output_names is.row.job.root is.owned

  abbrev check : Option Name
  check = checkpoint_name is.row.job.root is.owned

  abbrev behind : Named Holding
  behind = with_entry_end check most on.sets.sets

  abbrev own : Name → Option DataSet
  own name = option_map the_set (entry_at behind name)

  abbrev updated : Name
  updated = name_with_role is.row.job.root is.owned is_updates

  abbrev done : Named TableSet
  done = committed (output_names is.row.job.root is.owned) lengths tables.sets

  abbrev counted : RunRow
  counted = record is.row {
    count = suc is.row.count;
    in_effect = Some (fresh_effect (name_with_role is.row.job.root is.owned is_checkpoints) kept);
    place = Some (Within (step_in (place_of is.row)) writes);
  }

  abbrev after : TablesModel
  after = after_checkpointed is.row is.owned (step_in (place_of is.row)) kept taken writes lengths tables

  row_behind : run_of after on.run ≡ Some counted
  row_behind = (row-next tables tables on.run is.row counted after.sets (row-as_is tables on.run is.row is.row_at) number).now

  -- its data set for checkpoints has the same name then
  pub check-behind : check_name_in after on.run ≡ check
  check-behind = ap (option_and_then check_name) row_behind ∙ ap (option_and_then (checkpoint_name is.row.job.root)) is.found

  pub running-entered : IsEntered check most on new → IsRunningOf after new
  running-entered entered = record {
    row = counted;
    owned = is.owned;
    row_at = ap (run_of after) entered.run ∙ row_behind;
    state = is.state;
    within = refl;
    found = is.found;
    program = ap (λ (s : StepRun). program_of s.state) entered.step ∙ served-program on.step.parm (nat_lt (entries_of on.step.state) 1000000) on.step.state ∙ is.program;
    parm = ap (λ (s : StepRun). s.parm) entered.step ∙ is.parm;
    files = ap (λ (s : StepRun). s.files) entered.step ∙ is.files;
    changed = λ name among.
        subst (λ (owns : Named Holding). AreCopies (entry_at after.sets name) (option_map the_set (entry_at owns name))) (sym entered.sets)
        (copies-changed (own name) (name_with_role is.row.job.root is.owned is_checkpoints) name _ done
        (λ same table set its copy. record { lrecl = copy.lrecl; space = copy.space; length = copy.length })
        (copies-committed (own name) outputs lengths behind tables.sets name up refl
        (copy_behind check most on.sets.sets tables.sets name
        (λ other table at found. low table (ap (entry_at tables.sets) (check-named is.row.job.root is.owned other at) ∙ found)) (is.changed name among))));
    updated = λ updates.
        let out = updated-not_output is.row.job.root is.owned (step-formed is.row step is.owned (row-accepted tables on.run is.row rows is.row_at) is.found) updates in
        subst (λ (owns : Named Holding). AreEven (entry_at after.sets updated) (option_map the_set (entry_at owns updated))) (sym entered.sets)
        (subst (λ held. AreEven (entry_at after.sets updated) (option_map the_set held))
        (sym (own_other check most on.sets.sets updated (λ other at. not-among outputs updated other out (check-among is.row.job.root is.owned other at))))
        (even-changed (set_of on.sets updated) (name_with_role is.row.job.root is.owned is_checkpoints) updated _ done (λ table. refl)
        (subst (λ entry. AreEven entry (set_of on.sets updated)) (sym (committed-other outputs lengths tables.sets updated out)) (is.updated updates))));
  }
