-- The rows and the legs of the other runs are as they were behind an event of a run.
use Rattle.std.proofs.Common.{◌≡◌, ◌≢◌, ℕ, zero, suc, Bool, true, false, List, [], ◌∷◌, ◌++◌, length, refl, ap, sym, ◌∙◌, subst, Option, Some, None, arith}
use Rattle.std.specs.Prelude.{◌==◌}
use Rattle.std.specs.Option.{option_map_or}
use Rattle.std.proofs.lemmas.Bool.{false≢true}
use Rattle.std.proofs.lemmas.Option.{same_Some, slice_get_past}
use Rattle.ckr_base.specs.declared.code.Code.{Code}
use Rattle.ckr_base.proofs.Options.{option-cases, some-not-none, some-one}
use Rattle.ckr_base.proofs.Sequences.{get-append-front}
use Rattle.arrayvec.specs.ArrayVec.{ArrayVec}
use Rattle.ckr_events.specs.declared.event.Ending.{Ending}
use Rattle.ckr_events.specs.declared.event.Ending.TheVariants.{Allocation, Coded, Completed}
use Rattle.ckr_events.specs.declared.event.Event.TheVariants.{Cancelled, Denied, Ended, Held, Purged, Released, Restarted, Selected, Started, StepEnded, Submitted}
use Rattle.ckr_events.specs.declared.event.Made.{Made}
use Rattle.ckr_jcl.specs.declared.deck.Job.{Job}
use Rattle.ckr_points_library.specs.Commit.{output_names}
use Rattle.ckr_library.specs.NameMaps.{Name, Named}
use Rattle.ckr_meaning.specs.Allotments.{opened_all}
use Rattle.ckr_meaning.specs.Dispositions.{Stock, passed_ended}
use Rattle.ckr_meaning.specs.EffectiveJob.{OwnedStep, placed_in, stamp_of}
use Rattle.ckr_meaning.specs.declared.place.Place.{Place}
use Rattle.ckr_meaning.specs.declared.place.Place.TheVariants.{Before, Opened, Within}
use Rattle.ckr_points.specs.declared.run.RunState.{RunState}
use Rattle.ckr_points.specs.declared.run.RunState.TheVariants.{Denied as DeniedRun, Ended as EndedRun, Held as HeldRun, On, Purged as PurgedRun, Queued, Released as ReleasedRun}
use Rattle.ckr_points.specs.Tables.{after_commit, after_dispositions, after_held, after_started, after_step_ended, committed, made_tables, queued_run, start_point}
use Rattle.ckr_points.specs.Follows.{state_number}
use Rattle.ckr_points.specs.Marks.{point_at, put_back, removed_all, with_point, has_passed}
use Rattle.ckr_points.specs.Office.{Office, leg_of, office_after}
use Rattle.ckr_points.specs.Restart.{Back, after_abnormal, after_ended, after_passed_ended, after_put_back, after_restarted, back_to_entry, back_to_start, by_run, effect_restarted, kept_at, place_of, point_restarted, row_on, step_in}
use Rattle.ckr_points.specs.Rows.{RunRow, TableSet, TablesModel, run_of, standing_of, step_of_run, table_ways, with_run}
use Rattle.ckr_points.specs.Soundness.{may_come}
use Rattle.ckr_points_invariant.specs.Invariant.{IsAgreed}
use Rattle.ckr_points_invariant.proofs.Select.Invariant.{led_there}
use Rattle.ckr_points_invariant.proofs.WaitingRuns.{by-selected}
use Rattle.ckr_points_invariant.proofs.Holders.Rows.{run-other, run-same}
use Rattle.ckr_desk_memory.proofs.Holders.Submissions.{row-before}
use Rattle.ckr_volumes.specs.declared.layout.Layout.{Layout}
use Rattle.ckr_desk_memory.specs.Invariant.{is_in_step}
use Rattle.ckr_desk_turn.proofs.Select.{queued-off}

-- the rows and the legs of the other runs are as they were
pub record LeavesRuns (now later : Office) (run : ℕ) : Type 0 where
  pub rows : (other : ℕ) → other ≢ run → run_of later.tables other ≡ run_of now.tables other
  pub legs : (other : ℕ) → other ≢ run → leg_of later other ≡ leg_of now other

-- a run that was on no initiator changes, and the data sets stay
pub record Enters (now later : Office) : Type 0 where
  pub run : ℕ
  pub leaves : LeavesRuns now later run
  pub sets : later.tables.sets ≡ now.tables.sets
  pub waits : (row : RunRow) → run_of now.tables run ≡ Some row → row.state ≡ On → ⊥

-- it isn't within a step then
pub record EntersOut (now later : Office) : Type 0 where
  pub enters : Enters now later
  pub out : (row : RunRow) → run_of later.tables enters.run ≡ Some row → is_in_step row ≡ false

-- ---- tables with other rows

-- the tables differ in no row but that of this run
abbrev RowsStay : ℕ → TablesModel → TablesModel → Type 0
RowsStay run now later = (other : ℕ) → other ≢ run → run_of later other ≡ run_of now other

put-stays : (run : ℕ) (now tables : TablesModel) (next : RunRow) → next.number ≡ run → RowsStay run now tables → RowsStay run now (with_run next tables)
put-stays run now tables next same stay other apart = run-other tables next other (λ e. apart (e ∙ same)) ∙ stay other apart

run-stays : (run : ℕ) (now : TablesModel) (change : RunRow → TablesModel) → ((row : RunRow) → run_of now run ≡ Some row → RowsStay run now (change row)) → RowsStay run now (by_run run now change)
run-stays run now change each =
    option-cases (run_of now run)
    (λ none. subst (λ (o : Option RunRow). RowsStay run now (option_map_or change o now)) (sym none) (λ other apart. refl))
    (λ row at. subst (λ (o : Option RunRow). RowsStay run now (option_map_or change o now)) (sym at) (each row at))

found-stays : {X : Type 0} (run : ℕ) (now : TablesModel) (change : X → TablesModel) → ((x : X) → RowsStay run now (change x)) → (found : Option X) → RowsStay run now (option_map_or change found now)
found-stays run now change each None = λ other apart. refl
found-stays run now change each (Some x) = each x

commit-stays : (run : ℕ) (now : TablesModel) (row : RunRow) (owned : OwnedStep) (step writes : ℕ) (lengths : List ℕ) → row.number ≡ run → RowsStay run now (after_commit row owned step writes lengths now)
commit-stays run now row owned step writes lengths same =
    put-stays run now (record now { sets = committed (output_names row.job.root owned) lengths now.sets }) (record row { place = Some (Within step writes) }) same (λ other apart. refl)

ended-stays : (run : ℕ) (now tables : TablesModel) (row : RunRow) → row.number ≡ run → RowsStay run now tables → RowsStay run now (after_passed_ended row tables)
ended-stays run now tables row same stay =
    put-stays run now (record tables { sets = passed_ended (has_passed row) tables.sets }) (record row { state = EndedRun; initiator = None; code = None; passed = []; lost = []; in_effect = None }) same stay

abnormal-stays : (run : ℕ) (now tables : TablesModel) (row : RunRow) (place : Place) → row.number ≡ run → RowsStay run now tables → RowsStay run now (after_abnormal row place tables)
abnormal-stays run now tables row (Before step) same stay = ended-stays run now tables row same stay
abnormal-stays run now tables row (Opened step) same stay = ended-stays run now tables row same stay
abnormal-stays run now tables row (Within step writes) same stay = by (step_of_run row step)
  where
    by : (found : Option OwnedStep) → RowsStay run now (option_map_or (λ owned. let done = after_dispositions row owned step true tables in after_passed_ended (record row { passed = done.passed }) (record tables { sets = done.sets })) found tables)
    by None = stay
    by (Some owned) =
        let done : Stock TableSet = after_dispositions row owned step true tables in
        ended-stays run now (record tables { sets = done.sets }) (record row { passed = done.passed }) same stay

ending-stays : (run : ℕ) (now : TablesModel) (row : RunRow) (ending : Ending) → row.number ≡ run → RowsStay run now (after_ended row ending now)
ending-stays run now row Completed same = ended-stays run now now row same (λ other apart. refl)
ending-stays run now row (Allocation dd cause first second) same = abnormal-stays run now now row (place_of row) same (λ other apart. refl)
ending-stays run now row (Coded code rule writes lengths) same =
    found-stays run now _
    (λ owned.
    abnormal-stays run now (after_commit row owned (step_in (place_of row)) writes lengths.items now) (record row { place = Some (Within (step_in (place_of row)) writes) }) (Within (step_in (place_of row)) writes) same
    (commit-stays run now row owned (step_in (place_of row)) writes lengths.items same))
    (step_of_run row (step_in (place_of row)))

step_end-stays : (run : ℕ) (now : TablesModel) (row : RunRow) (owned : OwnedStep) (step rc writes : ℕ) (lengths : List ℕ) → row.number ≡ run → RowsStay run now (after_step_ended row owned step rc writes lengths now)
step_end-stays run now row owned step rc writes lengths same =
    let done : TablesModel = after_commit row owned step writes lengths now in
    let disposed : Stock TableSet = after_dispositions row owned step false done in
    put-stays run now (record done { sets = disposed.sets })
    (record row { place = Some (Before (suc step)); rcs = row.rcs ++ (step, rc) ∷ []; in_effect = None; passed = disposed.passed }) same
    (commit-stays run now row owned step writes lengths same)

back-stays : (run : ℕ) (now : TablesModel) (row : RunRow) (owned : OwnedStep) (back : Back) → row.number ≡ run → RowsStay run now (after_put_back row owned back now)
back-stays run now row owned back same =
    let sets : Named TableSet = put_back back.marks (output_names row.job.root owned) back.needed (removed_all back.removed now.sets) in
    put-stays run now (record now { sets = sets })
    (record row { place = Some back.place; count = back.count; passed = back.passed }) same
    (λ other apart. refl)

restart-stays : (run : ℕ) (now : TablesModel) (row : RunRow) (owned : OwnedStep) (step initiator : ℕ) (checkpoint : Bool) → row.number ≡ run → RowsStay run now (after_restarted row owned step initiator checkpoint now)
restart-stays run now row owned step initiator false same =
    found-stays run now _
    (λ point. back-stays run now (record (row_on initiator row) { points = with_point (point_restarted point) row.points; in_effect = None }) owned (back_to_start row owned step point) same)
    (point_at row.points step)
restart-stays run now row owned step initiator true same =
    found-stays run now _
    (λ effect.
    found-stays run now _
    (λ entry. back-stays run now (record (row_on initiator row) { in_effect = Some (effect_restarted effect) }) owned (back_to_entry row owned step entry.point) same)
    (kept_at now.sets effect.set effect.kept.id))
    row.in_effect

-- ---- the events of a run on an initiator

pub started-leaves : (layout : Layout) (now : Office) (job step : ℕ) (items : ArrayVec Made) → IsAgreed layout now → LeavesRuns now (office_after (Started job step items, None) now) job
started-leaves layout now job step items kept = record {
  rows =
      run-stays job now.tables _
      (λ row at.
      found-stays job now.tables (λ owned. after_started row owned step items.items now.tables)
      (λ owned.
      let opened : Named TableSet = opened_all table_ways (stamp_of owned step) (placed_in table_ways (standing_of row now.tables) row.job.root owned) now.tables.sets in
      put-stays job now.tables (record now.tables { sets = made_tables (stamp_of owned step) items.items (placed_in table_ways (standing_of row now.tables) row.job.root owned) opened })
      (record row { place = Some (Within step 0); points = with_point (start_point row step opened) row.points }) (kept.numbered job row at) (λ other apart. refl))
      (step_of_run row step));
  legs = λ other apart. refl;
}

pub step_ended-leaves : (layout : Layout) (now : Office) (job step rc writes : ℕ) (lengths : ArrayVec ℕ) → IsAgreed layout now → LeavesRuns now (office_after (StepEnded job step rc writes lengths, None) now) job
step_ended-leaves layout now job step rc writes lengths kept = record {
  rows =
      run-stays job now.tables _
      (λ row at.
      found-stays job now.tables (λ owned. after_step_ended row owned (step_in (place_of row)) rc writes lengths.items now.tables)
      (λ owned. step_end-stays job now.tables row owned (step_in (place_of row)) rc writes lengths.items (kept.numbered job row at))
      (step_of_run row (step_in (place_of row))));
  legs = λ other apart. refl;
}

pub restarted-leaves : (layout : Layout) (now : Office) (job initiator : ℕ) (code : Code) (checkpoint : Bool) → IsAgreed layout now → LeavesRuns now (office_after (Restarted job initiator code checkpoint, None) now) job
restarted-leaves layout now job initiator code checkpoint kept = record {
  rows =
      run-stays job now.tables _
      (λ row at.
      found-stays job now.tables (λ owned. after_restarted row owned (step_in (place_of row)) initiator checkpoint now.tables)
      (λ owned. restart-stays job now.tables row owned (step_in (place_of row)) initiator checkpoint (kept.numbered job row at))
      (step_of_run row (step_in (place_of row))));
  legs = λ other apart. refl;
}

pub ended-leaves : (layout : Layout) (now : Office) (job : ℕ) (ending : Ending) → IsAgreed layout now → LeavesRuns now (office_after (Ended job ending, None) now) job
ended-leaves layout now job ending kept = record {
  rows = run-stays job now.tables _ (λ row at. ending-stays job now.tables row ending (kept.numbered job row at));
  legs = λ other apart. refl;
}

pub held-leaves : (layout : Layout) (now : Office) (job writes : ℕ) (code : Code) (lengths : ArrayVec ℕ) → IsAgreed layout now → LeavesRuns now (office_after (Held job code writes lengths, None) now) job
held-leaves layout now job writes code lengths kept = record {
  rows =
      run-stays job now.tables _
      (λ row at.
      found-stays job now.tables (λ owned. after_held row owned (step_in (place_of row)) code writes lengths.items now.tables)
      (λ owned. commit-stays job now.tables (record row { state = HeldRun; initiator = None; code = Some code }) owned (step_in (place_of row)) writes lengths.items (kept.numbered job row at))
      (step_of_run row (step_in (place_of row))));
  legs = λ other apart. refl;
}

pub cancelled-leaves : (layout : Layout) (now : Office) (job : ℕ) → IsAgreed layout now → LeavesRuns now (office_after (Cancelled job, None) now) job
cancelled-leaves layout now job kept = record {
  rows =
      run-stays job now.tables _
      (λ row at. put-stays job now.tables now.tables (record row { in_effect = None }) (kept.numbered job row at) (λ other apart. refl));
  legs = λ other apart. refl;
}

-- ---- the events of a run that is on none

held-off : (state : RunState) → (state_number state == 3) ≡ true → state ≡ On → ⊥
held-off state held on = false≢true (ap (λ (s : RunState). state_number s == 3) (sym on) ∙ held)

-- a row that is put in place of that of its run
out-of : (tables : TablesModel) (row next one : RunRow) → run_of tables row.number ≡ Some row → next.number ≡ row.number → run_of (with_run next tables) row.number ≡ Some one → is_in_step one ≡ is_in_step next
out-of tables row next one at same there = ap is_in_step (sym (some-one next one (run_of (with_run next tables) row.number) (run-same tables next row row.number at same) there))

pub selected-enters : (layout : Layout) (now : Office) (job initiator step : ℕ) (id : Option Name) → IsAgreed layout now → may_come layout now (Selected job initiator 0 step id, None) ≡ true → EntersOut now (office_after (Selected job initiator 0 step id, None) now)
selected-enters layout now job initiator step id kept may =
    by-selected (EntersOut now) layout now job initiator step id None kept may
    (λ row at queued plain free. record {
      enters = record {
        run = row.number;
        leaves = record {
          rows = λ other apart. run-other now.tables (record row { state = On; initiator = Some initiator; place = Some (Before 1) }) other apart;
          legs = λ other apart. led_there layout now row initiator kept at queued plain free other apart;
        };
        sets = refl;
        waits = λ one there on. queued-off one.state (ap (λ (r : RunRow). state_number r.state == 1) (same_Some one row (sym there ∙ at)) ∙ queued) on;
      };
      out = λ one there. out-of now.tables row (record row { state = On; initiator = Some initiator; place = Some (Before 1) }) one at refl there;
    })

-- a row with another state
module _ (layout : Layout) (now : Office) (kept : IsAgreed layout now) (job : ℕ) (state : RunState) where
  abbrev stated : RunRow → RunRow
  stated row = record row { state = state }

  abbrev with_state : TablesModel
  with_state = option_map_or (λ row. with_run (stated row) now.tables) (run_of now.tables job) now.tables

  stated-leaves : LeavesRuns now (record now { tables = with_state }) job
  stated-leaves = record {
    rows = run-stays job now.tables _ (λ one there. put-stays job now.tables now.tables (stated one) (kept.numbered job one there) (λ other apart. refl));
    legs = λ other apart. refl;
  }

  module _ (row : RunRow) (at : run_of now.tables job ≡ Some row) where
    stated-sets : with_state.sets ≡ now.tables.sets
    stated-sets = ap (λ (o : Option RunRow). (option_map_or (λ row. with_run (stated row) now.tables) o now.tables).sets) at

    stated-is : (one : RunRow) → run_of with_state job ≡ Some one → stated row ≡ one
    stated-is one there =
        some-one (stated row) one (run_of (with_run (stated row) now.tables) job) (run-same now.tables (stated row) row job at (kept.numbered job row at))
        (sym (ap (λ (o : Option RunRow). run_of (option_map_or (λ row. with_run (stated row) now.tables) o now.tables) job) at) ∙ there)

pub purged-enters : (layout : Layout) (now : Office) (job : ℕ) (row : RunRow) → IsAgreed layout now → run_of now.tables job ≡ Some row → row.state ≡ Queued → EntersOut now (office_after (Purged job, None) now)
purged-enters layout now job row kept at queued = record {
  enters = record {
    run = job;
    leaves = stated-leaves layout now kept job PurgedRun;
    sets = stated-sets layout now kept job PurgedRun row at;
    waits = λ one there on. queued-off one.state (ap (λ (r : RunRow). state_number r.state == 1) (same_Some one row (sym there ∙ at)) ∙ ap (λ (s : RunState). state_number s == 1) queued) on;
  };
  out = λ one there. ap is_in_step (sym (stated-is layout now kept job PurgedRun row at one there));
}

pub denied-enters : (layout : Layout) (now : Office) (job rule : ℕ) (name : Option Name) (row : RunRow) → IsAgreed layout now → run_of now.tables job ≡ Some row → row.state ≡ Queued → EntersOut now (office_after (Denied job rule name, None) now)
denied-enters layout now job rule name row kept at queued = record {
  enters = record {
    run = job;
    leaves = stated-leaves layout now kept job DeniedRun;
    sets = stated-sets layout now kept job DeniedRun row at;
    waits = λ one there on. queued-off one.state (ap (λ (r : RunRow). state_number r.state == 1) (same_Some one row (sym there ∙ at)) ∙ ap (λ (s : RunState). state_number s == 1) queued) on;
  };
  out = λ one there. ap is_in_step (sym (stated-is layout now kept job DeniedRun row at one there));
}

-- a held run that is released stays within its step
pub released-enters : (layout : Layout) (now : Office) (job : ℕ) (row : RunRow) → IsAgreed layout now → run_of now.tables job ≡ Some row → row.state ≡ HeldRun → Enters now (office_after (Released job, None) now)
released-enters layout now job row kept at held = record {
  run = job;
  leaves = stated-leaves layout now kept job ReleasedRun;
  sets = stated-sets layout now kept job ReleasedRun row at;
  waits = λ one there on. held-off one.state (ap (λ (r : RunRow). state_number r.state == 3) (same_Some one row (sym there ∙ at)) ∙ ap (λ (s : RunState). state_number s == 3) held) on;
}

pub released-run : (layout : Layout) (now : Office) (job : ℕ) (row : RunRow) (kept : IsAgreed layout now) (at : run_of now.tables job ≡ Some row) (held : row.state ≡ HeldRun) → (released-enters layout now job row kept at held).run ≡ job
unfolding released-enters
released-run layout now job row kept at held = refl

pub released-row : (layout : Layout) (now : Office) (job : ℕ) (row one : RunRow) → IsAgreed layout now → run_of now.tables job ≡ Some row → run_of (office_after (Released job, None) now).tables job ≡ Some one → record row { state = ReleasedRun } ≡ one
released-row layout now job row one kept at there = stated-is layout now kept job ReleasedRun row at one there

pub submitted-enters : (now : Office) (cards : List ℕ) (deck : Job) → EntersOut now (office_after (Submitted (suc (length now.tables.runs)) cards, Some deck) now)
submitted-enters now cards deck = record {
  enters = record {
    run = suc (length now.tables.runs);
    leaves = record { rows = rows; legs = λ other apart. refl };
    sets = refl;
    waits = λ row at on. some-not-none row (sym at ∙ slice_get_past now.tables.runs (length now.tables.runs) (omega arith));
  };
  out = λ row at.
      row-before now.tables (suc (length now.tables.runs)) deck (suc (length now.tables.runs)) row at (λ new. ap is_in_step (sym new))
      (λ was. absurd (some-not-none row (sym was ∙ slice_get_past now.tables.runs (length now.tables.runs) (omega arith))));
}
  where
    rows : (other : ℕ) → other ≢ suc (length now.tables.runs) → run_of (office_after (Submitted (suc (length now.tables.runs)) cards, Some deck) now).tables other ≡ run_of now.tables other
    rows zero apart = refl
    rows (suc place) apart = get-append-front now.tables.runs (queued_run (suc (length now.tables.runs)) deck) place (λ e. apart (ap suc e))
