-- One more event by which a step or a run ends, or a record is rewritten.
use Rattle.std.proofs.Common.{◌≡◌, ℕ, true, false, List, refl, ap, sym, subst, Option, Some, None}
use Rattle.std.specs.Option.{option_map_or}
use Rattle.std.proofs.lemmas.Bool.{false≢true}
use Rattle.arrayvec.specs.ArrayVec.{ArrayVec}
use Rattle.ckr_base.specs.declared.code.Code.{Code}
use Rattle.ckr_base.specs.declared.programs.Finish.{Finish}
use Rattle.ckr_base.specs.declared.programs.Finish.TheVariants.{Returned, Abend}
use Rattle.ckr_base.proofs.Bools.{bool-cases}
use Rattle.ckr_base.proofs.Numbers.{equal-true}
use Rattle.ckr_events.specs.declared.event.Ending.TheVariants.{Allocation, Coded, Completed}
use Rattle.ckr_library.specs.NameMaps.{taken_over}
use Rattle.ckr_meaning.specs.EffectiveJob.{OwnedStep}
use Rattle.ckr_meaning.specs.declared.place.Place.{Place}
use Rattle.ckr_meaning.specs.declared.place.Place.TheVariants.{Before, Opened, Within}
use Rattle.ckr_meaning.specs.JobRun.{job_run}
use Rattle.ckr_meaning.specs.StepRun.{work_at}
use Rattle.ckr_volumes.specs.declared.layout.Layout.{Layout}
use Rattle.ckr_points.specs.Tables.{after_commit, after_dispositions, after_step_ended, committed}
use Rattle.ckr_points.specs.Follows.{are_lengths, is_within}
use Rattle.ckr_points.specs.Payload.{commits, is_returned, writes_in}
use Rattle.ckr_points_invariant.specs.Invariant.{IsAgreed, step_now}
use Rattle.ckr_points_invariant.specs.RunningSteps.{IsRunning, its_start}
use Rattle.ckr_points_library.specs.Commit.{output_names}
use Rattle.ckr_points.specs.Office.{Leg, Office}
use Rattle.ckr_points.specs.Restart.{after_abnormal, after_ended, after_passed_ended, place_of}
use Rattle.ckr_points.specs.Rows.{RunRow, TablesModel, step_of_run}
use Rattle.ckr_points_invariant.proofs.StepEnd.Invariant.{kept-step_ended}
use Rattle.ckr_points_invariant.proofs.RunEnd.Invariant.{kept-completed, kept-cut, kept-within}
use Rattle.ckr_points_invariant.proofs.Holders.Rows.{run-same}
use Rattle.ckr_points_invariant.proofs.Steps.Events.{kept-commit, on-holds, within-is}
use Rattle.ckr_points_invariant.proofs.Start.Event.{running-so}
use Rattle.ckr_points_invariant.proofs.EventRows.{IsCommitting, IsRefused, IsStepDone, IsThrough}

-- a running step behind the writes that are committed now
abbrev pub committed_office : Office → RunRow → OwnedStep → ℕ → List ℕ → Office
committed_office office row owned writes lengths = record office { tables = after_commit row owned (step_now row) writes lengths office.tables }

-- ---- committed, and in the step still

module _ (layout : Layout) (office : Office) (job : ℕ) (row : RunRow) (leg : Leg) (owned : OwnedStep) (writes : ℕ) (lengths : List ℕ) (kept : IsAgreed layout office)
    (running : IsRunning office job row leg owned (step_now row) (writes_in (place_of row)))
    (carried : commits office.tables.sets row writes lengths (its_start leg owned (step_now row)) ≡ true)
    (are : are_lengths office.tables.sets (output_names row.job.root owned) lengths ≡ true) where
  abbrev row_then : RunRow
  row_then = record row { place = Some (Within (step_now row) writes) }

  pub kept_then : IsAgreed layout (committed_office office row owned writes lengths)
  kept_then =
      kept-commit layout office job row row_then leg owned writes lengths kept running
      (record { number = refl; deck = refl; job = refl; own_from = refl; rcs = refl; passed = refl; lost = refl; stands = refl; holds = running.holder.holds; made = λ owned step. refl; carried = refl }) carried are

  pub running_then : IsRunning (committed_office office row owned writes lengths) job row_then leg owned (step_now row) writes
  running_then = record {
    holder = record {
      row_at = run-same (record office.tables { sets = committed (output_names row.job.root owned) lengths office.tables.sets }) row_then row job running.holder.row_at (kept.numbered job row running.holder.row_at);
      holds = running.holder.holds;
      leg_at = running.holder.leg_at;
    };
    stands = refl;
    found = running.found;
  }

-- ---- a step ends

returned-is : (rc : ℕ) (finish : Finish) → is_returned rc finish ≡ true → finish ≡ Returned rc
returned-is rc (Returned other) e = ap Returned (sym (equal-true rc other e))
returned-is rc (Abend code) e = absurd (false≢true e)

pub kept-step_end : (layout : Layout) (office : Office) (job rc writes : ℕ) (lengths : List ℕ) (row : RunRow) (leg : Leg) (owned : OwnedStep) → IsAgreed layout office → IsStepDone office job row leg owned rc writes lengths → IsAgreed layout (record office { tables = after_step_ended row owned (step_now row) rc writes lengths office.tables })
kept-step_end layout office job rc writes lengths row leg owned kept its =
    let at = its.committing.at in
    kept-step_ended layout (committed_office office row owned writes lengths) job (record row { place = Some (Within (step_now row) writes) }) leg owned (step_now row) writes
    (kept_then layout office job row leg owned writes lengths kept at.running its.committing.commit at.are)
    (running_then layout office job row leg owned writes lengths kept at.running its.committing.commit at.are)
    rc its.on its.all (returned-is rc (work_at (its_start leg owned (step_now row))).finish its.returned) (on-holds row.state its.on)

-- ---- a run ends

pub kept-complete : (layout : Layout) (office : Office) (job : ℕ) (row : RunRow) (leg : Leg) → IsAgreed layout office → IsThrough office job row leg → IsAgreed layout (record office { tables = after_ended row Completed office.tables; library = taken_over leg.reach (job_run leg.job leg.start None) office.library })
kept-complete layout office job row leg kept its = kept-completed layout office job row leg kept its.holder its.outside its.none

-- the tables behind an abnormal end within a step
abnormal-within : (row : RunRow) (owned : OwnedStep) (step writes : ℕ) (tables : TablesModel) → step_of_run row step ≡ Some owned → after_abnormal row (Within step writes) tables ≡ (let done = after_dispositions row owned step true tables in after_passed_ended (record row { passed = done.passed }) (record tables { sets = done.sets }))
abnormal-within row owned step writes tables found =
    ap (λ (o : Option OwnedStep). option_map_or (λ owned. let done = after_dispositions row owned step true tables in after_passed_ended (record row { passed = done.passed }) (record tables { sets = done.sets })) o tables) found

abnormal-outside : (row : RunRow) (place : Place) (tables : TablesModel) → is_within place ≡ false → after_abnormal row place tables ≡ after_passed_ended row tables
abnormal-outside row (Before step) tables e = refl
abnormal-outside row (Opened step) tables e = refl
abnormal-outside row (Within step writes) tables e = absurd (false≢true (sym e))

pub kept-coded : (layout : Layout) (office : Office) (job rule writes : ℕ) (code : Code) (lengths : ArrayVec ℕ) (row : RunRow) (leg : Leg) (owned : OwnedStep) → IsAgreed layout office → IsCommitting office job row leg owned writes lengths.items → IsAgreed layout (record office { tables = after_ended row (Coded code rule writes lengths) office.tables; library = taken_over leg.reach (job_run leg.job leg.start (Some (Within (step_now row) writes))) office.library })
kept-coded layout office job rule writes code lengths row leg owned kept its =
    let found = its.at.running.found in
    subst (λ (o : Option OwnedStep). IsAgreed layout (record office { tables = option_map_or (λ owned. after_abnormal (record row { place = Some (Within (step_now row) writes) }) (Within (step_now row) writes) (after_commit row owned (step_now row) writes lengths.items office.tables)) o office.tables; library = taken_over leg.reach (job_run leg.job leg.start (Some (Within (step_now row) writes))) office.library })) (sym found)
    (subst (λ tables. IsAgreed layout (record office { tables = tables; library = taken_over leg.reach (job_run leg.job leg.start (Some (Within (step_now row) writes))) office.library }))
    (sym (abnormal-within (record row { place = Some (Within (step_now row) writes) }) owned (step_now row) writes (after_commit row owned (step_now row) writes lengths.items office.tables) found))
    (kept-within layout (committed_office office row owned writes lengths.items) job (record row { place = Some (Within (step_now row) writes) }) leg owned (step_now row) writes
    (kept_then layout office job row leg owned writes lengths.items kept its.at.running its.commit its.at.are)
    (running_then layout office job row leg owned writes lengths.items kept its.at.running its.commit its.at.are)))

pub kept-allocation : (layout : Layout) (office : Office) (job dd cause first second : ℕ) (row : RunRow) (leg : Leg) (owned : OwnedStep) → IsAgreed layout office → IsRefused office job row leg owned → IsAgreed layout (record office { tables = after_ended row (Allocation dd cause first second) office.tables; library = taken_over leg.reach (job_run leg.job leg.start (Some (place_of row))) office.library })
kept-allocation layout office job dd cause first second row leg owned kept its =
    bool-cases (is_within (place_of row))
    (λ within.
    let running : IsRunning office job row leg owned (step_now row) (writes_in (place_of row)) = running-so layout office job row leg owned its.holder within its.found in
    subst (λ place. IsAgreed layout (record office { tables = after_abnormal row place office.tables; library = taken_over leg.reach (job_run leg.job leg.start (Some place)) office.library })) (sym (within-is (place_of row) within))
    (subst (λ tables. IsAgreed layout (record office { tables = tables; library = taken_over leg.reach (job_run leg.job leg.start (Some (Within (step_now row) (writes_in (place_of row))))) office.library }))
    (sym (abnormal-within row owned (step_now row) (writes_in (place_of row)) office.tables its.found))
    (kept-within layout office job row leg owned (step_now row) (writes_in (place_of row)) kept running)))
    (λ out.
    subst (λ tables. IsAgreed layout (record office { tables = tables; library = taken_over leg.reach (job_run leg.job leg.start (Some (place_of row))) office.library }))
    (sym (abnormal-outside row (place_of row) office.tables out))
    (kept-cut layout office job row leg kept its.holder out))
