-- What a checkpoint that is due comes to, before anything is written; it stays so where what the jobs are and the disk stay the same.
use Rattle.std.proofs.Common.{◌≡◌, ◌<◌, ℕ, false, true, find, ap, sym, ◌∙◌, subst, arith, IfSome, Option, None, Some}
use Rattle.std.specs.Option.{is_some}
use Rattle.ckr_base.proofs.Numbers.{equal-true}
use Rattle.ckr_base.proofs.Sequences.{find-passes}
use Rattle.ckr_desk_refines.specs.Memory.Checkpoint.{Checkpoint}
use Rattle.ckr_desk_refines.specs.Memory.Checkpoints.{HasEntrySpace, IsCheckpointOf}
use Rattle.ckr_desk_refines.specs.Memory.Entries.{next_entry, next_id, step_now}
use Rattle.ckr_desk_turn.specs.Checkpoints.{id_in}
use Rattle.ckr_desk_refines.specs.Memory.EventChanges.{is_of_run}
use Rattle.ckr_desk_refines.specs.Memory.OwnSets.{CommitsItsOwn, IsRunningOf}
use Rattle.ckr_desk_refines.specs.Memory.View.{RunningStepView}
use Rattle.ckr_meaning.specs.EffectiveJob.{OwnedStep}
use Rattle.ckr_points.specs.Follows.{follows}
use Rattle.ckr_points.specs.Rows.{RunRow, TablesModel, run_of, step_of_run}
use Rattle.ckr_desk_store.specs.State.{StoreView}
use Rattle.ckr_desk_turn.specs.Spelling.{IsSpelled}
use Rattle.ckr_points.specs.declared.reply.Chkpt.{Chkpt}
use Rattle.ckr_points.specs.declared.reply.Chkpt.TheVariants.{NotWritten}
use Rattle.ckr_points.specs.declared.reply.Reply.{Reply}
use Rattle.ckr_points.specs.declared.reply.Reply.TheVariants.{Checkpointed}
use Rattle.ckr_desk.specs.Calls.{HasSameJobs}
use Rattle.ckr_desk.specs.Checkpoint.{IsMade, IsReplyWith, IsUnfit, NotAttempted}
use Rattle.ckr_desk.specs.declared.error.DeskError.{DeskError}
use Rattle.ckr_desk.specs.declared.error.DeskError.TheVariants.{NoMemory, DiskFault, BookFull, Stopped}
use Rattle.ckr_desk.specs.Preparation.{NotReady}
use Rattle.ckr_desk.specs.State.{DeskView}

-- ---- the running step of the run, in memory

module _ {D : Type 0} (run : ℕ) (desk : DeskView D) (on : RunningStepView) (found : find (is_of_run run) desk.jobs.running ≡ Some on) where
  pub its-run : on.run ≡ run
  its-run = equal-true on.run run (find-passes (is_of_run run) desk.jobs.running on found)

  module _ (its : IsRunningOf desk.jobs.tables.desk on) where
    pub reply-with : (code : Chkpt) (reply : Reply)
        → ((row : RunRow) (own : OwnedStep) → run_of desk.jobs.tables.desk on.run ≡ Some row → step_of_run row (step_now row) ≡ Some own → reply ≡ Checkpointed row.number own.step.name code (id_in (next_id row own)))
        → IsReplyWith run desk code reply
    reply-with code reply is = record {
      on = on;
      row = its.row;
      own = its.owned;
      at = record { found = found; row_at = ap (run_of desk.jobs.tables.desk) (sym its-run) ∙ its.row_at; step_at = its.found };
      is = is its.row its.owned its.row_at its.found;
    }

    pub unfit-with : (reply : Reply)
        → ((row : RunRow) (own : OwnedStep) → run_of desk.jobs.tables.desk on.run ≡ Some row → step_of_run row (step_now row) ≡ Some own → reply ≡ Checkpointed row.number own.step.name NotWritten (id_in (next_id row own)))
        → ((row : RunRow) (own : OwnedStep) → run_of desk.jobs.tables.desk on.run ≡ Some row → step_of_run row (step_now row) ≡ Some own → is_some (next_entry desk.jobs.tables.desk row own on) ≡ false)
        → IsUnfit run desk reply
    unfolding reply-with
    unfit-with reply is none = record { reply_is = reply-with NotWritten reply is; none = none its.row its.owned its.row_at its.found }

  -- what is made there
  module _ (found_made : Option Checkpoint) (made : Checkpoint) (is : found_made ≡ Some made) where
    of-made : (P : Checkpoint → Type 0) → IfSome found_made P → P made
    of-made P holds = subst (λ (o : Option Checkpoint). IfSome o P) is holds

    at-run : find (is_of_run on.run) desk.jobs.running ≡ Some on
    at-run = subst (λ n. find (is_of_run n) desk.jobs.running ≡ Some on) (sym its-run) found

    pub made-with : IfSome found_made (IsCheckpointOf desk.jobs.tables.desk on) → IfSome found_made (HasEntrySpace desk.store.layout) → IfSome found_made (λ its. IsSpelled its.event)
        → (find (is_of_run on.run) desk.jobs.running ≡ Some on → IfSome found_made (λ its. follows desk.store.layout desk.jobs.tables.desk its.event None ≡ true))
        → (find (is_of_run on.run) desk.jobs.running ≡ Some on → IfSome found_made (λ its. CommitsItsOwn its.event desk.jobs.tables.desk desk.jobs.running)) → IsMade run desk made
    made-with of space spelled goes commits = record {
      on = on;
      found = found;
      of = of-made (IsCheckpointOf desk.jobs.tables.desk on) of;
      space = of-made (HasEntrySpace desk.store.layout) space;
      spelled = of-made (λ its. IsSpelled its.event) spelled;
      follows = of-made (λ its. follows desk.store.layout desk.jobs.tables.desk its.event None ≡ true) (goes at-run);
      commits = of-made (λ its. CommitsItsOwn its.event desk.jobs.tables.desk desk.jobs.running) (commits at-run);
    }

-- ---- later

module _ {D : Type 0} (run : ℕ) (old new : DeskView D) where
  module _ (jobs : HasSameJobs old new) where
    pub reply-same : (code : Chkpt) (reply : Reply) → IsReplyWith run old code reply → IsReplyWith run new code reply
    reply-same code reply its = record {
      on = its.on;
      row = its.row;
      own = its.own;
      at = record {
        found = ap (find (is_of_run run)) jobs.running ∙ its.at.found;
        row_at = ap (λ (t : TablesModel). run_of t run) jobs.tables ∙ its.at.row_at;
        step_at = its.at.step_at;
      };
      is = its.is;
    }

    pub made-same : new.store ≡ old.store → (made : Checkpoint) → IsMade run old made → IsMade run new made
    made-same store made its = record {
      on = its.on;
      found = ap (find (is_of_run run)) jobs.running ∙ its.found;
      of = subst (λ (t : TablesModel). IsCheckpointOf t its.on made) (sym jobs.tables) its.of;
      space = subst (λ (s : StoreView D). HasEntrySpace s.layout made) (sym store) its.space;
      spelled = its.spelled;
      follows = ap (λ (s : StoreView D). follows s.layout new.jobs.tables.desk made.event None) store
          ∙ ap (λ (t : TablesModel). follows old.store.layout t made.event None) jobs.tables
          ∙ its.follows;
      commits = subst (λ (t : TablesModel). CommitsItsOwn made.event t new.jobs.running) (sym jobs.tables) (subst (CommitsItsOwn made.event old.jobs.tables.desk) (sym jobs.running) its.commits);
    }

  -- its event isn't ready
  pub not-ready : (made : Checkpoint) → IsMade run old made → (error : DeskError) → NotReady made.event old new error → NotAttempted run old new error
  not-ready made its NoMemory not = not.0
  not-ready made its DiskFault not = absurd not
  not-ready made its (BookFull need room) not = (
    record {
      made = made;
      its = its;
      needed = not.0;
      left = not.1;
      full = let less : room < need = not.2 in let one = not.0 in let other = not.1 in omega (arith, less, one, other);
    },
    not.3,
  )
  not-ready made its (Stopped fault) not = absurd not
