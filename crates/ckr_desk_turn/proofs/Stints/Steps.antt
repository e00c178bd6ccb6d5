-- How many turns a step may still need, by how far it has come: one fewer behind each turn that goes on.
use Rattle.std.proofs.Common.{◌≡◌, ◌≤◌, ◌<◌, ◌+◌, ℕ, suc, Bool, true, false, cond, not, ◌&&◌, refl, ap, ◌∙◌, arith}
use Rattle.std.specs.Prelude.{◌==◌, ◌%◌, if◌then◌else◌}
use Rattle.ckr_base.specs.declared.programs.NextDue.{NextDue}
use Rattle.ckr_base.specs.declared.programs.NextDue.TheVariants.{Unit as OneUnit, Checkpoint, Cancel, Finished}
use Rattle.ckr_base.proofs.Bools.{and-false, and-true}
use Rattle.ckr_meaning.specs.Program.{records_taken}
use Rattle.ckr_meaning.specs.StepRun.{StepStart, case_at, work_at}
use Rattle.ckr_programs.specs.Due.{is_checkpoint_count}
use Rattle.ckr_desk_turn.specs.Desk.{cancel_done, checkpoint_done}
use Rattle.ckr_desk_turn.specs.Due.{next_due, rc_by}
use Rattle.ckr_desk_turn.specs.Stints.{checkpoints_behind, records_behind}
use Rattle.ckr_desk_turn.specs.Units.{StepProgress, arrived}
use Rattle.ckr_desk_turn.proofs.Checkpoints.Due.{cancel-only, checkpoint-only}
use Rattle.ckr_desk_turn.proofs.Stints.Counts.{cancels-done, cancels-most, cancels-next, cancels_left, comes_at, counts-next, one-most}

module _ (start : StepStart) where
  -- a step that starts: its start, a unit for each record, the closing one, its checkpoints, its cancel and its end
  abbrev pub turns_of : ℕ
  turns_of = 4 + (records_behind 0 start + checkpoints_behind 0 start)

  -- the checkpoint that is due now
  abbrev due_now : ℕ → Bool → ℕ
  due_now taken done = cond (is_checkpoint_count start.owned.step.parm taken && not done) 1 0

  -- a running step that isn't closed: its other units, its checkpoints, its cancel and its end
  abbrev open_left : StepProgress → ℕ
  open_left step =
      2 + records_behind step.taken start + due_now step.taken step.checkpointed + checkpoints_behind step.taken start
      + cancels_left start.owned.step.parm.cancel step.taken step.cancelled

  -- a closed one has to end
  abbrev pub step_left : StepProgress → ℕ
  step_left step = cond step.closed 1 (open_left step)

  unclosed-left : (step : StepProgress) → step.closed ≡ false → step_left step ≡ open_left step
  unclosed-left step unclosed = ap (λ b. cond b 1 (open_left step)) unclosed

  pub some-left : (step : StepProgress) → 1 ≤ step_left step
  some-left step = by step.closed
    where
      by : (b : Bool) → 1 ≤ cond b 1 (open_left step)
      by true = omega arith
      by false = omega arith

  -- at most so many
  pub most-left : (step : StepProgress) → step_left step ≤ 4 + (records_behind step.taken start + checkpoints_behind step.taken start)
  most-left step = by step.closed
    where
      by : (b : Bool) → cond b 1 (open_left step) ≤ 4 + (records_behind step.taken start + checkpoints_behind step.taken start)
      by true = omega arith
      by false =
          let due : due_now step.taken step.checkpointed ≤ 1 = one-most (is_checkpoint_count start.owned.step.parm step.taken && not step.checkpointed) in
          let cancels : cancels_left start.owned.step.parm.cancel step.taken step.cancelled ≤ 1 = cancels-most start.owned.step.parm.cancel step.taken step.cancelled in
          omega (arith, due, cancels)

  -- behind its start
  none-first : (done : Bool) → due_now 0 done ≡ 0
  none-first done = ap (λ b. cond (b && (0 % start.owned.step.parm.chk == 0) && not done) 1 0) (and-false (not (start.owned.step.parm.chk == 0)))

  pub left-started : suc (step_left (arrived 0 0)) ≤ turns_of
  left-started =
      let due : due_now 0 false ≡ 0 = none-first false in
      let cancels : cancels_left start.owned.step.parm.cancel 0 false ≤ 1 = cancels-most start.owned.step.parm.cancel 0 false in
      omega (arith, due, cancels)

  -- what is due, by whether the step is closed, and whether a checkpoint or a cancel comes now
  abbrev due_by : Bool → Bool → Bool → ℕ → NextDue
  due_by closed comes ends rc = if closed then Finished rc else (if comes then Checkpoint else (if ends then Cancel else OneUnit))

  -- where a unit is due, neither a checkpoint nor a cancel is
  record IsUnit (closed comes ends : Bool) : Type 0 where
    pub unclosed : closed ≡ false
    pub unchecked : comes ≡ false
    pub uncancelled : ends ≡ false

  is-unit : (closed comes ends : Bool) (rc : ℕ) → due_by closed comes ends rc ≡ OneUnit → IsUnit closed comes ends
  is-unit true comes ends rc e = cc
  is-unit false true ends rc e = cc
  is-unit false false true rc e = cc
  is-unit false false false rc e = record { unclosed = refl; unchecked = refl; uncancelled = refl }

  module _ (step : StepProgress) where
    abbrev comes_now : Bool
    comes_now = is_checkpoint_count start.owned.step.parm step.taken && not step.checkpointed

    abbrev ends_now : Bool
    ends_now = comes_at start.owned.step.parm.cancel step.taken && not step.cancelled

    module _ (due : next_due start step ≡ OneUnit) where
      its : IsUnit step.closed comes_now ends_now
      its = is-unit step.closed comes_now ends_now (rc_by (work_at start).finish) due

      -- behind a unit that takes a record
      pub left-taken : (writes : ℕ) → step.taken < records_taken (case_at start) → suc (step_left (arrived (suc step.taken) writes)) ≤ step_left step
      left-taken writes below =
          let before : step_left step ≡ open_left step = unclosed-left step its.unclosed in
          let none : due_now step.taken step.checkpointed ≡ 0 = ap (λ b. cond b 1 0) its.unchecked in
          let more : checkpoints_behind step.taken start ≡ cond (is_checkpoint_count start.owned.step.parm (suc step.taken)) 1 0 + checkpoints_behind (suc step.taken) start =
          counts-next (is_checkpoint_count start.owned.step.parm) step.taken (records_taken (case_at start)) below in
          let here : due_now (suc step.taken) false ≡ cond (is_checkpoint_count start.owned.step.parm (suc step.taken)) 1 0 = ap (λ b. cond b 1 0) (and-true (is_checkpoint_count start.owned.step.parm (suc step.taken))) in
          let cancels : cancels_left start.owned.step.parm.cancel (suc step.taken) false ≤ cancels_left start.owned.step.parm.cancel step.taken step.cancelled =
          cancels-next start.owned.step.parm.cancel step.taken step.cancelled its.uncancelled in
          omega (arith, before, none, more, here, cancels, below)

      -- and behind the closing one
      pub left-closed : (writes : ℕ) → suc (step_left (record step { writes = writes; closed = true })) ≤ step_left step
      left-closed writes = let before : step_left step ≡ open_left step = unclosed-left step its.unclosed in omega (arith, before)

    -- behind a checkpoint
    pub left-checkpointed : next_due start step ≡ Checkpoint → suc (step_left (checkpoint_done step)) ≤ step_left step
    left-checkpointed due =
        let is = checkpoint-only start step due in
        let before : step_left step ≡ open_left step = unclosed-left step is.unclosed in
        let after : step_left (checkpoint_done step) ≡ open_left (checkpoint_done step) = unclosed-left (checkpoint_done step) is.unclosed in
        let one : due_now step.taken step.checkpointed ≡ 1 =
        ap (λ b. cond (b && not step.checkpointed) 1 0) is.count ∙ ap (λ b. cond (true && not b) 1 0) is.undone in
        let none : due_now step.taken true ≡ 0 = ap (λ b. cond b 1 0) (and-false (is_checkpoint_count start.owned.step.parm step.taken)) in
        omega (arith, before, after, one, none)

    -- behind a cancel
    pub left-cancelled : next_due start step ≡ Cancel → suc (step_left (cancel_done step)) ≤ step_left step
    left-cancelled due =
        let is = cancel-only start step due in
        let before : step_left step ≡ open_left step = unclosed-left step is.unclosed in
        let after : step_left (cancel_done step) ≡ open_left (cancel_done step) = unclosed-left (cancel_done step) is.unclosed in
        let fewer : suc (cancels_left start.owned.step.parm.cancel step.taken true) ≤ cancels_left start.owned.step.parm.cancel step.taken step.cancelled =
        cancels-done start.owned.step.parm.cancel step.taken step.cancelled is.count is.undone in
        omega (arith, before, after, fewer)
