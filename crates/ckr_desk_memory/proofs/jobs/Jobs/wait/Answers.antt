use Rattle.std.proofs.Common.{◌≡◌, List, ap, arith, ◌∙◌, map}
use Rattle.std.specs.Vec.{with_items}
use Rattle.std.proofs.lemmas.List.{with_items_is}
use Rattle.ckr_desk_turn.specs.Desk.{with_asked}
use Rattle.ckr_desk_plans.specs.declared.running_step.RunningStep.{RunningStep}
use Rattle.ckr_desk_memory.specs.EventChanges.{with_code}
use Rattle.ckr_desk_memory.specs.Parts.{step_seen}
use Rattle.ckr_desk_memory.specs.View.{JobsView}
use Rattle.ckr_desk_memory.proofs.RunningSteps.Codes.{jobs-coded, jobs-left, own-coded}
use Rattle.ckr_desk_memory.proofs.jobs.Jobs.wait.Goals as goal
use Rattle.ckr_desk_memory.proofs.jobs.Jobs.wait.Goals.{After-mark_asked}

-- the running steps and the marked runs behind it
stopped : (c : After-mark_asked) → map step_seen (with_items c.self.inside.running c.stop_with.new.running).items ≡ with_code c.args.job c.args.code c.args.self.now.running
stopped c =
    ap (map step_seen) (with_items_is c.self.inside.running c.stop_with.new.running (omega (arith, c.stop_with.auto.running, c.as_mut_slice.ensures.len)))
    ∙ c.stop_with.ensures ∙ ap (λ (items : List RunningStep). with_code c.args.job c.args.code (map step_seen items)) c.as_mut_slice.ensures.value ∙ ap (λ (j : JobsView). with_code c.args.job c.args.code j.running) c.self.view_is

marked : (c : After-mark_asked) → (with_items c.self.inside.failed c.mark_asked.new.failed).items ≡ with_asked c.args.job c.args.self.now.failed
marked c =
    with_items_is c.self.inside.failed c.mark_asked.new.failed (omega (arith, c.mark_asked.auto.failed, c.as_mut_slice-2.ensures.len))
    ∙ c.mark_asked.ensures ∙ ap (with_asked c.args.job) c.as_mut_slice-2.ensures.value ∙ ap (λ (j : JobsView). with_asked c.args.job j.failed) c.self.view_is

pub returns-clause-jobs : goal.returns-clause-jobs
returns-clause-jobs c = λ layout.
    jobs-coded c.args.job c.args.code layout c.args.self.now _ c.requires (ap (λ (j : JobsView). j.tables) c.self.view_is) (stopped (goal.at.returns-clause-jobs c).After-mark_asked)

pub returns-clause-own : goal.returns-clause-own
returns-clause-own c =
    own-coded c.args.job c.args.code c.args.self.now _ (ap (λ (j : JobsView). j.tables) c.self.view_is) (ap (λ (j : JobsView). j.points) c.self.view_is) (stopped (goal.at.returns-clause-own c).After-mark_asked)

pub returns-clause-left : goal.returns-clause-left
returns-clause-left c = jobs-left c.args.job c.args.self.now c.self.inside.tables (with_items c.self.inside.failed c.mark_asked.new.failed).items (ap (λ (j : JobsView). j.tables) c.self.view_is) (marked (goal.at.returns-clause-left c).After-mark_asked)
