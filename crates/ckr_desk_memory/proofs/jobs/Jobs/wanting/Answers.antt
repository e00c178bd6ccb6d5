use Rattle.std.proofs.Common.{◌≡◌, None, ap, sym, ◌∙◌}
use Rattle.ckr_desk_turn.specs.Mounts.{wanting}
use Rattle.ckr_points.specs.Restart.{step_in}
use Rattle.ckr_desk_memory.proofs.WantingSteps.{any-none, is-wanting, wanting-by, wanting-none}
use Rattle.ckr_desk_memory.proofs.jobs.Jobs.wanting.Goals as goal

pub returns-in_err-own-clause-none : goal.returns-in_err-own-clause-none
returns-in_err-own-clause-none c =
    any-none c.from_residual-in_err-own.result (wanting c.args.self.now.tables.desk c.args.plan.now ≡ None)
    (wanting-by c.args.self.now.tables.desk c.args.plan.now _ (sym c.in_ok-run.ensures)
    ∙ wanting-none c.args.self.now.tables.desk c.in_ok-run.run' c.step_in-number.result c.in_ok-run.made.now c.in_ok-table.table.now c.in_ok-table.ensures.some (λ run. c.step_in-number.ensures ∙ ap step_in (c.place_of.ensures run)) c.in_err-own.ensures.step)

pub returns-clause-some : goal.returns-clause-some
returns-clause-some c = record {
  wants = sym c.in_ok-run.ensures;
  is =
      is-wanting c.args.self.now.tables.desk (record { run = c.in_ok-run.run'; number = c.step_in-number.result; root = c.root.result; own = c.in_ok-own.own; made = c.in_ok-run.made }) c.in_ok-table.table.now c.in_ok-table.ensures.some
      (λ run. c.step_in-number.ensures ∙ ap step_in (c.place_of.ensures run)) c.root.ensures c.in_ok-own.ensures.step;
}
