use Rattle.std.proofs.Common.{Some, None, ap, sym, ◌∙◌}
use Rattle.std.specs.Option.{is_some, option_map}
use Rattle.ckr_base.proofs.Options.{some-not-none}
use Rattle.ckr_meaning.specs.EffectiveJob.{OwnedStep}
use Rattle.ckr_points_tables.specs.RunJobs.{effective, own_of}
use Rattle.ckr_desk_plans.proofs.StepNumbers.{first-step}
use Rattle.ckr_desk_memory.proofs.Starts.Steps.{step-is}
use Rattle.ckr_desk_memory.proofs.jobs.Jobs.step_name.Goals as goal

pub returns-in_err-table-clause-name : goal.returns-in_err-table-clause-name
returns-in_err-table-clause-name c row at = absurd (some-not-none row (sym at ∙ c.in_err-table.ensures.none))

pub returns-in_err-own-clause-name : goal.returns-in_err-own-clause-name
returns-in_err-own-clause-name c row at =
    c.from_residual-in_err-own.ensures
    ∙ sym (ap (option_map (λ (own : OwnedStep). own.step.name)) (step-is c.args.self.now.tables.desk c.args.job c.in_ok-table.table.now c.in_ok-table.ensures.some c.args.number None c.in_err-own.ensures.step row at))

pub returns-clause-name : goal.returns-clause-name
returns-clause-name c row at =
    ap Some c.copied.ensures
    ∙ sym (ap (option_map (λ (own : OwnedStep). own.step.name)) (step-is c.args.self.now.tables.desk c.args.job c.in_ok-table.table.now c.in_ok-table.ensures.some c.args.number (Some c.in_ok-own.own) c.in_ok-own.ensures.step row at))

pub returns-clause-first : goal.returns-clause-first
returns-clause-first c = first-step (effective c.args.job c.in_ok-table.table.now.job) c.args.number (own_of c.in_ok-own.own) (sym c.in_ok-own.ensures.step)

pub returns-clause-run : goal.returns-clause-run
returns-clause-run c = ap is_some c.in_ok-table.ensures.some.found
