use Rattle.std.proofs.Common.{◌≡◌, ◌≤◌, ap, refl, sym, ◌∙◌, subst}
use Rattle.ckr_points.specs.Soundness.{serials}
use Rattle.ckr_points.specs.declared.denial.Denial.{Denial}
use Rattle.ckr_rules.specs.RuleTables.{deferred, rule_number}
use Rattle.ckr_rules.specs.declared.cases.Verdict.TheVariants.{Step, Checkpoint}
use Rattle.ckr_points_follows.specs.Model.Runs.{row_now}
use Rattle.ckr_points_follows.specs.Model.Wanted.{wanted_in}
use Rattle.ckr_desk_turn.specs.Deferred.{deferred_verdict, denied_plan}
use Rattle.ckr_desk_plans.proofs.DeferredPlans.{denied-deferred, step-there, verdict-plan}
use Rattle.ckr_desk_plans.proofs.deferred.deferred_plan.Goals as goal
use Rattle.ckr_desk_plans.proofs.deferred.deferred_plan.Goals.{After-deferred}

-- what the rules say is what the model has
judged : (c : After-deferred) → c.deferred.result ≡ deferred_verdict c.args.layout.now c.args.tables.now.desk (row_now c.args.run.now) (wanted_in c.wanted_of-wanted.result)
judged c = c.deferred.ensures ∙ ap deferred c.deferred_case.ensures

pub denied-requires : goal.denied-requires
denied-requires c =
    let before = (goal.at.denied-requires c).After-deferred in
    subst (λ (denial : Denial). 17 ≤ rule_number denial.rule) (sym c.denial_of.ensures)
    (denied-deferred (serials c.args.layout.now) (row_now c.args.run.now) (wanted_in c.wanted_of-wanted.result) c.args.tables.now.desk c.in-Denied.rule (sym (judged before) ∙ c.in-Denied.is))

pub returns-in-Denied-clause-plan : goal.returns-in-Denied-clause-plan
returns-in-Denied-clause-plan c =
    let before = (goal.at.returns-in-Denied-clause-plan c).After-deferred in
    c.denied.ensures.plan (row_now c.args.run.now) refl
    ∙ ap (denied_plan (row_now c.args.run.now)) c.denial_of.ensures
    ∙ verdict-plan c.args.layout.now c.args.tables.now.desk c.args.initiator (row_now c.args.run.now) c.args.restart.now (wanted_in c.wanted_of-wanted.result) _ (sym c.in-Denied.is ∙ judged before) c.wanted_of-wanted.ensures.wanted

pub at_start-requires : goal.at_start-requires
at_start-requires c =
    let before = (goal.at.at_start-requires c).After-deferred in
    step-there (serials c.args.layout.now) (row_now c.args.run.now) (wanted_in c.wanted_of-wanted.result) c.args.tables.now.desk Step refl (sym (judged before) ∙ c.in-Step.is)

pub returns-in-Step-clause-plan : goal.returns-in-Step-clause-plan
returns-in-Step-clause-plan c =
    let before = (goal.at.returns-in-Step-clause-plan c).After-deferred in
    c.at_start.ensures.plan (row_now c.args.run.now) refl
    ∙ verdict-plan c.args.layout.now c.args.tables.now.desk c.args.initiator (row_now c.args.run.now) c.args.restart.now (wanted_in c.wanted_of-wanted.result) _ (sym c.in-Step.is ∙ judged before) c.wanted_of-wanted.ensures.wanted

pub at_checkpoint-requires : goal.at_checkpoint-requires
at_checkpoint-requires c =
    let before = (goal.at.at_checkpoint-requires c).After-deferred in
    step-there (serials c.args.layout.now) (row_now c.args.run.now) (wanted_in c.wanted_of-wanted.result) c.args.tables.now.desk Checkpoint refl (sym (judged before) ∙ c.in-Checkpoint.is)

pub returns-in-Checkpoint-clause-plan : goal.returns-in-Checkpoint-clause-plan
returns-in-Checkpoint-clause-plan c =
    let before = (goal.at.returns-in-Checkpoint-clause-plan c).After-deferred in
    c.at_checkpoint.ensures.plan (row_now c.args.run.now) refl
    ∙ verdict-plan c.args.layout.now c.args.tables.now.desk c.args.initiator (row_now c.args.run.now) c.args.restart.now (wanted_in c.wanted_of-wanted.result) _ (sym c.in-Checkpoint.is ∙ judged before) c.wanted_of-wanted.ensures.wanted
