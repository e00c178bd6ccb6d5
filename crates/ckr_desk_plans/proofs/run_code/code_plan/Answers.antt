use Rattle.std.proofs.Common.{◌≡◌, ap, sym, ◌∙◌, refl}
use Rattle.ckr_rules.specs.RuleTables.{automatic}
use Rattle.ckr_rules.specs.declared.cases.Verdict.{Verdict}
use Rattle.ckr_desk_turn.specs.declared.plan.Plan.{Plan}
use Rattle.ckr_desk_turn.specs.Codes.{judged_plan, verdict_for}
use Rattle.ckr_desk_plans.specs.Plans.{reached_seen, row_for}
use Rattle.ckr_desk_plans.proofs.run_code.code_plan.Goals as goal
use Rattle.ckr_desk_plans.proofs.run_code.code_plan.Goals.{After-automatic}

-- what the rules say is what the model has
judged : (c : After-automatic) → c.automatic.result ≡ verdict_for c.args.layout.now (row_for c.args.run c.args.table.now) c.args.code
judged c = c.automatic.ensures ∙ ap automatic (c.auto_case.ensures c.args.run)

abbrev by_verdict : After-automatic → Verdict → Plan
by_verdict c = judged_plan c.args.tables.now.desk (row_for c.args.run c.args.table.now) c.args.seat.initiator c.args.seat.lodged c.args.code (reached_seen c.args.reached)

pub returns-in-Denied-clause-plan : goal.returns-in-Denied-clause-plan
returns-in-Denied-clause-plan c =
    let before = (goal.at.returns-in-Denied-clause-plan c).After-automatic in
    c.ended.ensures.plan (row_for c.args.run c.args.table.now) refl ∙ ap (by_verdict before) (sym c.in-Denied.is ∙ judged before)

pub returns-in-Step-clause-plan : goal.returns-in-Step-clause-plan
returns-in-Step-clause-plan c =
    let before = (goal.at.returns-in-Step-clause-plan c).After-automatic in
    c.asked.ensures.start refl ∙ ap (by_verdict before) (sym c.in-Step.is ∙ judged before)

pub returns-in-Checkpoint-clause-plan : goal.returns-in-Checkpoint-clause-plan
returns-in-Checkpoint-clause-plan c =
    let before = (goal.at.returns-in-Checkpoint-clause-plan c).After-automatic in
    c.asked_back.ensures.plan ∙ ap (by_verdict before) (sym c.in-Checkpoint.is ∙ judged before)
