use Rattle.std.proofs.Common.{ap, sym, ◌∙◌}
use Rattle.std.specs.Option.{option_map}
use Rattle.ckr_rules.specs.RuleTables.{is_rnc}
use Rattle.ckr_points_tables.specs.View.{effect_of}
use Rattle.ckr_desk_plans.specs.Plans.{row_for}
use Rattle.ckr_desk_plans.proofs.RuleCases.{since-other, since-rnc, since_effect}
use Rattle.ckr_desk_plans.proofs.run_code.since_point.Goals as goal

pub returns-then-is_rnc : goal.returns-then-is_rnc
returns-then-is_rnc c = λ run.
    c.since_start.ensures run
    ∙ sym (since-rnc (row_for run c.args.table.now) c.args.step (ap is_rnc (sym (c.rd_of.ensures run)) ∙ sym c.is_rnc.ensures ∙ c.if-is_rnc.true))

pub returns-in-Some : goal.returns-in-Some
returns-in-Some c = λ run.
    let row = row_for run c.args.table.now in
    sym (since-other row c.args.step (ap is_rnc (sym (c.rd_of.ensures run)) ∙ sym c.is_rnc.ensures ∙ c.if-is_rnc.false)
    ∙ ap (λ effect. since_effect row c.args.step (option_map effect_of effect)) c.in-Some.is)

pub returns-in-None : goal.returns-in-None
returns-in-None c = λ run.
    let row = row_for run c.args.table.now in
    c.since_start-in-None.ensures run
    ∙ sym (since-other row c.args.step (ap is_rnc (sym (c.rd_of.ensures run)) ∙ sym c.is_rnc.ensures ∙ c.if-is_rnc.false)
    ∙ ap (λ effect. since_effect row c.args.step (option_map effect_of effect)) c.in-None.is)
