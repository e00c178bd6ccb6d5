use Rattle.std.proofs.Common.{ap, sym, ◌∙◌, refl, Option}
use Rattle.std.specs.Option.{option_map_or}
use Rattle.ckr_points.specs.Rows.{KeptEntry}
use Rattle.ckr_rules.specs.declared.cases.Rule.TheVariants.{A6}
use Rattle.ckr_desk_turn.specs.Codes.{asked_at_entry, ended_by}
use Rattle.ckr_desk_turn.specs.Jobs.{effect_entry}
use Rattle.ckr_desk_plans.specs.Plans.{reached_seen, row_for}
use Rattle.ckr_desk_plans.proofs.EffectEntries.{is-told, isnt-told}
use Rattle.ckr_desk_plans.proofs.run_code.asked_back.Goals as goal

pub returns-then-is_none-clause-plan : goal.returns-then-is_none-clause-plan
returns-then-is_none-clause-plan c =
    let row = row_for c.args.run c.args.table.now in
    c.ended.ensures.plan row refl
    ∙ ap (λ (o : Option KeptEntry). option_map_or (asked_at_entry row c.args.seat.initiator c.args.seat.lodged c.args.code (reached_seen c.args.reached)) o (ended_by row c.args.code A6 (reached_seen c.args.reached)))
    (sym (isnt-told (effect_entry c.args.tables.now.desk row) c.effect_at-at.result (c.effect_at-at.ensures c.args.run) c.if-is_none.ensures))

pub returns-clause-plan : goal.returns-clause-plan
returns-clause-plan c =
    let row = row_for c.args.run c.args.table.now in
    let its = is-told (effect_entry c.args.tables.now.desk row) c.effect_at-at.result (c.effect_at-at.ensures c.args.run) c.if-is_none.ensures in
    c.asked.ensures.entry its.entry its.told
    ∙ ap (λ (o : Option KeptEntry). option_map_or (asked_at_entry row c.args.seat.initiator c.args.seat.lodged c.args.code (reached_seen c.args.reached)) o (ended_by row c.args.code A6 (reached_seen c.args.reached))) (sym its.is)
