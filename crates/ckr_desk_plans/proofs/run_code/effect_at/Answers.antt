use Rattle.std.proofs.Common.{sym, ◌∙◌}
use Rattle.ckr_desk_plans.proofs.EffectEntries.{some-kept}
use Rattle.ckr_desk_plans.proofs.run_code.effect_at.Goals as goal

pub returns-in-Some-taken_at : goal.returns-in-Some-taken_at
returns-in-Some-taken_at c = λ run.
    some-kept c.args.tables.now.desk run c.args.table.now c.in-Some.effect c.in-Some.is c.copied.result c.in-Some-taken_at.taken c.copied.ensures (sym c.in-Some-taken_at.is ∙ c.taken_at.ensures)
