use Rattle.std.proofs.Common.{sym, ◌∙◌}
use Rattle.ckr_desk_plans.proofs.EntryLengths.{entered-other, entered-same}
use Rattle.ckr_desk_plans.proofs.run_code.length_with.Goals as goal

pub returns-then-is_same : goal.returns-then-is_same
returns-then-is_same c set = sym (entered-same c.args.check.now c.args.name.now set c.args.end c.args.sets.now.sets (sym c.is_same.ensures ∙ c.if-is_same.true))

pub returns : goal.returns
returns c set = c.length_of.ensures ∙ sym (entered-other c.args.check.now c.args.name.now set c.args.end c.args.sets.now.sets (sym c.is_same.ensures ∙ c.if-is_same.false))
