use Rattle.std.proofs.Common.{◌≡◌, ◌++◌, take, arith}
use Rattle.std.specs.List.{filter_map}
use Rattle.std.specs.Option.{option_to_list}
use Rattle.std.proofs.lemmas.Grind.{common_steps}
use Rattle.ckr_base.proofs.Sequences.{filter_map-more}
use Rattle.ckr_uses.specs.Uses.{use_in}
use Rattle.ckr_uses.proofs.SingleNames.{behind}
use Rattle.ckr_uses.proofs.uses.put_uses_in_step.Goals as goal

pub loop-dd-preserved : goal.loop-dd-preserved
loop-dd-preserved c =
    let step = use_in c.args.restart c.args.own.now c.args.step.now.name in
    let before = filter_map step (take c.loop-dd.dd-index c.as_slice-dd-items.result.now) in
    let put : c.put_use.new.uses ≡ c.args.uses.now ++ before ++ option_to_list (step c.dd-item.result) = grind (arith, common_steps) in
    behind c.args.uses.now before (option_to_list (step c.dd-item.result)) _ _ put
    (filter_map-more step c.as_slice-dd-items.result.now c.loop-dd.dd-index c.dd-item.result c.loop-dd-test.true c.dd-item.is)
