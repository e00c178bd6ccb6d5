use Rattle.std.proofs.Common.{◌∙◌, refl}
use Rattle.std.proofs.lemmas.List.{length-set}
use Rattle.ckr_library.proofs.FrontLists.{renewed-end, renewed-made, renewed-same, renewed-stand}
use Rattle.ckr_library.proofs.fronts.renew.Goals as goal

pub returns-then-is_same : goal.returns-then-is_same
returns-then-is_same c =
    renewed-same c.args.spans.now c.loop-place.fronts c.loop-place.place c.loop-place.was c.loop-place.now c.loop-place.invariant.stand (c.is_same.ensures c.if-is_same.true) ∙ c.loop-place.invariant.made

pub returns : goal.returns
returns c =
    renewed-end c.args.spans.now c.loop-place.fronts c.loop-place.place c.loop-place.now c.loop-place.invariant.each c.loop-place-test.false ∙ c.loop-place.invariant.made

pub loop-place-init : goal.loop-place-init
loop-place-init c = record { each = c.requires.each; stand = c.requires.stand; made = refl }

pub loop-place-preserved : goal.loop-place-preserved
loop-place-preserved c = record {
  each = length-set c.loop-place.fronts c.loop-place.place c.front_after-now.result ∙ c.loop-place.invariant.each;
  stand = renewed-stand c.args.spans.now c.loop-place.fronts c.loop-place.place c.loop-place-test.true c.loop-place.invariant.each c.loop-place.was c.loop-place.now _ c.front_after-now.result c.loop-place.invariant.stand;
  made = renewed-made c.args.spans.now c.loop-place.fronts c.loop-place.place c.loop-place-test.true c.loop-place.invariant.each c.loop-place.was c.loop-place.now _ c.front_after-now.result c.front_after-now.ensures ∙ c.loop-place.invariant.made;
}
