use Rattle.std.proofs.Common.{◌<◌, length, sym, ◌∙◌, arith}
use Rattle.std.proofs.lemmas.List.{get_or_default}
use Rattle.ckr_library.proofs.Filings.{unfiled_there, unfiled_not, unfiled_past}
use Rattle.ckr_library.proofs.spread.place_of_same.Goals as goal

pub returns-then-place-spans-clause-none : goal.returns-then-place-spans-clause-none
returns-then-place-spans-clause-none c =
    unfiled_past c.args.span.now c.args.span.now c.args.spans.now c.place_of-place.result c.place_of-place.ensures.place (omega (arith, c.if-place-spans.true))

pub returns-then-not-is_same-clause-none : goal.returns-then-not-is_same-clause-none
returns-then-not-is_same-clause-none c =
    let inside : c.place_of-place.result < length c.args.spans.now = omega (arith, c.if-place-spans.false, c.place_of-place.ensures.bound) in
    unfiled_not c.args.span.now _ c.args.spans.now c.place_of-place.result c.place_of-place.ensures.place inside (get_or_default _ _ _ _ inside) (sym c.is_same.ensures ∙ c.if-not-is_same.true)

pub returns-clause-some : goal.returns-clause-some
returns-clause-some c =
    let inside : c.place_of-place.result < length c.args.spans.now = omega (arith, c.if-place-spans.false, c.place_of-place.ensures.bound) in
    unfiled_there c.args.span.now _ c.args.spans.now c.place_of-place.result c.place_of-place.ensures.place inside (get_or_default _ _ _ _ inside) (sym c.is_same.ensures ∙ c.if-not-is_same.false)
