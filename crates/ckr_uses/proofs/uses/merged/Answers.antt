use Rattle.std.proofs.Common.{◌≡◌, ◌++◌, ◌∷◌, [], true, false, take, sym, ap, ◌∙◌, arith}
use Rattle.std.proofs.lemmas.Grind.{common_steps}
use Rattle.std.specs.List.{list_any}
use Rattle.ckr_uses.specs.Uses.{is_of, use_among}
use Rattle.ckr_uses.proofs.SingleNames.{merged-known, merged-new}
use Rattle.ckr_uses.proofs.uses.merged.Goals as goal
use Rattle.ckr_uses.proofs.uses.merged.Goals.{then-not-is_used+in_ok-push, else-not-is_used}

pub loop-place-preserved : goal.loop-place-preserved
loop-place-preserved c =
    let uses = c.args.uses.now in
    let place = c.loop-place.place in
    let used = c.index-uses-place.result in
    elim c.if-not-is_used.branch [
      | then-not-is_used+in_ok-push w ↦
          let new : list_any (is_of used.name) (take place uses) ≡ false = sym c.is_used.ensures ∙ w.if-not-is_used.true in
          let one : c.if-not-is_used.one ≡ c.loop-place.one ++ use_among uses used.name ∷ [] = grind (arith, common_steps) in
          one ∙ ap (λ before. before ++ use_among uses used.name ∷ []) c.loop-place.invariant ∙ sym (merged-new uses uses place used c.loop-place-test.true c.index-uses-place.is new)
      | else-not-is_used w ↦
          let known : list_any (is_of used.name) (take place uses) ≡ true = sym c.is_used.ensures ∙ w.if-not-is_used.false in
          w.one-is ∙ c.loop-place.invariant ∙ sym (merged-known uses uses place used c.loop-place-test.true c.index-uses-place.is known)
    ]
