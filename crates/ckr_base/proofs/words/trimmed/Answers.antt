use Rattle.std.proofs.Common.{◌∙◌, sym, ap}
use Rattle.ckr_base.specs.Words.{trimmed}
use Rattle.ckr_base.proofs.Trims.{trimmed-blank, trimmed-kept}
use Rattle.ckr_base.proofs.words.trimmed.Goals as goal

pub returns-then-not-is_blank : goal.returns-then-not-is_blank
returns-then-not-is_blank c =
    let whole = c.in-Some.ensures.cases.0 in
    let kept = trimmed-kept c.in-Some.front.now c.in-Some.last.now (sym c.is_blank.ensures ∙ c.if-not-is_blank.true) in
    (whole ∙ sym kept ∙ ap trimmed (sym whole)) ∙ c.loop-last.invariant

pub loop-last-preserved : goal.loop-last-preserved
loop-last-preserved c =
    let whole = c.in-Some.ensures.cases.0 in
    let dropped = trimmed-blank c.in-Some.front.now c.in-Some.last.now (sym c.is_blank.ensures ∙ c.if-not-is_blank.false) in
    sym (ap trimmed whole ∙ dropped) ∙ c.loop-last.invariant
