use Rattle.std.proofs.Common.{◌≡◌, ◌-◌, ◌∷◌, length, take, drop, ◌∙◌, ap, arith}
use Rattle.ckr_cards.specs.Field.{parts_of_field}
use Rattle.ckr_cards.proofs.Operands.{first_length, part_before, operands_more, tidy_more}
use Rattle.ckr_cards.proofs.operand.read_parts.Goals as goal

pub loop-read-preserved : goal.loop-read-preserved
loop-read-preserved c =
    let front : c.split_at.result.0.now ≡ take (first_length c.loop-read.rest.now) c.loop-read.rest.now =
    c.split_at.ensures.front ∙ ap (λ n. take n c.loop-read.rest.now) c.first_part_length.ensures.value in
    let back : c.split_at.result.1.now ≡ drop (first_length c.loop-read.rest.now) c.loop-read.rest.now =
    c.split_at.ensures.back ∙ ap (λ n. drop n c.loop-read.rest.now) c.first_part_length.ensures.value in
    let parts : parts_of_field c.loop-read.rest.now ≡ c.split_at.result.0.now ∷ parts_of_field (take (length c.split_at.result.1.now - 1) (drop 1 c.split_at.result.1.now)) =
    part_before c.loop-read.rest.now c.split_at.result.0.now c.split_at.result.1.now front back (omega arith) in (
      operands_more _ _ _ _ _ c.split_at.result.0.now c.loop-read.invariant.0 parts c.in_ok-add.ensures.operands,
      tidy_more _ _ _ _ _ c.split_at.result.0.now c.loop-read.invariant.1 parts c.in_ok-add.ensures.tidy,
    )
