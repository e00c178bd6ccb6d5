use Rattle.std.proofs.Common.{arith, sym, ◌∙◌}
use Rattle.std.proofs.lemmas.Bool.{true≢false}
use Rattle.ckr_desk_memory.proofs.Rooms.{prepared-for}
use Rattle.ckr_desk_memory.proofs.jobs.Jobs.prepare_answers.Goals as goal

pub returns-then-not-checkpoint-clause-ok : goal.returns-then-not-checkpoint-clause-ok
returns-then-not-checkpoint-clause-ok c =
    prepared-for _ c.args.inquiry.now c.is_some-checkpoint.result _ c.is_some-checkpoint.ensures c.in_ok-room_for_answers.ensures.restart c.in_ok-room_for_answers.ensures.end
    (λ is. absurd (true≢false (sym is ∙ c.if-not-checkpoint.true)))

pub returns-clause-ok : goal.returns-clause-ok
returns-clause-ok c =
    prepared-for _ c.args.inquiry.now c.is_some-checkpoint.result _ c.is_some-checkpoint.ensures c.in_ok-room_for_answers.ensures.restart c.in_ok-room_for_answers.ensures.end
    (λ is. record { room = omega (arith, c.in_ok-reserve.ensures.ok); empty = c.in_ok-step.ensures.empty; step = c.in_ok-step.ensures.step })
