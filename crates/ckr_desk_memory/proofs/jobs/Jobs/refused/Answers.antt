use Rattle.std.proofs.Common.{pred, slice_get}
use Rattle.ckr_jcl.specs.declared.deck.Dd.{Dd}
use Rattle.ckr_desk_memory.proofs.Plans.{refused-is, viewed-none}
use Rattle.ckr_desk_memory.proofs.jobs.Jobs.refused.Goals as goal

pub unreachable-requires : goal.unreachable-requires
unreachable-requires c =
    let has = c.requires.dd in
    viewed-none (λ (one : Dd). one.name) (slice_get has.own.step.dds (pred c.args.refusal.dd)) has.there (c.in_default.ensures has.row has.own has.found has.step_is)

pub returns-clause-plan : goal.returns-clause-plan
returns-clause-plan c = λ row own at step number name.
    refused-is row own c.args.refusal.dd c.args.refusal.cause c.args.job c.args.name c.in-Some.dd c.allocation_event.result number name (c.in-Some.ensures row own at step) c.allocation_event.ensures.event
