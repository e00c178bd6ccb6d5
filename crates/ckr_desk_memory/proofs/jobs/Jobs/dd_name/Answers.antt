use Rattle.std.proofs.Common.{◌≡◌, Some, ap, pred, slice_get, sym, ◌∙◌}
use Rattle.std.specs.Option.{option_map}
use Rattle.ckr_base.proofs.Options.{some-not-none}
use Rattle.ckr_jcl.specs.declared.deck.Dd.{Dd}
use Rattle.ckr_meaning.specs.EffectiveJob.{OwnedStep}
use Rattle.ckr_points_tables.specs.RunJobs.{own_of}
use Rattle.ckr_desk_memory.proofs.Starts.Steps.{none-starts, owned-is}
use Rattle.ckr_desk_memory.proofs.jobs.Jobs.dd_name.Goals as goal

pub returns-in_err-table : goal.returns-in_err-table
returns-in_err-table c row own at there = absurd (some-not-none row (sym at ∙ c.in_err-table.ensures.none))

pub returns-in_err-own : goal.returns-in_err-own
returns-in_err-own c row own at there =
    none-starts c.args.self.now.tables.desk c.args.job c.in_ok-table.table.now c.in_ok-table.ensures.some c.args.number c.in_err-own.ensures.step row own at there

pub returns-in_err-found : goal.returns-in_err-found
returns-in_err-found c row own at there =
    let is : own ≡ own_of c.in_ok-own.own = owned-is c.args.self.now.tables.desk c.args.job c.in_ok-table.table.now c.in_ok-table.ensures.some c.args.number c.in_ok-own.own c.in_ok-own.ensures.step row own at there in
    c.from_residual-in_err-found.ensures
    ∙ ap (option_map (λ (one : Dd). one.name)) (c.in_err-found.ensures ∙ ap (λ dds. slice_get dds (pred c.args.dd)) c.as_slice.ensures)
    ∙ ap (λ (o : OwnedStep). option_map (λ (one : Dd). one.name) (slice_get o.step.dds (pred c.args.dd))) (sym is)

pub returns : goal.returns
returns c row own at there =
    let is : own ≡ own_of c.in_ok-own.own = owned-is c.args.self.now.tables.desk c.args.job c.in_ok-table.table.now c.in_ok-table.ensures.some c.args.number c.in_ok-own.own c.in_ok-own.ensures.step row own at there in
    ap Some c.copied.ensures
    ∙ ap (option_map (λ (one : Dd). one.name)) (c.in_ok-found.ensures ∙ ap (λ dds. slice_get dds (pred c.args.dd)) c.as_slice.ensures)
    ∙ ap (λ (o : OwnedStep). option_map (λ (one : Dd). one.name) (slice_get o.step.dds (pred c.args.dd))) (sym is)
