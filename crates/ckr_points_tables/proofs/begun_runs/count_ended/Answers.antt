use Rattle.std.proofs.Common.{◌≡◌, length, suc, ◌+◌, arith, subst, sym, ◌∙◌}
use Rattle.ckr_points_tables.specs.BegunRuns.{AreEnded}
use Rattle.ckr_points_tables.proofs.BegunRuns.{ended-length, ended-next}
use Rattle.ckr_points_tables.proofs.begun_runs.count_ended.Goals as goal

pub loop-place-preserved : goal.loop-place-preserved
loop-place-preserved c =
    let next : suc c.loop-place.place ≡ c.loop-place.place + 1 = omega arith in
    subst (λ count. AreEnded count c.args.lines.now) next
    (ended-next c.loop-place.place c.args.lines.now _ c.loop-place-test.true (sym c.is_over.ensures ∙ c.if-not-is_over.false) c.loop-place.invariant)

pub returns : goal.returns
returns c =
    let within = ended-length c.loop-place.place c.args.lines.now c.loop-place.invariant in
    let same : c.loop-place.place ≡ length c.args.lines.now = omega arith in
    subst (λ count. AreEnded count c.args.lines.now) same c.loop-place.invariant
