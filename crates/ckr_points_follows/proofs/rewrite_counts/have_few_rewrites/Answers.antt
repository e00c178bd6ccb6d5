use Rattle.std.proofs.Common.{sym, ◌∙◌}
use Rattle.ckr_points_follows.proofs.RewriteCounts.{all-few, few-next, many-at}
use Rattle.ckr_points_follows.proofs.rewrite_counts.have_few_rewrites.Goals as goal

pub returns-then-not-are_few : goal.returns-then-not-are_few
returns-then-not-are_few c =
    many-at c.args.tables.now.desk.sets c.loop-place.place c.in-Some.rewrites c.in-Some.ensures (sym c.are_few.ensures ∙ c.if-not-are_few.true) c.loop-place.invariant

pub returns-in-None : goal.returns-in-None
returns-in-None c = all-few c.args.tables.now.desk.sets c.loop-place.place c.in-None.ensures c.loop-place-test.true c.loop-place.invariant

pub loop-place-preserved : goal.loop-place-preserved
loop-place-preserved c =
    few-next c.args.tables.now.desk.sets c.loop-place.place c.in-Some.rewrites c.in-Some.ensures (sym c.are_few.ensures ∙ c.if-not-are_few.false) c.loop-place.invariant
