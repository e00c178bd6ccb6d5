use Rattle.std.proofs.Common.{None, Some}
use Rattle.ckr_points_follows.proofs.RewriteCounts.{counted-at, none-at}
use Rattle.ckr_points_follows.proofs.rewrite_counts.rewrites_at.Goals as goal

pub returns-in-Some-get : goal.returns-in-Some-get
returns-in-Some-get c =
    counted-at c.library-library.result.now.sets c.args.tables.now.desk.sets c.library-library.ensures.sets c.in-Some.ensures.order c.args.place c.in-Some.name.now c.in-Some.ensures.name (Some c.in-Some-get.set.now) c.in-Some-get.ensures

pub returns-in-None-get : goal.returns-in-None-get
returns-in-None-get c =
    counted-at c.library-library.result.now.sets c.args.tables.now.desk.sets c.library-library.ensures.sets c.in-Some.ensures.order c.args.place c.in-Some.name.now c.in-Some.ensures.name None c.in-None-get.ensures

pub returns-in-None : goal.returns-in-None
returns-in-None c =
    none-at c.library-library.result.now.sets c.args.tables.now.desk.sets c.library-library.ensures.sets c.args.place c.in-None.ensures.name
