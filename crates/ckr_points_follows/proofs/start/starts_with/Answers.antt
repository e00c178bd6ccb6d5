use Rattle.std.proofs.Common.{◌&&◌, ap, sym, ◌∙◌}
use Rattle.ckr_meaning.specs.EffectiveJob.{flaws_in, placed_in, stamp_of}
use Rattle.ckr_points.specs.Follows.{are_items, is_empty, may_start}
use Rattle.ckr_points.specs.Rows.{standing_of, table_ways}
use Rattle.ckr_points_deferred.specs.Runs.{row_now}
use Rattle.ckr_points_tables.specs.RunJobs.{own_of}
use Rattle.ckr_points_follows.proofs.start.starts_with.Goals as goal

pub returns-then-may_start : goal.returns-then-may_start
returns-then-may_start c =
    let desk = c.args.tables.now.desk in
    let own = own_of c.args.own.now in
    let stamp = stamp_of own c.args.step in
    let placed = placed_in table_ways (standing_of (row_now c.args.run.now) desk) c.args.run.now.table.now.job.root own in
    c.makes_items.ensures stamp
    ∙ ap (λ b. (b && is_empty (flaws_in placed)) && are_items c.args.layout.now stamp desk.sets placed c.args.items.now)
    (sym c.if-may_start.true ∙ c.may_start.ensures ∙ ap (may_start c.args.step) c.place_of.ensures)

pub returns-else-may_start : goal.returns-else-may_start
returns-else-may_start c =
    let desk = c.args.tables.now.desk in
    let own = own_of c.args.own.now in
    let stamp = stamp_of own c.args.step in
    let placed = placed_in table_ways (standing_of (row_now c.args.run.now) desk) c.args.run.now.table.now.job.root own in
    c.if-may_start.false
    ∙ ap (λ b. (b && is_empty (flaws_in placed)) && are_items c.args.layout.now stamp desk.sets placed c.args.items.now)
    (sym c.if-may_start.false ∙ c.may_start.ensures ∙ ap (may_start c.args.step) c.place_of.ensures)
