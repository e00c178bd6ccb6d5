use Rattle.std.proofs.Common.{◌∙◌}
use Rattle.ckr_library.specs.Spread.{spread_on}
use Rattle.ckr_points_clearance.specs.Stretches.{stretch_now}
use Rattle.ckr_points_clearance.proofs.Starts.Spans.{clear-none, clear-some, spread-clears}
use Rattle.ckr_points_clearance.proofs.clearance.is_clear_of_sets.Goals as goal

pub returns-then-stretch-eq0 : goal.returns-then-stretch-eq0
returns-then-stretch-eq0 c =
    let one = stretch_now c.args.stretch.now in
    clear-none c.args.lrecl one (spread_on one.volume c.library-library.result.now.sets) c.if-stretch-eq0.true
    ∙ spread-clears c.library-library.result.now.sets c.args.tables.now.desk.sets c.library-library.ensures.sets c.args.lrecl one c.library-library.ensures.wide

pub returns-else-stretch-eq0 : goal.returns-else-stretch-eq0
returns-else-stretch-eq0 c =
    let one = stretch_now c.args.stretch.now in
    clear-some c.args.lrecl one (spread_on one.volume c.library-library.result.now.sets) c.if-stretch-eq0.false c.bytes_in.result c.bytes_in.ensures.value c.is_free.result c.is_free.ensures
    ∙ spread-clears c.library-library.result.now.sets c.args.tables.now.desk.sets c.library-library.ensures.sets c.args.lrecl one c.library-library.ensures.wide
