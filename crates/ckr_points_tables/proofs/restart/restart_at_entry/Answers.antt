use Rattle.std.proofs.Common.{◌≡◌, Some, map, ap, sym, ◌∙◌}
use Rattle.std.specs.Option.{option_copied, option_map}
use Rattle.ckr_points_tables.specs.Restart.{point_written}
use Rattle.ckr_points_runs.specs.RunChange.{going}
use Rattle.ckr_points_runs.specs.View.{effect_of, facts_of, written_of}
use Rattle.ckr_points_tables.proofs.Restarts.Pieces.{entry-with-kept}
use Rattle.ckr_points_tables.proofs.restart.restart_at_entry.Goals as goal

pub returns : goal.returns
returns c =
    let now = going c.args.line.now (facts_of c.args.table.now) c.args.library.now.sets in
    let effect = effect_of c.in-Some.effect in
    let in_effect : now.facts.in_effect ≡ Some effect = ap (option_map effect_of) c.in-Some.is in
    c.restart_at_point.ensures effect in_effect
    ∙ entry-with-kept (map written_of c.args.writings.now) now c.args.step c.args.initiator effect in_effect c.in-Some-kept_under.kept.now (sym c.in-Some-kept_under.ensures)
    (point_written (option_copied c.entry_for-point.result)) c.entry_for-point.ensures
