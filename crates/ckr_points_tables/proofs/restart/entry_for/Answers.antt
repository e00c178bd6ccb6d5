use Rattle.std.proofs.Common.{ap, sym, ◌∙◌, map}
use Rattle.std.specs.Option.{option_copied}
use Rattle.ckr_points_tables.specs.View.{find_last, is_entry}
use Rattle.ckr_points_runs.specs.View.{writing_of}
use Rattle.ckr_points_tables.proofs.Restarts.Pieces.{entry-absent, entry-there}
use Rattle.ckr_points_tables.proofs.restart.entry_for.Goals as goal

pub returns-in-Some : goal.returns-in-Some
returns-in-Some c =
    entry-there c.args.writings.now c.args.set.now c.args.kept.now c.if-kept-eq0.false c.in-Some.entries.now (sym c.in-Some.ensures) (option_copied c.written_at.result)
    (c.written_at.ensures ∙ ap (λ all. find_last (is_entry c.args.set.now c.args.kept.now) (map writing_of all)) c.as_slice.ensures)

pub returns-in-None : goal.returns-in-None
returns-in-None c = entry-absent c.args.writings.now c.args.set.now c.args.kept.now c.if-kept-eq0.false (sym c.in-None.ensures)
