use Rattle.std.proofs.Common.{◌≡◌, drop, map}
use Rattle.std.specs.Option.{option_copied, option_map}
use Rattle.ckr_points_tables.specs.View.{find_last, is_entry, later_or}
use Rattle.ckr_points_runs.specs.View.{writing_of}
use Rattle.ckr_points_tables.proofs.restart.written_at.Given as goal

abbrev pub invariant-loop-entry : goal.invariant-loop-entry
invariant-loop-entry l =
    later_or (find_last (is_entry l.set l.kept) (map writing_of (drop l.entry-index l.entries))) (option_map writing_of (option_copied l.found))
    ≡ find_last (is_entry l.set l.kept) (map writing_of l.entries)
