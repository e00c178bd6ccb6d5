-- Whether the uses of one run hold against those of another, by its number.
use Rattle.std.specs.Prelude.{ℕ, Bool, false, not, ◌&&◌}
use Rattle.std.specs.Option.{option_map_or}
use Rattle.ckr_uses.specs.Uses.{holds, uses_of}
use Rattle.ckr_points.specs.declared.run.Run.{Run}
use Rattle.ckr_points.specs.Office.{is_holder}
use Rattle.ckr_points.specs.Rows.{RunRow, TablesModel, run_of}

abbrev pub holds_beside : TablesModel → RunRow → ℕ → Bool
holds_beside tables row number =
    option_map_or (λ (other : RunRow). holds (uses_of row.number row.deck) (uses_of other.number other.deck)) (run_of tables number) false

-- whether a run may be selected beside the run of a line
abbrev pub may_be_beside : TablesModel → RunRow → Run → Bool
may_be_beside tables row line = not (is_holder line.state && holds_beside tables row line.number)
