-- Whether a checkpoint may be taken, by the name of the checkpoint data set.
use Rattle.std.specs.Prelude.{ℕ, ◌+◌, ◌==◌, ◌&&◌, Bool, false, List}
use Rattle.std.specs.Option.{is_none, option_map_or}
use Rattle.ckr_library.specs.Catalog.{records_of}
use Rattle.ckr_library.specs.NameMaps.{Name, Named, entry_at}
use Rattle.ckr_meaning.specs.EffectiveJob.{OwnedStep}
use Rattle.ckr_points.specs.Follows.{is_length_of}
use Rattle.ckr_points.specs.Restart.{kept_at}
use Rattle.ckr_points.specs.Rows.{TableSet}
use Rattle.ckr_points_library.specs.Commit.{output_names}
use Rattle.ckr_points_tables.specs.Checkpoint.{checkpoint_name}

-- a data set of this length, which doesn't keep the identifier
abbrev pub is_free_at : Named TableSet → Name → Name → ℕ → Bool
is_free_at sets name id place = option_map_or (λ (table : TableSet). place == table.set.length && is_none (kept_at sets name id)) (entry_at sets name) false

abbrev pub is_checkpoint_of : Named TableSet → ℕ → OwnedStep → Name → List ℕ → ℕ → ℕ → Bool
is_checkpoint_of sets root own id lengths place bytes =
    option_map_or (λ name. is_free_at sets name id place && is_length_of name (place + records_of bytes) (output_names root own) lengths) (checkpoint_name root own) false
