-- Whether a record of MASTER may be rewritten, by the name of its data set.
use Rattle.std.specs.Prelude.{ℕ, Bool, false, ◌&&◌, ◌==◌, nat_lt, List, length}
use Rattle.std.specs.Option.{option_map_or}
use Rattle.ckr_library.specs.NameMaps.{Name, Named, entry_at}
use Rattle.ckr_meaning.specs.EffectiveJob.{OwnedStep}
use Rattle.ckr_points.specs.Follows.{is_update}
use Rattle.ckr_points.specs.Rows.{TableSet}
use Rattle.ckr_points_tables.specs.Rewrite.{master_name}

-- a record at this place, and records as long as the image
abbrev pub is_place_of : Named TableSet → Name → ℕ → List ℕ → Bool
is_place_of sets name place image = option_map_or (λ (table : TableSet). nat_lt place table.set.length && length image == table.set.lrecl) (entry_at sets name) false

abbrev pub is_rewrite_of : Named TableSet → ℕ → OwnedStep → ℕ → List ℕ → Bool
is_rewrite_of sets root own place image = is_update own.step.program && option_map_or (λ name. is_place_of sets name place image) (master_name root own) false
