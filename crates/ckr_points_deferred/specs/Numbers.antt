-- The number of a step by its name.
use Rattle.std.specs.Prelude.{ℕ, suc, pred, ◌+◌, Bool, drop, position}
use Rattle.std.specs.Option.{option_map_or}
use Rattle.ckr_library.specs.NameMaps.{Name, same_name}
use Rattle.ckr_meaning.specs.EffectiveJob.{Effective, OwnedStep}

abbrev pub has_step_name : Name → OwnedStep → Bool
has_step_name name owned = same_name owned.step.name name

-- the number of the step of that name among those from a number on, or 0
abbrev pub number_from : Effective → Name → ℕ → ℕ
number_from job name number =
    option_map_or (λ place. suc (pred number + place)) (position (has_step_name name) (drop (pred number) job.steps)) 0
