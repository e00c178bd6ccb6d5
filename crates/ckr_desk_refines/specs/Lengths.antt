-- The length that a data set has by now, by the running steps in memory.
use Rattle.std.specs.Prelude.{ℕ, max, List, [], ◌∷◌}
use Rattle.ckr_desk_memory.specs.View.{RunningStepView, length_in}
use Rattle.ckr_library.specs.declared.sets.Content.{Content}
use Rattle.ckr_library.specs.declared.sets.Content.TheVariants.{Plain, Checkpoints}
use Rattle.ckr_library.specs.declared.sets.DataSet.{DataSet}
use Rattle.ckr_library.specs.NameMaps.{Name}

-- the greatest of a length and of those that the running steps have under a name
abbrev pub longest_seen : Name → List RunningStepView → ℕ → ℕ
longest_seen name [] most = most
longest_seen name (on ∷ seen) most = longest_seen name seen (max most (length_in on.sets.sets name))

abbrev pub length_seen : Content → List RunningStepView → Name → ℕ → ℕ
length_seen Plain seen name committed = longest_seen name seen committed
length_seen Checkpoints seen name committed = committed

abbrev pub line_seen : List RunningStepView → Name → DataSet → Name × DataSet
line_seen seen name set = (name, record set { length = length_seen set.content seen name set.length })
