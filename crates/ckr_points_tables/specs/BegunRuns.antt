-- Where the runs that have begun stand: behind some that have ended, and before some that wait as they were submitted.
use Rattle.std.specs.Prelude.{◌≡◌, ℕ, zero, suc, Bool, true, false, List, [], ◌∷◌}
use Rattle.ckr_points.specs.declared.run.Run.{Run}
use Rattle.ckr_points.specs.declared.run.RunState.{RunState}
use Rattle.ckr_points.specs.declared.run.RunState.TheVariants.{Queued, Ended, Denied, Purged}

-- whether a run in this state has ended: no event brings it further
abbrev pub is_over : RunState → Bool
is_over Ended = true
is_over Denied = true
is_over Purged = true
is_over _ = false

-- so many runs, from the first one on, have ended
abbrev pub AreEnded : ℕ → List Run → Type 0
AreEnded zero lines = Unit {0}
AreEnded (suc count) [] = ⊥
AreEnded (suc count) (line ∷ lines) = (is_over line.state ≡ true) × AreEnded count lines

-- the runs behind so many wait in the queue
abbrev pub AreWaiting : ℕ → List Run → Type 0
AreWaiting count [] = Unit {0}
AreWaiting zero (line ∷ lines) = (line.state ≡ Queued) × AreWaiting zero lines
AreWaiting (suc count) (line ∷ lines) = AreWaiting count lines
