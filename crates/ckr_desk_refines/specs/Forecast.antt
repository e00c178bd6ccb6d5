-- An event that is foretold before its unit is done: the one that is told then is like it, with other numbers of records.
use Rattle.std.specs.Prelude.{◌≡◌, ◌==◌, ℕ, Bool, true, false, length, Option, Some}
use Rattle.ckr_events.specs.declared.event.Event.{Event}
use Rattle.ckr_events.specs.declared.event.Event.TheVariants.{Rewritten, Restarted, Held, Ended}
use Rattle.ckr_events.specs.Event.{spelling}

abbrev pub is_rewrite_of : ℕ → Event → Bool
is_rewrite_of run (Rewritten job taken writes lengths place image) = run == job
is_rewrite_of run _ = false

abbrev pub is_end_of : ℕ → Event → Bool
is_end_of run (Ended job ending) = run == job
is_end_of run _ = false

abbrev pub is_hold_of : ℕ → Event → Bool
is_hold_of run (Held job code writes lengths) = run == job
is_hold_of run _ = false

abbrev pub is_restart_of : ℕ → Event → Bool
is_restart_of run (Restarted job initiator code checkpoint) = run == job
is_restart_of run _ = false

-- both events are rewrites of one run, or ends, holds or restarts of one
abbrev pub is_like : Event → Event → Bool
is_like (Rewritten job taken writes lengths place image) told = is_rewrite_of job told
is_like (Restarted job initiator code checkpoint) told = is_restart_of job told
is_like (Held job code writes lengths) told = is_hold_of job told
is_like (Ended job ending) told = is_end_of job told
is_like _ told = false

-- the event that is told is like the one that was foretold, and has as many bytes
pub record IsAsForetold (foretold told : Event) : Type 0 where
  pub like : is_like foretold told ≡ true
  pub long : length (spelling told) ≡ length (spelling foretold)

-- there is such an event
pub record IsTold (foretold : Event) (event : Option Event) : Type 0 where
  pub told : Event
  pub is : event ≡ Some told
  pub so : IsAsForetold foretold told
