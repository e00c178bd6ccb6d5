-- Events by which a run goes back to a point.
use Rattle.std.specs.Prelude.{◌≡◌, zero, suc, Bool, true, false, not, List}
use Rattle.std.specs.List.{list_all}
use Rattle.ckr_events.specs.declared.event.Event.{Event}
use Rattle.ckr_events.specs.declared.event.Event.TheVariants.{Restarted, Selected}
use Rattle.ckr_points.specs.Restart.{Decked}

-- a run is restarted, or begins where an earlier one had come
abbrev pub goes_back : Event → Bool
goes_back (Selected job initiator zero step id) = false
goes_back (Selected job initiator (suc before) step id) = true
goes_back (Restarted job initiator code checkpoint) = true
goes_back _ = false

abbrev pub NoneGoesBack : List Decked → Type 0
NoneGoesBack events = list_all (λ event. not (goes_back event.0)) events ≡ true
