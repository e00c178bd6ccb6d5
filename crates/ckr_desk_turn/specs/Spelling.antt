-- Which events can be kept: those that have a spelling, which is short.
use Rattle.std.specs.Prelude.{◌≤◌, length}
use Rattle.ckr_base.specs.CodeText.{number_of}
use Rattle.ckr_base.specs.declared.code.Code.{Code}
use Rattle.ckr_events.specs.declared.event.Event.{Event}
use Rattle.ckr_events.specs.Event.{IsEvent, IsCounted, IsSmall, spelling}

-- a short event has its one spelling
pub record IsSpelled (told : Event) : Type 0 where
  pub event : IsEvent told
  pub counted : IsCounted told
  pub small : IsSmall told
  pub short : length (spelling told) ≤ 4096

-- three hexadecimal digits, or four decimal ones up to 4095
abbrev pub IsCode : Code → Type 0
IsCode code = number_of code ≤ 4095
