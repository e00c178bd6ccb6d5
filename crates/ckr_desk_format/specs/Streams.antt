-- A source that is read to its end.
use Rattle.std.specs.Prelude.{◌≡◌, ◌≤◌, ℕ, Bool, ◌==◌, List, length, Option}
use Rattle.std.specs.Io.KnownBytes.{Consumes, IsAtEnd}
use Rattle.ckr_outside.specs.Faults.{Rose}
use Rattle.ckr_desk_format.specs.declared.stream.StreamStop.{StreamStop}
use Rattle.ckr_desk_format.specs.declared.stream.StreamStop.TheVariants.{Source, Memory, Limit}

abbrev pub is_line_end : ℕ → Bool
is_line_end byte = byte == 10

-- the source gave all of its bytes, and they are no more than a stream may have
pub record TookAll (left rest : Option (List ℕ)) (all : List ℕ) : Type 0 where
  pub given : Consumes left rest all
  pub end : IsAtEnd rest
  pub few : length all ≤ 16_777_216

-- the source gave one byte more than a stream may have
pub record TookTooMany (left rest : Option (List ℕ)) : Type 0 where
  pub taken : List ℕ
  pub given : Consumes left rest taken
  pub many : length taken ≡ 16_777_217

-- the source gave no more than a stream may have
pub record TookSome (left rest : Option (List ℕ)) : Type 0 where
  pub taken : List ℕ
  pub given : Consumes left rest taken
  pub few : length taken ≤ 16_777_216

-- why the source wasn't read to its end, and what it gave
abbrev pub StoppedBy : StreamStop → ℕ → ℕ → Option (List ℕ) → Option (List ℕ) → Type 0
StoppedBy Source before now left rest = Rose before now × TookSome left rest
StoppedBy Memory before now left rest = TookSome left rest
StoppedBy Limit before now left rest = TookTooMany left rest
