-- Lines that are told: what waits to be written, and what the sink has of them.
use Rattle.std.specs.Prelude.{◌≡◌, ◌≤◌, ℕ, Bool, true, false, List, ◌++◌, Option}
use Rattle.std.specs.Io.KnownBytes.{Appends}
use Rattle.ckr_outside.specs.Faults.{Rose}
use Rattle.ckr_outside.specs.Front.{AppendsFront}
use Rattle.ckr_session.specs.declared.lines.Lines.{Lines}
use Rattle.ckr_session.specs.declared.stop.Halt.{Halt}
use Rattle.ckr_session.specs.declared.stop.Halt.TheVariants as Halts

-- the text that waits, whether a write has failed, what is written and how often the sink had failed
pub record Telling : Type 0 where
  pub waits : List ℕ
  pub failed : Bool
  pub written : Option (List ℕ)
  pub faults : ℕ

abbrev pub telling : Lines → Option (List ℕ) → ℕ → Telling
telling lines written faults = record { waits = lines.text; failed = lines.failed; written = written; faults = faults }

-- what was told is written but what waits; or a write has failed, and a front of it is written
abbrev pub ToldBy : Bool → Telling → List ℕ → Telling → Type 0
ToldBy false from told to = (front : List ℕ) × (told ≡ front ++ to.waits) × Appends from.written to.written front
ToldBy true from told to = Rose from.faults to.faults × AppendsFront from.written to.written told

-- from one moment to another this was told, with what waited at the first
pub record IsTold (from : Telling) (told : List ℕ) (to : Telling) : Type 0 where
  pub by : ToldBy to.failed from told to

-- this was told meanwhile, and it is so
pub record TellsSo (So : List ℕ → Type 0) (from to : Telling) : Type 0 where
  pub told : List ℕ
  pub so : So told
  pub is : IsTold from told to

-- what is told where the serving stopped: it isn't known where memory ran out, and then a front of the whole is written
abbrev pub EndsTold : Halt → Telling → List ℕ → List ℕ → Telling → Type 0
EndsTold Halts.Memory from whole told to = AppendsFront from.written to.written whole
EndsTold Halts.Book from whole told to = IsTold from told to
EndsTold Halts.Disk from whole told to = IsTold from told to

-- the serving stopped, and this was told meanwhile
pub record HaltsTold (halt : Halt) (So : List ℕ → List (List ℕ) → List (List ℕ) → Type 0) (whole : List ℕ) (from to : Telling) (came kept : List (List ℕ)) : Type 0 where
  pub told : List ℕ
  pub so : So told came kept
  pub ends : EndsTold halt from whole told to

-- ---- what is written in the end

-- all that was told is written, from wherever it is counted
abbrev pub WritesAll : Telling → Option (List ℕ) → Type 0
WritesAll to new = (from : Telling) (told : List ℕ) → from.faults ≤ to.faults → IsTold from told to → Appends from.written new told

-- a front of it is
abbrev pub WritesFront : Telling → Option (List ℕ) → Type 0
WritesFront to new = (from : Telling) (told : List ℕ) → from.faults ≤ to.faults → IsTold from told to → AppendsFront from.written new told

-- a write has failed, from wherever the faults are counted
abbrev pub FailsBy : Telling → ℕ → Type 0
FailsBy to now = (before : ℕ) → before ≤ to.faults → (to.failed ≡ true → Rose before to.faults) → Rose before now
