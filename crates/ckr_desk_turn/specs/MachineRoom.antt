-- What the machine room has, and what becomes of the volumes that a step wants.
use Rattle.std.specs.Prelude.{◌≡◌, ◌≤◌, ℕ, nat_lt, Bool, IsTrue, true, false, List, [], ◌∷◌, length, Option}
use Rattle.std.specs.List.{list_all}
use Rattle.ckr_console.specs.Answering.{Answering}
use Rattle.ckr_desk_turn.specs.Mounts.{Attempt, asked_for, mounted_all, not_taken}
use Rattle.ckr_desk_turn.specs.declared.taking.Taking.{Taking}
use Rattle.ckr_desk_turn.specs.declared.taking.Taking.TheVariants.{Taken}
use Rattle.ckr_queue.specs.Mounts.{MountTable, given_up, no_mounts, units_with}
use Rattle.ckr_queue.specs.Units.{are_mounted, need_of}
use Rattle.ckr_volumes.specs.declared.layout.Layout.{Layout}

-- what the operator in office answers, or None where nobody is in office, and the volumes on the units
pub record MachineRoomView : Type 0 where
  pub operator : Option Answering
  pub mounts : MountTable

-- at the opening of a desk: this operator is in office, and all units are empty
abbrev pub room_at_first : Layout → Option Answering → MachineRoomView
room_at_first layout operator = record { operator = operator; mounts = no_mounts layout.units }

-- the machine room behind the questions for a step's volumes; nothing is taken yet
abbrev pub behind_attempt : Attempt → MachineRoomView
behind_attempt attempt = record { operator = attempt.operator; mounts = attempt.mounts }

-- all of these are volumes of the layout
abbrev pub are_there : Layout → List ℕ → Bool
are_there layout volumes = list_all (λ volume. nat_lt volume (length layout.volumes.items)) volumes

-- the volumes need no more units than there are, and no more than are free
pub record FitsUnits (layout : Layout) (volumes : List ℕ) (room : MachineRoomView) : Type 0 where
  pub units : length volumes ≤ layout.units
  pub free : (need_of (units_with [] room.mounts) volumes).need ≤ (need_of (units_with [] room.mounts) volumes).free

-- nobody is to be asked: this has become of the volumes, and the machine room is as it was; where they are taken all of them are on units
pub record NeedsNoQuestion (layout : Layout) (volumes : List ℕ) (room : MachineRoomView) (taking : Taking) : Type 0 where
  pub taking_is : (asked_for layout volumes room.mounts room.operator).taking ≡ taking
  pub same : behind_attempt (asked_for layout volumes room.mounts room.operator) ≡ room
  pub mounted : taking ≡ Taken → IsTrue (are_mounted (units_with [] room.mounts) volumes)

-- One volume was asked for, and those behind it are to be: where it is on a unit now they are asked for from there on, and else nothing more is asked.
abbrev pub IsAskedFor : Layout → List ℕ → ℕ → List ℕ → MachineRoomView → MachineRoomView → Taking → Type 0
IsAskedFor layout volumes volume rest old new Taken =
    mounted_all layout volumes (volume ∷ rest) old.mounts old.operator ≡ mounted_all layout volumes rest new.mounts new.operator
IsAskedFor layout volumes volume rest old new taking =
    mounted_all layout volumes (volume ∷ rest) old.mounts old.operator ≡ not_taken taking new.mounts new.operator

-- behind a turn the step on an initiator gives its volumes up, or keeps them
abbrev pub given_up_if : Bool → ℕ → MachineRoomView → MachineRoomView
given_up_if true initiator room = record room { mounts = given_up initiator room.mounts }
given_up_if false initiator room = room
