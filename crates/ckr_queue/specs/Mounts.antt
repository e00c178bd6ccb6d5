-- The volumes on the units, and those that the step on each initiator has in use.
use Rattle.std.specs.Prelude.{◌≡◌, ℕ, pred, Bool, true, false, List, [], count_by, length, map, replicate, slice_set, Option, None, Some}
use Rattle.std.specs.List.{range_with_len, slice_index_or, AllByRecursion}
use Rattle.std.specs.Option.{option_map, option_map_or}
use Rattle.arrayvec.specs.ArrayVec.{ArrayVec}
use Rattle.ckr_queue.specs.Units.{AreUnits, UnitTable, is_among, is_volume_list, pinned_by}

-- So many units are there, and each carries a volume or none. Of each initiator: the volumes that the step on it has in use, or none where no step
-- has taken its own.
pub record MountTable : Type 0 where
  pub count : ℕ
  pub carried : List (Option ℕ)
  pub held : List (Option (List ℕ))

-- all units are empty, and no volume is in use
abbrev pub no_mounts : ℕ → MountTable
no_mounts count = record { count = count; carried = replicate 16 None; held = replicate 8 None }

-- what the step on an initiator has in use; initiators are numbered from 1
abbrev pub held_at : MountTable → ℕ → Option (List ℕ)
held_at t initiator = slice_index_or t.held (pred initiator) None

abbrev pub uses_it : ℕ → Option (List ℕ) → Bool
uses_it volume held = option_map_or (λ volumes. is_among volumes volume) held false

-- how many steps use each volume
abbrev pub uses_in : List (Option (List ℕ)) → List ℕ
uses_in held = map (λ volume. count_by (uses_it volume) held) (range_with_len 0 32)

-- the units, with these volumes pinned
abbrev pub units_with : List ℕ → MountTable → UnitTable
units_with pinned t = record { count = t.count; carried = t.carried; uses = uses_in t.held; pinned = pinned_by pinned }

-- ---- the changes

-- a volume is mounted on a unit
abbrev pub with_mount : ℕ → ℕ → MountTable → MountTable
with_mount volume unit t = record t { carried = slice_set t.carried unit (Some volume) }

-- the step on an initiator takes these volumes
abbrev pub with_held : ℕ → List ℕ → MountTable → MountTable
with_held initiator volumes t = record t { held = slice_set t.held (pred initiator) (Some volumes) }

-- it gives its own up; they stay on their units
abbrev pub given_up : ℕ → MountTable → MountTable
given_up initiator t = record t { held = slice_set t.held (pred initiator) None }

-- ---- what holds of them

-- what a step has in use is a list of volumes
abbrev pub IsHeldList : Option (List ℕ) → Type 0
IsHeldList held = option_map_or is_volume_list held true ≡ true

-- at most 16 units are there, a volume stands on at most one of them, and each one in use is on a unit; there are eight initiators
pub record AreMounts (t : MountTable) : Type 0 where
  pub units : AreUnits (units_with [] t)
  pub lists : AllByRecursion IsHeldList t.held
  pub eight : length t.held ≡ 8

-- ---- how they are stored

-- units with what is pinned and how many steps use each volume, and for each initiator the list of what the step on it has in use
abbrev pub mounts_of : UnitTable → List (Option (ArrayVec ℕ)) → MountTable
mounts_of units lists = record { count = units.count; carried = units.carried; held = map (option_map (λ (volumes : ArrayVec ℕ). volumes.items)) lists }

-- the uses are those of what is held
pub record IsCounted (units : UnitTable) (lists : List (Option (ArrayVec ℕ))) : Type 0 where
  pub sound : AreMounts (mounts_of units lists)
  pub uses : units.uses ≡ uses_in (mounts_of units lists).held
