-- The units: which volume each carries, and which volumes running steps use.
use Rattle.std.specs.Prelude.{◌≡◌, ◌↔◌, ℕ, ◌+◌, ◌-◌, ◌≤◌, ◌==◌, ◌&&◌, nat_lt, Bool, IsTrue, true, false, not, if◌then◌else◌, List, [], ◌∷◌, replicate, count_by, take, fold, slice_set, slice_index, position, is_none, Option, None, Some}
use Rattle.std.specs.List.{list_all, list_any, slice_index_or}
use Rattle.ckr_queue.specs.declared.units.Need.{Need}

-- the first `count` units are there; each carries a volume or none. Of each volume: how many running steps use it, and
-- whether it is pinned
pub record UnitTable : Type 0 where
  pub count : ℕ
  pub carried : List (Option ℕ)
  pub uses : List ℕ
  pub pinned : List Bool

abbrev pub no_units : ℕ → UnitTable
no_units count = record { count = count; carried = replicate 16 None; uses = replicate 32 0; pinned = replicate 32 false }

-- what the units that are there carry
abbrev pub units_in : UnitTable → List (Option ℕ)
units_in t = take t.count t.carried

-- ---- lists of volumes

-- numbers below 32 that ascend, each standing once
abbrev pub is_volume_list : List ℕ → Bool
is_volume_list [] = true
is_volume_list (volume ∷ rest) = nat_lt volume 32 && (list_all (nat_lt volume) rest && is_volume_list rest)

abbrev pub is_used : List ℕ → ℕ → Bool
is_used uses volume = nat_lt 0 (slice_index uses volume)

abbrev pub is_pinned : List Bool → ℕ → Bool
is_pinned pinned volume = slice_index_or pinned volume false

-- no volume has as many uses as can be counted
abbrev pub are_below_255 : List ℕ → List ℕ → Bool
are_below_255 uses = list_all (λ volume. nat_lt (slice_index uses volume) 255)

abbrev pub are_used : List ℕ → List ℕ → Bool
are_used uses = list_all (is_used uses)

abbrev pub is_among : List ℕ → ℕ → Bool
is_among volumes volume = list_any (λ other. other == volume) volumes

-- ---- units

abbrev pub is_carried : ℕ → Option ℕ → Bool
is_carried volume None = false
is_carried volume (Some carried) = carried == volume

-- the unit carries no volume in use
abbrev pub is_free : List ℕ → Option ℕ → Bool
is_free uses None = true
is_free uses (Some volume) = not (is_used uses volume)

-- the unit carries a volume that is neither in use nor pinned
abbrev pub may_give_way : List ℕ → List Bool → Option ℕ → Bool
may_give_way uses pinned None = false
may_give_way uses pinned (Some volume) = not (is_used uses volume) && not (is_pinned pinned volume)

abbrev pub is_mounted : UnitTable → ℕ → Bool
is_mounted t volume = list_any (is_carried volume) (units_in t)

abbrev pub are_mounted : UnitTable → List ℕ → Bool
are_mounted t = list_all (is_mounted t)

-- what holds of the units at any time: at most 16 are there, a volume stands on at most one of them, and each one in use is
-- on a unit
pub record AreUnits (t : UnitTable) : Type 0 where
  pub few : t.count ≤ 16
  pub once : (volume : ℕ) → count_by (is_carried volume) (units_in t) ≤ 1
  pub mounted : (volume : ℕ) → IsTrue (is_used t.uses volume) → IsTrue (is_mounted t volume)

-- ---- the calls

-- the volumes that no running step uses, and the units that carry no volume in use
abbrev pub need_of : UnitTable → List ℕ → Need
need_of t volumes = record {
  need = count_by (λ volume. not (is_used t.uses volume)) volumes;
  free = count_by (is_free t.uses) (units_in t);
}

abbrev pub or_else : Option ℕ → Option ℕ → Option ℕ
or_else None other = other
or_else (Some unit) other = Some unit

-- none where the volume is on a unit; else the lowest empty unit, else the lowest whose volume may give way
abbrev pub unit_for_of : UnitTable → ℕ → Option ℕ
unit_for_of t volume =
    if is_mounted t volume then None
    else or_else (position is_none (units_in t)) (position (may_give_way t.uses t.pinned) (units_in t))

abbrev pub with_volume : ℕ → ℕ → UnitTable → UnitTable
with_volume volume unit t = record t { carried = slice_set t.carried unit (Some volume) }

-- these volumes are pinned, and no others
abbrev pub pinned_by : List ℕ → List Bool
pinned_by volumes = fold (λ pinned volume. slice_set pinned volume true) (replicate 32 false) volumes

abbrev pub with_more_uses : List ℕ → List ℕ → List ℕ
with_more_uses volumes uses = fold (λ counts volume. slice_set counts volume (slice_index counts volume + 1)) uses volumes

abbrev pub with_fewer_uses : List ℕ → List ℕ → List ℕ
with_fewer_uses volumes uses = fold (λ counts volume. slice_set counts volume (slice_index counts volume - 1)) uses volumes

-- ---- what the calls come to

-- these volumes are those that are pinned, and need no more units than are free
pub record ArePinnedAndFit (t : UnitTable) (volumes : List ℕ) : Type 0 where
  pub list : IsTrue (is_volume_list volumes)
  pub pinned : t.pinned ≡ pinned_by volumes
  pub fit : (need_of t volumes).need ≤ (need_of t volumes).free

-- none of these volumes that is on a unit here is on none there
abbrev pub AreStillMounted : List ℕ → UnitTable → UnitTable → Type 0
AreStillMounted volumes now later = (volume : ℕ) → IsTrue (is_among volumes volume) → IsTrue (is_mounted now volume) → IsTrue (is_mounted later volume)

-- what mounting a volume of these comes to: it is on a unit, no other one of these has lost its own, and the volumes need as
-- many units as before and as many are free
pub record IsMountedBeside (volumes : List ℕ) (volume : ℕ) (now later : UnitTable) : Type 0 where
  pub on : IsTrue (is_mounted later volume)
  pub stay : AreStillMounted volumes now later
  pub need : need_of later volumes ≡ need_of now volumes
  pub units : AreUnits later

-- a volume of these that is on no unit gets one, and only such a one does; and what comes of mounting it there
pub record IsGivenUnit (t : UnitTable) (volumes : List ℕ) (volume : ℕ) : Type 0 where
  pub none : (unit_for_of t volume ≡ None) ↔ IsTrue (is_mounted t volume)
  pub mounts : (unit : ℕ) → unit_for_of t volume ≡ Some unit → IsMountedBeside volumes volume t (with_volume volume unit t)

-- the volume on the unit that is for it, where there is one
abbrev pub mounted_on : Option ℕ → ℕ → UnitTable → UnitTable
mounted_on None volume t = t
mounted_on (Some unit) volume t = with_volume volume unit t

-- these volumes mounted one after another, each on the unit that is for it then
abbrev pub after_mounts : List ℕ → UnitTable → UnitTable
after_mounts [] t = t
after_mounts (volume ∷ volumes) t = after_mounts volumes (mounted_on (unit_for_of t volume) volume t)

-- all of these volumes are mounted in the end, and need as many units as before, and as many are free
pub record AreAllMounted (volumes : List ℕ) (now later : UnitTable) : Type 0 where
  pub all : IsTrue (are_mounted later volumes)
  pub need : need_of later volumes ≡ need_of now volumes
  pub units : AreUnits later
