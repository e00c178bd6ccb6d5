-- What each call keeps of the units and of what the steps have in use.
-- pins-units       the units with volumes pinned
-- unit-given       the unit for a volume, beside those that are mounted with it
-- sound-           the table behind each call
-- stored-          the fields behind each call
use Rattle.std.proofs.Common.{◌≡◌, ℕ, zero, suc, ◌-◌, ◌<◌, ◌≤◌, false, true, ◌∙◌, List, [], ◌∷◌, Option, None, Some, arith, ap, get_or, length, map, refl, set, subst, sym}
use Rattle.std.specs.Prelude.{pred, replicate}
use Rattle.std.specs.List.{AllByRecursion}
use Rattle.std.specs.Option.{is_some, option_map}
use Rattle.std.proofs.lemmas.List.{get_or-map, length-map, length-set, map-set, set-get_or}
use Rattle.arrayvec.specs.ArrayVec.{ArrayVec}
use Rattle.ckr_base.proofs.Options.{option-cases}
use Rattle.ckr_queue.specs.Mounts.{AreMounts, IsCounted, IsHeldList, MountTable, given_up, held_at, mounts_of, no_mounts, units_with, uses_in, with_held, with_mount}
use Rattle.ckr_queue.specs.Units.{AreUnits, IsGivenUnit, UnitTable, are_below_255, are_mounted, are_used, is_among, is_volume_list, need_of, pinned_by, unit_for_of, with_fewer_uses, with_more_uses, with_volume}
use Rattle.ckr_queue.proofs.Assignments.{given-unit, unit-for, units-later}
use Rattle.ckr_queue.proofs.UnitChanges.{units-empty, units-fewer, units-more}
use Rattle.ckr_queue.proofs.UseCounts.{uses-given, uses-held, uses-room, uses-taken}

-- ---- what holds of each, where one is set, and where one is read

each-set : {X : Type 0} (P : X → Type 0) (xs : List X) (place : ℕ) (x : X) → P x → AllByRecursion P xs → AllByRecursion P (set xs place x)
each-set P [] place x here each = tt
each-set P (first ∷ xs) zero x here each = (here, each.1)
each-set P (first ∷ xs) (suc place) x here each = (each.0, each-set P xs place x here each.1)

each-read : {X : Type 0} (P : X → Type 0) (xs : List X) (place : ℕ) (other : X) → P other → AllByRecursion P xs → P (get_or xs place other)
each-read P [] place other else each = else
each-read P (first ∷ xs) zero other else each = each.0
each-read P (first ∷ xs) (suc place) other else each = each-read P xs place other else each.1

-- ---- the table behind each call

pub sound-empty : (count : ℕ) → count ≤ 16 → AreMounts (no_mounts count)
sound-empty count few =
    let empty = units-empty count few in
    record { units = record { few = empty.few; once = empty.once; mounted = empty.mounted }; lists = (refl, (refl, (refl, (refl, (refl, (refl, (refl, (refl, tt)))))))); eight = refl }

module _ {t : MountTable} (sound : AreMounts t) where
  pub pins-units : (pinned : List ℕ) → AreUnits (units_with pinned t)
  pins-units pinned = record { few = sound.units.few; once = sound.units.once; mounted = sound.units.mounted }

  pub unit-given : (volumes : List ℕ) (volume : ℕ) → is_volume_list volumes ≡ true → (need_of (units_with [] t) volumes).need ≤ (need_of (units_with [] t) volumes).free → is_among volumes volume ≡ true
      → IsGivenUnit (units_with volumes t) volumes volume
  unit-given volumes volume list fit among = given-unit (units_with volumes t) (pins-units volumes) volumes (record { list = list; pinned = refl; fit = fit }) volume among

  pub sound-mounted : (volumes : List ℕ) (volume unit : ℕ) → unit_for_of (units_with volumes t) volume ≡ Some unit → AreMounts (with_mount volume unit t)
  sound-mounted volumes volume unit is_for =
      let pinned = units_with volumes t in
      let later = units-later pinned (pins-units volumes) volume unit (unit-for pinned volume unit is_for) in
      record { units = record { few = later.few; once = later.once; mounted = later.mounted }; lists = sound.lists; eight = sound.eight }

  module _ (initiator : ℕ) (first : 1 ≤ initiator) (last : initiator ≤ 8) where
    pub held-inside : pred initiator < length t.held
    held-inside = omega (arith, sound.eight)

    held-list : (volumes : List ℕ) → held_at t initiator ≡ Some volumes → is_volume_list volumes ≡ true
    held-list volumes some = subst IsHeldList some (each-read IsHeldList t.held (pred initiator) None refl sound.lists)

    held-none : held_at t initiator ≡ None → set t.held (pred initiator) None ≡ t.held
    held-none none = ap (set t.held (pred initiator)) (sym none) ∙ set-get_or t.held (pred initiator) None

    lists-set : (one : Option (List ℕ)) → IsHeldList one → AllByRecursion IsHeldList (set t.held (pred initiator) one)
    lists-set one list = each-set IsHeldList t.held (pred initiator) one list sound.lists

    eight-set : (one : Option (List ℕ)) → length (set t.held (pred initiator) one) ≡ 8
    eight-set one = length-set t.held (pred initiator) one ∙ sound.eight

    pub sound-taken : (volumes : List ℕ) → held_at t initiator ≡ None → is_volume_list volumes ≡ true → are_mounted (units_with [] t) volumes ≡ true → AreMounts (with_held initiator volumes t)
    sound-taken volumes none list mounted = record {
      units = units-more (units_with [] t) (units_with [] t) refl sound.units volumes (uses_in (set t.held (pred initiator) (Some volumes))) mounted
          (uses-taken t.held (pred initiator) volumes held-inside list none);
      lists = lists-set (Some volumes) list;
      eight = eight-set (Some volumes);
    }

    pub sound-given : AreMounts (given_up initiator t)
    sound-given = option-cases (held_at t initiator)
        (λ none. subst (λ held. AreMounts (record t { held = held })) (sym (held-none none)) sound)
        (λ volumes some. record {
          units = units-fewer (units_with [] t) (units_with [] t) refl sound.units volumes (uses_in (set t.held (pred initiator) None))
              (uses-given t.held (pred initiator) volumes held-inside (held-list volumes some) some);
          lists = lists-set None refl;
          eight = eight-set None;
        })

-- ---- the fields behind each call

abbrev items_of : Option (ArrayVec ℕ) → Option (List ℕ)
items_of = option_map (λ (volumes : ArrayVec ℕ). volumes.items)

pub is_some-stored : (one : Option (ArrayVec ℕ)) → is_some (items_of one) ≡ is_some one
is_some-stored None = refl
is_some-stored (Some volumes) = refl

-- the fields stand for the table
pub record AreStored (units : UnitTable) (lists : List (Option (ArrayVec ℕ))) (t : MountTable) : Type 0 where
  pub sound : AreMounts t
  pub seen : mounts_of units lists ≡ t
  pub uses : units.uses ≡ uses_in t.held

pub counted-stored : {units : UnitTable} {lists : List (Option (ArrayVec ℕ))} {t : MountTable} → IsCounted units lists → mounts_of units lists ≡ t → AreStored units lists t
counted-stored counted seen = record { sound = subst AreMounts seen counted.sound; seen = seen; uses = counted.uses ∙ ap (λ (m : MountTable). uses_in m.held) seen }

pub stored-counted : {units : UnitTable} {lists : List (Option (ArrayVec ℕ))} {t : MountTable} → AreStored units lists t → IsCounted units lists
stored-counted stored = record { sound = subst AreMounts (sym stored.seen) stored.sound; uses = stored.uses ∙ ap (λ (m : MountTable). uses_in m.held) (sym stored.seen) }

pub stored-sound : {units : UnitTable} {lists : List (Option (ArrayVec ℕ))} {t : MountTable} → AreStored units lists t → AreMounts (mounts_of units lists)
stored-sound stored = subst AreMounts (sym stored.seen) stored.sound

pub stored-empty : (count : ℕ) → count ≤ 16 → IsCounted (record { count = count; carried = replicate 16 None; uses = replicate 32 0; pinned = replicate 32 false }) (replicate 8 None)
stored-empty count few = record { sound = sound-empty count few; uses = refl }

module _ {units : UnitTable} {lists : List (Option (ArrayVec ℕ))} {t : MountTable} (stored : AreStored units lists t) where
  -- units that have the same uses: what is asked of them is asked of the table
  pub stored-units : (pinned : List ℕ) → record units { pinned = pinned_by pinned } ≡ units_with pinned t
  stored-units pinned =
      ap (λ uses. record units { uses = uses; pinned = pinned_by pinned }) stored.uses
      ∙ ap (λ (m : MountTable). record { count = m.count; carried = m.carried; uses = uses_in t.held; pinned = pinned_by pinned }) stored.seen

  pub stored-need : (volumes : List ℕ) → need_of units volumes ≡ need_of (units_with [] t) volumes
  stored-need volumes = ap (λ (u : UnitTable). need_of u volumes) (stored-units [])

  pub stored-are_mounted : (volumes : List ℕ) → are_mounted units volumes ≡ are_mounted (units_with [] t) volumes
  stored-are_mounted volumes = ap (λ (u : UnitTable). are_mounted u volumes) (stored-units [])

  pub stored-unit : (volumes : List ℕ) (volume : ℕ) → unit_for_of (record units { pinned = pinned_by volumes }) volume ≡ unit_for_of (units_with volumes t) volume
  stored-unit volumes volume = ap (λ (u : UnitTable). unit_for_of u volume) (stored-units volumes)

  pub stored-pinned : (pinned : List ℕ) → AreStored (record units { pinned = pinned_by pinned }) lists t
  stored-pinned pinned = record { sound = stored.sound; seen = stored.seen; uses = stored.uses }

  pub stored-mounted : (volumes : List ℕ) (volume unit : ℕ) → unit_for_of (units_with volumes t) volume ≡ Some unit
      → AreStored (with_volume volume unit (record units { pinned = pinned_by volumes })) lists (with_mount volume unit t)
  stored-mounted volumes volume unit is_for = record {
    sound = sound-mounted stored.sound volumes volume unit is_for;
    seen = ap (with_mount volume unit) stored.seen;
    uses = stored.uses;
  }

  pub stored-mount : (volumes : List ℕ) (volume unit : ℕ) (pinned later : UnitTable) → pinned ≡ record units { pinned = pinned_by volumes } → later ≡ with_volume volume unit pinned
      → unit_for_of (units_with volumes t) volume ≡ Some unit → AreStored later lists (with_mount volume unit t)
  stored-mount volumes volume unit pinned later pin mount is_for =
      subst (λ (u : UnitTable). AreStored u lists (with_mount volume unit t)) (sym (mount ∙ ap (with_volume volume unit) pin)) (stored-mounted volumes volume unit is_for)

  module _ (initiator : ℕ) (first : 1 ≤ initiator) (last : initiator ≤ 8) where
    inside : initiator - 1 < length lists
    inside = omega (arith, ap (λ (m : MountTable). length m.held) stored.seen, stored.sound.eight, length-map lists items_of)

    place : initiator - 1 ≡ pred initiator
    place = omega arith

    -- what is stored for an initiator is what the step on it holds
    pub held-stored : (one other : Option (ArrayVec ℕ)) → one ≡ get_or lists (initiator - 1) other → held_at t initiator ≡ items_of one
    held-stored one other is =
        ap (λ (m : MountTable). held_at m initiator) (sym stored.seen)
        ∙ ap (λ i. get_or (map items_of lists) i None) (sym place)
        ∙ get_or-map items_of lists (initiator - 1) other None inside
        ∙ ap items_of (sym is)

    seen-set : (one : Option (ArrayVec ℕ)) → mounts_of units (set lists (initiator - 1) one) ≡ record t { held = set t.held (pred initiator) (items_of one) }
    seen-set one =
        ap (λ held. record (mounts_of units lists) { held = held }) (map-set items_of lists (initiator - 1) one ∙ ap (λ i. set (map items_of lists) i (items_of one)) place)
        ∙ ap (λ (m : MountTable). record m { held = set m.held (pred initiator) (items_of one) }) stored.seen

    pub stored-taken : (volumes : ArrayVec ℕ) (items : List ℕ) (later : UnitTable) → items ≡ volumes.items → later ≡ record units { uses = with_more_uses items units.uses }
        → held_at t initiator ≡ None → is_volume_list volumes.items ≡ true → are_mounted (units_with [] t) volumes.items ≡ true → AreStored later (set lists (initiator - 1) (Some volumes)) (with_held initiator volumes.items t)
    stored-taken volumes items later same makes none list mounted = subst (λ (u : UnitTable). AreStored u (set lists (initiator - 1) (Some volumes)) (with_held initiator volumes.items t))
        (sym (makes ∙ ap (λ vs. record units { uses = with_more_uses vs units.uses }) same)) (record {
          sound = sound-taken stored.sound initiator first last volumes.items none list mounted;
          seen = seen-set (Some volumes);
          uses = ap (with_more_uses volumes.items) stored.uses ∙ sym (uses-taken t.held (pred initiator) volumes.items (held-inside stored.sound initiator first last) list none);
        })

    pub stored-none : (other : Option (ArrayVec ℕ)) → None ≡ get_or lists (initiator - 1) other → AreStored units (set lists (initiator - 1) None) (given_up initiator t)
    stored-none other is = record {
      sound = sound-given stored.sound initiator first last;
      seen = seen-set None;
      uses = stored.uses ∙ ap uses_in (sym (held-none stored.sound initiator first last (held-stored None other is)));
    }

    -- the step holds these volumes
    module _ (volumes : ArrayVec ℕ) (other : Option (ArrayVec ℕ)) (is : Some volumes ≡ get_or lists (initiator - 1) other) where
      holds : held_at t initiator ≡ Some volumes.items
      holds = held-stored (Some volumes) other is

      list : is_volume_list volumes.items ≡ true
      list = held-list stored.sound initiator first last volumes.items holds

      used : are_used units.uses volumes.items ≡ true
      used = subst (λ uses. are_used uses volumes.items ≡ true) (sym stored.uses) (uses-held t.held (pred initiator) volumes.items (held-inside stored.sound initiator first last) list holds)

      -- what `end_use` asks
      module _ (items : List ℕ) (same : items ≡ volumes.items) where
        pub given-list : is_volume_list items ≡ true
        given-list = subst (λ vs. is_volume_list vs ≡ true) (sym same) list

        pub given-used : are_used units.uses items ≡ true
        given-used = subst (λ vs. are_used units.uses vs ≡ true) (sym same) used

        pub stored-given : (later : UnitTable) → later ≡ record units { uses = with_fewer_uses items units.uses } → AreStored later (set lists (initiator - 1) None) (given_up initiator t)
        stored-given later makes = subst (λ (u : UnitTable). AreStored u (set lists (initiator - 1) None) (given_up initiator t))
            (sym (makes ∙ ap (λ vs. record units { uses = with_fewer_uses vs units.uses }) same)) (record {
              sound = sound-given stored.sound initiator first last;
              seen = seen-set None;
              uses = ap (with_fewer_uses volumes.items) stored.uses
                  ∙ sym (uses-given t.held (pred initiator) volumes.items (held-inside stored.sound initiator first last) list holds);
            })

  -- what `begin_use` asks
  pub taken-room : (volumes items : List ℕ) → items ≡ volumes → is_volume_list volumes ≡ true → are_below_255 units.uses items ≡ true
  taken-room volumes items same list =
      subst (λ vs. are_below_255 units.uses vs ≡ true) (sym same)
      (subst (λ uses. are_below_255 uses volumes ≡ true) (sym stored.uses) (uses-room t.held volumes stored.sound.eight list))
