-- Which unit a volume gets, and what comes of mounting it there.
use Rattle.std.proofs.Common.{◌≡◌, ℕ, ◌+◌, ◌<◌, ◌≤◌, Bool, true, false, not, ◌&&◌, ◌||◌, ◌==◌, ◌∙◌, List, [], ◌∷◌, Option, None, Some, arith, ap, cond, get_or, length, refl, set, subst, sym}
use Rattle.std.specs.Prelude.{is_none}
use Rattle.std.specs.List.{count_by, list_any, position, position_or_len}
use Rattle.std.proofs.Math.Seq.{take-set-lt}
use Rattle.std.proofs.lemmas.Bool.{and_from, or_left, or_right}
use Rattle.std.proofs.lemmas.List.{get_or-set_same, length-set, length-take}
use Rattle.std.proofs.lemmas.List.Folds.{list_any_at}
use Rattle.std.proofs.lemmas.List.Sums.{passes_at_first}
use Rattle.std.proofs.lemmas.Option.{none-some}
use Rattle.ckr_base.proofs.Bools.{and-first, and-second, bool-cases, false-not-true, or-cases, true-not-false}
use Rattle.ckr_base.proofs.Numbers.{equal-from, equal-itself, equal-true}
use Rattle.ckr_base.proofs.Options.{option-cases, some-not-none}
use Rattle.ckr_base.proofs.Sequences.{position-some}
use Rattle.ckr_queue.specs.declared.units.Need.{Need}
use Rattle.ckr_queue.specs.Units.{AreAllMounted, AreUnits, ArePinnedAndFit, IsGivenUnit, IsMountedBeside, AreStillMounted, UnitTable, after_mounts, is_among, is_carried, is_free, is_mounted, is_pinned, is_used, may_give_way, mounted_on, need_of, or_else, unit_for_of, units_in, with_volume}
use Rattle.ckr_queue.proofs.Counts.{any-count, count-any, count-apart, count-at-most, count-cons, count-cover, count-never, count-none, count-set, one_if, one_if-at-most, one_if-cover, position-nowhere}
use Rattle.ckr_queue.proofs.Pins.{among-pinned, pinned-among}
use Rattle.ckr_queue.proofs.UseCounts.{all-among}

-- ---- a volume that is on no unit gets one

-- the unit carries a volume of these that isn't in use
abbrev keeps : List ℕ → List ℕ → Option ℕ → Bool
keeps uses volumes None = false
keeps uses volumes (Some volume) = not (is_used uses volume) && is_among volumes volume

abbrev carries_unused : List ℕ → ℕ → Option ℕ → Bool
carries_unused uses volume unit = not (is_used uses volume) && is_carried volume unit

module _ (units : List (Option ℕ)) (uses : List ℕ) (alone : (volume : ℕ) → count_by (is_carried volume) units ≤ 1) where
  abbrev unused_on : ℕ → Bool
  unused_on volume = not (is_used uses volume) && list_any (is_carried volume) units

  keeps-parts : (volume : ℕ) (volumes : List ℕ) (unit : Option ℕ) → keeps uses (volume ∷ volumes) unit ≡ true → (carries_unused uses volume unit || keeps uses volumes unit) ≡ true
  keeps-parts volume volumes None e = false-not-true e
  keeps-parts volume volumes (Some carried) e =
      let unused = and-first (not (is_used uses carried)) _ e in
      or-cases (volume == carried) (is_among volumes carried) (and-second (not (is_used uses carried)) _ e)
      (λ same.
      let equal = equal-true volume carried same in
      or_left _ _ (and_from _ _ (subst (λ v. not (is_used uses v) ≡ true) (sym equal) unused) (equal-from carried volume (sym equal))))
      (λ more. or_right _ _ (and_from _ _ unused more))

  -- one volume is kept on at most one unit, and on none where it is in use or on no unit
  kept-once : (volume : ℕ) → count_by (carries_unused uses volume) units ≤ one_if (unused_on volume)
  kept-once volume =
      let few = count-at-most (carries_unused uses volume) (is_carried volume) units (λ unit. one_if-at-most _ _ (and-second (not (is_used uses volume)) (is_carried volume unit))) in
      bool-cases (is_used uses volume)
      (λ used.
      let never = count-never (carries_unused uses volume) units (λ unit. ap (λ b. not b && is_carried volume unit) used) in
      omega arith)
      (λ unused. bool-cases (list_any (is_carried volume) units)
      (λ on.
      let one : one_if (unused_on volume) ≡ 1 = ap one_if (and_from _ _ (ap not unused) on) in
      let most = alone volume in
      omega arith)
      (λ off.
      let none = count-none (is_carried volume) units off in
      omega arith))

  -- units that keep a volume are no more than the volumes kept
  kept-few : (volumes : List ℕ) → count_by (keeps uses volumes) units ≤ count_by unused_on volumes
  kept-few [] =
      let never = count-never (keeps uses []) units nothing in
      omega arith
    where
      nothing : (unit : Option ℕ) → keeps uses [] unit ≡ false
      nothing None = refl
      nothing (Some volume) = bool-cases (is_used uses volume) (λ used. ap (λ b. not b && false) used) (λ unused. ap (λ b. not b && false) unused)
  kept-few (volume ∷ volumes) =
      let parts = count-cover (carries_unused uses volume) (keeps uses volumes) (keeps uses (volume ∷ volumes)) units (λ unit. one_if-cover _ _ _ (keeps-parts volume volumes unit)) in
      omega (arith, parts, kept-once volume, kept-few volumes, count-cons unused_on volume volumes)

  -- a volume that is on no unit is needed and not kept
  need-more : (volumes : List ℕ) (volume : ℕ) → is_among volumes volume ≡ true → is_used uses volume ≡ false → list_any (is_carried volume) units ≡ false
      → count_by unused_on volumes + 1 ≤ count_by (λ v. not (is_used uses v)) volumes
  need-more volumes volume among unused off =
      let one = count-any (λ other. other == volume) volumes among in
      let apart = count-apart unused_on (λ other. other == volume) (λ v. not (is_used uses v)) volumes each in
      omega arith
    where
      each : (other : ℕ) → one_if (unused_on other) + one_if (other == volume) ≤ one_if (not (is_used uses other))
      each other = bool-cases (other == volume)
          (λ same.
          let equal = equal-true other volume same in
          let needed : one_if (not (is_used uses other)) ≡ 1 = ap (λ v. one_if (not (is_used uses v))) equal ∙ ap (λ b. one_if (not b)) unused in
          let absent : one_if (unused_on other) ≡ 0 = ap (λ v. one_if (unused_on v)) equal ∙ ap (λ b. one_if (not b && list_any (is_carried volume) units)) unused ∙ ap one_if off in
          let one : one_if (other == volume) ≡ 1 = ap one_if same in
          omega arith)
          (λ differ.
          let nothing : one_if (other == volume) ≡ 0 = ap one_if differ in
          let few = one_if-at-most (unused_on other) (not (is_used uses other)) (and-first (not (is_used uses other)) (list_any (is_carried other) units)) in
          omega arith)

  module _ (pins : List Bool) (volumes : List ℕ) (pinned : (volume : ℕ) → is_pinned pins volume ≡ true → is_among volumes volume ≡ true) where
    free-parts : (unit : Option ℕ) → is_free uses unit ≡ true → (is_none unit || (may_give_way uses pins unit || keeps uses volumes unit)) ≡ true
    free-parts None e = refl
    free-parts (Some volume) e = bool-cases (is_pinned pins volume)
        (λ pin. or_right (may_give_way uses pins (Some volume)) _ (and_from _ _ e (pinned volume pin)))
        (λ no. or_left _ _ (and_from _ _ e (ap not no)))

    some-unit : (volume : ℕ) → is_among volumes volume ≡ true → is_used uses volume ≡ false → list_any (is_carried volume) units ≡ false
        → count_by (λ v. not (is_used uses v)) volumes ≤ count_by (is_free uses) units
        → position is_none units ≡ None → position (may_give_way uses pins) units ≡ None → ⊥
    some-unit volume among unused off fit no_empty no_way =
        let way = λ (unit : Option ℕ). may_give_way uses pins unit || keeps uses volumes unit in
        let one = count-cover is_none way (is_free uses) units (λ unit. one_if-cover _ _ _ (free-parts unit)) in
        let two = count-cover (may_give_way uses pins) (keeps uses volumes) way units (λ unit. one_if-cover _ _ _ (λ e. e)) in
        omega (arith, one, two, position-nowhere is_none units no_empty, position-nowhere (may_give_way uses pins) units no_way, kept-few volumes, need-more volumes volume among unused off, fit)

-- ---- the unit that is for a volume

-- it is there, what it carries is neither in use nor pinned, and the volume is on no unit
pub record IsFor (t : UnitTable) (volume unit : ℕ) : Type 0 where
  pub absent : list_any (is_carried volume) (units_in t) ≡ false
  pub inside : unit < length (units_in t)
  pub free : is_free t.uses (get_or (units_in t) unit None) ≡ true
  pub apart : (other : ℕ) → is_pinned t.pinned other ≡ true → is_carried other (get_or (units_in t) unit None) ≡ false

at-position : {X : Type 0} (p : X → Bool) (xs : List X) (i : ℕ) (d : X) → position p xs ≡ Some i → (i < length xs) × (p (get_or xs i d) ≡ true)
at-position p xs i d e =
    let found = position-some p xs i (sym e) in
    let inside : position_or_len p xs < length xs = subst (λ n. n < length xs) found.0 found.1 in
    (found.1, subst (λ n. p (get_or xs n d) ≡ true) (sym found.0) (passes_at_first p xs d inside))

or_else-cases : {A : Type 0} (one other : Option ℕ) (unit : ℕ) → or_else one other ≡ Some unit → (one ≡ Some unit → A) → (other ≡ Some unit → A) → A
or_else-cases None other unit e first second = second e
or_else-cases (Some place) other unit e first second = first e

or_else-none : {A : Type 0} (one other : Option ℕ) → or_else one other ≡ None → (one ≡ None → other ≡ None → A) → A
or_else-none None other e gives = gives refl e
or_else-none (Some place) other e gives = absurd (some-not-none place e)

-- what is carried by a unit that is empty, free, or may give way
empty-free : (uses : List ℕ) (unit : Option ℕ) → is_none unit ≡ true → is_free uses unit ≡ true
empty-free uses None e = refl
empty-free uses (Some carried) e = false-not-true e

empty-apart : (unit : Option ℕ) (other : ℕ) → is_none unit ≡ true → is_carried other unit ≡ false
empty-apart None other e = refl
empty-apart (Some carried) other e = false-not-true e

free-apart : (uses : List ℕ) (unit : Option ℕ) (other : ℕ) → is_free uses unit ≡ true → is_used uses other ≡ true → is_carried other unit ≡ false
free-apart uses None other e used = refl
free-apart uses (Some carried) other e used = bool-cases (carried == other)
    (λ same. true-not-false (sym e ∙ ap not (ap (is_used uses) (equal-true carried other same) ∙ used)))
    (λ differ. differ)

way-free : (uses : List ℕ) (pins : List Bool) (unit : Option ℕ) → may_give_way uses pins unit ≡ true → is_free uses unit ≡ true
way-free uses pins None e = refl
way-free uses pins (Some carried) e = and-first (not (is_used uses carried)) (not (is_pinned pins carried)) e

way-apart : (uses : List ℕ) (pins : List Bool) (unit : Option ℕ) (other : ℕ) → may_give_way uses pins unit ≡ true → is_pinned pins other ≡ true → is_carried other unit ≡ false
way-apart uses pins None other e pinned = refl
way-apart uses pins (Some carried) other e pinned = bool-cases (carried == other)
    (λ same. true-not-false (sym (and-second (not (is_used uses carried)) (not (is_pinned pins carried)) e) ∙ ap not (ap (is_pinned pins) (equal-true carried other same) ∙ pinned)))
    (λ differ. differ)

-- a volume that is on no unit isn't in use
off-unused : (t : UnitTable) → AreUnits t → (volume : ℕ) → is_mounted t volume ≡ false → is_used t.uses volume ≡ false
off-unused t units volume off = bool-cases (is_used t.uses volume)
    (λ used. true-not-false (sym (units.mounted volume used) ∙ off))
    (λ not_used. not_used)

-- a unit for a volume that is on none
chosen : (t : UnitTable) (volume unit : ℕ) → is_mounted t volume ≡ false → or_else (position is_none (units_in t)) (position (may_give_way t.uses t.pinned) (units_in t)) ≡ Some unit → IsFor t volume unit
chosen t volume unit off e =
    or_else-cases (position is_none (units_in t)) (position (may_give_way t.uses t.pinned) (units_in t)) unit e
    (λ empty.
    let at = at-position is_none (units_in t) unit None empty in
    record { absent = off; inside = at.0; free = empty-free t.uses _ at.1; apart = λ other pinned. empty-apart _ other at.1 })
    (λ way.
    let at = at-position (may_give_way t.uses t.pinned) (units_in t) unit None way in
    record { absent = off; inside = at.0; free = way-free t.uses t.pinned _ at.1; apart = λ other pinned. way-apart t.uses t.pinned _ other at.1 pinned })

pub unit-for : (t : UnitTable) (volume unit : ℕ) → unit_for_of t volume ≡ Some unit → IsFor t volume unit
unit-for t volume unit e = bool-cases (is_mounted t volume)
    (λ on. absurd (none-some unit (sym (ap (λ b. cond b None (or_else (position is_none (units_in t)) (position (may_give_way t.uses t.pinned) (units_in t)))) on) ∙ e)))
    (λ off. chosen t volume unit off (sym (ap (λ b. cond b None (or_else (position is_none (units_in t)) (position (may_give_way t.uses t.pinned) (units_in t)))) off) ∙ e))

-- ---- the volume mounted there

abbrev with_free : ℕ → ℕ → Need
with_free need free = record { need = need; free = free }

module _ (t : UnitTable) (units : AreUnits t) (volume unit : ℕ) (place : IsFor t volume unit) where
  abbrev later : UnitTable
  later = with_volume volume unit t

  seen : units_in later ≡ set (units_in t) unit (Some volume)
  seen =
      let inside = place.inside in
      take-set-lt t.count t.carried unit (Some volume) (omega (arith, length-take t.count t.carried))

  count-later : (other : ℕ) → count_by (is_carried other) (units_in later) + one_if (is_carried other (get_or (units_in t) unit None)) ≡ count_by (is_carried other) (units_in t) + one_if (volume == other)
  count-later other =
      ap (λ us. count_by (is_carried other) us + one_if (is_carried other (get_or (units_in t) unit None))) seen
      ∙ count-set (is_carried other) (units_in t) unit (Some volume) None place.inside

  pub mounted-later : is_mounted later volume ≡ true
  mounted-later =
      let inside = place.inside in
      ap (list_any (is_carried volume)) seen
      ∙ list_any_at (is_carried volume) (set (units_in t) unit (Some volume)) unit None (omega (arith, length-set (units_in t) unit (Some volume)))
      (ap (is_carried volume) (get_or-set_same (units_in t) unit (Some volume) None inside) ∙ equal-itself volume)

  pub stays-later : (other : ℕ) → is_carried other (get_or (units_in t) unit None) ≡ false → is_mounted t other ≡ true → is_mounted later other ≡ true
  stays-later other off on =
      let nothing : one_if (is_carried other (get_or (units_in t) unit None)) ≡ 0 = ap one_if off in
      any-count (is_carried other) (units_in later) (omega (arith, count-later other, count-any (is_carried other) (units_in t) on))

  once-later : (other : ℕ) → count_by (is_carried other) (units_in later) ≤ 1
  once-later other = bool-cases (volume == other)
      (λ same.
      let one : one_if (volume == other) ≡ 1 = ap one_if same in
      let none = count-none (is_carried other) (units_in t) (subst (λ v. list_any (is_carried v) (units_in t) ≡ false) (equal-true volume other same) place.absent) in
      omega (arith, count-later other))
      (λ differ.
      let nothing : one_if (volume == other) ≡ 0 = ap one_if differ in
      omega (arith, count-later other, units.once other))

  free-later : count_by (is_free t.uses) (units_in later) ≡ count_by (is_free t.uses) (units_in t)
  free-later =
      let counted = count-set (is_free t.uses) (units_in t) unit (Some volume) None place.inside in
      let old : one_if (is_free t.uses (get_or (units_in t) unit None)) ≡ 1 = ap one_if place.free in
      let new : one_if (is_free t.uses (Some volume)) ≡ 1 = ap (λ b. one_if (not b)) (off-unused t units volume place.absent) in
      ap (count_by (is_free t.uses)) seen ∙ omega arith

  pub need-later : (volumes : List ℕ) → need_of later volumes ≡ need_of t volumes
  need-later volumes = ap (with_free (count_by (λ v. not (is_used t.uses v)) volumes)) free-later

  pub units-later : AreUnits later
  units-later = record {
    few = units.few;
    once = once-later;
    mounted = λ other used. stays-later other (free-apart t.uses _ other place.free used) (units.mounted other used);
  }

-- ---- the pinned volumes

module _ (t : UnitTable) (units : AreUnits t) (volumes : List ℕ) (fit : ArePinnedAndFit t volumes) (volume : ℕ) (among : is_among volumes volume ≡ true) where
  none-mounted : unit_for_of t volume ≡ None → is_mounted t volume ≡ true
  none-mounted none = bool-cases (is_mounted t volume)
      (λ on. on)
      (λ off.
      let one = position is_none (units_in t) in
      let other = position (may_give_way t.uses t.pinned) (units_in t) in
      or_else-none one other (sym (ap (λ b. cond b None (or_else one other)) off) ∙ none)
      (λ no_empty no_way. absurd (some-unit (units_in t) t.uses units.once t.pinned volumes pinned volume among (off-unused t units volume off) off fit.fit no_empty no_way)))
    where
      pinned : (other : ℕ) → is_pinned t.pinned other ≡ true → is_among volumes other ≡ true
      pinned other e = pinned-among volumes other (subst (λ pins. is_pinned pins other ≡ true) fit.pinned e)

  mounts : (unit : ℕ) → unit_for_of t volume ≡ Some unit → IsMountedBeside volumes volume t (with_volume volume unit t)
  mounts unit e =
      let place = unit-for t volume unit e in
      record {
        on = mounted-later t units volume unit place;
        stay = λ other is_one on. stays-later t units volume unit place other
            (place.apart other (subst (λ pins. is_pinned pins other ≡ true) (sym fit.pinned) (among-pinned volumes other fit.list is_one))) on;
        need = need-later t units volume unit place volumes;
        units = units-later t units volume unit place;
      }

  pub given-unit : IsGivenUnit t volumes volume
  given-unit = record {
    none = (none-mounted, λ on. ap (λ b. cond b None (or_else (position is_none (units_in t)) (position (may_give_way t.uses t.pinned) (units_in t)))) on);
    mounts = mounts;
  }

-- ---- all of them, one after another

mounted_on-pinned : (unit : Option ℕ) (volume : ℕ) (t : UnitTable) → (mounted_on unit volume t).pinned ≡ t.pinned
mounted_on-pinned None volume t = refl
mounted_on-pinned (Some unit) volume t = refl

module _ (volumes : List ℕ) where
  mount-one : (t : UnitTable) → AreUnits t → ArePinnedAndFit t volumes → (volume : ℕ) → is_among volumes volume ≡ true → IsMountedBeside volumes volume t (mounted_on (unit_for_of t volume) volume t)
  mount-one t units fit volume among =
      let gets = given-unit t units volumes fit volume among in
      option-cases (unit_for_of t volume)
      (λ none. subst (λ unit. IsMountedBeside volumes volume t (mounted_on unit volume t)) (sym none) (record { on = gets.none.0 none; stay = λ other is_one on. on; need = refl; units = units }))
      (λ unit some. subst (λ unit. IsMountedBeside volumes volume t (mounted_on unit volume t)) (sym some) (gets.mounts unit some))

  fit-after : (t after : UnitTable) → ArePinnedAndFit t volumes → after.pinned ≡ t.pinned → need_of after volumes ≡ need_of t volumes → ArePinnedAndFit after volumes
  fit-after t after fit pins need = record {
    list = fit.list;
    pinned = pins ∙ fit.pinned;
    fit = subst (λ (n : Need). n.need ≤ n.free) (sym need) fit.fit;
  }

  record AreMounted (rest : List ℕ) (now after : UnitTable) : Type 0 where
    all : (volume : ℕ) → is_among rest volume ≡ true → is_mounted after volume ≡ true
    stay : AreStillMounted volumes now after
    need : need_of after volumes ≡ need_of now volumes
    units : AreUnits after

  mount-rest : (rest : List ℕ) (t : UnitTable) → AreUnits t → ArePinnedAndFit t volumes → ((volume : ℕ) → is_among rest volume ≡ true → is_among volumes volume ≡ true) → AreMounted rest t (after_mounts rest t)
  mount-rest [] t units fit part = record { all = λ volume none. false-not-true none; stay = λ volume is_one on. on; need = refl; units = units }
  mount-rest (volume ∷ rest) t units fit part =
      let here = part volume (or_left _ _ (equal-itself volume)) in
      let now = mounted_on (unit_for_of t volume) volume t in
      let one = mount-one t units fit volume here in
      let more = mount-rest rest now one.units (fit-after t now fit (mounted_on-pinned (unit_for_of t volume) volume t) one.need) (λ other is_one. part other (or_right (volume == other) _ is_one)) in
      record {
        all = λ other is_one. or-cases (volume == other) (is_among rest other) is_one
            (λ same. subst (λ v. is_mounted (after_mounts rest now) v ≡ true) (equal-true volume other same) (more.stay volume here one.on))
            (λ behind. more.all other behind);
        stay = λ other is_one on. more.stay other is_one (one.stay other is_one on);
        need = more.need ∙ one.need;
        units = more.units;
      }

pub all-mounted : (t : UnitTable) (volumes : List ℕ) → AreUnits t → ArePinnedAndFit t volumes → AreAllMounted volumes t (after_mounts volumes t)
all-mounted t volumes units fit =
    let done = mount-rest volumes volumes t units fit (λ volume is_one. is_one) in
    record { all = all-among (is_mounted (after_mounts volumes t)) volumes done.all; need = done.need; units = done.units }
