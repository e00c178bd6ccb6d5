-- What the machine room comes to where a step wants volumes.
-- units-few         a layout has few units
-- there-wanted      the volumes that a step wants are the layout's
-- asked-            what is asked for one volume comes to
-- unasked-          nobody is to be asked
-- so_far-           the volumes mounted one after another
-- asked-comes       what becomes of volumes that are asked for: all are mounted, one of them is refused, or an answer is awaited
-- asked-takes       they are taken where all are mounted
-- asked-held        what steps hold stays
-- wanted-dd         one of them is that of a DD
use Rattle.std.proofs.Common.{◌≡◌, ◌⊎◌, inl, inr, ℕ, zero, suc, ◌+◌, ◌<◌, ◌≤◌, ◌==◌, nat_lt, Bool, false, true, ◌∙◌, List, [], ◌∷◌, Option, None, Some, arith, ap, cond, drop, filter, get_or, length, refl, subst, sym, take}
use Rattle.std.specs.Prelude.{is_none, nat_le}
use Rattle.std.specs.List.{list_all, position, range_with_len}
use Rattle.std.specs.Option.{is_some}
use Rattle.std.proofs.lemmas.Bool.{and_from, lt-ltb, or_left, or_right}
use Rattle.std.proofs.lemmas.Bool.Decides.{nat_tests}
use Rattle.std.proofs.lemmas.List.{drop_all, drop_more, take_all}
use Rattle.std.proofs.lemmas.Grind.{get_or_default_zero}
use Rattle.std.proofs.lemmas.List.Folds.{list_all_more, list_any_at}
use Rattle.ckr_base.proofs.Bools.{and-first, and-second, bool-cases, false-not-true, or-cases}
use Rattle.ckr_base.proofs.Numbers.{equal-itself, equal-true, nat_le-true}
use Rattle.ckr_base.proofs.Sequences.{all-get, get-from}
use Rattle.ckr_console.specs.Answering.{Answering, answer_in_office, asked}
use Rattle.ckr_console.specs.declared.question.Answer.{Answer}
use Rattle.ckr_console.specs.declared.question.Answer.TheVariants.{Yes, No, Hold, Silent}
use Rattle.ckr_console.specs.declared.question.Question.{Question}
use Rattle.ckr_queue.specs.Mounts.{AreMounts, MountTable, units_with, with_mount}
use Rattle.ckr_queue.specs.Units.{AreStillMounted, IsMountedBeside, UnitTable, are_mounted, is_among, is_mounted, may_give_way, need_of, or_else, units_in}
use Rattle.ckr_queue.specs.declared.units.Need.{Need}
use Rattle.ckr_queue.proofs.MountChanges.{pins-units}
use Rattle.ckr_desk_turn.specs.Mounts.{Attempt, Wanting, asked_for, dd_on, mount_question, mounted_all, not_taken, unit_beside, volumes_of}
use Rattle.ckr_desk_turn.specs.declared.taking.Taking.{Taking}
use Rattle.ckr_desk_turn.specs.declared.taking.Taking.TheVariants.{Taken, Exceeds, Lacks, Refused, Awaited}
use Rattle.ckr_volumes.specs.Header.{IsHeader}
use Rattle.ckr_volumes.specs.declared.layout.Layout.{Layout}
use Rattle.ckr_desk_turn.specs.MachineRoom.{FitsUnits, IsAskedFor, MachineRoomView, NeedsNoQuestion, are_there, behind_attempt}

pub units-few : (layout : Layout) (size : ℕ) → IsHeader layout size → layout.units ≤ 16
units-few layout size header = nat_le-true layout.units 16 (and-second (nat_le 1 layout.units) (nat_le layout.units 16) header.units)

-- ---- the volumes that a step wants are the layout's

all-kept : (test kept : ℕ → Bool) (volumes : List ℕ) → list_all test volumes ≡ true → list_all test (filter kept volumes) ≡ true
all-kept test kept [] all = refl
all-kept test kept (volume ∷ rest) all =
    let behind = all-kept test kept rest (and-second (test volume) _ all) in
    bool-cases (kept volume)
    (λ stays. subst (λ b. list_all test (cond b (volume ∷ filter kept rest) (filter kept rest)) ≡ true) (sym stays) (and_from _ _ (and-first (test volume) _ all) behind))
    (λ goes. subst (λ b. list_all test (cond b (volume ∷ filter kept rest) (filter kept rest)) ≡ true) (sym goes) behind)

all-below : (most first count : ℕ) → first + count ≤ most → list_all (λ volume. nat_lt volume most) (range_with_len first count) ≡ true
all-below most first zero fits = refl
all-below most first (suc count) fits = and_from _ _ (lt-ltb first most (omega arith)) (all-below most (first + 1) count (omega arith))

pub there-wanted : (layout : Layout) (step : Wanting) → are_there layout (volumes_of layout step) ≡ true
there-wanted layout step =
    let most = length layout.volumes.items in
    all-kept (λ volume. nat_lt volume most) (λ volume. is_some (dd_on step (Some volume))) (range_with_len 0 most) (all-below most 0 most (omega arith))

-- one of them is the layout's
pub there-at : (layout : Layout) (volumes : List ℕ) (place : ℕ) → are_there layout volumes ≡ true → place < length volumes → get_or volumes place 0 < length layout.volumes.items
there-at layout volumes place there inside =
    let volume = get_or volumes place 0 in
    let most = length layout.volumes.items in
    let passes : nat_lt volume most ≡ true = all-get (λ other. nat_lt other most) volumes place volume there (get-from volumes place volume inside (sym (get_or_default_zero volumes place volume inside))) in
    grind (arith, nat_tests)

pub among-at : (volumes : List ℕ) (place : ℕ) → place < length volumes → is_among volumes (get_or volumes place 0) ≡ true
among-at volumes place inside = list_any_at (λ other. other == get_or volumes place 0) volumes place 0 inside (equal-itself (get_or volumes place 0))

-- ---- one volume

module _ (layout : Layout) (volumes : List ℕ) (volume : ℕ) (rest : List ℕ) (mounts : MountTable) (operator : Option Answering) where
  abbrev by_answer : ℕ → Answer → Attempt
  by_answer unit Yes = mounted_all layout volumes rest (with_mount volume unit mounts) (asked operator)
  by_answer unit No = not_taken (Refused volume) mounts (asked operator)
  by_answer unit Hold = not_taken (Refused volume) mounts (asked operator)
  by_answer unit Silent = not_taken Awaited mounts (asked operator)

  abbrev by_unit : Option ℕ → Attempt
  by_unit None = mounted_all layout volumes rest mounts operator
  by_unit (Some unit) = by_answer unit (answer_in_office (mount_question layout volume unit) operator)

  -- where it is on a unit nobody is asked for it
  pub asked-none : unit_beside volumes volume mounts ≡ None → mounted_all layout volumes (volume ∷ rest) mounts operator ≡ mounted_all layout volumes rest mounts operator
  asked-none none = ap by_unit none

  module _ (unit : ℕ) (question : Question) (answer : Answer) (is_for : Some unit ≡ unit_beside volumes volume mounts) (asks : question ≡ mount_question layout volume unit)
      (answers : answer ≡ answer_in_office question operator) where
    pub asked-answer : (given : Answer) → answer ≡ given → mounted_all layout volumes (volume ∷ rest) mounts operator ≡ by_answer unit given
    asked-answer given is = ap by_unit (sym is_for) ∙ ap (by_answer unit) (ap (λ one. answer_in_office one operator) (sym asks) ∙ sym answers ∙ is)

    module _ (same : MountTable) (after : Option Answering) (stays : same ≡ mounts) (behind : after ≡ asked operator) where
      pub asked-yes : answer ≡ Yes → (later : MountTable) → later ≡ with_mount volume unit same → mounted_all layout volumes (volume ∷ rest) mounts operator ≡ mounted_all layout volumes rest later after
      asked-yes is later mounted = asked-answer Yes is
          ∙ ap (λ (table : MountTable). mounted_all layout volumes rest (with_mount volume unit table) (asked operator)) (sym stays)
          ∙ ap (λ (table : MountTable). mounted_all layout volumes rest table (asked operator)) (sym mounted)
          ∙ ap (mounted_all layout volumes rest later) (sym behind)

      not_taken-so : (taking : Taking) → not_taken taking mounts (asked operator) ≡ not_taken taking same after
      not_taken-so taking = ap (λ (table : MountTable). not_taken taking table (asked operator)) (sym stays) ∙ ap (not_taken taking same) (sym behind)

      pub asked-refused : (answer ≡ No) ⊎ (answer ≡ Hold) → mounted_all layout volumes (volume ∷ rest) mounts operator ≡ not_taken (Refused volume) same after
      asked-refused (inl is) = asked-answer No is ∙ not_taken-so (Refused volume)
      asked-refused (inr is) = asked-answer Hold is ∙ not_taken-so (Refused volume)

      pub asked-silent : answer ≡ Silent → mounted_all layout volumes (volume ∷ rest) mounts operator ≡ not_taken Awaited same after
      asked-silent is = asked-answer Silent is ∙ not_taken-so Awaited

-- nothing more is asked where it isn't taken
asked-stops : (layout : Layout) (volumes : List ℕ) (volume : ℕ) (rest : List ℕ) (old new : MachineRoomView) (taking : Taking) → (taking ≡ Taken → ⊥) → IsAskedFor layout volumes volume rest old new taking
    → mounted_all layout volumes (volume ∷ rest) old.mounts old.operator ≡ not_taken taking new.mounts new.operator
asked-stops layout volumes volume rest old new Taken isnt so = absurd (isnt refl)
asked-stops layout volumes volume rest old new (Exceeds need) isnt so = so
asked-stops layout volumes volume rest old new (Lacks need free) isnt so = so
asked-stops layout volumes volume rest old new (Refused one) isnt so = so
asked-stops layout volumes volume rest old new Awaited isnt so = so

-- a volume that is on a unit stays there
pub beside-itself : (volumes : List ℕ) (volume : ℕ) (old new : MountTable) → AreMounts new → new ≡ old → is_mounted (units_with [] old) volume ≡ true → IsMountedBeside volumes volume (units_with volumes old) (units_with volumes new)
beside-itself volumes volume old new sound same on = subst (λ (table : MountTable). IsMountedBeside volumes volume (units_with volumes table) (units_with volumes new)) same (record {
  on = subst (λ (table : MountTable). is_mounted (units_with volumes table) volume ≡ true) (sym same) on;
  stay = λ other among there. there;
  need = refl;
  units = pins-units sound volumes;
})

-- ---- nobody is asked

all-passed : (layout : Layout) (volumes rest : List ℕ) (mounts : MountTable) (operator : Option Answering) → are_mounted (units_with [] mounts) rest ≡ true
    → mounted_all layout volumes rest mounts operator ≡ record { taking = Taken; takes = Some volumes; mounts = mounts; operator = operator }
all-passed layout volumes [] mounts operator all = refl
all-passed layout volumes (volume ∷ rest) mounts operator all =
    let pinned = units_with volumes mounts in
    let none : unit_beside volumes volume mounts ≡ None = ap (λ b. cond b None (or_else (position is_none (units_in pinned)) (position (may_give_way pinned.uses pinned.pinned) (units_in pinned)))) (and-first (is_mounted pinned volume) _ all) in
    asked-none layout volumes volume rest mounts operator none ∙ all-passed layout volumes rest mounts operator (and-second (is_mounted pinned volume) _ all)

module _ (layout : Layout) (volumes : List ℕ) (room : MachineRoomView) where
  abbrev needed : Need
  needed = need_of (units_with [] room.mounts) volumes

  abbrev by_free : Bool → Attempt
  by_free lacks = cond lacks (not_taken (Lacks needed.need needed.free) room.mounts room.operator) (mounted_all layout volumes volumes room.mounts room.operator)

  abbrev by_units : Bool → Attempt
  by_units exceeds = cond exceeds (not_taken (Exceeds (length volumes)) room.mounts room.operator) (by_free (nat_lt needed.free needed.need))

  no_less : (one other : ℕ) → other ≤ one → nat_lt one other ≡ false
  no_less one other most = grind (arith, nat_tests)

  -- they need no more units than are free: each is asked for
  pub asked-fits : FitsUnits layout volumes room → asked_for layout volumes room.mounts room.operator ≡ mounted_all layout volumes volumes room.mounts room.operator
  asked-fits fits = ap by_units (no_less layout.units (length volumes) fits.units) ∙ ap by_free (no_less needed.free needed.need fits.free)

  pub unasked-lacks : (need free : ℕ) → length volumes ≤ layout.units → record { need = need; free = free } ≡ needed → free < need → NeedsNoQuestion layout volumes room (Lacks need free)
  unasked-lacks need free units is less =
      let e : asked_for layout volumes room.mounts room.operator ≡ not_taken (Lacks need free) room.mounts room.operator =
      ap by_units (no_less layout.units (length volumes) units)
      ∙ ap by_free (sym (ap (λ (one : Need). nat_lt one.free one.need) is) ∙ lt-ltb free need less)
      ∙ ap (λ (one : Need). not_taken (Lacks one.need one.free) room.mounts room.operator) (sym is) in
      record { taking_is = ap (λ (attempt : Attempt). attempt.taking) e; same = ap behind_attempt e; mounted = λ taken. absurd (not_so taken) }
    where
      not_so : Lacks need free ≡ Taken → ⊥
      not_so e = cc

  pub unasked-taken : FitsUnits layout volumes room → are_mounted (units_with [] room.mounts) volumes ≡ true → NeedsNoQuestion layout volumes room Taken
  unasked-taken fits all =
      let e = asked-fits fits ∙ all-passed layout volumes volumes room.mounts room.operator all in
      record { taking_is = ap (λ (attempt : Attempt). attempt.taking) e; same = ap behind_attempt e; mounted = λ taken. all }

-- ---- one after another

among-more : (volume first : ℕ) (rest : List ℕ) → is_among rest volume ≡ true → is_among (first ∷ rest) volume ≡ true
among-more volume first rest among = or_right (first == volume) _ among

among-front : (count : ℕ) (volumes : List ℕ) (volume : ℕ) → is_among (take count volumes) volume ≡ true → is_among volumes volume ≡ true
among-front zero volumes volume among = false-not-true among
among-front (suc count) [] volume among = among
among-front (suc count) (first ∷ rest) volume among = or-cases (first == volume) (is_among (take count rest) volume) among
    (λ same. or_left _ _ same)
    (λ more. or_right (first == volume) _ (among-front count rest volume more))

all-stay : (volumes front : List ℕ) (now later : UnitTable) → AreStillMounted volumes now later → ((volume : ℕ) → is_among front volume ≡ true → is_among volumes volume ≡ true)
    → list_all (is_mounted now) front ≡ true → list_all (is_mounted later) front ≡ true
all-stay volumes [] now later stay among all = refl
all-stay volumes (volume ∷ rest) now later stay among all = and_from _ _
    (stay volume (among volume (or_left _ _ (equal-itself volume))) (and-first (is_mounted now volume) _ all))
    (all-stay volumes rest now later stay (λ other is. among other (among-more other volume rest is)) (and-second (is_mounted now volume) _ all))

-- so many of the volumes are mounted, from where the machine room stood first; the others are asked for from where it stands now
pub record AreMountedSoFar (layout : Layout) (volumes : List ℕ) (first now : MachineRoomView) (count : ℕ) : Type 0 where
  pub same : mounted_all layout volumes volumes first.mounts first.operator ≡ mounted_all layout volumes (drop count volumes) now.mounts now.operator
  pub fit : (need_of (units_with [] now.mounts) volumes).need ≤ (need_of (units_with [] now.mounts) volumes).free
  pub mounted : list_all (is_mounted (units_with [] now.mounts)) (take count volumes) ≡ true

module _ (layout : Layout) (volumes : List ℕ) (first : MachineRoomView) where
  pub so_far-none : FitsUnits layout volumes first → AreMountedSoFar layout volumes first first 0
  so_far-none fits = record { same = refl; fit = fits.free; mounted = refl }

  module _ (now : MachineRoomView) (count : ℕ) (so_far : AreMountedSoFar layout volumes first now count) where
    module _ (later : MachineRoomView) (taking : Taking) (inside : count < length volumes) (so : (rest : List ℕ) → IsAskedFor layout volumes (get_or volumes count 0) rest now later taking) where
      abbrev volume : ℕ
      volume = get_or volumes count 0

      abbrev rest : List ℕ
      rest = drop (count + 1) volumes

      next : mounted_all layout volumes volumes first.mounts first.operator ≡ mounted_all layout volumes (volume ∷ rest) now.mounts now.operator
      next = so_far.same ∙ ap (λ others. mounted_all layout volumes others now.mounts now.operator) (drop_more volumes count 0 inside)

      pub so_far-more : taking ≡ Taken → IsMountedBeside volumes volume (units_with volumes now.mounts) (units_with volumes later.mounts) → AreMountedSoFar layout volumes first later (count + 1)
      so_far-more taken beside = record {
        same = next ∙ subst (IsAskedFor layout volumes volume rest now later) taken (so rest);
        fit = subst (λ (one : Need). one.need ≤ one.free) (sym beside.need) so_far.fit;
        mounted = list_all_more (is_mounted (units_with [] later.mounts)) volumes count 0 inside
            ∙ and_from _ _ (all-stay volumes (take count volumes) (units_with volumes now.mounts) (units_with volumes later.mounts) beside.stay (among-front count volumes) so_far.mounted) beside.on;
      }

      pub so_far-stops : FitsUnits layout volumes first → (taking ≡ Taken → ⊥) → asked_for layout volumes first.mounts first.operator ≡ not_taken taking later.mounts later.operator
      so_far-stops fits isnt = asked-fits layout volumes first fits ∙ next ∙ asked-stops layout volumes volume rest now later taking isnt (so rest)

    module _ (beyond : length volumes ≤ count) where
      pub so_far-all : FitsUnits layout volumes first → asked_for layout volumes first.mounts first.operator ≡ record { taking = Taken; takes = Some volumes; mounts = now.mounts; operator = now.operator }
      so_far-all fits = asked-fits layout volumes first fits ∙ so_far.same ∙ ap (λ others. mounted_all layout volumes others now.mounts now.operator) (drop_all count volumes beyond)

      pub so_far-mounted : are_mounted (units_with [] now.mounts) volumes ≡ true
      so_far-mounted = subst (λ front. list_all (is_mounted (units_with [] now.mounts)) front ≡ true) (take_all count volumes beyond) so_far.mounted

-- ---- what becomes of them

-- all are mounted, one of them is refused, or an answer is awaited
abbrev pub MayCome : List ℕ → Taking → Type 0
MayCome volumes Taken = Unit {0}
MayCome volumes (Exceeds need) = ⊥
MayCome volumes (Lacks need free) = ⊥
MayCome volumes (Refused volume) = is_among volumes volume ≡ true
MayCome volumes Awaited = Unit {0}

-- the volumes are taken where all are mounted
abbrev pub takes_by : List ℕ → Taking → Option (List ℕ)
takes_by volumes Taken = Some volumes
takes_by volumes _ = None

module _ (layout : Layout) (volumes : List ℕ) where
  -- by the answer for the first one, where this holds of the others
  module _ (P : Attempt → Type 0) (first : ℕ) (others : List ℕ) (mounts : MountTable) (operator : Option Answering)
      (refused : P (not_taken (Refused first) mounts (asked operator))) (awaited : P (not_taken Awaited mounts (asked operator)))
      (later : (table : MountTable) → table.held ≡ mounts.held → (office : Option Answering) → P (mounted_all layout volumes others table office)) where
    answer-cases : (unit : ℕ) (answer : Answer) → P (by_answer layout volumes first others mounts operator unit answer)
    answer-cases unit Yes = later (with_mount first unit mounts) refl (asked operator)
    answer-cases unit No = refused
    answer-cases unit Hold = refused
    answer-cases unit Silent = awaited

    unit-cases : (unit : Option ℕ) → P (by_unit layout volumes first others mounts operator unit)
    unit-cases None = later mounts refl operator
    unit-cases (Some unit) = answer-cases unit (answer_in_office (mount_question layout first unit) operator)

    mounted-cases : P (mounted_all layout volumes (first ∷ others) mounts operator)
    mounted-cases = unit-cases (unit_beside volumes first mounts)

  mounted-comes : (others : List ℕ) (mounts : MountTable) (operator : Option Answering) → ((one : ℕ) → is_among others one ≡ true → is_among volumes one ≡ true)
      → MayCome volumes (mounted_all layout volumes others mounts operator).taking
  mounted-comes [] mounts operator among = tt
  mounted-comes (first ∷ others) mounts operator among =
      mounted-cases (λ (attempt : Attempt). MayCome volumes attempt.taking) first others mounts operator (among first (or_left _ _ (equal-itself first))) tt
      (λ table same office. mounted-comes others table office (λ one is. among one (among-more one first others is)))

  mounted-takes : (others : List ℕ) (mounts : MountTable) (operator : Option Answering)
      → (mounted_all layout volumes others mounts operator).takes ≡ takes_by volumes (mounted_all layout volumes others mounts operator).taking
  mounted-takes [] mounts operator = refl
  mounted-takes (first ∷ others) mounts operator =
      mounted-cases (λ (attempt : Attempt). attempt.takes ≡ takes_by volumes attempt.taking) first others mounts operator refl refl (λ table same office. mounted-takes others table office)

  -- what steps hold stays
  mounted-held : (others : List ℕ) (mounts : MountTable) (operator : Option Answering) → (mounted_all layout volumes others mounts operator).mounts.held ≡ mounts.held
  mounted-held [] mounts operator = refl
  mounted-held (first ∷ others) mounts operator =
      mounted-cases (λ (attempt : Attempt). attempt.mounts.held ≡ mounts.held) first others mounts operator refl refl (λ table same office. mounted-held others table office ∙ same)

  module _ (room : MachineRoomView) where
    pub asked-comes : FitsUnits layout volumes room → MayCome volumes (asked_for layout volumes room.mounts room.operator).taking
    asked-comes fits =
        subst (λ (attempt : Attempt). MayCome volumes attempt.taking) (sym (asked-fits layout volumes room fits)) (mounted-comes volumes room.mounts room.operator (λ volume is. is))

    pub asked-takes : (asked_for layout volumes room.mounts room.operator).takes ≡ takes_by volumes (asked_for layout volumes room.mounts room.operator).taking
    asked-takes = units_cases (nat_lt layout.units (length volumes))
      where
        free_cases : (lacks : Bool) → (by_free layout volumes room lacks).takes ≡ takes_by volumes (by_free layout volumes room lacks).taking
        free_cases true = refl
        free_cases false = mounted-takes volumes room.mounts room.operator

        units_cases : (exceeds : Bool) → (by_units layout volumes room exceeds).takes ≡ takes_by volumes (by_units layout volumes room exceeds).taking
        units_cases true = refl
        units_cases false = free_cases (nat_lt (needed layout volumes room).free (needed layout volumes room).need)

    pub asked-held : FitsUnits layout volumes room → (asked_for layout volumes room.mounts room.operator).mounts.held ≡ room.mounts.held
    asked-held fits = ap (λ (attempt : Attempt). attempt.mounts.held) (asked-fits layout volumes room fits) ∙ mounted-held volumes room.mounts room.operator

-- what isn't all mounted is not taken
pub takes-none : (volumes : List ℕ) (taking : Taking) → (taking ≡ Taken → ⊥) → takes_by volumes taking ≡ None
takes-none volumes Taken isnt = absurd (isnt refl)
takes-none volumes (Exceeds need) isnt = refl
takes-none volumes (Lacks need free) isnt = refl
takes-none volumes (Refused one) isnt = refl
takes-none volumes Awaited isnt = refl

-- one that is kept passes
among-kept : (kept : ℕ → Bool) (volumes : List ℕ) (one : ℕ) → is_among (filter kept volumes) one ≡ true → kept one ≡ true
among-kept kept [] one among = false-not-true among
among-kept kept (first ∷ others) one among =
    bool-cases (kept first)
    (λ stays. or-cases (first == one) (is_among (filter kept others) one) (subst (λ b. is_among (cond b (first ∷ filter kept others) (filter kept others)) one ≡ true) stays among)
    (λ same. subst (λ it. kept it ≡ true) (equal-true first one same) stays)
    (λ more. among-kept kept others one more))
    (λ goes. among-kept kept others one (subst (λ b. is_among (cond b (first ∷ filter kept others) (filter kept others)) one ≡ true) goes among))

-- a volume that a step wants is that of one of its DDs
pub wanted-dd : (layout : Layout) (step : Wanting) (volume : ℕ) → is_among (volumes_of layout step) volume ≡ true → is_some (dd_on step (Some volume)) ≡ true
wanted-dd layout step volume among = among-kept (λ volume. is_some (dd_on step (Some volume))) (range_with_len 0 (length layout.volumes.items)) volume among
