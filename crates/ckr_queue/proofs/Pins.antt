-- Which volumes are pinned, and which are in use, as the lists of the calls say.
use Rattle.std.proofs.Common.{◌≡◌, ℕ, zero, suc, ◌+◌, ◌-◌, Bool, true, false, ◌||◌, ◌==◌, ◌∙◌, List, [], ◌∷◌, arith, ap, fold, get_or, length, nat_lt, refl, replicate, set, subst, sym}
use Rattle.std.specs.List.{slice_set}
use Rattle.std.proofs.lemmas.Bool.{or_left, or_right}
use Rattle.std.proofs.lemmas.Bool.Decides.{nat_tests}
use Rattle.std.proofs.lemmas.List.{get_or-set_same, length-set, length-replicate}
use Rattle.ckr_base.proofs.Bools.{false-not-true, or-cases}
use Rattle.ckr_base.proofs.Numbers.{equal-from, equal-true}
use Rattle.ckr_queue.specs.Units.{is_among, is_pinned, is_used, is_volume_list, pinned_by, with_fewer_uses, with_more_uses}
use Rattle.ckr_queue.proofs.Lists.{first_of}

-- what stands at a place behind a write is what was written, where that is the place, or what stood there
pub set-either : {X : Type 0} (P : X → Type 0) (xs : List X) (i j : ℕ) (y d : X) → (j ≡ i → P y) → P (get_or xs j d) → P (get_or (set xs i y) j d)
set-either P [] i j y d here there = there
set-either P (x ∷ xs) zero zero y d here there = here refl
set-either P (x ∷ xs) zero (suc j) y d here there = there
set-either P (x ∷ xs) (suc i) zero y d here there = there
set-either P (x ∷ xs) (suc i) (suc j) y d here there = set-either P xs i j y d (λ e. here (ap suc e)) there

-- ---- pinned volumes

abbrev with_pins : List ℕ → List Bool → List Bool
with_pins volumes pins = fold (λ now volume. slice_set now volume true) pins volumes

with_pins-among : (volumes : List ℕ) (pins : List Bool) (volume : ℕ) → is_pinned (with_pins volumes pins) volume ≡ true → (is_among volumes volume || is_pinned pins volume) ≡ true
with_pins-among [] pins volume e = e
with_pins-among (first ∷ rest) pins volume e =
    or-cases (is_among rest volume) (is_pinned (slice_set pins first true) volume) (with_pins-among rest (slice_set pins first true) volume e)
    (λ among. or_left _ _ (or_right (first == volume) _ among))
    (λ pinned. set-either (λ b. b ≡ true → (is_among (first ∷ rest) volume || is_pinned pins volume) ≡ true) pins first volume true false
    (λ same on. or_left _ _ (or_left _ _ (equal-from first volume (sym same))))
    (λ on. or_right _ _ on)
    pinned)

with_pins-stay : (volumes : List ℕ) (pins : List Bool) (volume : ℕ) → is_pinned pins volume ≡ true → is_pinned (with_pins volumes pins) volume ≡ true
with_pins-stay [] pins volume e = e
with_pins-stay (first ∷ rest) pins volume e = with_pins-stay rest (slice_set pins first true) volume (set-either (λ b. b ≡ true) pins first volume true false (λ same. refl) e)

with_pins-pinned : (volumes : List ℕ) (pins : List Bool) (volume : ℕ) → is_volume_list volumes ≡ true → length pins ≡ 32 → is_among volumes volume ≡ true → is_pinned (with_pins volumes pins) volume ≡ true
with_pins-pinned [] pins volume list long among = false-not-true among
with_pins-pinned (first ∷ rest) pins volume list long among =
    let parts = first_of first rest list in
    or-cases (first == volume) (is_among rest volume) among
    (λ same.
    let set_there : is_pinned (slice_set pins first true) first ≡ true = get_or-set_same pins first true false (let low = parts.low in omega arith) in
    with_pins-stay rest (slice_set pins first true) volume (subst (λ v. is_pinned (slice_set pins first true) v ≡ true) (equal-true first volume same) set_there))
    (λ more. with_pins-pinned rest (slice_set pins first true) volume parts.list (length-set pins first true ∙ long) more)

none-pinned : (count volume : ℕ) → is_pinned (replicate count false) volume ≡ false
none-pinned zero volume = refl
none-pinned (suc count) zero = refl
none-pinned (suc count) (suc volume) = none-pinned count volume

pub pinned-among : (volumes : List ℕ) (volume : ℕ) → is_pinned (pinned_by volumes) volume ≡ true → is_among volumes volume ≡ true
pinned-among volumes volume e =
    or-cases (is_among volumes volume) (is_pinned (replicate 32 false) volume) (with_pins-among volumes (replicate 32 false) volume e)
    (λ among. among)
    (λ pinned. false-not-true (sym (none-pinned 32 volume) ∙ pinned))

pub among-pinned : (volumes : List ℕ) (volume : ℕ) → is_volume_list volumes ≡ true → is_among volumes volume ≡ true → is_pinned (pinned_by volumes) volume ≡ true
among-pinned volumes volume list among = with_pins-pinned volumes (replicate 32 false) volume list (length-replicate 32 false) among

-- ---- volumes in use

pub used-more : (volumes uses : List ℕ) (volume : ℕ) → is_used (with_more_uses volumes uses) volume ≡ true → (is_among volumes volume || is_used uses volume) ≡ true
used-more [] uses volume e = e
used-more (first ∷ rest) uses volume e =
    let now = slice_set uses first (get_or uses first 0 + 1) in
    or-cases (is_among rest volume) (is_used now volume) (used-more rest now volume e)
    (λ among. or_left _ _ (or_right (first == volume) _ among))
    (λ used. set-either (λ n. nat_lt 0 n ≡ true → (is_among (first ∷ rest) volume || is_used uses volume) ≡ true) uses first volume (get_or uses first 0 + 1) 0
    (λ same on. or_left _ _ (or_left _ _ (equal-from first volume (sym same))))
    (λ on. or_right _ _ on)
    used)

fewer : (n : ℕ) → nat_lt 0 (n - 1) ≡ true → nat_lt 0 n ≡ true
fewer n e = grind (arith, nat_tests)

pub used-fewer : (volumes uses : List ℕ) (volume : ℕ) → is_used (with_fewer_uses volumes uses) volume ≡ true → is_used uses volume ≡ true
used-fewer [] uses volume e = e
used-fewer (first ∷ rest) uses volume e =
    set-either (λ n. nat_lt 0 n ≡ true → is_used uses volume ≡ true) uses first volume (get_or uses first 0 - 1) 0
    (λ same on. subst (λ v. is_used uses v ≡ true) (sym same) (fewer (get_or uses first 0) on))
    (λ on. on)
    (used-fewer rest (slice_set uses first (get_or uses first 0 - 1)) volume e)
