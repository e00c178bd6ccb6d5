-- What holds of the images of a disk in memory.
use Rattle.std.specs.Prelude.{◌≡◌, ◌≤◌, ◌+◌, ◌⊎◌, ℕ, List, [], ◌∷◌, ◌++◌, length, take, drop, nat_le}
use Rattle.std.proofs.Common.{inl, inr, ⊎_elim, refl, sym, ◌∙◌, ap, subst, arith}
use Rattle.std.proofs.lemmas.Bool.{cases_lt, cond-true, cond_both, leb-true, le-leb}
use Rattle.std.proofs.lemmas.List.{take_all, take-append-le, length_push}
use Rattle.ckr_outside.specs.Disk.{Overwrites, SameOutside, Remembers}
use Rattle.ckr_outside.specs.Ranges.{same_outside_itself, same_outside_written}
use Rattle.ckr_outside.specs.Changes.{overwritten, content_step, ImageStep, content_after, ImageAfter, IsImage, LeftSince}
use Rattle.ckr_outside.specs.declared.changes.Change.{Change}
use Rattle.ckr_outside.specs.declared.changes.Change.TheVariants.{Wrote, Spoiled, Synced, Nothing}

pub overwritten_fits : (at : ℕ) (bytes old : List ℕ) → at + length bytes ≤ length old → Overwrites at bytes old (overwritten at bytes old)
overwritten_fits at bytes old fits = cond-true (nat_le (at + length bytes) (length old)) _ _ (le-leb _ _ fits)

pub overwritten_outside : (at : ℕ) (bytes old : List ℕ) → SameOutside at (length bytes) old (overwritten at bytes old)
overwritten_outside at bytes old =
    cond_both (nat_le (at + length bytes) (length old)) (take at old ++ bytes ++ drop (at + length bytes) old) old (λ l. SameOutside at (length bytes) old l)
    (λ fits. same_outside_written at bytes old _ (leb-true _ _ fits) refl)
    (λ past. same_outside_itself at (length bytes) old)

length-content_step : (now : List ℕ) (change : Change) → length (content_step now change) ≡ length now
length-content_step now (Wrote at bytes) = (overwritten_outside at bytes.items now).as_long
length-content_step now (Spoiled at n) = refl
length-content_step now Synced = refl
length-content_step now Nothing = refl

pub length-content_after : (now : List ℕ) (changes : List Change) → length (content_after now changes) ≡ length now
length-content_after now [] = refl
length-content_after now (change ∷ changes) = length-content_after (content_step now change) changes ∙ length-content_step now change

content_pushed : (now : List ℕ) (changes : List Change) (change : Change) → content_after now (changes ++ change ∷ []) ≡ content_step (content_after now changes) change
content_pushed now [] change = refl
content_pushed now (c ∷ changes) change = content_pushed (content_step now c) changes change

-- an image after one change more
image_pushed : (now : List ℕ) (images : List ℕ → Type 0) (changes : List Change) (change : Change) (image : List ℕ)
    → ImageAfter now images (changes ++ change ∷ []) image → ImageStep (content_after now changes) (ImageAfter now images changes) change image
image_pushed now images [] change image is = is
image_pushed now images (c ∷ changes) change image is = image_pushed (content_step now c) (ImageStep now images c) changes change image is

-- each image has the disk's length
step_sized : (now : List ℕ) (images : List ℕ → Type 0) (change : Change) → ((image : List ℕ) → images image → length image ≡ length now)
    → (image : List ℕ) → ImageStep now images change image → length image ≡ length (content_step now change)
step_sized now images (Wrote at bytes) sized image is = is.2.as_long ∙ sized is.0 is.1 ∙ sym (length-content_step now (Wrote at bytes))
step_sized now images (Spoiled at n) sized image is = is.2.as_long ∙ sized is.0 is.1
step_sized now images Synced sized image is = ap length is
step_sized now images Nothing sized image is = sized image is

after_sized : (now : List ℕ) (images : List ℕ → Type 0) (changes : List Change) → ((image : List ℕ) → images image → length image ≡ length now)
    → (image : List ℕ) → ImageAfter now images changes image → length image ≡ length now
after_sized now images [] sized image is = sized image is
after_sized now images (c ∷ changes) sized image is =
    after_sized (content_step now c) (ImageStep now images c) changes (step_sized now images c sized) image is ∙ length-content_step now c

pub image_sized : (first : List ℕ) (changes : List Change) (image : List ℕ) → IsImage first changes image → length image ≡ length first
image_sized first changes image is = after_sized first (λ content. content ≡ first) changes (λ content e. ap length e) image is

-- what a read gives is one of them
step_reads : (now : List ℕ) (images : List ℕ → Type 0) (change : Change) → images now → ImageStep now images change (content_step now change)
step_reads now images (Wrote at bytes) is = (now, is, overwritten_outside at bytes.items now)
step_reads now images (Spoiled at n) is = (now, is, same_outside_itself at n now)
step_reads now images Synced is = refl
step_reads now images Nothing is = is

after_reads : (now : List ℕ) (images : List ℕ → Type 0) (changes : List Change) → images now → ImageAfter now images changes (content_after now changes)
after_reads now images [] is = is
after_reads now images (c ∷ changes) is = after_reads (content_step now c) (ImageStep now images c) changes (step_reads now images c is)

pub image_read : (first : List ℕ) (changes : List Change) → IsImage first changes (content_after first changes)
image_read first changes = after_reads first (λ content. content ≡ first) changes refl

-- the clock: the number of changes
pub since_now : (first : List ℕ) (changes : List Change) (t : ℕ) (image : List ℕ) → t ≤ length changes → IsImage first changes image → LeftSince first changes t image
since_now first changes t image le is =
    (length changes, le, (omega arith), subst (λ (cs : List Change). IsImage first cs image) (sym (take_all (length changes) changes (omega arith))) is)

pub since_only_now : (first : List ℕ) (changes : List Change) (image : List ℕ) → LeftSince first changes (length changes) image → IsImage first changes image
since_only_now first changes image left = subst (λ (cs : List Change). IsImage first cs image) (take_all left.0 changes left.1) left.3

pub since_sized : (first : List ℕ) (changes : List Change) (t : ℕ) (image : List ℕ) → LeftSince first changes t image → length image ≡ length first
since_sized first changes t image left = image_sized first (take left.0 changes) image left.3

early_or_late : (k n m : ℕ) → m ≡ n + 1 → (k ≤ n) ⊎ (m ≤ k)
early_or_late k n m more = elim (cases_lt n k) [ inl late ↦ inr (omega arith) | inr early ↦ inl early ]

-- with one change more there is no older image more, and none less
since_pushed : (first : List ℕ) (changes : List Change) (change : Change) (t : ℕ) (image : List ℕ)
    → LeftSince first (changes ++ change ∷ []) t image → LeftSince first changes t image ⊎ IsImage first (changes ++ change ∷ []) image
since_pushed first changes change t image left =
    let all = changes ++ change ∷ [] in
    ⊎_elim
    (λ early. inl (left.0, left.1, early, subst (λ (cs : List Change). IsImage first cs image) (take-append-le left.0 changes (change ∷ []) early) left.3))
    (λ late. inr (subst (λ (cs : List Change). IsImage first cs image) (take_all left.0 all late) left.3))
    (early_or_late left.0 (length changes) (length all) (length_push changes change))

since_kept : (first : List ℕ) (changes : List Change) (change : Change) (t : ℕ) (image : List ℕ) → LeftSince first changes t image → LeftSince first (changes ++ change ∷ []) t image
since_kept first changes change t image left =
    (left.0, left.1, (omega (arith, left.2, length_push changes change)), subst (λ (cs : List Change). IsImage first cs image) (sym (take-append-le left.0 changes (change ∷ []) left.2)) left.3)

-- the same, where a list is known to have one change more
pub content_to : (first : List ℕ) (old new : List Change) (change : Change) → new ≡ old ++ change ∷ [] → content_after first new ≡ content_step (content_after first old) change
content_to first old new change is = ap (content_after first) is ∙ content_pushed first old change

pub image_to : (first : List ℕ) (old new : List Change) (change : Change) → new ≡ old ++ change ∷ []
    → (image : List ℕ) → IsImage first new image → ImageStep (content_after first old) (IsImage first old) change image
image_to first old new change is image now =
    image_pushed first (λ content. content ≡ first) old change image (subst (λ (cs : List Change). IsImage first cs image) is now)

pub remembers_to : (first : List ℕ) (old new : List Change) (change : Change) → new ≡ old ++ change ∷ [] → Remembers (length old) (LeftSince first old) (LeftSince first new)
remembers_to first old new change is t image le left = subst (λ (cs : List Change). LeftSince first cs t image) (sym is) (since_kept first old change t image left)

-- the images since, where each image of now has P
pub since_to : (first : List ℕ) (old new : List Change) (change : Change) → new ≡ old ++ change ∷ []
    → (t : ℕ) (image : List ℕ) → LeftSince first new t image → LeftSince first old t image ⊎ IsImage first new image
since_to first old new change is t image left =
    ⊎_elim (λ was. inl was) (λ now. inr (subst (λ (cs : List Change). IsImage first cs image) (sym is) now))
    (since_pushed first old change t image (subst (λ (cs : List Change). LeftSince first cs t image) is left))
