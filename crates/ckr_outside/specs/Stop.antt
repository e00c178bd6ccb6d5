-- What a stop of a disk in memory leaves, by what is picked for the pending ranges.
use Rattle.std.specs.Prelude.{◌≡◌, ℕ, List, [], ◌∷◌, length, replicate}
use Rattle.std.proofs.Common.{refl, ap, subst, ◌∙◌}
use Rattle.std.proofs.lemmas.List.{length-replicate}
use Rattle.ckr_outside.specs.Disk.{SameOutside}
use Rattle.ckr_outside.specs.Ranges.{same_outside_itself}
use Rattle.ckr_outside.specs.Changes.{overwritten, content_step, ImageStep, content_after, ImageAfter, IsImage}
use Rattle.ckr_outside.specs.Images.{overwritten_outside}
use Rattle.ckr_outside.specs.declared.changes.Change.{Change}
use Rattle.ckr_outside.specs.declared.changes.Change.TheVariants.{Wrote, Spoiled, Synced, Nothing}
use Rattle.ckr_outside.specs.declared.changes.Pick.{Pick}
use Rattle.ckr_outside.specs.declared.changes.Pick.TheVariants.{Kept, Lost, Filled}

-- a range that was written, or that a failed write may have spoiled
abbrev pub left_step : Pick → List ℕ → List ℕ → Change → List ℕ
left_step Kept now left (Wrote at bytes) = overwritten at bytes.items left
left_step Lost now left (Wrote at bytes) = left
left_step (Filled byte) now left (Wrote at bytes) = overwritten at (replicate (length bytes.items) byte) left
left_step Kept now left (Spoiled at n) = left
left_step Lost now left (Spoiled at n) = left
left_step (Filled byte) now left (Spoiled at n) = overwritten at (replicate n byte) left
left_step pick now left Synced = now
left_step pick now left Nothing = left

-- what a stop leaves after these changes
abbrev pub left_after : Pick → List ℕ → List ℕ → List Change → List ℕ
left_after pick now left [] = left
left_after pick now left (change ∷ changes) = left_after pick (content_step now change) (left_step pick now left change) changes

filled_outside : (at n byte : ℕ) (left : List ℕ) → SameOutside at n left (overwritten at (replicate n byte) left)
filled_outside at n byte left =
    subst (λ (k : ℕ). SameOutside at k left (overwritten at (replicate n byte) left)) (length-replicate n byte) (overwritten_outside at (replicate n byte) left)

-- it is an image
left_image_step : (pick : Pick) (now left : List ℕ) (images : List ℕ → Type 0) (change : Change) → images left → ImageStep now images change (left_step pick now left change)
left_image_step Kept now left images (Wrote at bytes) is = (left, is, overwritten_outside at bytes.items left)
left_image_step Lost now left images (Wrote at bytes) is = (left, is, same_outside_itself at (length bytes.items) left)
left_image_step (Filled byte) now left images (Wrote at bytes) is = (left, is, filled_outside at (length bytes.items) byte left)
left_image_step Kept now left images (Spoiled at n) is = (left, is, same_outside_itself at n left)
left_image_step Lost now left images (Spoiled at n) is = (left, is, same_outside_itself at n left)
left_image_step (Filled byte) now left images (Spoiled at n) is = (left, is, filled_outside at n byte left)
left_image_step Kept now left images Synced is = refl
left_image_step Lost now left images Synced is = refl
left_image_step (Filled byte) now left images Synced is = refl
left_image_step Kept now left images Nothing is = is
left_image_step Lost now left images Nothing is = is
left_image_step (Filled byte) now left images Nothing is = is

left_image_after : (pick : Pick) (now left : List ℕ) (images : List ℕ → Type 0) (changes : List Change) → images left → ImageAfter now images changes (left_after pick now left changes)
left_image_after pick now left images [] is = is
left_image_after pick now left images (c ∷ changes) is =
    left_image_after pick (content_step now c) (left_step pick now left c) (ImageStep now images c) changes (left_image_step pick now left images c is)

pub left_image : (pick : Pick) (first : List ℕ) (changes : List Change) → IsImage first changes (left_after pick first first changes)
left_image pick first changes = left_image_after pick first first (λ content. content ≡ first) changes refl

-- where the new bytes are kept, it is what a read gave
kept_step : (now : List ℕ) (change : Change) → left_step Kept now now change ≡ content_step now change
kept_step now (Wrote at bytes) = refl
kept_step now (Spoiled at n) = refl
kept_step now Synced = refl
kept_step now Nothing = refl

pub kept : (now : List ℕ) (changes : List Change) → left_after Kept now now changes ≡ content_after now changes
kept now [] = refl
kept now (c ∷ changes) = ap (λ (l : List ℕ). left_after Kept (content_step now c) l changes) (kept_step now c) ∙ kept (content_step now c) changes
