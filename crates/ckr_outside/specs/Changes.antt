-- The content of a disk in memory after the changes that its calls made, and the images that a stop may leave.
use Rattle.std.specs.Prelude.{◌≡◌, ◌≤◌, ◌+◌, ℕ, List, [], ◌∷◌, ◌++◌, length, take, drop, nat_le, if◌then◌else◌}
use Rattle.ckr_outside.specs.Disk.{StemsFrom}
use Rattle.ckr_outside.specs.declared.changes.Change.{Change}
use Rattle.ckr_outside.specs.declared.changes.Change.TheVariants.{Wrote, Spoiled, Synced, Nothing}

-- these bytes at this place, where they fit
abbrev pub overwritten : ℕ → List ℕ → List ℕ → List ℕ
overwritten at bytes old = if nat_le (at + length bytes) (length old) then take at old ++ bytes ++ drop (at + length bytes) old else old

abbrev pub content_step : List ℕ → Change → List ℕ
content_step now (Wrote at bytes) = overwritten at bytes.items now
content_step now (Spoiled at n) = now
content_step now Synced = now
content_step now Nothing = now

-- what a stop may leave after one more change, which found this content and these images
abbrev pub ImageStep : List ℕ → (List ℕ → Type 0) → Change → List ℕ → Type 0
ImageStep now images (Wrote at bytes) image = StemsFrom images at (length bytes.items) image
ImageStep now images (Spoiled at n) image = StemsFrom images at n image
ImageStep now images Synced image = image ≡ now
ImageStep now images Nothing image = images image

abbrev pub content_after : List ℕ → List Change → List ℕ
content_after now [] = now
content_after now (change ∷ changes) = content_after (content_step now change) changes

abbrev pub ImageAfter : List ℕ → (List ℕ → Type 0) → List Change → List ℕ → Type 0
ImageAfter now images [] image = images image
ImageAfter now images (change ∷ changes) image = ImageAfter (content_step now change) (ImageStep now images change) changes image

-- an image of a disk that began with this content and nothing pending
abbrev pub IsImage : List ℕ → List Change → List ℕ → Type 0
IsImage first changes image = ImageAfter first (λ content. content ≡ first) changes image

-- an image after the first t changes or more
abbrev pub LeftSince : List ℕ → List Change → ℕ → List ℕ → Type 0
LeftSince first changes t image = (k : ℕ) × (t ≤ k) × (k ≤ length changes) × IsImage first (take k changes) image
