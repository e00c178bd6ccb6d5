-- What a stop leaves of the disk, whenever it comes while requests are served, and what the disk has then.
use Rattle.std.specs.Prelude.{◌≡◌, ◌≤◌, ◌⊎◌, ℕ, List, ◌++◌}
use Rattle.ckr_outside.specs.Disk.{EachSince}
use Rattle.ckr_desk.specs.Model.Layout.{Layout}
use Rattle.ckr_desk.specs.Model.OpenImages.{event_records}
use Rattle.ckr_desk.specs.Soundness.{HasKept}
use Rattle.ckr_desk.specs.State.{DeskView, disk_of, layout_of}

-- all events that came, or those alone that were kept for sure
abbrev pub AllOrKept : List (List ℕ) → List (List ℕ) → List (List ℕ) → Type 0
AllOrKept came kept these = (these ≡ came) ⊎ (these ≡ kept)

-- These events came, of which these were kept for sure, and of both this is so. `Each` says what a stop meanwhile leaves, by the events that
-- came, and `Has` what the disk has in the end: all of them, or those that were kept.
pub record Comes (Each : List (List ℕ) → Type 0) (Has : (List (List ℕ) → Type 0) → Type 0) (So : List (List ℕ) → List (List ℕ) → Type 0) : Type 0 where
  pub came : List (List ℕ)
  pub kept : List (List ℕ)
  pub so : So came kept
  pub each : Each came
  pub has : Has (AllOrKept came kept)

-- an image has these events before, and behind them such
abbrev pub HasBehind : Layout → List (List ℕ) → (List (List ℕ) → Type 0) → List ℕ → Type 0
HasBehind layout before Such image = (these : List (List ℕ)) × Such these × (event_records layout image ≡ before ++ these)

-- what the disk reads has these events before, and behind them such, and so has each of the images
pub record HasEverywhere {D : Type 0} (content : D → List ℕ) (images : D → List ℕ → Type 0) (layout : Layout) (before : List (List ℕ)) (disk : D) (Such : List (List ℕ) → Type 0) : Type 0 where
  pub reads : HasBehind layout before Such (content disk)
  pub left : (image : List ℕ) → images disk image → HasBehind layout before Such image

module _ {D : Type 0} (content : D → List ℕ) (moment : D → ℕ) (left_since : D → ℕ → List ℕ → Type 0) (size : D → ℕ) where
  -- a stop now leaves the image, and so one since any moment before might have left it
  abbrev pub IsLeftNow : D → List ℕ → Type 0
  IsLeftNow disk image = (t : ℕ) → t ≤ moment disk → left_since disk t image

  -- a stop at any moment from a desk to a disk leaves a sound image with the events of the desk, and the first of those that came then
  abbrev pub KeepsTo : DeskView D → D → List (List ℕ) → Type 0
  KeepsTo old new came = EachSince moment left_since (disk_of old) new
      (HasKept (layout_of old) (size (disk_of old)) (event_records (layout_of old) (content (disk_of old))) came)

  -- the disk reads the events of the desk, and these
  abbrev pub Has : DeskView D → D → List (List ℕ) → Type 0
  Has old new came = event_records (layout_of old) (content new) ≡ event_records (layout_of old) (content (disk_of old)) ++ came

  -- what it reads has them and such, and so has each image that a stop now leaves
  abbrev pub HasSuch : DeskView D → D → (List (List ℕ) → Type 0) → Type 0
  HasSuch old new Such = HasEverywhere content IsLeftNow (layout_of old) (event_records (layout_of old) (content (disk_of old))) new Such

  -- from one desk to the other these events came, and a stop behind them leaves them all
  pub record Goes (old new : DeskView D) : Type 0 where
    pub came : List (List ℕ)
    pub each : KeepsTo old (disk_of new) came
    pub has : Has old (disk_of new) came
    pub left : (image : List ℕ) → IsLeftNow (disk_of new) image → event_records (layout_of old) image ≡ event_records (layout_of old) (content (disk_of old)) ++ came
    pub same_layout : layout_of new ≡ layout_of old
    pub same_size : size (disk_of new) ≡ size (disk_of old)

  -- from a desk to a disk it came to this
  abbrev pub Stopped : DeskView D → D → (List (List ℕ) → List (List ℕ) → Type 0) → Type 0
  Stopped old new So = Comes (KeepsTo old new) (HasSuch old new) So
