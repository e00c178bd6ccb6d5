-- What a stop leaves of a disk from its first sync on, with which opening begins.
use Rattle.std.specs.Prelude.{◌≡◌, ◌⊎◌, ℕ, List, [], Ok}
use Rattle.ckr_outside.specs.Disk.{EachSince, Only, OnlyReads}
use Rattle.ckr_desk_store.specs.OpenImages.{event_records}
use Rattle.ckr_desk.specs.declared.error.OpenError.{OpenError}
use Rattle.ckr_desk.specs.declared.error.OpenError.TheVariants.{Fault}
use Rattle.ckr_desk.specs.Opening.{opening_of}
use Rattle.ckr_desk.specs.Soundness.{HasKept}
use Rattle.ckr_desk.specs.State.{Opened}

module _ {D : Type 0} (content : D → List ℕ) (may_leave : D → List ℕ → Type 0) (moment : D → ℕ) (left_since : D → ℕ → List ℕ → Type 0) where
  -- Up to a first sync the disk is only read, so that a stop leaves an image of before. The sync leaves no image but what a read gives, and
  -- from it on each image has P.
  pub record FromSync (old new : D) (P : List ℕ → Type 0) : Type 0 where
    pub synced : D
    pub reads : OnlyReads content may_leave moment left_since old synced
    pub settled : Only (content synced) (may_leave synced)
    pub since : EachSince moment left_since synced new P

  module _ (size : D → ℕ) (told sound : Type 0) where
    -- The disk failed behind its events, with which it opens, while the record of the last one was written again: from the first sync on a
    -- stop leaves a sound image with exactly these events.
    pub record FailsLate (error : OpenError) (old new : D) : Type 0 where
      pub failed : error ≡ Fault
      pub opened : Opened
      pub opens : told → opening_of (content old) (size old) ≡ Ok opened
      pub kept : sound → FromSync old new (HasKept opened.layout (size old) (event_records opened.layout (content old)) [])

    -- a disk that isn't opened was only read, or failed late
    abbrev pub IsLeft : OpenError → D → D → Type 0
    IsLeft error old new = OnlyReads content may_leave moment left_since old new ⊎ FailsLate error old new
