-- What a stop leaves of a disk that is opened and then served.
use Rattle.std.proofs.Common.{◌≡◌, ◌≤◌, ◌++◌, ◌∙◌, ℕ, List, [], ⊎_elim, ap, sym, subst}
use Rattle.ckr_outside.specs.Disk.{EachSince, OnlyReads}
use Rattle.ckr_outside.specs.Moments.{and_then, in_other_words}
use Rattle.ckr_session.specs.Model.OpenImages.{event_records}
use Rattle.ckr_session.specs.Model.OpenError.{OpenError}
use Rattle.ckr_session.specs.Model.FirstSync.{FailsLate, FromSync, IsLeft}
use Rattle.ckr_session.specs.Model.Soundness.{AllSound, HasKept, Sound}
use Rattle.ckr_session.specs.Model.State.{DeskView, disk_of, layout_of}
use Rattle.ckr_session.specs.Stops.{HasBehind, HasEverywhere, HasSuch, KeepsTo}
use Rattle.ckr_session.proofs.Calls.Stops.{kept_more}

module _ {D : Type 0} (told : Type 0) (content : D → List ℕ) (may_leave : D → List ℕ → Type 0) (moment : D → ℕ) (left_since : D → ℕ → List ℕ → Type 0) (size : D → ℕ) where
  -- the disk is opened, and then these events came
  pub each_served : (disk : D) (desk : DeskView D) (end : D)
      → FromSync content may_leave moment left_since disk (disk_of desk) (HasKept (layout_of desk) (size disk) (event_records (layout_of desk) (content disk)) [])
      → event_records (layout_of desk) (content (disk_of desk)) ≡ event_records (layout_of desk) (content disk) → size (disk_of desk) ≡ size disk
      → (came : List (List ℕ)) → KeepsTo content moment left_since size desk end came
      → FromSync content may_leave moment left_since disk end (HasKept (layout_of desk) (size disk) (event_records (layout_of desk) (content disk)) came)
  each_served disk desk end opened same same_size came each = record {
    synced = opened.synced;
    reads = opened.reads;
    settled = opened.settled;
    since = and_then moment left_since opened.synced (disk_of desk) end _ _ (HasKept (layout_of desk) (size disk) (event_records (layout_of desk) (content disk)) came) opened.since each
        (λ image kept. kept_more (layout_of desk) (size disk) (event_records (layout_of desk) (content disk)) [] came image kept)
        (λ image kept.
        subst (λ (events : List (List ℕ)). HasKept (layout_of desk) (size disk) events came image) same
        (subst (λ (n : ℕ). HasKept (layout_of desk) n (event_records (layout_of desk) (content (disk_of desk))) came image) same_size kept));
  }

  -- and each image has them, with those that the disk read before
  pub has_served : (disk : D) (desk : DeskView D) (end : D) → event_records (layout_of desk) (content (disk_of desk)) ≡ event_records (layout_of desk) (content disk)
      → ((t : ℕ) (image : List ℕ) → t ≤ moment end → may_leave end image → left_since end t image)
      → (Such : List (List ℕ) → Type 0) → HasSuch content moment left_since size desk end Such → HasEverywhere content may_leave (layout_of desk) (event_records (layout_of desk) (content disk)) end Such
  has_served disk desk end same counts Such has = record {
    reads = from_disk (content end) has.reads;
    left = λ image may. from_disk image (has.left image (λ t later. counts t image later may));
  }
    where
      from_disk : (image : List ℕ) → HasBehind (layout_of desk) (event_records (layout_of desk) (content (disk_of desk))) Such image → HasBehind (layout_of desk) (event_records (layout_of desk) (content disk)) Such image
      from_disk image behind = (behind.0, behind.1, behind.2 ∙ ap (λ l. l ++ behind.0) same)

  -- ---- sound images

  pub sound_from : (disk end : D) (P : List ℕ → Type 0) → AllSound told may_leave size disk → FromSync content may_leave moment left_since disk end P → ((image : List ℕ) → P image → Sound (size disk) image)
      → EachSince moment left_since disk end (Sound (size disk))
  sound_from disk end P all from so = and_then moment left_since disk from.synced end (may_leave disk) P (Sound (size disk)) from.reads.since from.since all.sound so

  -- of a disk that isn't opened
  pub sound_left : (error : OpenError) (disk end : D) → AllSound told may_leave size disk → IsLeft content may_leave moment left_since size told (AllSound told may_leave size disk) error disk end
      → EachSince moment left_since disk end (Sound (size disk))
  sound_left error disk end all left = ⊎_elim
      (λ (reads : OnlyReads content may_leave moment left_since disk end). in_other_words moment left_since disk end (may_leave disk) (Sound (size disk)) reads.since all.sound)
      (λ (late : FailsLate content may_leave moment left_since size told (AllSound told may_leave size disk) error disk end).
      sound_from disk end (HasKept late.opened.layout (size disk) (event_records late.opened.layout (content disk)) []) all (late.kept all) (λ image kept. kept.sound))
      left

  -- the disk that is handed back is sound again
  pub all_sound_after : (disk end : D) → AllSound told may_leave size disk → size end ≡ size disk
      → ((t : ℕ) (image : List ℕ) → t ≤ moment end → may_leave end image → left_since end t image)
      → EachSince moment left_since disk end (Sound (size disk)) → AllSound told may_leave size end
  all_sound_after disk end all same counts since = record {
    tells = all.tells;
    sound = λ image may. subst (λ (n : ℕ). Sound n image) (sym same) (since.each image (counts (moment disk) image since.later may));
  }
