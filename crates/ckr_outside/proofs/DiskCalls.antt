-- What one call of a disk in memory leaves.
use Rattle.std.proofs.Common.{◌≡◌, ◌≤◌, ◌⊎◌, inl, inr, ⊎_elim, ℕ, List, [], ◌∷◌, ◌++◌, length, ap, arith}
use Rattle.std.proofs.lemmas.List.{length_push}
use Rattle.ckr_outside.specs.Disk.{SameOutside, StemsFrom, NoneNew, EachSince, OnlyReads, ChangesWithin}
use Rattle.ckr_outside.specs.Images.{since_only_now}
use Rattle.ckr_outside.specs.Ranges.{same_outside_itself}
use Rattle.ckr_outside.specs.MemDisk.{content_of, MayLeave, moment_of, MightHaveLeft}
use Rattle.ckr_outside.specs.declared.changes.Change.{Change}
use Rattle.ckr_outside.specs.declared.memory_disk.MemDisk.{MemDisk}

module _ (old new : MemDisk) (change : Change) (pushed : new.changes.items ≡ old.changes.items ++ change ∷ [])
    (since : (t : ℕ) (image : List ℕ) → MightHaveLeft new t image → MightHaveLeft old t image ⊎ MayLeave new image) where
  later : moment_of old ≤ moment_of new
  later = omega (arith, ap length pushed, length_push old.changes.items change)

  each_since : (P : List ℕ → Type 0) → ((image : List ℕ) → MayLeave old image → P image) → ((image : List ℕ) → MayLeave new image → P image)
      → EachSince moment_of MightHaveLeft old new P
  each_since P before now = record {
    later = later;
    each = λ image left. ⊎_elim (λ was. before image (since_only_now old.first.items old.changes.items image was)) (now image) (since (moment_of old) image left);
    earlier = λ t image le left. ⊎_elim (λ was. inl was) (λ is. inr (now image is)) (since t image left);
  }

  pub only_reads : content_of new ≡ content_of old → NoneNew (MayLeave old) (MayLeave new) → OnlyReads content_of MayLeave moment_of MightHaveLeft old new
  only_reads same none_new = record { same = same; none_new = none_new; since = each_since (MayLeave old) (λ image is. is) none_new }

  pub changes_within : (at n : ℕ) → SameOutside at n (content_of old) (content_of new) → ((image : List ℕ) → MayLeave new image → StemsFrom (MayLeave old) at n image)
      → ChangesWithin (Unit {0}) content_of MayLeave moment_of MightHaveLeft at n old new
  changes_within at n same stems = record {
    reads = λ _. same;
    since = each_since (StemsFrom (MayLeave old) at n) (λ image is. (image, is, same_outside_itself at n image)) stems;
  }
