-- A disk that is synced first, and then only read.
use Rattle.std.proofs.Common.{◌≡◌, ◌∙◌, ℕ, List}
use Rattle.ckr_outside.specs.Disk.{Only, OnlyReads}
use Rattle.ckr_outside.specs.Moments.{and_then}
use Rattle.ckr_desk.specs.FirstSync.{FromSync}

module _ {D : Type 0} (content : D → List ℕ) (may_leave : D → List ℕ → Type 0) (moment : D → ℕ) (left_since : D → ℕ → List ℕ → Type 0) where
  pub reads-behind : (old synced mid new : D) → OnlyReads content may_leave moment left_since old synced → Only (content synced) (may_leave synced)
      → OnlyReads content may_leave moment left_since synced mid → OnlyReads content may_leave moment left_since mid new
      → FromSync content may_leave moment left_since old new (λ image. image ≡ content old)
  reads-behind old synced mid new first settled second third = record {
    synced = synced;
    reads = first;
    settled = settled;
    since = and_then moment left_since synced mid new (may_leave synced) (may_leave mid) (λ image. image ≡ content old) second.since third.since
        (λ image may. settled image may ∙ first.same)
        (λ image may. settled image (second.none_new image may) ∙ first.same);
  }
