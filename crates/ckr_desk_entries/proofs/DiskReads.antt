-- A disk that is only read.
use Rattle.std.proofs.Common.{◌∙◌, ℕ, List, refl, inl, arith}
use Rattle.ckr_outside.specs.Disk.{OnlyReads}
use Rattle.ckr_outside.specs.Moments.{and_then}

module _ {D : Type 0} (content : D → List ℕ) (may_leave : D → List ℕ → Type 0) (moment : D → ℕ) (left_since : D → ℕ → List ℕ → Type 0) where
  -- a disk that is only read twice
  pub reads-on : (old mid new : D) → OnlyReads content may_leave moment left_since old mid → OnlyReads content may_leave moment left_since mid new → OnlyReads content may_leave moment left_since old new
  reads-on old mid new first second = record {
    same = second.same ∙ first.same;
    none_new = λ image may. first.none_new image (second.none_new image may);
    since = and_then moment left_since old mid new (may_leave old) (may_leave mid) (may_leave old) first.since second.since (λ image may. may) (λ image may. first.none_new image may);
  }

  -- what is only read is the same where nothing was read
  pub reads-nothing : (disk : D) → ((image : List ℕ) → left_since disk (moment disk) image → may_leave disk image) → OnlyReads content may_leave moment left_since disk disk
  reads-nothing disk now = record {
    same = refl;
    none_new = λ image may. may;
    since = record { later = omega arith; each = λ image left. now image left; earlier = λ t image before left. inl left };
  }
