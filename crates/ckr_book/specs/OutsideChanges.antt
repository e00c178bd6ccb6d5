-- A book stands on where the disk is changed elsewhere.
use Rattle.std.specs.Prelude.{◌≡◌, ◌≤◌, ◌+◌, ◌⊎◌, ℕ, List, drop}
use Rattle.std.proofs.Common.{⊎_elim, sym, ◌∙◌, ap, subst}
use Rattle.ckr_outside.specs.Disk.{SameOutside, ChangesWithin, Only, OnlyReads, part}
use Rattle.ckr_outside.specs.Ranges.{part_before, part_behind}
use Rattle.ckr_outside.specs.RangeCalls.{images_within}
use Rattle.ckr_book.specs.Records.{records_from, end_from, starts_open}
use Rattle.ckr_book.specs.Book.{OpenBook, IsOpenOn, StandsOn, records_of}

-- the range lies before the book or behind it
abbrev pub IsApart : OpenBook → ℕ → ℕ → Type 0
IsApart book at n = (at + n ≤ book.start) ⊎ (book.start + book.size ≤ at)

-- images that differ elsewhere have one book
pub same_part : (book : OpenBook) (at n : ℕ) (old new : List ℕ) → IsApart book at n → SameOutside at n old new → part book.start book.size new ≡ part book.start book.size old
same_part book at n old new apart same =
    ⊎_elim (λ before. part_behind book.start book.size at n old new before same) (λ behind. part_before book.start book.size at n old new behind same) apart

pub same_records : (book : OpenBook) (at n : ℕ) (old new : List ℕ) → IsApart book at n → SameOutside at n old new → records_of book new ≡ records_of book old
same_records book at n old new apart same = ap (λ (l : List ℕ). records_from 0 l) (same_part book at n old new apart same)

same_open : (book : OpenBook) (old new : List ℕ) → part book.start book.size new ≡ part book.start book.size old → IsOpenOn book old → IsOpenOn book new
same_open book old new same is = record {
  end = ap (λ (l : List ℕ). end_from 0 l) same ∙ is.end;
  closed = ap (λ (l : List ℕ). starts_open (drop book.end l)) same ∙ is.closed;
}

module _ {D : Type 0} (told : Type 0) (content : D → List ℕ) (may_leave : D → List ℕ → Type 0) (moment : D → ℕ) (left_since : D → ℕ → List ℕ → Type 0) where
  pub stands_elsewhere : (book : OpenBook) (at n : ℕ) (old new : D) → IsApart book at n
      → ChangesWithin told content may_leave moment left_since at n old new
      → ((t : ℕ) (image : List ℕ) → t ≤ moment new → may_leave new image → left_since new t image)
      → ((image : List ℕ) → may_leave new image → told)
      → StandsOn content may_leave book old → StandsOn content may_leave book new
  stands_elsewhere book at n old new apart changes counts tells stands = record {
    open_on = λ image now.
        let stems = images_within told content may_leave moment left_since at n old new counts changes image now in
        same_open book stems.0 image (same_part book at n stems.0 image apart stems.2) (stands.open_on stems.0 stems.1);
    list = λ image now.
        let stems = images_within told content may_leave moment left_since at n old new counts changes image now in
        same_records book at n stems.0 image apart stems.2 ∙ stands.list stems.0 stems.1
        ∙ sym (same_records book at n (content old) (content new) apart (changes.reads (tells image now)));
  }

  -- or only read
  pub stands_read : (book : OpenBook) (old new : D) → OnlyReads content may_leave moment left_since old new → StandsOn content may_leave book old → StandsOn content may_leave book new
  stands_read book old new reads stands = record {
    open_on = λ image now. stands.open_on image (reads.none_new image now);
    list = λ image now. stands.list image (reads.none_new image now) ∙ sym (ap (λ (l : List ℕ). records_of book l) reads.same);
  }

module _ {D : Type 0} (told : Type 0) (content : D → List ℕ) (may_leave : D → List ℕ → Type 0) where
  -- or where each image is what the disk reads, as after a sync
  pub stands_on_content : (book : OpenBook) (disk : D) → Only (content disk) (may_leave disk) → ((image : List ℕ) → may_leave disk image → told)
      → (told → IsOpenOn book (content disk)) → StandsOn content may_leave book disk
  stands_on_content book disk only tells is_open = record {
    open_on = λ image now. subst (λ (l : List ℕ). IsOpenOn book l) (sym (only image now)) (is_open (tells image now));
    list = λ image now. ap (λ (l : List ℕ). records_of book l) (only image now);
  }
