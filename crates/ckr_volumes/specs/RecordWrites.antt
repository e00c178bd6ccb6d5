-- What stays where an image changes within the range of one record alone.
use Rattle.std.specs.Prelude.{◌≡◌, ◌≤◌, ◌<◌, ◌⊎◌, ℕ, ◌+◌, IsTrue, List, length, take, drop, slice_set}
use Rattle.std.proofs.Common.{refl, ap, sym, ◌∙◌, subst, ⊎_elim, arith}
use Rattle.std.proofs.lemmas.List.{take-take, take_at}
use Rattle.ckr_outside.specs.Disk.{SameOutside, Overwrites, part}
use Rattle.ckr_outside.specs.Ranges.{part_before, part_behind, written_behind}
use Rattle.ckr_library.specs.declared.sets.DataSet.{DataSet}
use Rattle.ckr_volumes.specs.declared.layout.Layout.{Layout}
use Rattle.ckr_volumes.specs.Places.{address_of}
use Rattle.ckr_volumes.specs.Records.{record_at, records_on}
use Rattle.ckr_volumes.specs.Layouts.{front_of, is_laid_out, lie_apart, StandsIn}
use Rattle.ckr_volumes.specs.Addresses.{address_behind, addresses_apart, addresses_of_two_apart}
use Rattle.ckr_volumes.specs.Lists.{same_records, one_record}

-- a part that lies before the range or behind it
pub part_elsewhere : (at n at' n' : ℕ) (old new : List ℕ) → (at' + n' ≤ at) ⊎ (at + n ≤ at') → SameOutside at' n' old new → part at n new ≡ part at n old
part_elsewhere at n at' n' old new apart same =
    ⊎_elim (λ behind. part_behind at n at' n' old new behind same) (λ before. part_before at n at' n' old new before same) apart

-- the range in other words
pub same_range : (at at' n n' : ℕ) (old new : List ℕ) → at ≡ at' → n ≡ n' → SameOutside at n old new → SameOutside at' n' old new
same_range at at' n n' old new place size same =
    subst (λ (k : ℕ). SameOutside at' k old new) size (subst (λ (k : ℕ). SameOutside k n old new) place same)

-- what is written at a place is read there
pub part_written : (at : ℕ) (bytes old new : List ℕ) → at + length bytes ≤ length old → Overwrites at bytes old new → part at (length bytes) new ≡ bytes
part_written at bytes old new fits written =
    ap (λ (l : List ℕ). take (length bytes) l) (written_behind at bytes old new fits written)
    ∙ take_at bytes (drop (at + length bytes) old) (length bytes) refl

module _ (layout : Layout) (laid_out : IsTrue (is_laid_out layout)) (set : DataSet) (stands : StandsIn layout set) (place : ℕ) (less : place < set.space)
    (old new : List ℕ) (same : SameOutside (address_of layout set place) set.lrecl old new) where
  -- the records of the data set at other places
  pub record_kept : (q : ℕ) → q < set.space → (q ≡ place → ⊥) → record_at new layout set q ≡ record_at old layout set q
  record_kept q q_less differ =
      part_elsewhere (address_of layout set q) set.lrecl (address_of layout set place) set.lrecl old new
      (addresses_apart layout laid_out set stands place q less q_less (λ e. differ (sym e))) same

  -- the records up to a place at or before it
  pub records_below_kept : (n : ℕ) → n ≤ place → records_on new layout set n ≡ records_on old layout set n
  records_below_kept n le = same_records old new layout set n (λ q q_less. record_kept q (omega arith) (λ e. absurd (omega arith)))

  -- the list with the record that stands there now, and the other places as before
  pub records_changed : (bytes : List ℕ) → record_at new layout set place ≡ bytes → (n : ℕ) → n ≤ set.space
      → records_on new layout set n ≡ slice_set (records_on old layout set n) place bytes
  records_changed bytes is n le = one_record old new layout set place bytes n (λ q q_less. record_kept q (omega arith)) is

  -- the records of a data set that lies apart
  pub records_apart_kept : (other : DataSet) → StandsIn layout other → IsTrue (lie_apart set other) → (n : ℕ) → n ≤ other.space
      → records_on new layout other n ≡ records_on old layout other n
  records_apart_kept other other_stands apart n le =
      same_records old new layout other n (λ q q_less.
      part_elsewhere (address_of layout other q) other.lrecl (address_of layout set place) set.lrecl old new
      (addresses_of_two_apart layout laid_out set other stands other_stands apart place q less (omega arith)) same)

  -- the header, the book and the image areas
  pub front_kept : take (front_of layout) new ≡ take (front_of layout) old
  front_kept =
      let behind = address_behind layout laid_out set stands place less in
      sym (take-take (front_of layout) (address_of layout set place) new behind)
      ∙ ap (λ (l : List ℕ). take (front_of layout) l) same.before
      ∙ take-take (front_of layout) (address_of layout set place) old behind

  -- a range of them
  pub front_part_kept : (at n : ℕ) → at + n ≤ front_of layout → part at n new ≡ part at n old
  front_part_kept at n le =
      part_before at n (address_of layout set place) set.lrecl old new (omega (arith, address_behind layout laid_out set stands place less)) same
