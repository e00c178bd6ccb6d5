-- What the records of a data set hang on: its parts and its record length alone.
use Rattle.std.specs.Prelude.{◌≡◌, Bool, true, false, ◌≤◌, ◌||◌, ℕ, zero, suc, IsTrue, not, eqb, nat_le, List, [], ◌∷◌, ◌++◌}
use Rattle.std.specs.List.{list_all}
use Rattle.std.proofs.Common.{refl, ap, ◌∙◌, subst, arith}
use Rattle.std.proofs.lemmas.Bool.{and_parts, and_from}
use Rattle.std.proofs.lemmas.Bool.Decides.{nat_tests}
use Rattle.ckr_outside.specs.Disk.{part}
use Rattle.ckr_library.specs.declared.sets.DataSet.{DataSet}
use Rattle.ckr_library.specs.declared.sets.Part.{Part}
use Rattle.ckr_volumes.specs.declared.layout.Layout.{Layout}
use Rattle.ckr_volumes.specs.Places.{StretchModel, stretches_of, stretches_of_parts, spot_in, end_of, on_disk, address_of}
use Rattle.ckr_volumes.specs.Records.{record_at, records_on}
use Rattle.ckr_volumes.specs.Layouts.{are_apart, lists_apart, lie_apart, StandsIn}

-- data sets with the same parts and the same record length
pub record SamePlaces (one other : DataSet) : Type 0 where
  pub parts : other.parts.items ≡ one.parts.items
  pub lrecl : other.lrecl ≡ one.lrecl

pub same_address : (layout : Layout) (one other : DataSet) → SamePlaces one other → (place : ℕ) → address_of layout other place ≡ address_of layout one place
same_address layout one other same place =
    ap (λ (parts : List Part). on_disk layout.volumes.items (spot_in other.lrecl (stretches_of_parts parts) place)) same.parts
    ∙ ap (λ (lrecl : ℕ). on_disk layout.volumes.items (spot_in lrecl (stretches_of one) place)) same.lrecl

pub same_places : (image : List ℕ) (layout : Layout) (one other : DataSet) → SamePlaces one other → (n : ℕ) → records_on image layout other n ≡ records_on image layout one n
same_places image layout one other same zero = refl
same_places image layout one other same (suc n) =
    ap (λ (l : List (List ℕ)). l ++ record_at image layout other n ∷ []) (same_places image layout one other same n)
    ∙ ap (λ (r : List ℕ). records_on image layout one n ++ r ∷ [])
    (ap (λ (at : ℕ). part at other.lrecl image) (same_address layout one other same n) ∙ ap (λ (lrecl : ℕ). part (address_of layout one n) lrecl image) same.lrecl)

-- it stands in the layout at any length up to its space
pub stands_at_length : (layout : Layout) (set : DataSet) → StandsIn layout set → (length : ℕ) → length ≤ set.space → StandsIn layout (record set { length = length })
stands_at_length layout set stands length le = record {
  volumes_exist = stands.volumes_exist;
  inside = stands.inside;
  apart = stands.apart;
  parts = stands.parts;
  sum = stands.sum;
  length_fits = le;
  lrecl_above = stands.lrecl_above;
  lrecl_below = stands.lrecl_below;
  space_above = stands.space_above;
  space_below = stands.space_below;
}

-- apartness goes both ways
apart_turned : (lrecl other_lrecl : ℕ) (a b : StretchModel) → IsTrue (are_apart lrecl other_lrecl a b) → IsTrue (are_apart other_lrecl lrecl b a)
apart_turned lrecl other_lrecl a b apart =
    subst IsTrue (λ i. not (eqb_turned a.volume b.volume i) || (or_turned (eqb a.records 0) (eqb b.records 0) i || or_turned (nat_le (end_of lrecl a) b.start) (nat_le (end_of other_lrecl b) a.start) i)) apart
  where
    eqb_turned : (p q : ℕ) → eqb p q ≡ eqb q p
    eqb_turned p q = grind (arith, nat_tests)

    or_turned : (p q : Bool) → (p || q) ≡ (q || p)
    or_turned true true = refl
    or_turned true false = refl
    or_turned false true = refl
    or_turned false false = refl

column : (lrecl other_lrecl : ℕ) (xs : List StretchModel) (y : StretchModel) (ys : List StretchModel) → IsTrue (lists_apart lrecl other_lrecl xs (y ∷ ys))
    → IsTrue (list_all (are_apart other_lrecl lrecl y) xs) × IsTrue (lists_apart lrecl other_lrecl xs ys)
column lrecl other_lrecl [] y ys apart = (refl, refl)
column lrecl other_lrecl (x ∷ xs) y ys apart =
    let both = and_parts (list_all (are_apart lrecl other_lrecl x) (y ∷ ys)) (lists_apart lrecl other_lrecl xs (y ∷ ys)) apart in
    let row = and_parts (are_apart lrecl other_lrecl x y) (list_all (are_apart lrecl other_lrecl x) ys) both.0 in
    let rest = column lrecl other_lrecl xs y ys both.1 in
    (and_from _ _ (apart_turned lrecl other_lrecl x y row.0) rest.0, and_from _ _ row.1 rest.1)

lists_turned : (lrecl other_lrecl : ℕ) (xs ys : List StretchModel) → IsTrue (lists_apart lrecl other_lrecl xs ys) → IsTrue (lists_apart other_lrecl lrecl ys xs)
lists_turned lrecl other_lrecl xs [] apart = refl
lists_turned lrecl other_lrecl xs (y ∷ ys) apart =
    let both = column lrecl other_lrecl xs y ys apart in
    and_from _ _ both.0 (lists_turned lrecl other_lrecl xs ys both.1)

pub lie_apart_turned : (one other : DataSet) → IsTrue (lie_apart one other) → IsTrue (lie_apart other one)
lie_apart_turned one other apart = lists_turned one.lrecl other.lrecl (stretches_of one) (stretches_of other) apart
