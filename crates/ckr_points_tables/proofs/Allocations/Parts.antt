-- What an allocation makes: at most one part for each DD, whose number is from one on; and its parts as an event has them.
use Rattle.std.proofs.Common.{◌≡◌, ◌≤◌, ◌<◌, ℕ, zero, suc, Bool, true, false, cond, IsTrue, nat_le, refl, ap, sym, ◌∙◌, subst, List, [], ◌∷◌, ◌++◌, map, length, get_or, Option, None, Some, Result, Ok, Err, arith, length-append}
use Rattle.std.specs.List.{list_all, cons_option, AllByRecursion}
use Rattle.std.specs.Option.{option_map, option_map_or, is_some}
use Rattle.std.specs.Result.{IsOkAnd}
use Rattle.std.proofs.lemmas.Bool.{and_parts}
use Rattle.std.proofs.lemmas.Bool.Decides.{nat_tests}
use Rattle.arrayvec.specs.ArrayVec.{ArrayVec}
use Rattle.ckr_points_library.specs.declared.cause.Cause.{Cause}
use Rattle.ckr_points_library.specs.declared.cause.Cause.TheVariants.{NoVolume, WrongVolume}
use Rattle.ckr_points_library.specs.declared.cause.Refusal.{Refusal}
use Rattle.ckr_points_library.specs.Allocation.{Allocation, allocated_all, allocated_dd, behind, fits_dd, fits_space, found_parts, is_where_asked, made_of, parts_at, parts_for, then_more, volume_named, with_new, with_part}
use Rattle.ckr_points_library.specs.AllocationSteps.{IsAllocated, fits_named}
use Rattle.ckr_events.specs.declared.event.Made.{Made}
use Rattle.ckr_fields.specs.Fields.{between, each_fits}
use Rattle.ckr_jcl.specs.declared.deck.Dd.{Dd}
use Rattle.ckr_library.specs.declared.sets.DataSet.{DataSet}
use Rattle.ckr_library.specs.declared.sets.Part.{Part}
use Rattle.ckr_library.specs.declared.sets.Stamp.{Stamp}
use Rattle.ckr_library.specs.Catalog.{Holding}
use Rattle.ckr_library.specs.NameMaps.{Name, Named, entry_at}
use Rattle.ckr_meaning.specs.Allotments.{AllotmentModel, found, made, refused}
use Rattle.ckr_meaning.specs.Dispositions.{Stock}
use Rattle.ckr_meaning.specs.EffectiveJob.{OwnedStep, name_of, placed_from, placed_one}
use Rattle.ckr_meaning.specs.LibrarySet.{SetWays}
use Rattle.ckr_volumes.specs.declared.layout.Layout.{Layout}
use Rattle.ckr_points_tables.specs.Allocation.{IsAllocation, IsFromOne}

-- ---- lists of things that fit

pub fits-more : {A : Type 0} (fits : A → Type 0) (xs : List A) (x : A) → each_fits fits xs → fits x → each_fits fits (xs ++ x ∷ [])
fits-more fits [] x all one = (one, tt)
fits-more fits (first ∷ xs) x all one = (all.0, fits-more fits xs x all.1 one)

pub all-place : {A : Type 0} (P : A → Type 0) (xs : List A) (place : ℕ) (d : A) → AllByRecursion P xs → place < length xs → P (get_or xs place d)
all-place P [] place d all inside = absurd (omega (arith, inside))
all-place P (x ∷ xs) zero d all inside = all.0
all-place P (x ∷ xs) (suc place) d all inside = all-place P xs place d all.1 (omega (arith, inside))

-- a short list's count
pub is-few : {A : Type 0} (xs : List A) (most : ℕ) → length xs ≤ most → most ≤ 255 → (length xs < 256) × IsTrue (between 0 most (length xs))
is-few xs most few small = (omega (arith, few, small), low (length xs) most few)
  where
    low : (n most : ℕ) → n ≤ most → IsTrue (between 0 most n)
    low n most few = grind (arith, nat_tests, few)

-- ---- the parts of one DD

count_of : Result (List Part) Cause → ℕ
count_of (Ok parts) = length parts
count_of (Err cause) = 0

with-few : (first : Result Part Cause) → count_of (with_part first (Ok [])) ≤ 1
unfolding count_of
with-few (Ok part) = omega arith
with-few (Err cause) = omega arith

one-part : (layout : Layout) (sets : Named Holding) (dd : Dd) (serials : List Name) → length serials ≤ 1 → count_of (parts_for layout sets dd serials) ≤ 1
unfolding count_of
one-part layout sets dd [] few = with-few _
one-part layout sets dd (serial ∷ []) few = by (list_all (λ one. is_some (volume_named layout.volumes.items one)) (serial ∷ []))
  where
    by : (here : Bool) → count_of (cond here (parts_at layout sets dd (serial ∷ [])) (Err NoVolume)) ≤ 1
    by true = with-few _
    by false = omega arith
one-part layout sets dd (serial ∷ other ∷ serials) few = absurd (omega (arith, few))

no-part : (layout : Layout) (dd : Dd) (set : Option DataSet) → count_of (found_parts layout dd set) ≤ 1
unfolding count_of
no-part layout dd None = omega arith
no-part layout dd (Some set) = by (is_where_asked layout.volumes.items dd.volumes.items set.parts.items)
  where
    by : (here : Bool) → count_of (cond here (Ok []) (Err WrongVolume)) ≤ 1
    by true = omega arith
    by false = omega arith

few-serials : (dd : Dd) → IsTrue (fits_dd dd) → length dd.volumes.items ≤ 1
few-serials dd fits =
    let last = (and_parts (fits_space dd.disp.status dd.space) _ (and_parts (nat_le dd.lrecl 256) _ (and_parts (nat_le 1 dd.lrecl) _ fits).1).1).1 in
    low (length dd.volumes.items) last
  where
    low : (n : ℕ) → nat_le n 1 ≡ true → n ≤ 1
    low n e = grind (arith, nat_tests, e)

few-parts : (layout : Layout) (sets : Named Holding) (dd : Dd) (name : Name) (allotment : AllotmentModel) → IsTrue (fits_dd dd) → count_of (allocated_dd layout sets dd name allotment) ≤ 1
unfolding count_of
few-parts layout sets dd name found fits = no-part layout dd (option_map (λ (h : Holding). h.set) (entry_at sets name))
few-parts layout sets dd name made fits = one-part layout sets dd dd.volumes.items (few-serials dd fits)
few-parts layout sets dd name (refused flaw) fits = omega arith

-- ---- what a step makes

-- at most so many parts, each of a DD from one on
pub record IsSmall (count : ℕ) (items : List Made) : Type 0 where
  pub few : length items ≤ count
  pub numbers : AllByRecursion IsFromOne items

abbrev IsSmallOf : ℕ → Result Allocation Refusal → Type 0
IsSmallOf count (Ok done) = IsSmall count done.items
IsSmallOf count (Err refusal) = Unit {0}

more-small : (count : ℕ) (items : List Made) → IsSmall count items → IsSmall (suc count) items
more-small count items small = record { few = omega (arith, small.few); numbers = small.numbers }

more-small-of : (count : ℕ) (result : Result Allocation Refusal) → IsSmallOf count result → IsSmallOf (suc count) result
more-small-of count (Ok done) small = more-small count done.items small
more-small-of count (Err refusal) small = tt

from-one : (number : ℕ) → 1 ≤ number → (parts : List Part) (items : List Made) → AllByRecursion IsFromOne items → AllByRecursion IsFromOne (map (made_of number) parts ++ items)
from-one number some [] items all = all
from-one number some (part ∷ parts) items all = (some, from-one number some parts items all)

length-made : (number : ℕ) (parts : List Part) → length (map (made_of number) parts) ≡ length parts
length-made number [] = refl
length-made number (part ∷ parts) = ap suc (length-made number parts)

behind-small : (number : ℕ) → 1 ≤ number → (count : ℕ) (parts : List Part) → length parts ≤ 1 → (rest : Result Allocation Refusal) → IsSmallOf count rest → IsSmallOf (suc count) (behind (map (made_of number) parts) rest)
behind-small number some count parts few (Ok done) small = record {
  few = omega (arith, few, small.few, length-made number parts, length-append (map (made_of number) parts) done.items);
  numbers = from-one number some parts done.items small.numbers;
}
behind-small number some count parts few (Err refusal) small = tt

then-small : (number : ℕ) → 1 ≤ number → (count : ℕ) (parts : Result (List Part) Cause) → count_of parts ≤ 1 → (more : List Part → Result Allocation Refusal) → ((parts : List Part) → IsSmallOf count (more parts)) → IsSmallOf (suc count) (then_more number parts more)
unfolding count_of
then-small number some count (Ok parts) few more small = behind-small number some count parts few (more parts) (small parts)
then-small number some count (Err cause) few more small = tt

module _ {X : Type 0} (layout : Layout) (stamp : Stamp) (ways : SetWays X) (standing : Stock X) (root : ℕ) (owned : OwnedStep) where
  one-small : (number : ℕ) → 1 ≤ number → (dd : Dd) (dds : List Dd) (sets : Named Holding) → ((sets : Named Holding) → IsSmallOf (length dds) (allocated_all layout stamp (placed_from ways standing root owned (suc number) dds) sets))
      → (name : Option Name) → option_map_or (λ (name : Name). fits_dd dd) name true ≡ true
      → IsSmallOf (suc (length dds)) (allocated_all layout stamp (cons_option (option_map (placed_one ways standing number dd) name) (placed_from ways standing root owned (suc number) dds)) sets)
  one-small number some dd dds sets rest None here = more-small-of (length dds) (allocated_all layout stamp (placed_from ways standing root owned (suc number) dds) sets) (rest sets)
  one-small number some dd dds sets rest (Some name) here =
      let one = placed_one ways standing number dd name in
      then-small number some (length dds) (allocated_dd layout sets dd name one.allotment) (few-parts layout sets dd name one.allotment here)
      (λ parts. allocated_all layout stamp (placed_from ways standing root owned (suc number) dds) (with_new stamp dd name parts sets))
      (λ parts. rest (with_new stamp dd name parts sets))

  all-small : (number : ℕ) → 1 ≤ number → (dds : List Dd) → IsTrue (list_all (fits_named (name_of root owned)) dds) → (sets : Named Holding) → IsSmallOf (length dds) (allocated_all layout stamp (placed_from ways standing root owned number dds) sets)
  all-small number some [] fits sets = record { few = omega arith; numbers = tt }
  all-small number some (dd ∷ dds) fits sets =
      let both = and_parts (fits_named (name_of root owned) dd) _ fits in
      one-small number some dd dds sets (all-small (suc number) (omega (arith, some)) dds both.1) (name_of root owned dd) both.0

  -- what a step makes, as a list that it was put into has it
  pub items-small : (sets : Named Holding) (items : List Made) → IsTrue (list_all (fits_named (name_of root owned)) owned.step.dds)
      → IsOkAnd (allocated_all layout stamp (placed_from ways standing root owned 1 owned.step.dds) sets) (IsAllocated layout sets [] items) → IsSmall (length owned.step.dds) items
  items-small sets items fits done = by (allocated_all layout stamp (placed_from ways standing root owned 1 owned.step.dds) sets) (all-small 1 (omega arith) owned.step.dds fits sets) done
    where
      by : (result : Result Allocation Refusal) → IsSmallOf (length owned.step.dds) result → IsOkAnd result (IsAllocated layout sets [] items) → IsSmall (length owned.step.dds) items
      by (Ok done) small is = subst (IsSmall (length owned.step.dds)) (sym is.items) small
      by (Err refusal) small is = absurd is

-- what was put into an empty list is the allocation
pub allocation-is : (layout : Layout) (sets : Named Holding) (result : Result Allocation Refusal) (items : List Made) (list : ArrayVec Made) → list.items ≡ items → IsOkAnd result (IsAllocated layout sets [] items) → IsAllocation result (Ok list)
allocation-is layout sets (Ok done) items list same is = same ∙ is.items
allocation-is layout sets (Err refusal) items list same is = absurd is

pub refusal-is : (result : Result Allocation Refusal) (refusal : Refusal) → result ≡ Err refusal → IsAllocation result (Err refusal)
refusal-is result refusal is = subst (λ found. IsAllocation found (Err refusal)) (sym is) refl
