-- The items that name what a step makes.
use Rattle.std.proofs.Common.{◌≡◌, ℕ, zero, suc, ◌<◌, ◌≤◌, ◌==◌, ◌&&◌, Bool, true, false, if◌then◌else◌, cond, nat_eq, List, [], ◌∷◌, ◌++◌, map, length, take, drop, get_or, replicate, sum_by, unwrap_or, refl, ap, sym, ◌∙◌, arith, Some, None, Option}
use Rattle.std.specs.Option.{option_map, option_map_or}
use Rattle.std.specs.List.{list_all, list_any}
use Rattle.std.specs.Cmp.Lexicographic.{pointwise}
use Rattle.ckr_base.proofs.Bools.{and-assoc, and-false}
use Rattle.ckr_base.proofs.Sequences.{any-filter_map}
use Rattle.ckr_events.specs.declared.event.Made.{Made}
use Rattle.ckr_events.specs.declared.event.Piece.{Piece}
use Rattle.ckr_library.specs.NameMaps.{Name}
use Rattle.ckr_meaning.specs.Allotments.{DdAllotment, is_made, parts_for}
use Rattle.ckr_points.specs.Follows.{is_part_whole, made_dds, part_numbers}
use Rattle.ckr_points_clearance.specs.Placements.{parts_made, placed_list, placed_now}
use Rattle.ckr_points_clearance.specs.declared.placements.PlacedNow.{PlacedNow}

numbers-parts : (n : ℕ) (serials : List Name) → part_numbers n serials ≡ replicate (parts_for serials) n
numbers-parts n [] = refl
numbers-parts n (serial ∷ []) = refl
numbers-parts n (serial ∷ next ∷ rest) = ap (λ all. n ∷ all) (numbers-parts n (next ∷ rest))

-- the numbers of one DD
one-numbers : (one : DdAllotment) → (if is_made one.allotment then part_numbers one.number one.dd.volumes.items else []) ≡ replicate (parts_made one) one.number
one-numbers one = by (is_made one.allotment)
  where
    by : (b : Bool) → cond b (part_numbers one.number one.dd.volumes.items) [] ≡ replicate (cond b (parts_for one.dd.volumes.items) 0) one.number
    by true = numbers-parts one.number one.dd.volumes.items
    by false = refl

-- the numbers of the first DD, and those of the others
pub first-numbers : (one : Option PlacedNow) (rest : List (Option PlacedNow)) → made_dds (placed_list (one ∷ rest))
    ≡ replicate (option_map_or parts_made (option_map placed_now one) 0) (option_map_or (λ (p : DdAllotment). p.number) (option_map placed_now one) 0) ++ made_dds (placed_list rest)
first-numbers None rest = refl
first-numbers (Some one) rest = ap (λ numbers. numbers ++ made_dds (placed_list rest)) (one-numbers (placed_now one))

-- so many items of a number, and the others
pub front-named : (k n : ℕ) (more : List ℕ) (items : List Made) → k ≤ length items
    → pointwise nat_eq (replicate k n ++ more) (map (λ (item : Made). item.dd) items)
    ≡ (list_all (λ (item : Made). n == item.dd) (take k items) && pointwise nat_eq more (map (λ (item : Made). item.dd) (drop k items)))
front-named zero n more items few = refl
front-named (suc k) n more [] few = absurd (omega (arith, few))
front-named (suc k) n more (item ∷ items) few =
    ap (λ b. (n == item.dd) && b) (front-named k n more items (omega (arith, few)))
    ∙ and-assoc (n == item.dd) (list_all (λ (one : Made). n == one.dd) (take k items)) (pointwise nat_eq more (map (λ (one : Made). one.dd) (drop k items)))

-- there are too few items
pub front-short : (k n : ℕ) (more : List ℕ) (items : List Made) → length items < k → pointwise nat_eq (replicate k n ++ more) (map (λ (item : Made). item.dd) items) ≡ false
front-short zero n more items less = absurd (omega (arith, less))
front-short (suc k) n more [] less = refl
front-short (suc k) n more (item ∷ items) less = ap (λ b. (n == item.dd) && b) (front-short k n more items (omega (arith, less))) ∙ and-false (n == item.dd)

-- ---- an item of one of the DDs

pub whole-by : (placed : List (Option PlacedNow)) (item : Made) (records : ℕ) → records ≡ sum_by (λ (piece : Piece). piece.records) item.pieces.items
    → list_any (λ (one : Option PlacedNow). option_map_or (λ (p : DdAllotment). p.number == item.dd && records == unwrap_or p.dd.space 0) (option_map placed_now one) false) placed ≡ is_part_whole (placed_list placed) item
whole-by placed item records is =
    sym (any-filter_map (λ (one : Option PlacedNow). option_map placed_now one) (λ (p : DdAllotment). p.number == item.dd && records == unwrap_or p.dd.space 0) placed)
    ∙ ap (λ n. list_any (λ (p : DdAllotment). p.number == item.dd && n == unwrap_or p.dd.space 0) (placed_list placed)) is

-- ---- the DDs from the first on

head-is : (placed : List (Option PlacedNow)) (one : Option PlacedNow) → 1 ≤ length placed → one ≡ get_or placed 0 one → placed ≡ one ∷ drop 1 placed
head-is [] one some is = absurd (omega (arith, some))
head-is (first ∷ rest) one some is = ap (λ x. x ∷ rest) (sym is)

module _ (placed : List (Option PlacedNow)) (one : Option PlacedNow) (some : 1 ≤ length placed) (is : one ≡ get_or placed 0 one) (items : List Made) (parts : ℕ) (parts_is : parts ≡ option_map_or parts_made (option_map placed_now one) 0) where
  from-head : made_dds (placed_list placed) ≡ replicate parts (option_map_or (λ (p : DdAllotment). p.number) (option_map placed_now one) 0) ++ made_dds (placed_list (drop 1 placed))
  from-head =
      ap (λ all. made_dds (placed_list all)) (head-is placed one some is)
      ∙ first-numbers one (drop 1 placed)
      ∙ ap (λ k. replicate k (option_map_or (λ (p : DdAllotment). p.number) (option_map placed_now one) 0) ++ made_dds (placed_list (drop 1 placed))) (sym parts_is)

  pub named-short : length items < parts → false ≡ pointwise nat_eq (made_dds (placed_list placed)) (map (λ (item : Made). item.dd) items)
  named-short less =
      sym (ap (λ numbers. pointwise nat_eq numbers (map (λ (item : Made). item.dd) items)) from-head ∙ front-short parts (option_map_or (λ (p : DdAllotment). p.number) (option_map placed_now one) 0) (made_dds (placed_list (drop 1 placed))) items less)

  pub named-next : parts ≤ length items → (n : ℕ) → n ≡ option_map_or (λ (p : DdAllotment). p.number) (option_map placed_now one) 0 → (here rest : Bool) → here ≡ list_all (λ (item : Made). n == item.dd) (take parts items)
      → rest ≡ pointwise nat_eq (made_dds (placed_list (drop 1 placed))) (map (λ (item : Made). item.dd) (drop parts items))
      → (here && rest) ≡ pointwise nat_eq (made_dds (placed_list placed)) (map (λ (item : Made). item.dd) items)
  named-next few n n_is here rest here_is rest_is =
      (λ i. here_is i && rest_is i)
      ∙ sym (front-named parts n (made_dds (placed_list (drop 1 placed))) items few)
      ∙ ap (λ k. pointwise nat_eq (replicate parts k ++ made_dds (placed_list (drop 1 placed))) (map (λ (item : Made). item.dd) items)) n_is
      ∙ ap (λ numbers. pointwise nat_eq numbers (map (λ (item : Made). item.dd) items)) (sym from-head)

  pub named-none : parts ≤ length items → (n : ℕ) → n ≡ option_map_or (λ (p : DdAllotment). p.number) (option_map placed_now one) 0 → false ≡ list_all (λ (item : Made). n == item.dd) (take parts items)
      → false ≡ pointwise nat_eq (made_dds (placed_list placed)) (map (λ (item : Made). item.dd) items)
  named-none few n n_is none = named-next few n n_is false (pointwise nat_eq (made_dds (placed_list (drop 1 placed))) (map (λ (item : Made). item.dd) (drop parts items))) none refl
