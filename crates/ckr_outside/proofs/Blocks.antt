-- A block of a disk's bytes, while the disk is read and written.
use Rattle.std.specs.Prelude.{◌≡◌, ◌≤◌, ◌+◌, ◌-◌, ℕ, List, length, take, drop}
use Rattle.std.proofs.Common.{sym, ◌∙◌, ap, inl, inr, arith}
use Rattle.std.proofs.lemmas.List.{take-take, drop-drop, drop-take}
use Rattle.ckr_outside.specs.Block.{IsBlockOn, LiesClear}
use Rattle.ckr_outside.specs.Disk.{SameOutside, part}
use Rattle.ckr_outside.specs.Ranges.{part_before, part_behind}

-- a part of a part
part-part : (place at n m : ℕ) (bytes : List ℕ) → place + m ≤ n → part (at + place) m bytes ≡ part place m (part at n bytes)
part-part place at n m bytes le =
    ap (λ (l : List ℕ). take m l) (sym (drop-drop place at bytes))
    ∙ sym (take-take m (n - place) (drop place (drop at bytes)) (omega arith))
    ∙ ap (λ (l : List ℕ). take m l) (sym (drop-take place (n - place) (drop at bytes)))
    ∙ ap (λ (k : ℕ). take m (drop place (take k (drop at bytes)))) (omega arith)

-- what is written beside the block leaves it
pub block_beside : (told : Type 0) (old new : List ℕ) (size base from to from' to' : ℕ) (bytes : List ℕ) (at n : ℕ)
    → IsBlockOn told old size base from to bytes → from ≤ from' → to' ≤ to → LiesClear from' to' at n → (told → SameOutside at n old new)
    → IsBlockOn told new size base from' to' bytes
block_beside told old new size base from to from' to' bytes at n was later earlier clear same = record {
  block = record {
    base_below = omega (arith, was.block.base_below, later);
    inside = omega (arith, was.block.inside, earlier);
    reads = λ is_told place m le end.
        beside clear is_told place m le end ∙ was.block.reads is_told place m (omega arith) (omega arith);
  };
  within = omega (arith, was.within);
}
  where
    beside : LiesClear from' to' at n → told → (place m : ℕ) → from' ≤ place → place + m ≤ to' → part place m new ≡ part place m old
    beside (inl before) is_told place m le end = part_before place m at n old new (omega arith) (same is_told)
    beside (inr behind) is_told place m le end = part_behind place m at n old new (omega arith) (same is_told)

-- a block that was just read whole
pub block_read : (told : Type 0) (content : List ℕ) (size at count : ℕ) (bytes : List ℕ)
    → length bytes ≡ count → at + count ≤ size → (told → bytes ≡ part at count content)
    → IsBlockOn told content size at at (at + count) bytes
block_read told content size at count bytes long fits is = record {
  block = record {
    base_below = omega arith;
    inside = omega (arith, long);
    reads = λ is_told place m le end.
        ap (λ (k : ℕ). part k m content) (omega arith)
        ∙ part-part (place - at) at count m content (omega arith)
        ∙ ap (λ (l : List ℕ). part (place - at) m l) (sym (is is_told));
  };
  within = fits;
}
