-- The operands of a field, part by part.
use Rattle.std.proofs.Common.{◌≡◌, ℕ, ◌+◌, ◌-◌, ◌<◌, ◌≤◌, ◌&&◌, Bool, List, [], ◌∷◌, ◌++◌, length, take, drop, ap, ap₂, sym, ◌∙◌, arith, length-drop, append_assoc}
use Rattle.std.specs.Prelude.{filter_map}
use Rattle.std.specs.List.{list_all}
use lib.Seq.{drop-drop}
use Rattle.std.proofs.lemmas.List.Elements.{filter_map-append}
use Rattle.ckr_base.proofs.Bools.{and-assoc}
use Rattle.ckr_base.proofs.Sequences.{take-most}
use Rattle.ckr_cards.specs.declared.field.FieldSpot.{FieldSpot}
use Rattle.ckr_cards.specs.declared.operand.Operand.{Operand}
use Rattle.ckr_cards.specs.declared.parts.Reading.TheVariants.{Free}
use Rattle.ckr_cards.specs.Field.{parts_of_field}
use Rattle.ckr_cards.specs.Parts.{part_length}
use Rattle.ckr_cards.specs.Statement.{operand_of, is_operand}
use Rattle.ckr_cards.proofs.FieldParts.{parts_from-one, parts_from-cons}

-- how many bytes the first part of a field has
abbrev pub first_length : List FieldSpot → ℕ
first_length field = part_length (λ (spot : FieldSpot). spot.byte) Free 0 field

-- what stands behind the first byte
pub behind-first : (n : ℕ) (field behind : List FieldSpot) → behind ≡ drop n field → take (length behind - 1) (drop 1 behind) ≡ drop (n + 1) field
behind-first n field behind same =
    take-most (length behind - 1) (drop 1 behind) (rw (length-drop 1 behind) (omega arith))
    ∙ (ap (λ b. drop 1 b) same ∙ drop-drop 1 n field)

-- a part in front of a comma that parts
pub part_before : (field part behind : List FieldSpot) → part ≡ take (first_length field) field → behind ≡ drop (first_length field) field → 1 ≤ length behind → parts_of_field field ≡ part ∷ parts_of_field (take (length behind - 1) (drop 1 behind))
part_before field part behind front same some =
    parts_from-cons (λ (spot : FieldSpot). spot.byte) Free 0 field inside
    ∙ ap₂ (λ p m. p ∷ parts_of_field m) (sym front) (sym (behind-first (first_length field) field behind same))
  where
    inside : first_length field < length field
    inside = omega (arith, ap length same, length-drop (first_length field) field)

-- the last part of a field
pub last_part : (field part behind : List FieldSpot) → first_length field ≤ length field → part ≡ take (first_length field) field → behind ≡ drop (first_length field) field → length behind ≡ 0 → parts_of_field field ≡ part ∷ []
last_part field part behind bound front same none =
    parts_from-one (λ (spot : FieldSpot). spot.byte) Free 0 field size
    ∙ ap (λ p. p ∷ []) (sym (front ∙ take-most (first_length field) field (omega (arith, size))))
  where
    size : first_length field ≡ length field
    size = omega (arith, ap length same, length-drop (first_length field) field)

-- what was read, and what is left, behind one more part
pub operands_more : (all before after : List Operand) (rest more : List (List FieldSpot)) (part : List FieldSpot) → all ≡ before ++ filter_map operand_of rest → rest ≡ part ∷ more → after ≡ before ++ filter_map operand_of (part ∷ []) → all ≡ after ++ filter_map operand_of more
operands_more all before after rest more part so_far parts added =
    so_far
    ∙ (ap (λ ps. before ++ filter_map operand_of ps) parts
    ∙ (ap (λ os. before ++ os) (filter_map-append operand_of (part ∷ []) more)
    ∙ (sym (append_assoc before (filter_map operand_of (part ∷ [])) (filter_map operand_of more))
    ∙ ap (λ os. os ++ filter_map operand_of more) (sym added))))

pub tidy_more : (all before after : Bool) (rest more : List (List FieldSpot)) (part : List FieldSpot) → all ≡ (before && list_all is_operand rest) → rest ≡ part ∷ more → after ≡ (before && is_operand part) → all ≡ (after && list_all is_operand more)
tidy_more all before after rest more part so_far parts added =
    so_far
    ∙ (ap (λ ps. before && list_all is_operand ps) parts
    ∙ (and-assoc before (is_operand part) (list_all is_operand more)
    ∙ ap (λ b. b && list_all is_operand more) (sym added)))
