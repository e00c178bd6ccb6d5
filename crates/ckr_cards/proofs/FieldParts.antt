-- A field is its first part, and the parts behind the comma.
use Rattle.std.proofs.Common.{◌≡◌, ℕ, ◌+◌, ◌<◌, true, List, [], ◌∷◌, length, take, drop, refl, ap, sym, ◌∙◌, Bool, false, if◌then◌else◌, arith}
use Rattle.std.proofs.lemmas.Grind.{common_steps}
use Rattle.ckr_cards.specs.declared.parts.Reading.{Reading}
use Rattle.ckr_cards.specs.declared.parts.Reading.TheVariants.{Free, Quoted, Unquoted, Closed}
use native.Mathlib.Numerals.{add-one}
use Rattle.ckr_cards.specs.Statement.{first_part}
use Rattle.ckr_cards.specs.Field.{onto_head, part_on, parts_from, parts_of, reading_after, depth_after, is_parting}
use Rattle.ckr_cards.specs.Parts.{part_length}

pub reading_after-parting : (reading : Reading) (depth byte : ℕ) → is_parting reading depth byte ≡ true → (reading_after reading byte ≡ Free) × (depth_after reading depth byte ≡ 0)
reading_after-parting Free depth byte parts = (grind (arith, common_steps), grind (arith, common_steps))
reading_after-parting Quoted depth byte parts = (grind (arith, common_steps), grind (arith, common_steps))
reading_after-parting Unquoted depth byte parts = (grind (arith, common_steps), grind (arith, common_steps))
reading_after-parting Closed depth byte parts = (grind (arith, common_steps), grind (arith, common_steps))

pub parts_from-one : {X : Type 0} (byte : X → ℕ) (reading : Reading) (depth : ℕ) (text : List X) → part_length byte reading depth text ≡ length text → parts_from byte reading depth text ≡ text ∷ []
parts_from-one byte reading depth [] whole = refl
parts_from-one byte reading depth (x ∷ rest) whole = grind (arith, common_steps, parts_from-one byte (reading_after reading (byte x)) (depth_after reading depth (byte x)) rest)

pub parts_from-cons : {X : Type 0} (byte : X → ℕ) (reading : Reading) (depth : ℕ) (text : List X) → part_length byte reading depth text < length text → parts_from byte reading depth text ≡ take (part_length byte reading depth text) text ∷ parts_from byte Free 0 (drop (part_length byte reading depth text + 1) text)
parts_from-cons byte reading depth [] inside = grind arith
parts_from-cons byte reading depth (x ∷ rest) inside = grind (arith, common_steps, reading_after-parting reading depth (byte x), parts_from-cons byte (reading_after reading (byte x)) (depth_after reading depth (byte x)) rest)

pub first_part-onto_head : (byte : ℕ) (parts : List (List ℕ)) → first_part (onto_head byte parts) ≡ byte ∷ first_part parts
first_part-onto_head byte [] = refl
first_part-onto_head byte (part ∷ rest) = refl

pub first_part-on : (test : Bool) (byte : ℕ) (reading : Reading) (depth : ℕ) (rest : List ℕ) → take (part_length (λ b. b) reading depth rest) rest ≡ first_part (parts_from (λ b. b) reading depth rest) → take (if test then 0 else part_length (λ b. b) reading depth rest + 1) (byte ∷ rest) ≡ first_part (part_on test byte (parts_from (λ b. b) reading depth rest))
first_part-on true byte reading depth rest ih = refl
first_part-on false byte reading depth rest ih =
    rw add-one (ap (λ l. byte ∷ l) ih ∙ sym (first_part-onto_head byte (parts_from (λ b. b) reading depth rest)))

-- the first part of a text
pub first_part-parts_from : (reading : Reading) (depth : ℕ) (text : List ℕ) → take (part_length (λ b. b) reading depth text) text ≡ first_part (parts_from (λ b. b) reading depth text)
first_part-parts_from reading depth [] = refl
first_part-parts_from reading depth (byte ∷ rest) = first_part-on (is_parting reading depth byte) byte (reading_after reading byte) (depth_after reading depth byte) rest (first_part-parts_from (reading_after reading byte) (depth_after reading depth byte) rest)

pub first_part_of_parts : (text : List ℕ) → take (part_length (λ b. b) Free 0 text) text ≡ first_part (parts_of text)
first_part_of_parts text = first_part-parts_from Free 0 text
