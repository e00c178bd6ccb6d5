-- The first card of a long line.
use Rattle.std.proofs.Common.{◌≡◌, ℕ, Bool, true, false, cond, List, [], ◌∷◌, ◌||◌, Option, Some, None, refl}
use Rattle.std.specs.List.{find, list_any}
use Rattle.std.specs.Option.{option_or}
use Rattle.ckr_cards.specs.declared.card.Card.{Card}
use Rattle.ckr_jcl_faults.specs.Faults.{long_card, number_of_card}

abbrev is_long : Card → Bool
is_long card = card.long

-- it is the first card, or one of those behind it
long-more : (card : Card) (rest : List Card) → long_card (card ∷ rest) ≡ option_or (long_card (card ∷ [])) (long_card rest)
long-more card rest = by card.long
  where
    by : (long : Bool) → number_of_card (cond long (Some card) (find is_long rest)) ≡ option_or (number_of_card (cond long (Some card) None)) (number_of_card (find is_long rest))
    by true = refl
    by false = refl

pub long-next : (before : Option ℕ) (card : Card) (rest : List Card) → option_or before (long_card (card ∷ rest)) ≡ option_or (option_or before (long_card (card ∷ []))) (long_card rest)
long-next None card rest = long-more card rest
long-next (Some number) card rest = refl

-- where a test of all cards finds one, there is one
pub long-some : (cards : List Card) → list_any is_long cards ≡ true → (number : ℕ) × (long_card cards ≡ Some number)
long-some [] found = absurd cc
long-some (card ∷ rest) found = by card.long (long-some rest) found
  where
    by : (long : Bool) → (list_any is_long rest ≡ true → (number : ℕ) × (long_card rest ≡ Some number)) → (long || list_any is_long rest) ≡ true → (number : ℕ) × (number_of_card (cond long (Some card) (find is_long rest)) ≡ Some number)
    by true later found = (card.number, refl)
    by false later found = later found

pub long-none : (cards : List Card) → list_any is_long cards ≡ false → long_card cards ≡ None
long-none [] found = refl
long-none (card ∷ rest) found = by card.long (long-none rest) found
  where
    by : (long : Bool) → (list_any is_long rest ≡ false → long_card rest ≡ None) → (long || list_any is_long rest) ≡ false → number_of_card (cond long (Some card) (find is_long rest)) ≡ None
    by true later found = absurd cc
    by false later found = later found
