-- Pieces of a line, one behind another.
use Rattle.std.proofs.Common.{◌≡◌, ◌≤◌, ◌+◌, ℕ, List, [], ◌∷◌, ◌++◌, length, ap, sym, ◌∙◌, append_assoc, arith}
use Rattle.std.proofs.lemmas.Grind.{common_steps}
use Rattle.ckr_base.specs.Words.{before_trimmed, trimmed}

-- two pieces are one of both
pub put-behind : (old mid new a b all : List ℕ) → mid ≡ old ++ a → new ≡ mid ++ b → a ++ b ≡ all → new ≡ old ++ all
put-behind old mid new a b all first second both = second ∙ ap (λ l. l ++ b) first ∙ append_assoc old a b ∙ ap (λ l. old ++ l) both

-- words and a number behind a front
pub counted-behind : (front mid new words number : List ℕ) → mid ≡ front → new ≡ mid ++ (words ++ number) → new ≡ front ++ words ++ number
counted-behind front mid new words number first second = second ∙ ap (λ l. l ++ (words ++ number)) first ∙ sym (append_assoc front words number)

-- ---- a text without the blanks at its end is no longer

before-short : (byte : ℕ) (rest : List ℕ) → length (before_trimmed byte rest) ≤ length rest + 1
before-short byte [] = grind (arith, common_steps)
before-short byte (next ∷ rest) = omega arith

pub length-trimmed : (text : List ℕ) → length (trimmed text) ≤ length text
length-trimmed [] = omega arith
length-trimmed (byte ∷ rest) = omega (arith, before-short byte (trimmed rest), length-trimmed rest)
