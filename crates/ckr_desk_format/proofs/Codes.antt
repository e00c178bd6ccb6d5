-- Codes behind one another, and the words of a text.
use Rattle.std.proofs.Common.{◌≡◌, ℕ, ◌+◌, ◌<◌, ◌&&◌, not, IsTrue, nat_le, Option, Some, None, List, [], ◌∷◌, ◌++◌, length, take, drop, refl, ap, sym, subst, ◌∙◌, append_assoc, append-nil, arith}
use Rattle.std.specs.List.{list_any, slice_split, position_or_len}
use Rattle.std.proofs.lemmas.Bool.{and_parts, and_from}
use Rattle.std.proofs.lemmas.Grind.{common_steps}
use Rattle.std.proofs.lemmas.Option.{none-some, same_Some}
use Rattle.ckr_base.specs.declared.code.Code.{Code}
use Rattle.ckr_base.specs.CodeText.{number_of, code_of, same_code}
use Rattle.ckr_base.proofs.Options.{some-not-none}
use Rattle.ckr_volumes.specs.Header.{codes_fit}
use Rattle.ckr_base.specs.Words.{is_blank}
use Rattle.ckr_desk_format.specs.Cards.{codes_with, codes_by}

-- a code behind others that fit
pub codes_fit-push : (made list : List Code) (code : Code) → IsTrue (codes_fit made list)
    → IsTrue (nat_le (number_of code) 4095 && not (list_any (same_code code) (made ++ list))) → IsTrue (codes_fit made (list ++ code ∷ []))
codes_fit-push made [] code fit new = and_from _ _ (subst (λ (l : List Code). IsTrue (nat_le (number_of code) 4095 && not (list_any (same_code code) l))) (append-nil made) new) refl
codes_fit-push made (first ∷ rest) code fit new =
    let both = and_parts (nat_le (number_of first) 4095 && not (list_any (same_code first) made)) (codes_fit (made ++ first ∷ []) rest) fit in
    and_from _ _ both.0
    (codes_fit-push (made ++ first ∷ []) rest code both.1
    (subst (λ (l : List Code). IsTrue (nat_le (number_of code) 4095 && not (list_any (same_code code) l))) (sym (append_assoc made (first ∷ []) rest)) new))

-- a text without a blank is one word
pub split_none : (text : List ℕ) → position_or_len is_blank text ≡ length text → slice_split is_blank text ≡ text ∷ []
split_none [] none = refl
split_none (byte ∷ rest) none = grind (arith, common_steps, split_none rest)

-- another text is cut at its first blank
pub split_first : (text : List ℕ) → position_or_len is_blank text < length text
    → slice_split is_blank text ≡ take (position_or_len is_blank text) text ∷ slice_split is_blank (drop (position_or_len is_blank text + 1) text)
split_first [] inside = grind arith
split_first (byte ∷ rest) inside = grind (arith, common_steps, split_first rest)

-- what words are behind a first one
abbrev codes_on : Option (List Code) → List (List ℕ) → Option (List Code)
codes_on with rest = elim with [
  | Some more ↦ codes_by more rest
  | None ↦ None
]

-- a word that stands before others
word_with : (made mid : List Code) (rest : List (List ℕ)) (with : Option (List Code)) → codes_on with [] ≡ Some mid → codes_on with rest ≡ codes_by mid rest
word_with made mid rest (Some more) e = ap (λ (l : List Code). codes_by l rest) (same_Some more mid e)
word_with made mid rest None e = absurd (none-some mid e)

word_wrong : (rest : List (List ℕ)) (with : Option (List Code)) → codes_on with [] ≡ None → codes_on with rest ≡ None
word_wrong rest (Some more) e = absurd (some-not-none more e)
word_wrong rest None e = refl

-- the first word's code was put behind the others
pub words_behind : (text : List ℕ) (made mid : List Code) (place : ℕ) → place ≡ position_or_len is_blank text → place < length text → codes_by made (take place text ∷ []) ≡ Some mid
    → codes_by made (slice_split is_blank text) ≡ codes_by mid (slice_split is_blank (drop (place + 1) text))
words_behind text made mid place at inside first =
    ap (codes_by made) (split_first text (subst (λ (n : ℕ). n < length text) at inside))
    ∙ ap (λ (n : ℕ). codes_by made (take n text ∷ slice_split is_blank (drop (n + 1) text))) (sym at)
    ∙ word_with made mid (slice_split is_blank (drop (place + 1) text)) (codes_with made (code_of (take place text))) first

-- the first word is wrong
pub words_wrong : (text : List ℕ) (made : List Code) (place : ℕ) → place ≡ position_or_len is_blank text → place < length text → codes_by made (take place text ∷ []) ≡ None
    → codes_by made (slice_split is_blank text) ≡ None
words_wrong text made place at inside first =
    ap (codes_by made) (split_first text (subst (λ (n : ℕ). n < length text) at inside))
    ∙ ap (λ (n : ℕ). codes_by made (take n text ∷ slice_split is_blank (drop (n + 1) text))) (sym at)
    ∙ word_wrong (slice_split is_blank (drop (place + 1) text)) (codes_with made (code_of (take place text))) first
