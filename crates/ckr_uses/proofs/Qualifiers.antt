-- Names with one more qualifier are names of data sets.
use Rattle.std.proofs.Common.{◌≡◌, ◌≤◌, ◌+◌, ℕ, true, false, List, [], ◌∷◌, ◌++◌, length, refl, ap, ◌∙◌, arith, cond, nat_le}
use Rattle.std.specs.List.{list_all}
use Rattle.std.proofs.lemmas.Bool.Decides.{nat_tests}
use Rattle.std.proofs.lemmas.List.{length-append}
use Rattle.std.proofs.lemmas.Bool.{and_from}
use Rattle.ckr_base.specs.Grammar.{pieces, is_period, onto_first, is_ds_name, is_name8, is_name_byte}
use Rattle.ckr_base.proofs.Bools.{and-second}
use Rattle.ckr_base.specs.Digits.{last_digits}
use Rattle.ckr_base.proofs.NameBytes.{digits-length, digits-named, name8-named}

-- a text has a first piece
onto_first-append : (byte : ℕ) (text : List ℕ) (rest : List (List ℕ)) → onto_first byte (pieces text ++ rest) ≡ onto_first byte (pieces text) ++ rest
onto_first-append byte [] rest = refl
onto_first-append byte (first ∷ text) rest =
    elim (is_period first) as (λ b. onto_first byte (cond b ([] ∷ pieces text) (onto_first first (pieces text)) ++ rest) ≡ onto_first byte (cond b ([] ∷ pieces text) (onto_first first (pieces text))) ++ rest) [
      | true ↦ refl
      | false ↦ begun (pieces text)
    ]
  where
    begun : (ps : List (List ℕ)) → onto_first byte (onto_first first ps ++ rest) ≡ onto_first byte (onto_first first ps) ++ rest
    begun [] = refl
    begun (p ∷ ps) = refl

-- a period parts the pieces
pieces-append : (front name : List ℕ) → pieces (front ++ 46 ∷ name) ≡ pieces front ++ pieces name
pieces-append [] name = refl
pieces-append (byte ∷ front) name =
    elim (is_period byte) as (λ b. cond b ([] ∷ pieces (front ++ 46 ∷ name)) (onto_first byte (pieces (front ++ 46 ∷ name))) ≡ cond b ([] ∷ pieces front) (onto_first byte (pieces front)) ++ pieces name) [
      | true ↦ ap (λ ps. [] ∷ ps) (pieces-append front name)
      | false ↦ ap (onto_first byte) (pieces-append front name) ∙ onto_first-append byte front (pieces name)
    ]

no_period : (byte : ℕ) → is_name_byte byte ≡ true → is_period byte ≡ false
no_period byte e = grind (arith, nat_tests)

pieces-name : (name : List ℕ) → list_all is_name_byte name ≡ true → pieces name ≡ name ∷ []
pieces-name [] all = refl
pieces-name (byte ∷ name) all = grind (arith, nat_tests, no_period byte, pieces-name name)

pub name_long : (name : List ℕ) → is_name8 name ≡ true → length name ≤ 8
name_long [] e = omega arith
name_long (byte ∷ name) e = grind (arith, nat_tests)

pieces-qualified : (front name : List ℕ) → is_name8 name ≡ true → pieces (front ++ 46 ∷ name) ≡ pieces front ++ name ∷ []
pieces-qualified front name f = pieces-append front name ∙ ap (λ ps. pieces front ++ ps) (pieces-name name (name8-named name f))

all_names : (ps : List (List ℕ)) (name : List ℕ) → list_all is_name8 ps ≡ true → is_name8 name ≡ true → list_all is_name8 (ps ++ name ∷ []) ≡ true
all_names [] name e f = grind arith
all_names (p ∷ ps) name e f = grind (arith, nat_tests, all_names ps name)

within : (n : ℕ) → n ≤ 44 → nat_le n 44 ≡ true
within n h = grind (arith, nat_tests)

long : (front name : List ℕ) → length front ≤ 35 → is_name8 name ≡ true → nat_le (length (front ++ 46 ∷ name)) 44 ≡ true
long front name short f = within (length (front ++ 46 ∷ name)) (omega (arith, length-append front (46 ∷ name), name_long name f))

parts : (front name : List ℕ) → is_ds_name front ≡ true → is_name8 name ≡ true → list_all is_name8 (pieces (front ++ 46 ∷ name)) ≡ true
parts front name e f =
    ap (list_all is_name8) (pieces-qualified front name f)
    ∙ all_names (pieces front) name (and-second (nat_le (length front) 44) (list_all is_name8 (pieces front)) e) f

pub is_ds_name-qualified : (front name : List ℕ) → is_ds_name front ≡ true → length front ≤ 35 → is_name8 name ≡ true → is_ds_name (front ++ 46 ∷ name) ≡ true
is_ds_name-qualified front name e short f =
    and_from (nat_le (length (front ++ 46 ∷ name)) 44) (list_all is_name8 (pieces (front ++ 46 ∷ name))) (long front name short f) (parts front name e f)

pub is_name8-run : (run : ℕ) → is_name8 (74 ∷ last_digits 7 run) ≡ true
is_name8-run run = grind (arith, nat_tests, digits-named 7 run, digits-length 7 run)

pub ruleset qualifies = (is_ds_name-qualified, is_name8-run, name_long)
