-- What a word is by the grammar, beside what it looks like to clap.
use Rattle.std.proofs.Common.{suc, ◌≡◌, ◌≢◌, ◌∙◌, ℕ, ◌+◌, ◌==◌, ◌⊎◌, inl, inr, Bool, true, false, refl, sym, ap, subst, List, [], ◌∷◌, ◌++◌, Option, Some, None, arith, true≢false}
use Rattle.std.specs.Prelude.{if◌then◌else◌, bytes_eq, codes, length, map, slice_get, drop, take, nat_eq, nat_lt}
use Rattle.std.specs.List.{list_all, starts_with, slice_split, onto_first, before_first, position_or_len}
use Rattle.std.specs.Str.{IsUtf8, chars}
use Rattle.std.proofs.lemmas.Slice.Eq.{bytes_eq-Decides}
use Rattle.std.proofs.lemmas.Str.{encodes-chars}
use Rattle.std.proofs.lemmas.Bool.{ne_eqb}
use Rattle.std.proofs.lemmas.Bool.Decides.{eqb_tells}
use Rattle.std.proofs.lemmas.List.{take-append-drop}
use Rattle.ckr_base.proofs.Bools.{and-false}
use lib.Utf8.{encode, encodes}
use Rattle.clap.specs.Lexer.{name_and_value}
use Rattle.ckr_words.specs.Words.{Text, ends, asks, gives, stray, positional, word_of}
use Rattle.ckr_console.specs.declared.scripts.Script.{Script}
use Rattle.ckr_console.specs.Scripts.{is_bar, is_script, script_for, scripts_of}
use Rattle.ckr_words.proofs.Steps.{Looks}

pub data View (word : Text) : Type 0 where
  is_end : word_of word ≡ ends → Looks word true None None → scripts_of word ≡ None → View word
  is_asking : word_of word ≡ asks → Looks word false (Some (codes "reply", None)) None → scripts_of word ≡ None → View word
  is_giving : (reply : Text) → word_of word ≡ gives reply → Looks word false (Some (codes "reply", Some reply)) None → scripts_of word ≡ None → View word
  is_long : (name : Text) (value : Option Text) → word_of word ≡ stray → Looks word false (Some (name, value)) None → bytes_eq (codes "reply") name ≡ false
      → scripts_of word ≡ None → View word
  is_short : (x : ℕ) (xs : Text) (c : ℕ) → word_of word ≡ stray → Looks word false None (Some (x ∷ xs)) → slice_get (chars (x ∷ xs)) 0 ≡ Some c
      → scripts_of word ≡ None → View word
  is_plain : word_of word ≡ positional → Looks word false None None → View word

abbrev scripts_by : List Text → Option (List Script)
scripts_by parts = if list_all is_script parts then Some (map script_for parts) else None

-- a word that begins with `-` isn't in the grammar of T
no_scripts : (word : Text) → scripts_of (45 ∷ word) ≡ None
unfolding scripts_of
no_scripts word = go (slice_split is_bar word)
  where
    no_part : (part : Text) → is_script (45 ∷ part) ≡ false
    no_part part = and-false (nat_lt 0 (length (45 ∷ part)))

    go : (parts : List Text) → scripts_by (onto_first 45 parts) ≡ None
    go [] = refl
    go (part ∷ parts) = rw (no_part part) refl

abbrev is_equals : ℕ → Bool
is_equals x = x == 61

one_later : (n : ℕ) (x : ℕ) (xs : Text) → take (1 + n) (x ∷ xs) ≡ x ∷ take n xs
one_later n x xs = let one : 1 + n ≡ suc n = omega arith in rw one refl

-- a text is its front before the first `=`, with or without that one behind it
cut : (xs : Text) → (xs ≡ before_first is_equals xs) ⊎ ((rest : Text) × (xs ≡ before_first is_equals xs ++ 61 ∷ rest))
cut [] = inl refl
cut (x ∷ xs) = go (eqb_tells x 61) (cut xs)
  where
    later : (x == 61) ≡ false → before_first is_equals (x ∷ xs) ≡ x ∷ before_first is_equals xs
    later other = rw other (one_later (position_or_len is_equals xs) x xs)

    go : (((x == 61) ≡ true) × (x ≡ 61)) ⊎ (((x == 61) ≡ false) × (x ≢ 61)) → (xs ≡ before_first is_equals xs) ⊎ ((rest : Text) × (xs ≡ before_first is_equals xs ++ 61 ∷ rest))
        → (x ∷ xs ≡ before_first is_equals (x ∷ xs)) ⊎ ((rest : Text) × (x ∷ xs ≡ before_first is_equals (x ∷ xs) ++ 61 ∷ rest))
    go (inl equal) rest = inr (xs, rw equal.0 (ap (λ y. y ∷ xs) equal.1))
    go (inr other) (inl whole) = inl (ap (λ ys. x ∷ ys) whole ∙ sym (later other.0))
    go (inr other) (inr parts) = inr (parts.0, ap (λ ys. x ∷ ys) parts.1 ∙ ap (λ ys. ys ++ 61 ∷ parts.0) (sym (later other.0)))

-- a name `reply` stands alone, or in front of `=`
name_is_reply : (xs : Text) → bytes_eq xs (codes "reply") ≡ false → starts_with nat_eq xs (codes "reply=") ≡ false
    → bytes_eq (codes "reply") (before_first is_equals xs) ≡ false
name_is_reply xs alone before = go (bytes_eq (codes "reply") (before_first is_equals xs)) refl
  where
    go : (b : Bool) → bytes_eq (codes "reply") (before_first is_equals xs) ≡ b → b ≡ false
    go false is = refl
    go true is =
        let name : codes "reply" ≡ before_first is_equals xs = (bytes_eq-Decides _ _).0 is in
        elim (cut xs) [
          | inl whole ↦ let same : bytes_eq xs (codes "reply") ≡ true = (bytes_eq-Decides _ _).1 (whole ∙ sym name) in absurd (true≢false (sym same ∙ alone))
          | inr parts ↦
              let is_this : xs ≡ codes "reply" ++ 61 ∷ parts.0 = parts.1 ∙ ap (λ n. n ++ 61 ∷ parts.0) (sym name) in
              let starts : starts_with nat_eq xs (codes "reply=") ≡ true = ap (λ ys. starts_with nat_eq ys (codes "reply=")) is_this in
              absurd (true≢false (sym starts ∙ before))
        ]

view_long : (z : ℕ) (zs : Text) → View (45 ∷ 45 ∷ z ∷ zs)
view_long z zs = go (bytes_eq (z ∷ zs) (codes "reply")) (starts_with nat_eq (z ∷ zs) (codes "reply=")) refl refl
  where
    go : (alone before : Bool) → bytes_eq (z ∷ zs) (codes "reply") ≡ alone → starts_with nat_eq (z ∷ zs) (codes "reply=") ≡ before → View (45 ∷ 45 ∷ z ∷ zs)
    go true before is_alone is_before =
        let is : z ∷ zs ≡ codes "reply" = (bytes_eq-Decides _ _).0 is_alone in
        subst (λ ys. View (45 ∷ 45 ∷ ys)) (sym is) (is_asking refl (record { is_end = refl; is_long = refl; is_short = refl }) (no_scripts _))
    go false true is_alone is_before =
        let front : codes "reply=" ≡ take 6 (z ∷ zs) = (bytes_eq-Decides _ _).0 is_before in
        let is : codes "reply=" ++ drop 6 (z ∷ zs) ≡ z ∷ zs = ap (λ ys. ys ++ drop 6 (z ∷ zs)) front ∙ take-append-drop 6 (z ∷ zs) in
        subst (λ ys. View (45 ∷ 45 ∷ ys)) is (is_giving (drop 6 (z ∷ zs)) refl (record { is_end = refl; is_long = refl; is_short = refl }) (no_scripts _))
    go false false is_alone is_before =
        is_long (name_and_value (z ∷ zs)).0 (name_and_value (z ∷ zs)).1 (rw (is_alone, is_before) refl) (record { is_end = refl; is_long = refl; is_short = refl })
        (name_is_reply (z ∷ zs) is_alone is_before) (no_scripts _)

-- behind one `-` of a text there is a character
first_letter : (y : ℕ) (ys : Text) → IsUtf8 (45 ∷ y ∷ ys) → (c : ℕ) × (slice_get (chars (y ∷ ys)) 0 ≡ Some c)
unfolding chars encode
first_letter y ys utf8 = go (chars (y ∷ ys)) (encodes-chars (45 ∷ y ∷ ys) utf8)
  where
    go : (cs : Text) → encodes (45 ∷ cs) ≡ 45 ∷ y ∷ ys → (c : ℕ) × (slice_get cs 0 ≡ Some c)
    go [] bad = absurd (cc bad)
    go (c ∷ cs) same = (c, refl)

view_short : (y : ℕ) (ys : Text) → y ≢ 45 → IsUtf8 (45 ∷ y ∷ ys) → View (45 ∷ y ∷ ys)
view_short y ys differs utf8 =
    let left : (y == 45) ≡ false = ne_eqb _ _ differs in
    let right : (45 == y) ≡ false = ne_eqb _ _ (λ e. differs (sym e)) in
    let letter = first_letter y ys utf8 in
    is_short y ys letter.0 (rw (left, right) refl) (record { is_end = rw left refl; is_long = rw left refl; is_short = rw left refl }) letter.1 (no_scripts _)

plain_one : (x : ℕ) → View (x ∷ [])
plain_one x = elim (eqb_tells x 45) [
  | inl dash ↦ subst (λ y. View (y ∷ [])) (sym dash.1) (is_plain refl (record { is_end = refl; is_long = refl; is_short = refl }))
  | inr other ↦
      let right : (45 == x) ≡ false = ne_eqb _ _ (λ e. other.1 (sym e)) in
      is_plain (rw (other.0, right) refl) (record { is_end = rw other.0 refl; is_long = rw other.0 refl; is_short = rw other.0 refl })
]

plain_more : (x y : ℕ) (rest : Text) → x ≢ 45 → View (x ∷ y ∷ rest)
plain_more x y rest differs =
    let left : (x == 45) ≡ false = ne_eqb _ _ differs in
    let right : (45 == x) ≡ false = ne_eqb _ _ (λ e. differs (sym e)) in
    is_plain (rw (left, right) refl) (record { is_end = rw left refl; is_long = rw left refl; is_short = rw left refl })

view_dashes : (rest : Text) → View (45 ∷ 45 ∷ rest)
view_dashes [] = is_end refl (record { is_end = refl; is_long = refl; is_short = refl }) (no_scripts _)
view_dashes (z ∷ zs) = view_long z zs

view_dash : (y : ℕ) (rest : Text) → IsUtf8 (45 ∷ y ∷ rest) → View (45 ∷ y ∷ rest)
view_dash y rest utf8 = elim (eqb_tells y 45) [
  | inl dash ↦ subst (λ x. View (45 ∷ x ∷ rest)) (sym dash.1) (view_dashes rest)
  | inr other ↦ view_short y rest other.1 utf8
]

view_more : (x y : ℕ) (rest : Text) → IsUtf8 (x ∷ y ∷ rest) → View (x ∷ y ∷ rest)
view_more x y rest utf8 = elim (eqb_tells x 45) [
  | inl dash ↦ subst (λ z. View (z ∷ y ∷ rest)) (sym dash.1) (view_dash y rest (subst (λ z. IsUtf8 (z ∷ y ∷ rest)) dash.1 utf8))
  | inr other ↦ plain_more x y rest other.1
]

pub view : (word : Text) → IsUtf8 word → View word
view [] utf8 = is_plain refl (record { is_end = refl; is_long = refl; is_short = refl })
view (x ∷ []) utf8 = plain_one x
view (x ∷ y ∷ rest) utf8 = view_more x y rest utf8

-- each word is a text
abbrev pub EachUtf8 : List Text → Type 0
EachUtf8 [] = Unit {0}
EachUtf8 (word ∷ words) = IsUtf8 word × EachUtf8 words
