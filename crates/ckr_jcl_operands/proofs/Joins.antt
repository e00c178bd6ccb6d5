-- Putting texts behind one another, within 100 bytes.
use Rattle.std.proofs.Common.{◌≡◌, ℕ, ◌+◌, ◌<◌, ◌≤◌, ◌∙◌, Bool, true, false, List, [], ◌∷◌, ◌++◌, length, drop, refl, sym, arith, Option, Some, None, append_assoc, nat_le, get_or, ◌==◌}
use Rattle.std.proofs.lemmas.Grind.{common_steps}
use Rattle.std.specs.Option.{option_map}
use Rattle.ckr_jcl.specs.Text.{if_holds}
use Rattle.ckr_jcl_operands.specs.JobValues.{onto, undoubled, with_comma, joined, parm_item}
use Rattle.ckr_cards.specs.Field.{parts_of}
use Rattle.ckr_jcl.proofs.ListItems.{first_item, first_length, items_behind, items_cons, no_more, more}

pub if_holds-some : {X : Type 0} (test : Bool) (x y : X) → if_holds test x ≡ Some y → x ≡ y
if_holds-some true x y same = cc
if_holds-some false x y same = absurd cc

pub if_holds-none : {X : Type 0} (test : Bool) (x : X) → if_holds test x ≡ None → test ≡ false
if_holds-none true x none = absurd cc
if_holds-none false x none = refl

-- nothing behind a text that fits
pub onto_nothing : (front : List ℕ) → length front ≤ 100 → onto front (Some []) ≡ Some front
unfolding onto
onto_nothing front fits = grind (arith, common_steps)

pub onto_none : (front : List ℕ) → onto front None ≡ None
unfolding onto
onto_none front = refl

-- a front that fits with what comes first, and what follows behind both
pub onto-behind : (front next first : List ℕ) (rest : Option (List ℕ)) → onto front (Some first) ≡ Some next → onto front (option_map (λ more. first ++ more) rest) ≡ onto next rest
unfolding onto
onto-behind front next first None fits = refl
onto-behind front next first (Some more) fits =
    let same : front ++ first ≡ next = if_holds-some (nat_le (length (front ++ first)) 100) (front ++ first) next fits in
    rw (← same, append_assoc) refl

too_long : (front first more : List ℕ) → nat_le (length (front ++ first)) 100 ≡ false → nat_le (length (front ++ (first ++ more))) 100 ≡ false
too_long front first more long = grind (arith, common_steps)

-- one that doesn't fit
pub onto-full : (front first : List ℕ) (rest : Option (List ℕ)) → onto front (Some first) ≡ None → onto front (option_map (λ more. first ++ more) rest) ≡ None
unfolding onto
onto-full front first None full = refl
onto-full front first (Some more) full =
    rw (too_long front first more (if_holds-none (nat_le (length (front ++ first)) 100) (front ++ first) full)) refl

-- ---- a text in apostrophes

pub half_alone : (front text : List ℕ) (half : Bool) → length text < 1 → half ≡ true → onto front (undoubled half text) ≡ None
half_alone front [] half empty true_half = rw true_half (onto_none front)
half_alone front (byte ∷ rest) half empty true_half = absurd (omega arith)

pub whole_end : (front text : List ℕ) (half : Bool) → length text < 1 → half ≡ false → length front ≤ 100 → onto front (undoubled half text) ≡ Some front
whole_end front [] half empty false_half fits = rw false_half (onto_nothing front fits)
whole_end front (byte ∷ rest) half empty false_half fits = absurd (omega arith)

pub half_broken : (front text : List ℕ) (half : Bool) → 1 ≤ length text → half ≡ true → (get_or text 0 0 == 39) ≡ false → onto front (undoubled half text) ≡ None
half_broken front [] half some true_half other = absurd (omega arith)
half_broken front (byte ∷ rest) half some true_half other = rw (true_half, other) (onto_none front)

pub kept_byte : (text : List ℕ) (half : Bool) → 1 ≤ length text → (get_or text 0 0 == 39) ≡ half → undoubled half text ≡ option_map (λ more. (get_or text 0 0 ∷ []) ++ more) (undoubled false (drop 1 text))
kept_byte [] half some same = absurd (omega arith)
kept_byte (byte ∷ rest) true some same = rw same refl
kept_byte (byte ∷ rest) false some same = rw same refl

pub kept : (front next text : List ℕ) (half : Bool) → 1 ≤ length text → (get_or text 0 0 == 39) ≡ half → onto front (Some (get_or text 0 0 ∷ [])) ≡ Some next → onto front (undoubled half text) ≡ onto next (undoubled false (drop 1 text))
kept front next text half some same fits =
    rw (kept_byte text half some same) (onto-behind front next (get_or text 0 0 ∷ []) (undoubled false (drop 1 text)) fits)

pub not_kept : (front text : List ℕ) (half : Bool) → 1 ≤ length text → (get_or text 0 0 == 39) ≡ half → onto front (Some (get_or text 0 0 ∷ [])) ≡ None → onto front (undoubled half text) ≡ None
not_kept front text half some same full =
    rw (kept_byte text half some same) (onto-full front (get_or text 0 0 ∷ []) (undoubled false (drop 1 text)) full)

-- ---- the items of a list

pub comma-wrong : (front : List ℕ) (text rest : Option (List ℕ)) → onto front text ≡ None → onto front (with_comma text rest) ≡ None
comma-wrong front None rest wrong = onto_none front
comma-wrong front (Some text) None wrong = onto_none front
comma-wrong front (Some text) (Some more) wrong = onto-full front text (Some (44 ∷ more)) wrong

pub comma-fits : (front first next : List ℕ) (text rest : Option (List ℕ)) → onto front text ≡ Some first → onto first (Some (44 ∷ [])) ≡ Some next → onto front (with_comma text rest) ≡ onto next rest
comma-fits front first next None rest fits room = absurd (cc (fits, onto_none front))
comma-fits front first next (Some text) None fits room = onto_none front ∙ sym (onto_none next)
comma-fits front first next (Some text) (Some more) fits room =
    onto-behind front first text (Some (44 ∷ more)) fits ∙ onto-behind first next (44 ∷ []) (Some more) room

pub comma-full : (front first : List ℕ) (text rest : Option (List ℕ)) → onto front text ≡ Some first → onto first (Some (44 ∷ [])) ≡ None → onto front (with_comma text rest) ≡ None
comma-full front first None rest fits full = onto_none front
comma-full front first (Some text) None fits full = onto_none front
comma-full front first (Some text) (Some more) fits full =
    onto-behind front first text (Some (44 ∷ more)) fits ∙ onto-full first (44 ∷ []) (Some more) full

pub joined-wrong : (front item : List ℕ) (rest : List (List ℕ)) → onto front (parm_item item) ≡ None → onto front (joined (item ∷ rest)) ≡ None
joined-wrong front item [] wrong = wrong
joined-wrong front item (next ∷ rest) wrong = comma-wrong front (parm_item item) (joined (next ∷ rest)) wrong

-- a first item that is wrong or doesn't fit
pub wrong_joined : (front list : List ℕ) → onto front (parm_item (first_item list)) ≡ None → onto front (joined (parts_of list)) ≡ None
wrong_joined front list wrong = rw (items_cons list) (joined-wrong front (first_item list) (items_behind list) wrong)

pub last_joined : (list : List ℕ) → first_length list ≡ length list → joined (parts_of list) ≡ parm_item (first_item list)
last_joined list whole = rw (items_cons list, no_more list whole) refl

-- several items
pub more_joined : (list : List ℕ) → first_length list < length list → joined (parts_of list) ≡ with_comma (parm_item (first_item list)) (joined (parts_of (drop (first_length list + 1) list)))
more_joined list inside = rw (items_cons list, more list inside, items_cons (drop (first_length list + 1) list)) refl
