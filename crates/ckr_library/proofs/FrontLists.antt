-- The fronts of spans, of the first of them and of the others, and through the changes of a list.
use Rattle.std.proofs.Common.{◌≡◌, ℕ, zero, suc, ◌+◌, ◌-◌, ◌<◌, ◌≤◌, List, [], ◌∷◌, ◌++◌, length, take, drop, set, get_or, insert, remove, refl, ap, sym, ◌∙◌, arith, add-one}
use Rattle.std.proofs.lemmas.List.{append-nil, append_assoc, length-take-le, take_at, drop_at, drop_more, drop-set-lt, take_more_set, take-append-drop, take_all, drop_all}
use Rattle.ckr_library.specs.declared.fronts.Front.{Front}
use Rattle.ckr_library.specs.declared.spread.Span.{Span}
use Rattle.ckr_library.specs.Fronts.{fresh, front_after, fronts_from, front_of, last_of, AreSpread}

-- as many fronts as spans
pub fronts-length : (front : Front) (spans : List Span) → length (fronts_from front spans) ≡ length spans
fronts-length front [] = refl
fronts-length front (span ∷ spans) = ap suc (fronts-length (front_after front span) spans)

-- the fronts of the first spans
pub fronts-take : (front : Front) (spans : List Span) (n : ℕ) → take n (fronts_from front spans) ≡ fronts_from front (take n spans)
fronts-take front spans zero = refl
fronts-take front [] (suc n) = refl
fronts-take front (span ∷ spans) (suc n) = ap (λ rest. front_after front span ∷ rest) (fronts-take (front_after front span) spans n)

-- the fronts of the others
pub fronts-drop : (front : Front) (spans : List Span) (n : ℕ) → drop n (fronts_from front spans) ≡ fronts_from (front_of front (take n spans)) (drop n spans)
fronts-drop front spans zero = refl
fronts-drop front [] (suc n) = refl
fronts-drop front (span ∷ spans) (suc n) = fronts-drop (front_after front span) spans n

pub fronts-append : (front : Front) (some more : List Span) → fronts_from front (some ++ more) ≡ fronts_from front some ++ fronts_from (front_of front some) more
fronts-append front [] more = refl
fronts-append front (span ∷ some) more = ap (λ rest. front_after front span ∷ rest) (fronts-append (front_after front span) some more)

-- the last one is the front behind all
pub fronts-last : (front : Front) (spans : List Span) → last_of front (fronts_from front spans) ≡ front_of front spans
fronts-last front [] = refl
fronts-last front (span ∷ spans) = fronts-last (front_after front span) spans

-- the last one of those before a place
pub last-take : (front : Front) (fronts : List Front) (n : ℕ) → n ≤ length fronts → (some : Front) → 1 ≤ n → get_or fronts (n - 1) some ≡ last_of front (take n fronts)
last-take front fronts zero inside some least = absurd (omega (arith, least))
last-take front [] (suc n) inside some least = absurd (omega (arith, inside))
last-take front (next ∷ fronts) (suc zero) inside some least = refl
last-take front (next ∷ fronts) (suc (suc n)) inside some least =
    let place : suc (suc n) - 1 ≡ suc (suc n - 1) = omega arith in
    ap (λ k. get_or (next ∷ fronts) k some) place ∙ last-take next fronts (suc n) (omega (arith, inside)) some (omega arith)

-- the front before a place of the list
pub last-before : (front : Front) (spans : List Span) (n : ℕ) → last_of front (take n (fronts_from front spans)) ≡ front_of front (take n spans)
last-before front spans n = ap (last_of front) (fronts-take front spans n) ∙ fronts-last front (take n spans)

-- the front at a place
pub fronts-get : (front : Front) (spans : List Span) (n : ℕ) (some : Front) → n < length spans → get_or (fronts_from front spans) n some ≡ front_of front (take (suc n) spans)
fronts-get front [] n some inside = absurd (omega (arith, inside))
fronts-get front (span ∷ spans) zero some inside = refl
fronts-get front (span ∷ spans) (suc n) some inside = fronts-get (front_after front span) spans n some (omega (arith, inside))

-- a list with an item put in: what is up to it, and what is behind
module _ {A : Type 0} where
  up_to : (items : List A) (place : ℕ) (item : A) → place ≤ length items → take (suc place) (insert items place item) ≡ take place items ++ item ∷ []
  up_to items zero item inside = refl
  up_to [] (suc place) item inside = absurd (omega (arith, inside))
  up_to (first ∷ items) (suc place) item inside = ap (λ rest. first ∷ rest) (up_to items place item (omega (arith, inside)))

  behind : (items : List A) (place : ℕ) (item : A) → place ≤ length items → drop (suc place) (insert items place item) ≡ drop place items
  behind items zero item inside = refl
  behind [] (suc place) item inside = absurd (omega (arith, inside))
  behind (first ∷ items) (suc place) item inside = behind items place item (omega (arith, inside))

  before_removed : (items : List A) (place : ℕ) → place ≤ length items → take place (remove items place) ≡ take place items
  before_removed items place inside = take_at (take place items) (drop (suc place) items) place (length-take-le place items inside)

  behind_removed : (items : List A) (place : ℕ) → place ≤ length items → drop place (remove items place) ≡ drop (suc place) items
  behind_removed items place inside = drop_at (take place items) (drop (suc place) items) place (length-take-le place items inside)

-- a span put in, with its front: the fronts behind it are those that stood, from the front before it
module _ (start : Front) (spans : List Span) (place : ℕ) (inside : place ≤ length spans) (span : Span) (was now : Front) (was_is : was ≡ front_of start (take place spans)) (now_is : now ≡ front_after was span) where
  pub inserted-stand : drop (place + 1) (insert (fronts_from start spans) place now) ≡ fronts_from was (drop (place + 1) (insert spans place span))
  inserted-stand =
      ap (λ n. drop n (insert (fronts_from start spans) place now)) (add-one place)
      ∙ behind (fronts_from start spans) place now (omega (arith, inside, fronts-length start spans))
      ∙ fronts-drop start spans place
      ∙ ap (λ front. fronts_from front (drop place spans)) (sym was_is)
      ∙ sym (ap (fronts_from was) (ap (λ n. drop n (insert spans place span)) (add-one place) ∙ behind spans place span inside))

  pub inserted-fronts : take (place + 1) (insert (fronts_from start spans) place now) ++ fronts_from now (drop (place + 1) (insert spans place span)) ≡ fronts_from start (insert spans place span)
  inserted-fronts =
      ap (λ n. take n (insert (fronts_from start spans) place now) ++ fronts_from now (drop n (insert spans place span))) (add-one place)
      ∙ (λ i. up_to (fronts_from start spans) place now (omega (arith, inside, fronts-length start spans)) i ++ fronts_from now (behind spans place span inside i))
      ∙ append_assoc (take place (fronts_from start spans)) (now ∷ []) (fronts_from now (drop place spans))
      ∙ (λ i. fronts-take start spans place i ++ now_is i ∷ fronts_from (now_is i) (drop place spans))
      ∙ ap (λ front. fronts_from start (take place spans) ++ fronts_from front (span ∷ drop place spans)) was_is
      ∙ sym (fronts-append start (take place spans) (span ∷ drop place spans))

-- a span taken out, with its front: those behind it are those that stood, from its front
module _ (start : Front) (spans : List Span) (place : ℕ) (inside : place < length spans) (was now : Front) where
  pub removed-stand : was ≡ front_of start (take (suc place) spans) → drop place (remove (fronts_from start spans) place) ≡ fronts_from was (drop place (remove spans place))
  removed-stand was_is =
      behind_removed (fronts_from start spans) place (omega (arith, inside, fronts-length start spans))
      ∙ fronts-drop start spans (suc place)
      ∙ ap (λ front. fronts_from front (drop (suc place) spans)) (sym was_is)
      ∙ sym (ap (fronts_from was) (behind_removed spans place (omega (arith, inside))))

  pub removed-fronts : now ≡ front_of start (take place spans) → take place (remove (fronts_from start spans) place) ++ fronts_from now (drop place (remove spans place)) ≡ fronts_from start (remove spans place)
  removed-fronts now_is =
      (λ i. before_removed (fronts_from start spans) place (omega (arith, inside, fronts-length start spans)) i ++ fronts_from (now_is i) (behind_removed spans place (omega (arith, inside)) i))
      ∙ ap (λ front. front ++ fronts_from (front_of start (take place spans)) (drop (suc place) spans)) (fronts-take start spans place)
      ∙ sym (fronts-append start (take place spans) (drop (suc place) spans))

-- one more front worked out again
module _ (spans : List Span) (fronts : List Front) (place : ℕ) (inside : place < length spans) (each : length fronts ≡ length spans) (was now : Front) where
  pub renewed-stand : (some next : Front) → drop place fronts ≡ fronts_from was (drop place spans) → drop (place + 1) (set fronts place next) ≡ fronts_from (get_or fronts place some) (drop (place + 1) spans)
  renewed-stand some next stand =
      let any : Span = record { volume = 0; start = 0; bytes = 0 } in
      let span : Span = get_or spans place any in
      let both : get_or fronts place some ∷ drop (place + 1) fronts ≡ front_after was span ∷ fronts_from (front_after was span) (drop (place + 1) spans) =
      sym (drop_more fronts place some (omega (arith, inside, each))) ∙ stand ∙ ap (fronts_from was) (drop_more spans place any inside) in
      let first : get_or fronts place some ≡ front_after was span = cc both in
      let rest : drop (place + 1) fronts ≡ fronts_from (front_after was span) (drop (place + 1) spans) = cc both in
      drop-set-lt (place + 1) fronts place next (omega arith) ∙ rest ∙ ap (λ f. fronts_from f (drop (place + 1) spans)) (sym first)

  pub renewed-made : (any : Span) (next : Front) → next ≡ front_after now (get_or spans place any) → take (place + 1) (set fronts place next) ++ fronts_from next (drop (place + 1) spans) ≡ take place fronts ++ fronts_from now (drop place spans)
  renewed-made any next is =
      ap (λ front. front ++ fronts_from next (drop (place + 1) spans)) (take_more_set fronts place next (omega (arith, inside, each)))
      ∙ append_assoc (take place fronts) (next ∷ []) (fronts_from next (drop (place + 1) spans))
      ∙ ap (λ f. take place fronts ++ f ∷ fronts_from f (drop (place + 1) spans)) is
      ∙ sym (ap (λ rest. take place fronts ++ fronts_from now rest) (drop_more spans place any inside))

-- fronts that come out as they were stand
pub renewed-same : (spans : List Span) (fronts : List Front) (place : ℕ) (was now : Front) → drop place fronts ≡ fronts_from was (drop place spans) → was ≡ now → fronts ≡ take place fronts ++ fronts_from now (drop place spans)
renewed-same spans fronts place was now stand same =
    sym (take-append-drop place fronts) ∙ ap (λ rest. take place fronts ++ rest) stand ∙ ap (λ front. take place fronts ++ fronts_from front (drop place spans)) same

-- at the end all are worked out
pub renewed-end : (spans : List Span) (fronts : List Front) (place : ℕ) (now : Front) → length fronts ≡ length spans → length spans ≤ place → fronts ≡ take place fronts ++ fronts_from now (drop place spans)
renewed-end spans fronts place now each past =
    sym (append-nil fronts) ∙ (λ i. sym (take_all place fronts (omega (arith, each, past))) i ++ fronts_from now (sym (drop_all place spans past) i))

-- the front before a place of the spread
pub spread-before : (spans : List Span) (fronts seen : List Front) → AreSpread spans fronts → seen ≡ fronts → (front : Front) (place : ℕ) → front ≡ last_of (fresh 0) (take place seen) → front ≡ front_of (fresh 0) (take place spans)
spread-before spans fronts seen is sees front place last =
    last ∙ ap (λ some. last_of (fresh 0) (take place some)) (sees ∙ is.stand) ∙ last-before (fresh 0) spans place

pub spread-length : (spans : List Span) (fronts : List Front) → AreSpread spans fronts → length fronts ≡ length spans
spread-length spans fronts is = ap length is.stand ∙ fronts-length (fresh 0) spans
