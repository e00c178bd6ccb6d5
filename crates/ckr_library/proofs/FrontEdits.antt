-- A spread stays one where a span is filed or unfiled, and the fronts behind it are worked out again.
use Rattle.std.proofs.Common.{◌≡◌, ℕ, suc, ◌+◌, ◌<◌, ◌≤◌, List, ◌++◌, length, take, drop, get_or, insert, remove, ap, sym, ◌∙◌, arith}
use Rattle.std.proofs.lemmas.List.{take_at}
use Rattle.std.proofs.lemmas.List.Edits.{length-insert, length-remove}
use Rattle.ckr_library.specs.declared.fronts.Front.{Front}
use Rattle.ckr_library.specs.declared.spread.Span.{Span}
use Rattle.ckr_library.specs.Fronts.{fresh, front_after, fronts_from, front_of, AreSpread}
use Rattle.ckr_library.proofs.FrontLists.{fronts-get, inserted-fronts, inserted-stand, removed-fronts, removed-stand, spread-length}

-- a list written over whole
pub written-whole : {A : Type 0} (made before : List A) (n : ℕ) → length made ≡ n → take n (made ++ drop (length made) before) ≡ made
written-whole made before n size = take_at made (drop (length made) before) n size

-- a span put in
module _ (spans : List Span) (fronts : List Front) (is : AreSpread spans fronts) (place : ℕ) (inside : place ≤ length spans) (span : Span) (was now : Front) (was_is : was ≡ front_of (fresh 0) (take place spans)) (now_is : now ≡ front_after was span)
    (spans_now : List Span) (fronts_now : List Front) (spans_are : spans_now ≡ insert spans place span) (fronts_are : fronts_now ≡ insert fronts place now) where
  fronts_by : fronts_now ≡ insert (fronts_from (fresh 0) spans) place now
  fronts_by = fronts_are ∙ ap (λ some. insert some place now) is.stand

  pub filed-each : length fronts_now ≡ length spans_now
  filed-each =
      omega (
        arith,
        ap length spans_are,
        ap length fronts_are,
        length-insert spans place span inside,
        length-insert fronts place now (omega (arith, inside, spread-length spans fronts is)),
        spread-length spans fronts is,
      )

  pub filed-stand : drop (place + 1) fronts_now ≡ fronts_from was (drop (place + 1) spans_now)
  filed-stand =
      ap (drop (place + 1)) fronts_by ∙ inserted-stand (fresh 0) spans place inside span was now was_is now_is ∙ sym (ap (λ some. fronts_from was (drop (place + 1) some)) spans_are)

  pub filed-fronts : (made : List Front) → made ≡ take (place + 1) fronts_now ++ fronts_from now (drop (place + 1) spans_now) → made ≡ fronts_from (fresh 0) spans_now
  filed-fronts made does =
      does
      ∙ (λ i. take (place + 1) (fronts_by i) ++ fronts_from now (drop (place + 1) (spans_are i)))
      ∙ inserted-fronts (fresh 0) spans place inside span was now was_is now_is
      ∙ sym (ap (fronts_from (fresh 0)) spans_are)

-- a span taken out
module _ (spans : List Span) (fronts : List Front) (is : AreSpread spans fronts) (place : ℕ) (inside : place < length spans) (was now some : Front) (was_is : was ≡ get_or fronts place some)
    (spans_now : List Span) (fronts_now : List Front) (spans_are : spans_now ≡ remove spans place) (fronts_are : fronts_now ≡ remove fronts place) where
  fronts_less : fronts_now ≡ remove (fronts_from (fresh 0) spans) place
  fronts_less = fronts_are ∙ ap (λ some. remove some place) is.stand

  was_front : was ≡ front_of (fresh 0) (take (suc place) spans)
  was_front = was_is ∙ ap (λ fronts. get_or fronts place some) is.stand ∙ fronts-get (fresh 0) spans place some inside

  pub unfiled-each : length fronts_now ≡ length spans_now
  unfiled-each =
      omega (
        arith,
        ap length spans_are,
        ap length fronts_are,
        length-remove spans place inside,
        length-remove fronts place (omega (arith, inside, spread-length spans fronts is)),
        spread-length spans fronts is,
      )

  pub unfiled-stand : drop place fronts_now ≡ fronts_from was (drop place spans_now)
  unfiled-stand =
      ap (drop place) fronts_less ∙ removed-stand (fresh 0) spans place inside was now was_front ∙ sym (ap (λ some. fronts_from was (drop place some)) spans_are)

  pub unfiled-fronts : now ≡ front_of (fresh 0) (take place spans) → (made : List Front) → made ≡ take place fronts_now ++ fronts_from now (drop place spans_now) → made ≡ fronts_from (fresh 0) spans_now
  unfiled-fronts now_is made does =
      does
      ∙ (λ i. take place (fronts_less i) ++ fronts_from now (drop place (spans_are i)))
      ∙ removed-fronts (fresh 0) spans place inside was now now_is
      ∙ sym (ap (fronts_from (fresh 0)) spans_are)
