-- The deck that an event keeps, by the columns of its cards.
use Rattle.std.proofs.Common.{◌≡◌, ◌≤◌, ◌*◌, ◌/◌, ℕ, zero, suc, Bool, true, false, cond, nat_le, List, [], ◌∷◌, length, take, drop, flat_map, ap, Some, None, Result, Ok, Err, arith, length-append}
use Rattle.std.specs.Simd.{first_chunks}
use Rattle.std.proofs.lemmas.List.{length-drop, length-take-le}
use Rattle.std.proofs.lemmas.Option.{same_Some}
use Rattle.ckr_jcl.specs.declared.deck.Job.{Job}
use Rattle.ckr_jcl_decks.specs.Deck.{stored_deck}
use Rattle.ckr_jcl_decks.specs.Parts.Fault.{Fault}
use Rattle.ckr_desk_turn.specs.Cards.{job_in, kept_deck, stored_of_kept, with_short_mark}

-- it is read from them
pub kept_read : (cards : List ℕ) (deck : Job) → kept_deck cards ≡ Some deck → stored_deck (stored_of_kept cards) ≡ Ok deck
unfolding kept_deck
kept_read cards deck kept = by (nat_le 80 (length cards)) (stored_deck (stored_of_kept cards)) kept
  where
    by : (long : Bool) (read : Result Job Fault) → cond long (job_in read) None ≡ Some deck → read ≡ Ok deck
    by false read e = cc
    by true (Ok job) e = ap Ok (same_Some job deck e)
    by true (Err fault) e = cc

-- 81 bytes are stored of each card of 80
pub stored_long : (cards : List ℕ) → length (stored_of_kept cards) ≡ 81 * (length cards / 80)
unfolding stored_of_kept
stored_long cards = stored_so (length cards / 80) cards (omega arith)
  where
    stored_so : (count : ℕ) (cards : List ℕ) → 80 * count ≤ length cards → length (flat_map with_short_mark (first_chunks 80 count cards)) ≡ 81 * count
    stored_so zero cards fits = omega arith
    stored_so (suc count) cards fits =
        let rest = flat_map with_short_mark (first_chunks 80 count (drop 80 cards)) in
        let one : length (take 80 cards) ≡ 80 = length-take-le 80 cards (omega (arith, fits)) in
        let more : length rest ≡ 81 * count = stored_so count (drop 80 cards) (omega (arith, fits, length-drop 80 cards)) in
        omega (arith, one, more, length-append (take 80 cards) (0 ∷ []), length-append (with_short_mark (take 80 cards)) rest)
