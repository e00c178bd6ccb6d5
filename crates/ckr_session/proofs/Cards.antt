-- The cards that a session keeps.
use Rattle.std.proofs.Common.{◌≡◌, ◌≤◌, ◌+◌, ◌*◌, ℕ, List, [], ◌++◌, length, ap, ◌∙◌, arith, length-append, Result, Ok, Err, OnOk}
use Rattle.ckr_cards.specs.declared.cutter.Line.{Line}
use Rattle.ckr_cards.specs.declared.cutter.Line.TheVariants.{Starts, Card}
use Rattle.ckr_cards.specs.Card.{stored_line}
use Rattle.ckr_cards.proofs.StoredCards.{length-stored_line}
use Rattle.ckr_session.specs.Sessions.{cards_left, cards_with}

one_more : (cards line : List ℕ) (lines : ℕ) → length cards ≤ 81 * lines → length (cards ++ stored_line line) ≤ 81 * (lines + 1)
one_more cards line lines few =
    let long : length (cards ++ stored_line line) ≡ length cards + 81 = length-append cards (stored_line line) ∙ ap (λ n. length cards + n) (length-stored_line line) in
    omega (arith, long, few)

-- no more cards than lines, and so it is behind a line
pub few_behind : (kind : Line) (cards line : List ℕ) (lines : ℕ) → length cards ≤ 81 * lines → length (cards_with kind (cards_left kind cards) (stored_line line)) ≤ 81 * (lines + 1)
few_behind Card cards line lines few = one_more cards line lines few
few_behind Starts cards line lines few = one_more [] line lines (omega arith)
few_behind _ cards line lines few = omega arith

pub on_ok : {T E : Type 0} (r : Result T E) (P : Type 0) → P → OnOk r P
on_ok (Ok x) P holds = holds
on_ok (Err e) P holds = tt
