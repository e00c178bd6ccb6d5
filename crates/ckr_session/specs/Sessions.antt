-- What clauses see of a session.
use Rattle.std.specs.Prelude.{◌≤◌, ◌+◌, ◌*◌, ℕ, List, [], ◌++◌, length}
use Rattle.ckr_cards.specs.declared.cutter.Line.{Line}
use Rattle.ckr_cards.specs.declared.cutter.Line.TheVariants.{Starts, Card}
use Rattle.ckr_cards.specs.Session.{SessionModel as Standing}
use Rattle.ckr_session.specs.declared.session.Session.{Session}

-- where the cutting stands
abbrev pub standing_of : {D O : Type 0} → Session D O → Standing
standing_of s = record { state = s.cutter; cards = s.deck; number = s.number + 1 }

-- the open deck has no more cards than lines
pub record HasFewCards {D O : Type 0} (s : Session D O) : Type 0 where
  pub few : length s.deck ≤ 81 * s.number

-- the cards that are left open before a line of a kind
abbrev pub cards_left : Line → List ℕ → List ℕ
cards_left Card cards = cards
cards_left _ cards = []

-- and with the card of the line
abbrev pub cards_with : Line → List ℕ → List ℕ → List ℕ
cards_with Card cards card = cards ++ card
cards_with Starts cards card = cards ++ card
cards_with _ cards card = cards
