use Rattle.ckr_desk_turn.proofs.Select.{purged-keeps, released-keeps, stored-keeps, submitted-keeps}
use Rattle.ckr_desk_turn.proofs.Decks.OrderlyDecks.{deck-orderly}
use Rattle.std.proofs.Common.{suc, length}
use Rattle.ckr_desk_turn.proofs.turn_laws.desks_behind_calls.Goals as goal

pub returns : goal.returns
returns c = record {
  carried = λ desk cards kept deck few accepted. deck-orderly cards deck (suc (length desk.office.tables.runs)) few accepted;
  submitted = λ desk cards first kept deck is few accepted. submitted-keeps desk is cards first kept deck few accepted;
  kept_so = λ desk cards deck is few some accepted. stored-keeps desk is cards deck few some accepted;
  purged = λ desk job row is at queued. purged-keeps desk is job row at queued;
  released = λ desk job row is at held. released-keeps desk is job row at held;
}
