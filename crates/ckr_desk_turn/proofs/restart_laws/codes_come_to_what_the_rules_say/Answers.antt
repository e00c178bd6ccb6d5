use Rattle.ckr_desk_turn.proofs.Restart.Turns.{turn-asks, turn-asks_at, turn-ends, unit-asks, unit-asks_at}
use Rattle.ckr_desk_turn.proofs.restart_laws.codes_come_to_what_the_rules_say.Goals as goal

pub returns : goal.returns
returns c = record {
  asked = λ desk one row code answer its. turn-asks desk one row code its answer;
  asked_at = λ desk one row code entry answer its. turn-asks_at desk one row code its answer entry;
  denied = λ desk one row code rule answer its. turn-ends desk one row code its answer rule;
  unit = λ desk row progress code answer. unit-asks desk row progress code answer;
  unit_at = λ desk row progress code entry answer. unit-asks_at desk row progress code answer entry;
}
