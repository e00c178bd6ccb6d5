use Rattle.ckr_desk_turn.proofs.Turns.Units.{work-abended, work-went}
use Rattle.ckr_desk_turn.proofs.step_laws.next_units_keep_the_desk.Goals as goal

pub returns : goal.returns
returns c = record {
  taking = λ answer desk on going is known opened below fit none. work-went answer desk is on going known opened below fit none;
  ending = λ answer desk on going code is known fit ends. work-abended answer desk is on going known code fit ends;
}
