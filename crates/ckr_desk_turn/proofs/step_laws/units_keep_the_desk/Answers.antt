use Rattle.ckr_desk_turn.proofs.Units.Invariant.{abended-keeps, went-keeps}
use Rattle.ckr_desk_turn.proofs.step_laws.units_keep_the_desk.Goals as goal

pub returns : goal.returns
returns c = record {
  went_on = λ desk row progress answer is going. went-keeps answer desk is row progress going;
  abended_so = λ desk row progress code answer is at going. abended-keeps answer desk is row progress code at going;
}
