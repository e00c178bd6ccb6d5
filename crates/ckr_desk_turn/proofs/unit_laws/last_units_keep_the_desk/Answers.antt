use Rattle.ckr_desk_turn.proofs.Turns.Units.{work-closed, work-full}
use Rattle.ckr_desk_turn.proofs.unit_laws.last_units_keep_the_desk.Goals as goal

pub returns : goal.returns
returns c = record {
  returning = λ answer desk on going rc is known opened fit returned. work-closed answer desk is on going known rc opened fit returned;
  spilling = λ answer desk on going is known opened full. work-full answer desk is on going known opened full;
}
