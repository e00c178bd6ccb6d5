use Rattle.std.proofs.Common.{refl, true, false}
use Rattle.ckr_rules.specs.declared.cases.Verdict.TheVariants.{Checkpoint, Step}
use Rattle.ckr_desk_turn.proofs.Restart.Events.{off-judged, on-judged, restart-comes}
use Rattle.ckr_desk_turn.proofs.restart_laws.events_of_restarts_may_come.Goals as goal

pub returns : goal.returns
returns c = record {
  step = λ layout office row initiator code are its.
      restart-comes layout office are row initiator code Step (on-judged layout office row initiator code Step its) false refl;
  checkpoint = λ layout office row initiator code are its.
      restart-comes layout office are row initiator code Checkpoint (on-judged layout office row initiator code Checkpoint its) true refl;
  step_off = λ layout office row initiator code are its free.
      restart-comes layout office are row initiator code Step (off-judged layout office row initiator code Step its free) false refl;
  checkpoint_off = λ layout office row initiator code are its free.
      restart-comes layout office are row initiator code Checkpoint (off-judged layout office row initiator code Checkpoint its free) true refl;
}
