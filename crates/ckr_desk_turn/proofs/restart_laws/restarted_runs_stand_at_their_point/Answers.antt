use Rattle.ckr_rules.specs.declared.cases.Verdict.TheVariants.{Checkpoint, Step}
use Rattle.ckr_desk_turn.proofs.Restart.Checkpoints.{check-stands, entry-there}
use Rattle.ckr_desk_turn.proofs.Restart.Events.{on-judged}
use Rattle.ckr_desk_turn.proofs.Restart.Steps.{step-begun, step-stands}
use Rattle.ckr_desk_turn.proofs.restart_laws.restarted_runs_stand_at_their_point.Goals as goal

pub returns : goal.returns
returns c = record {
  begun = λ layout office row initiator code are its. step-begun layout office are row initiator code (on-judged layout office row initiator code Step its);
  step = λ layout office row initiator code leg point are its. step-stands layout office are row initiator code (on-judged layout office row initiator code Step its) leg point;
  entered = λ layout office row initiator code are its. entry-there layout office are row initiator code (on-judged layout office row initiator code Checkpoint its);
  checkpoint = λ layout office row initiator code leg entry are its led there. check-stands layout office are row initiator code (on-judged layout office row initiator code Checkpoint its) entry there leg led;
}
