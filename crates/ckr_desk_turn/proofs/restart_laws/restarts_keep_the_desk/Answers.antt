use Rattle.ckr_rules.specs.declared.cases.Verdict.TheVariants.{Checkpoint, Step}
use Rattle.ckr_desk_turn.proofs.Restart.Desks.{check-goes_on, step-goes_on}
use Rattle.ckr_desk_turn.proofs.Restart.Events.{on-judged}
use Rattle.ckr_desk_turn.proofs.restart_laws.restarts_keep_the_desk.Goals as goal

pub returns : goal.returns
returns c = record {
  step = λ desk row initiator code is its. step-goes_on desk is row initiator code (on-judged desk.layout desk.office row initiator code Step its);
  checkpoint = λ desk row initiator code is its. check-goes_on desk is row initiator code (on-judged desk.layout desk.office row initiator code Checkpoint its);
}
