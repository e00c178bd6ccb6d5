use Rattle.ckr_rules.specs.declared.cases.Verdict.TheVariants.{Denied}
use Rattle.ckr_desk_turn.proofs.Deferred.Turns.{denied-goes, denied-told, entry-so, first-rule, named-told, start-so, turn-judged}
use Rattle.ckr_desk_turn.proofs.deferred_laws.deferred_restarts_are_judged.Goals as goal

pub returns : goal.returns
returns c = record {
  turn = λ desk one row restart verdict answer is judged unforced. turn-judged desk is one row restart verdict judged unforced answer;
  denied = λ desk initiator row restart rule name is judged. denied-goes desk is initiator row restart rule name judged;
  first = λ desk initiator row restart rule is judged. first-rule desk is initiator row restart (Denied rule) judged;
  told = λ desk one row restart rule answer is judged unforced. denied-told desk is one row restart rule judged unforced answer;
  named = λ desk initiator row restart rule judged tells. named-told desk initiator row restart rule judged tells;
  step = λ desk initiator row restart is judged. start-so desk is initiator row restart judged;
  checkpoint = λ desk initiator row restart is judged. entry-so desk is initiator row restart judged;
}
