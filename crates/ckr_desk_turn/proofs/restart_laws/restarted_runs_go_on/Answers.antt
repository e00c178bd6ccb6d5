use Rattle.std.proofs.Common.{ap, not, sym, Option, None}
use Rattle.std.proofs.lemmas.Bool.{false≢true}
use Rattle.std.specs.Option.{option_map_or}
use Rattle.ckr_rules.specs.declared.cases.Verdict.TheVariants.{Checkpoint, Step}
use Rattle.ckr_desk_turn.specs.Desk.{DeskStep, at_entry, progress_unless}
use Rattle.ckr_desk_turn.proofs.Checkpoints.Due.{checkpoint-only, finished-only}
use Rattle.ckr_desk_turn.proofs.Restart.Checkpoints.{check-going}
use Rattle.ckr_desk_turn.proofs.Restart.Events.{on-judged}
use Rattle.ckr_desk_turn.proofs.Restart.Points.{again-progress, any-without, find-without, starts-again}
use Rattle.ckr_desk_turn.proofs.restart_laws.restarted_runs_go_on.Goals as goal

pub returns : goal.returns
returns c = record {
  unmarked = λ desk job initiator code checkpoint. any-without job desk.failed (λ one. not one.asked);
  stopped = λ desk job initiator code. ap (λ (o : Option DeskStep). option_map_or (λ (step : DeskStep). progress_unless step.code step.progress) o None) (find-without job desk.running);
  starts = λ desk row initiator code next owned are its. starts-again desk are row initiator code (on-judged desk.layout desk.office row initiator code Step its) next owned;
  going = λ layout office row initiator code entry are its there. check-going layout office are row initiator code (on-judged layout office row initiator code Checkpoint its) entry there;
  progress = λ desk row initiator code entry at there. again-progress desk row initiator code entry at there;
  served = λ start job point e. false≢true (sym (checkpoint-only start (at_entry job point).progress e).undone);
  unfinished = λ start job point rc e. false≢true (finished-only start (at_entry job point).progress rc e).closed_so;
}
