use Rattle.std.proofs.Common.{ap, not, Option, None}
use Rattle.std.specs.Option.{option_map_or}
use Rattle.ckr_desk_turn.specs.Desk.{DeskStep, progress_unless}
use Rattle.ckr_desk_turn.proofs.Restart.Points.{any-without, find-without}
use Rattle.ckr_desk_turn.proofs.restart_laws.held_runs_stop.Goals as goal

pub returns : goal.returns
returns c = record {
  stopped = λ desk job writes code lengths. ap (λ (o : Option DeskStep). option_map_or (λ (step : DeskStep). progress_unless step.code step.progress) o None) (find-without job desk.running);
  unmarked = λ desk job writes code lengths. any-without job desk.failed (λ one. not one.asked);
}
