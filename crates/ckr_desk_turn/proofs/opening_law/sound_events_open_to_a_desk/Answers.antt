use Rattle.ckr_desk_turn.proofs.Runs.Lists.{events-kept, events-opened, events-run}
use Rattle.ckr_desk_turn.proofs.opening_law.sound_events_open_to_a_desk.Goals as goal

pub returns : goal.returns
returns c = record { kept = events-kept; runs = events-run; opened_so = events-opened }
