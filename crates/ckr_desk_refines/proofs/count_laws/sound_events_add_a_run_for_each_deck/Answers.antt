use Rattle.ckr_desk_refines.proofs.Counts.Bytes.{deck-long}
use Rattle.ckr_desk_refines.proofs.Counts.Runs.{sound-cards, sound-runs}
use Rattle.ckr_desk_refines.proofs.count_laws.sound_events_add_a_run_for_each_deck.Goals as goal

pub returns : goal.returns
returns c = record { runs = sound-runs; keep = sound-cards; cards = deck-long }
