use Rattle.std.proofs.Common.{◌≤◌, ◌+◌, ◌*◌, arith}
use Rattle.ckr_desk_turn.specs.Stints.{checkpoints_ahead, inputs_ahead, stint_turns, records_ahead, steps_ahead}
use Rattle.ckr_desk_turn.proofs.Stints.Beginnings.{turn-begins}
use Rattle.ckr_desk_turn.proofs.Stints.Inputs.{records-inputs}
use Rattle.ckr_desk_turn.proofs.Stints.Series.{on-led, turns-ahead}
use Rattle.ckr_desk_turn.proofs.stint_laws.stints_end_within_their_turns.Goals as goal

pub returns : goal.returns
returns c = record {
  turns = λ initiator turns desk row leg is each none on led.
      let most : stint_turns initiator turns desk ≤ records_ahead desk leg row + checkpoints_ahead desk leg row + 4 * steps_ahead desk leg row + 1 = turns-ahead initiator turns desk is each none row leg on led in
      let inputs : records_ahead desk leg row ≤ inputs_ahead desk leg row = records-inputs desk leg row in
      omega (arith, most, inputs);
  records = λ initiator turns desk row leg is each none on led. turns-ahead initiator turns desk is each none row leg on led;
  starts = λ desk one job is its tells. turn-begins desk is one its job tells;
  led = λ initiator desk row is on. on-led desk is initiator row on;
}
