use Rattle.ckr_desk_turn.proofs.Turns.Outcomes.{continued-led, ended-leaves, ended-library, selected-led, turns-led}
use Rattle.ckr_desk_turn.proofs.turn_laws.restarted_jobs_leave_what_they_leave_once.Goals as goal

pub returns : goal.returns
returns c = record {
  selected = λ desk one row initiator is its told at. selected-led desk one row initiator is its told at;
  continued = λ desk one row initiator earlier step id is its above told at. continued-led desk one row initiator earlier step id is its above told at;
  led = λ turns desk number leg is each led. turns-led number leg turns desk is each led;
  library = λ turns last desk row leg ending name is each its led at told among. ended-library turns last desk row leg ending name is each its led at told among;
  leaves = λ turns last desk row leg ending name is each its led at told among free. ended-leaves turns last desk row leg ending name is each its led at told among free;
}
