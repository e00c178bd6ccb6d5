use Rattle.ckr_desk_refines.proofs.Checkpoints.Turns.{committed-before, committed-behind, entries-before, entries-behind}
use Rattle.ckr_desk_refines.proofs.checkpoint_laws.entries_are_committed_with_their_event.Goals as goal

pub returns : goal.returns
returns c = record {
  before = λ layout jobs image desk turn run count on to event told from stopped had behind. committed-before layout jobs image desk turn run on to event told from stopped count had behind;
  entries = λ layout jobs image desk turn run count on to event told from stopped within had behind. entries-before layout jobs image desk turn run on to event told from stopped count within had behind;
  kept = λ layout jobs before written desk turn run count on to event told behind image progress known fits there had. entries-behind layout jobs before desk turn run on to event told written image count behind progress known fits there had;
  behind = λ layout jobs before written desk turn run count on to event told behind image same. committed-behind layout jobs before desk turn run on to event told written image count behind same;
}
