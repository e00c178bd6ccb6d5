use Rattle.ckr_desk_refines.proofs.Listing.Reaches.{free-left, reached-held}
use Rattle.ckr_desk_refines.proofs.holder_laws.runs_reach_names_that_they_hold.Goals as goal

pub returns : goal.returns
returns c = record {
  reached = reached-held;
  free = free-left;
}
