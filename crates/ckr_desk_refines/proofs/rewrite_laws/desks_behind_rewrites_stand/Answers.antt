use Rattle.ckr_desk_refines.proofs.Rewrites.Desk.{stands-then}
use Rattle.ckr_desk_refines.proofs.rewrite_laws.desks_behind_rewrites_stand.Goals as goal

pub returns : goal.returns
returns c = record { stand = stands-then }
