use Rattle.ckr_desk_refines.proofs.Standing.Openings.{opened-stands}
use Rattle.ckr_desk_refines.proofs.standing_laws.opened_desks_stand.Goals as goal

pub returns : goal.returns
returns c = λ layout office jobs earlier image is are committed has tables failed running read. opened-stands layout office jobs earlier image is are committed has tables failed running read
