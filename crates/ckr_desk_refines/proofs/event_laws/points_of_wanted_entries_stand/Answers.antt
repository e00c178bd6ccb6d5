use Rattle.std.proofs.Common.{None}
use Rattle.ckr_desk_turn.proofs.Readiness.{desk-kept}
use Rattle.ckr_desk_refines.proofs.Standing.Continuation.{wanted-stands}
use Rattle.ckr_desk_refines.proofs.event_laws.points_of_wanted_entries_stand.Goals as goal

pub returns : goal.returns
returns c = λ desk image points run initiator earlier step id is within owners effects comes has read. wanted-stands desk.layout desk.office (desk-kept desk is) within owners effects run initiator earlier step id None comes image has points read
