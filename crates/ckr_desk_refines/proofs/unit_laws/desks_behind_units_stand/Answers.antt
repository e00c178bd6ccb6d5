use Rattle.ckr_desk_refines.proofs.Units.Desk.{committed-so, went-stands}
use Rattle.ckr_desk_refines.proofs.Units.Codes.{coded-behind, coded-but, coded-within}
use Rattle.ckr_desk_refines.proofs.Units.Waits.{coded-waits}
use Rattle.ckr_desk_refines.proofs.unit_laws.desks_behind_units_stand.Goals as goal

pub returns-clause-went : goal.returns-clause-went
returns-clause-went c = λ layout old before after desk turn run on moved taken answer unit. went-stands layout old before after desk turn run on moved taken unit answer

pub returns-clause-ended : goal.returns-clause-ended
returns-clause-ended c =
    λ layout old before after desk turn run on moved code answer unit put back event is. (
      coded-but layout old before after desk turn run on moved code unit put back,
      coded-within layout old before after desk turn run on moved code unit,
      coded-behind layout old before after desk turn run on moved code unit answer event is,
    )

pub returns-clause-waits : goal.returns-clause-waits
returns-clause-waits c = coded-waits

pub returns-clause-images : goal.returns-clause-images
returns-clause-images c = committed-so
