use Rattle.ckr_desk_turn.proofs.Mounts.{taken-stays, unwanted-stays}
use Rattle.ckr_desk_turn.proofs.mount_laws.plans_with_their_volumes_stay.Goals as goal

pub returns : goal.returns
returns c = record {
  kept = λ layout tables plan. taken-stays layout tables plan;
  none = λ layout tables taking plan none. unwanted-stays layout tables taking plan none;
}
