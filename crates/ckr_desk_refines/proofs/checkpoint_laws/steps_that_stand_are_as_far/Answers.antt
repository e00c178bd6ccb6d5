use Rattle.ckr_desk_refines.proofs.Checkpoints.Progress.{as-far}
use Rattle.ckr_desk_refines.proofs.Checkpoints.StateForm.{state-form}
use Rattle.ckr_desk_refines.proofs.checkpoint_laws.steps_that_stand_are_as_far.Goals as goal

pub returns : goal.returns
returns c = record {
  form = state-form;
  far = λ desk image on step going is stands none. as-far desk is image on step going stands none;
}
