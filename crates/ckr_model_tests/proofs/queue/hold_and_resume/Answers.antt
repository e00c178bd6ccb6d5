use Rattle.std.proofs.Common.{◌≡◌, ◌∙◌, ℕ, List, ap, sym, subst, refl, Some, IsTrue, is_some}
use Rattle.ckr_queue.specs.declared.entry.QueueEntry.{QueueEntry}
use Rattle.ckr_queue.specs.declared.entry.QueueState.{QueueState}
use Rattle.ckr_queue.specs.declared.entry.QueueState.TheVariants.{Selected, Held}
use Rattle.ckr_queue.specs.Queue.{has_names, passes, state_of, with_state}
use Rattle.ckr_queue.proofs.Select.{state_of-with_state}
use Rattle.ckr_model_tests.proofs.queue.hold_and_resume.Goals as goal

state-after : (number : ℕ) (old new : QueueState) (before after : List QueueEntry) → state_of number before ≡ Some old → after ≡ with_state number new before → state_of number after ≡ Some new
state-after number old new before after was is = ap (state_of number) is ∙ state_of-with_state number new before (ap is_some was)

pub resume-requires : goal.resume-requires
resume-requires c = subst (λ state. IsTrue (passes has_names state)) (sym (state-after c.args.number Selected Held _ _ c.requires c.hold.ensures)) refl

pub returns : goal.returns
returns c = state-after c.args.number Held Selected _ _ (state-after c.args.number Selected Held _ _ c.requires c.hold.ensures) c.resume.ensures
