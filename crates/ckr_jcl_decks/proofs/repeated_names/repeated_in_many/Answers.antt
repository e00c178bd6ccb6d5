use Rattle.std.proofs.Common.{refl}
use Rattle.ckr_jcl_decks.proofs.MetNames.{none_met}
use Rattle.ckr_jcl_decks.proofs.repeated_names.repeated_in_many.Goals as goal

pub loop-step-init : goal.loop-step-init
loop-step-init c = record {
  names = λ name. none_met c.new-names.result name c.new-names.ensures.empty;
  rest = refl;
}
