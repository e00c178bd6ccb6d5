use Rattle.std.proofs.Common.{refl}
use Rattle.ckr_jcl_decks.proofs.MetNames.{none_met, no_dsn_met}
use Rattle.ckr_jcl_decks.proofs.repeated_names.repeated_of_many.Goals as goal

pub loop-dd-init : goal.loop-dd-init
loop-dd-init c = record {
  names = λ name. none_met c.new-names.result name c.new-names.ensures.empty;
  dsns = λ dsn. no_dsn_met c.new-permanent.result c.new-passing.result dsn c.new-permanent.ensures.empty c.new-passing.ensures.empty;
  rest = refl;
}
