use Rattle.ckr_jcl_decks.proofs.MetNames.{met_behind}
use Rattle.ckr_jcl_decks.proofs.met_names.is_new_permanent.Goals as goal

pub returns-clause-met : goal.returns-clause-met
returns-clause-met c = λ other. rw c.copied.ensures at (met_behind c.args.names.now c.insert.new.self c.copied.result c.in_ok-insert.ensures.updates other)
