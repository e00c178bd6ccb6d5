use Rattle.std.proofs.Common.{ap, sym, ◌∙◌}
use Rattle.std.specs.Option.{is_some, option_copied}
use Rattle.std.proofs.lemmas.Bool.{false≢true}
use Rattle.ckr_desk_plans.proofs.deferred.name_of.Goals as goal

pub unreachable-requires : goal.unreachable-requires
unreachable-requires c = false≢true (sym (ap (λ found. is_some (option_copied found)) c.in-None.is) ∙ c.requires)
