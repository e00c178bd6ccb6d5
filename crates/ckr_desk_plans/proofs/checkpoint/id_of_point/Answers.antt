use Rattle.std.proofs.Common.{[], ap, sym, ◌∙◌, unwrap_or}
use Rattle.std.proofs.lemmas.Bool.{false≢true}
use Rattle.ckr_base.specs.Grammar.{is_check_id}
use Rattle.ckr_desk_plans.proofs.checkpoint.id_of_point.Goals as goal

pub unreachable-requires : goal.unreachable-requires
unreachable-requires c = false≢true (sym (ap (λ id. is_check_id (unwrap_or id [])) c.in-None.is) ∙ c.requires)
