use Rattle.std.proofs.Common.{sym, ap, ◌∙◌}
use Rattle.std.specs.Option.{is_some}
use Rattle.ckr_base.proofs.Options.{is_some-copied, option_map-none}
use Rattle.ckr_library.specs.Catalog.{Holding}
use Rattle.ckr_points_library.proofs.SetChanges.{without_entry-absent}
use Rattle.ckr_points_runs.proofs.put_back.delete.Goals as goal

pub returns-else-is_some : goal.returns-else-is_some
returns-else-is_some c =
    sym (without_entry-absent c.args.name.now c.args.library.now.sets
    (option_map-none (λ (h : Holding). h.set) _ (ap is_some (sym c.get.ensures) ∙ is_some-copied c.get.result ∙ sym c.is_some.ensures ∙ c.if-is_some.false)))
