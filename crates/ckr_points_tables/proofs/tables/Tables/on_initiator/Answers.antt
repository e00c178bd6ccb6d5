use Rattle.std.proofs.Common.{ap, sym, ◌∙◌, refl}
use Rattle.ckr_points_tables.specs.View.{run_on}
use Rattle.ckr_points_tables.proofs.Runs.{index-found, index-none}
use Rattle.ckr_points_tables.proofs.tables.Tables.on_initiator.Goals as goal

pub returns-then-number-eq0 : goal.returns-then-number-eq0
returns-then-number-eq0 c =
    sym (index-none c.self.inside.lines.items c.self.inside.tables.items c.self.inside.index c.self.invariant.kept.indexed c.args.initiator c.if-number-eq0.true)
    ∙ ap (λ v. run_on c.args.initiator v.desk) c.self.view_is

pub returns-else-number-eq0 : goal.returns-else-number-eq0
returns-else-number-eq0 c =
    sym (index-found c.self.inside.lines.items c.self.inside.tables.items c.self.inside.index c.self.invariant.kept.runs c.self.invariant.kept.indexed c.args.initiator _ refl c.if-number-eq0.false)
    ∙ ap (λ v. run_on c.args.initiator v.desk) c.self.view_is
