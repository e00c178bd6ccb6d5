use Rattle.std.proofs.Common.{◌≡◌, Some, ap, refl, subst, sym, ◌∙◌, IsSome}
use Rattle.std.specs.Option.{is_some}
use Rattle.ckr_points.specs.Follows.{own_step}
use Rattle.ckr_points.specs.Rows.{TablesModel, run_of}
use Rattle.ckr_desk_turn.specs.Deferred.{queued_plan}
use Rattle.ckr_desk_memory.specs.Invariant.{IsPlacedRow}
use Rattle.ckr_desk_memory.specs.Plans.{IsAnyCode}
use Rattle.ckr_desk_memory.specs.View.{JobsView}
use Rattle.ckr_desk_memory.proofs.FoundRuns.{known-is}
use Rattle.ckr_desk_memory.proofs.Plans.{chosen-coded, chosen-queued, code-kept, coded-there, number-known}
use Rattle.ckr_desk_memory.proofs.RunningSteps.Served.{counted-all}
use Rattle.ckr_desk_memory.proofs.Starts.Steps.{row-among}
use Rattle.ckr_desk_memory.proofs.jobs.Jobs.chosen.Goals as goal
use Rattle.ckr_desk_memory.proofs.jobs.Jobs.chosen.Goals.{In-Some-code}

placed-so : (c : In-Some-code) → IsPlacedRow c.in-Some.ensures.some.row
placed-so c =
    let known = c.in-Some.ensures.some in
    row-among IsPlacedRow c.args.self.now.tables.desk c.args.job known.row c.requires.jobs.placed known.found

coded-so : (c : In-Some-code) → c.in-Some.ensures.some.row.code ≡ Some c.in-Some-code.code
coded-so c =
    let known = c.in-Some.ensures.some in
    code-kept c.args.self.now.tables.desk c.args.job c.in-Some.table.now known known.row known.found ∙ c.in-Some-code.is

pub coded-requires-clause-code : goal.coded-requires-clause-code
coded-requires-clause-code c = subst IsAnyCode (coded-so c) (placed-so c).coded

pub coded-requires-clause-there : goal.coded-requires-clause-there
coded-requires-clause-there c =
    let known = c.in-Some.ensures.some in
    subst IsSome (known-is c.args.self.now.tables.desk c.args.job c.in-Some.table.now known own_step refl) (coded-there known.row (placed-so c) (ap is_some (coded-so c)))

pub coded-requires-clause-counted : goal.coded-requires-clause-counted
coded-requires-clause-counted c = counted-all c.args.layout.now c.args.self.now.running c.requires.jobs.running

pub returns-in-Some-code-clause-plan : goal.returns-in-Some-code-clause-plan
returns-in-Some-code-clause-plan c = λ row at.
    c.coded.ensures.plan
    ∙ chosen-coded c.args.layout.now c.args.self.now c.args.initiator c.args.job c.in-Some.table.now c.in-Some.ensures.some row at c.in-Some-code.code (sym c.in-Some-code.is)

pub returns-in-None-clause-plan : goal.returns-in-None-clause-plan
returns-in-None-clause-plan c = λ row at.
    let layout = c.args.layout.now in
    let desk = ap (λ (v : JobsView). v.tables.desk) c.self.view_is in
    let numbered = number-known c.args.self.now.tables.desk c.args.job c.in-Some.table.now c.in-Some.ensures.some row at in
    c.queued_plan.ensures.plan row (ap (λ (tables : TablesModel). run_of tables c.args.job) desk ∙ at) numbered
    ∙ ap (λ (tables : TablesModel). queued_plan layout tables c.args.initiator row row.deck.restart) desk
    ∙ chosen-queued layout c.args.self.now c.args.initiator c.args.job c.in-Some.table.now c.in-Some.ensures.some row at (sym c.in-None.is)
