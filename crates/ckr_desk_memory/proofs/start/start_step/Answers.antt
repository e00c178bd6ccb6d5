use Rattle.std.proofs.Common.{List, ◌∷◌, Option, arith, ap, map, subst, sym, ◌∙◌}
use Rattle.std.specs.Option.{IfSome}
use Rattle.ckr_base.proofs.Options.{some-not-none, some-one}
use Rattle.ckr_desk_plans.specs.declared.running_step.RunningStep.{RunningStep}
use Rattle.ckr_desk_memory.proofs.FoundRuns.{known-of}
use Rattle.ckr_desk_memory.proofs.Starts.Steps.{few-dds, none-starts}
use Rattle.ckr_desk_memory.proofs.Starts.NewStep.{has-new}
use Rattle.ckr_points_tables.proofs.RunJobs.{fits-at}
use Rattle.ckr_points_tables.specs.RunJobs.{effective, own_of}
use Rattle.ckr_desk_memory.specs.Parts.{step_seen}
use Rattle.ckr_desk_memory.specs.Preparation.{IsEmpty}
use Rattle.ckr_desk_memory.specs.Start.{HasNew}
use Rattle.ckr_desk_memory.proofs.start.start_step.Goals as goal

pub returns-in_default-step_at : goal.returns-in_default-step_at
returns-in_default-step_at c = λ on row owned given at there.
    let known = known-of c.args.tables.now.desk c.runs-lines.ensures.rows c.args.job c.in-Some.table.now c.in-Some.ensures in
    none-starts c.args.tables.now.desk c.args.job c.in-Some.table.now known c.args.step c.in_default-step_at.ensures.step row owned at there

pub take_sets-requires-clause-owner : goal.take_sets-requires-clause-owner
take_sets-requires-clause-owner c =
    let known = known-of c.args.tables.now.desk c.runs-lines.ensures.rows c.args.job c.in-Some.table.now c.in-Some.ensures in
    (fits-at (effective c.args.job c.in-Some.table.now.job) known.fits c.args.step (own_of c.in-Some-step_at.own) (sym c.in-Some-step_at.ensures.step)).owner

pub take_sets-requires-clause-root : goal.take_sets-requires-clause-root
take_sets-requires-clause-root c =
    omega (arith, c.root.ensures, (known-of c.args.tables.now.desk c.runs-lines.ensures.rows c.args.job c.in-Some.table.now c.in-Some.ensures).fits.root)

pub take_sets-requires-clause-room : goal.take_sets-requires-clause-room
take_sets-requires-clause-room c =
    let known = known-of c.args.tables.now.desk c.runs-lines.ensures.rows c.args.job c.in-Some.table.now c.in-Some.ensures in
    let few = few-dds c.args.tables.now.desk c.args.job c.in-Some.table.now known c.args.step c.in-Some-step_at.own c.in-Some-step_at.ensures.step in
    let empty = subst (λ (begun : Option RunningStep). IfSome begun (IsEmpty c.args.job)) (sym c.take.ensures.value ∙ c.in-Some-take.is) c.requires.empty in
    omega (arith, few, empty.room)

pub returns-in_default-take : goal.returns-in_default-take
returns-in_default-take c = λ on row owned given at there. absurd (some-not-none on (sym given ∙ sym c.take.ensures.value ∙ c.in_default-take.is))

pub returns : goal.returns
returns c = λ on row owned given at there.
    let known = known-of c.args.tables.now.desk c.runs-lines.ensures.rows c.args.job c.in-Some.table.now c.in-Some.ensures in
    let its = c.in-Some-take.on in
    let taken = sym c.take.ensures.value ∙ c.in-Some-take.is in
    let empty = subst (λ (begun : Option RunningStep). IfSome begun (IsEmpty c.args.job)) taken c.requires.empty in
    subst (λ (on : RunningStep). HasNew c.args.job row.job.root owned on.step c.args.tables.now.desk.sets (map step_seen c.args.running.now.items) (map step_seen c.put_first.new.running.items))
    (some-one its on c.args.begun.now taken given)
    (has-new c.args.tables.now.desk c.args.job c.args.step c.in-Some.table.now known c.in-Some-step_at.own c.in-Some-step_at.ensures.step its
    c.root.result c.take_sets.new.sets c.library.result.now.sets c.args.running.now.items c.put_first.new.running.items
    c.root.ensures empty c.library.ensures.sets c.take_sets.ensures
    (c.put_first.ensures.items ∙ ap (λ (others : List RunningStep). record its { sets = c.take_sets.new.sets } ∷ others) c.leave.ensures.items)
    row owned at there)
