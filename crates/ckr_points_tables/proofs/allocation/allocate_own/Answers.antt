use Rattle.std.proofs.Common.{◌≡◌, List, [], length, sym, ap, ◌∙◌, subst, arith}
use Rattle.std.specs.List.{AllByRecursion}
use Rattle.std.specs.Result.{IsOkAnd}
use Rattle.ckr_points_library.specs.Allocation.{allocated_all}
use Rattle.ckr_points_library.specs.Holdings.{holding_ways, standing}
use Rattle.ckr_points_library.specs.AllocationSteps.{IsAllocated}
use Rattle.ckr_events.specs.declared.event.Made.{Made}
use Rattle.ckr_library.specs.Catalog.{Holding}
use Rattle.ckr_library.specs.NameMaps.{EachEntry}
use Rattle.ckr_meaning.specs.EffectiveJob.{placed_in, stamp_of}
use Rattle.ckr_volumes.specs.Layouts.{StandsIn}
use Rattle.ckr_points_runs.specs.RunJobs.{own_of}
use Rattle.ckr_points_tables.specs.Allocation.{IsFromOne}
use Rattle.ckr_points_tables.proofs.Allocations.Parts.{items-small}
use Rattle.ckr_points_tables.proofs.allocation.allocate_own.Goals as goal

pub allocate_step-requires-clause-stand : goal.allocate_step-requires-clause-stand
allocate_step-requires-clause-stand c = subst (EachEntry (λ (h : Holding). StandsIn c.args.layout.now h.set)) (sym c.in_ok-reserve-2.ensures.sets) c.requires.stand

pub copies_of-requires-clause-few : goal.copies_of-requires-clause-few
copies_of-requires-clause-few c =
    let own = own_of c.args.own.now in
    let sets = c.reserve-2.new.self.sets in
    let items = c.allocate_step.new.items.items in
    let none : c.reserve.new.self.items ≡ [] = c.in_ok-reserve.ensures.items ∙ c.new-items.ensures in
    let done = subst (λ (before : List Made). IsOkAnd (allocated_all c.args.layout.now (stamp_of own c.args.number) (placed_in holding_ways (standing sets c.args.passed.now) c.args.root own) sets) (IsAllocated c.args.layout.now sets before items)) none (c.in-Ok.ensures.ok []) in
    let small = items-small c.args.layout.now (stamp_of own c.args.number) holding_ways (standing sets c.args.passed.now) c.args.root own sets items c.requires.dds done in
    omega (arith, small.few, ap length c.as_slice.ensures, c.requires.few_dds)

pub copies_of-requires-clause-numbers : goal.copies_of-requires-clause-numbers
copies_of-requires-clause-numbers c =
    let own = own_of c.args.own.now in
    let sets = c.reserve-2.new.self.sets in
    let items = c.allocate_step.new.items.items in
    let none : c.reserve.new.self.items ≡ [] = c.in_ok-reserve.ensures.items ∙ c.new-items.ensures in
    let done = subst (λ (before : List Made). IsOkAnd (allocated_all c.args.layout.now (stamp_of own c.args.number) (placed_in holding_ways (standing sets c.args.passed.now) c.args.root own) sets) (IsAllocated c.args.layout.now sets before items)) none (c.in-Ok.ensures.ok []) in
    let small = items-small c.args.layout.now (stamp_of own c.args.number) holding_ways (standing sets c.args.passed.now) c.args.root own sets items c.requires.dds done in
    subst (AllByRecursion IsFromOne) (sym c.as_slice.ensures) small.numbers
