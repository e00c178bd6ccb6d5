use Rattle.std.proofs.Common.{ℕ, rules, ◌∙◌, slice_get}
use Rattle.std.proofs.lemmas.List.Sorted.{IsPartitionPoint-from_clause}
use Rattle.ckr_library.specs.Shelves.{is_above_at}
use Rattle.ckr_library.proofs.ItemOrders.{picked-lead, picked-parted}
use Rattle.ckr_library.proofs.SearchPlaces.{lead-point}
use Rattle.ckr_library.proofs.shelf.place_of.Goals as goal

pub returns-clause-place : goal.returns-clause-place
returns-clause-place c =
    let lower = λ (item : ℕ). is_above_at c.args.name.now (slice_get c.args.items.now item) in
    lead-point lower c.args.order.now c.partition_point.result c.partition_point.ensures.bound (
    IsPartitionPoint-from_clause lower c.args.order.now c.partition_point.result c.partition_point.ensures.partitioned
    (picked-parted c.args.name.now c.args.order.now c.args.items.now c.requires.inside c.requires.rise) (λ a r f' called. search rules))
    ∙ picked-lead c.args.name.now c.args.order.now c.args.items.now c.requires.inside
