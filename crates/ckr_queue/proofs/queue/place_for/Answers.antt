use Rattle.std.proofs.Common.{rules}
use Rattle.std.proofs.lemmas.List.Sorted.{IsPartitionPoint-from_clause}
use Rattle.ckr_library.proofs.SearchPlaces.{lead-point}
use Rattle.ckr_queue.specs.Queue.{is_below}
use Rattle.ckr_queue.proofs.Search.{parted}
use Rattle.ckr_queue.proofs.queue.place_for.Goals as goal

pub returns-clause-place : goal.returns-clause-place
returns-clause-place c =
    let lower = is_below c.args.number in
    lead-point lower c.args.entries.now c.partition_point.result c.partition_point.ensures.bound (
    IsPartitionPoint-from_clause lower c.args.entries.now c.partition_point.result c.partition_point.ensures.partitioned
    (parted c.args.number c.args.entries.now c.requires) (λ a r f' called. search rules))
