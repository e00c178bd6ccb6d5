use Rattle.std.proofs.Common.{rules}
use Rattle.std.proofs.lemmas.List.Sorted.{IsPartitionPoint-from_clause}
use Rattle.ckr_library.specs.Fronts.{is_packed_on}
use Rattle.ckr_library.proofs.SearchPlaces.{lead-point}
use Rattle.ckr_library.proofs.fronts.first_parted.Goals as goal

pub returns-clause-place : goal.returns-clause-place
returns-clause-place c =
    lead-point (is_packed_on c.args.volume) c.args.fronts.now c.partition_point.result c.partition_point.ensures.bound (
    IsPartitionPoint-from_clause (is_packed_on c.args.volume) c.args.fronts.now c.partition_point.result c.partition_point.ensures.partitioned
    c.requires (λ a r f' called. search rules))
