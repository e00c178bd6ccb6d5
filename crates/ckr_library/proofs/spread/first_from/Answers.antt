use Rattle.std.proofs.Common.{rules}
use Rattle.std.proofs.lemmas.List.Sorted.{IsPartitionPoint-from_clause}
use Rattle.ckr_library.specs.Spread.{is_below}
use Rattle.ckr_library.proofs.Filings.{parted_below}
use Rattle.ckr_library.proofs.SearchPlaces.{lead-point}
use Rattle.ckr_library.proofs.spread.first_from.Goals as goal

pub returns-clause-place : goal.returns-clause-place
returns-clause-place c =
    lead-point (is_below c.args.volume) c.args.spans.now c.partition_point.result c.partition_point.ensures.bound (
    IsPartitionPoint-from_clause (is_below c.args.volume) c.args.spans.now c.partition_point.result c.partition_point.ensures.partitioned
    (parted_below c.args.volume c.args.spans.now c.requires) (λ a r f' called. search rules))
