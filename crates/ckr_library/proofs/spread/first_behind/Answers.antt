use Rattle.std.proofs.Common.{rules}
use Rattle.std.proofs.lemmas.List.Sorted.{IsPartitionPoint-from_clause}
use Rattle.ckr_library.specs.Fronts.{begins_before}
use Rattle.ckr_library.proofs.Filings.{parted_begins}
use Rattle.ckr_library.proofs.SearchPlaces.{lead-point}
use Rattle.ckr_library.proofs.spread.first_behind.Goals as goal

pub returns-clause-place : goal.returns-clause-place
returns-clause-place c =
    lead-point (begins_before c.args.volume c.args.end) c.args.spans.now c.partition_point.result c.partition_point.ensures.bound (
    IsPartitionPoint-from_clause (begins_before c.args.volume c.args.end) c.args.spans.now c.partition_point.result c.partition_point.ensures.partitioned
    (parted_begins c.args.volume c.args.end c.args.spans.now c.requires) (λ a r f' called. search rules))
