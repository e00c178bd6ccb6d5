use Rattle.std.proofs.Common.{rules}
use Rattle.std.proofs.lemmas.List.Sorted.{IsPartitionPoint-from_clause}
use Rattle.ckr_library.specs.Spread.{is_before}
use Rattle.ckr_library.proofs.Filings.{parted_before}
use Rattle.ckr_library.proofs.SearchPlaces.{lead-point}
use Rattle.ckr_library.proofs.spread.place_of.Goals as goal

pub returns-clause-place : goal.returns-clause-place
returns-clause-place c =
    lead-point (λ other. is_before other c.args.span.now) c.args.spans.now c.partition_point.result c.partition_point.ensures.bound (
    IsPartitionPoint-from_clause (λ other. is_before other c.args.span.now) c.args.spans.now c.partition_point.result c.partition_point.ensures.partitioned
    (parted_before c.args.spans.now c.requires c.args.span.now) (λ a r f' called. search rules))
