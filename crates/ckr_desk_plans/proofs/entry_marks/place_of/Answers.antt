use Rattle.std.proofs.Common.{rules}
use Rattle.std.specs.Ordering.{is_gt}
use Rattle.std.specs.Cmp.Lexicographic.{nat_list_cmp_total}
use Rattle.std.proofs.lemmas.List.Sorted.{IsPartitionPoint-from_clause}
use Rattle.ckr_base.proofs.Bools.{T-from-true}
use Rattle.ckr_entry.specs.declared.point.Mark.{Mark}
use Rattle.ckr_library.specs.NameMaps.{name_cmp}
use Rattle.ckr_library.proofs.OrderedLists.{parted}
use Rattle.ckr_library.proofs.SearchPlaces.{lead-point}
use Rattle.ckr_points_tables.specs.MarkOrder.{entry_of}
use Rattle.ckr_desk_plans.proofs.entry_marks.place_of.Goals as goal

pub returns-clause-place : goal.returns-clause-place
returns-clause-place c =
    let lower = λ (mark : Mark). is_gt (name_cmp c.args.name.now mark.name) in
    lead-point lower c.args.items.now c.partition_point.result c.partition_point.ensures.bound (
    IsPartitionPoint-from_clause lower c.args.items.now c.partition_point.result c.partition_point.ensures.partitioned
    (parted name_cmp entry_of nat_list_cmp_total c.args.name.now c.args.items.now (T-from-true _ c.requires)) (λ a r f' called. search rules))
