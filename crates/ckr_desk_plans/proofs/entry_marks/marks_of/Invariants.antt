use Rattle.std.proofs.Common.{◌≡◌, take}
use Rattle.std.specs.List.{AllByRecursion}
use Rattle.ckr_desk_plans.specs.EntryTypes.{IsTypedMark}
use Rattle.ckr_desk_plans.proofs.entry_marks.marks_of.Given as goal

abbrev pub invariant-loop-mark : goal.invariant-loop-mark
invariant-loop-mark l = record { same : l.marks.items ≡ take l.mark-index l.mark-items; typed : AllByRecursion IsTypedMark l.marks.items }
