use Rattle.std.proofs.Common.{◌≡◌, take}
use Rattle.ckr_entry.specs.Sets.{passed_one}
use Rattle.ckr_fields.specs.Fields.{each_fits}
use Rattle.ckr_desk_plans.proofs.entry.passed_of.Given as goal

abbrev pub invariant-loop-one : goal.invariant-loop-one
invariant-loop-one l = record { same : l.passed.items ≡ take l.one-index l.items; typed : each_fits passed_one.fits l.passed.items }
