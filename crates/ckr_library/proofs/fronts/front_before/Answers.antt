use Rattle.std.proofs.Common.{arith}
use Rattle.ckr_library.specs.Fronts.{fresh}
use Rattle.ckr_library.proofs.FrontLists.{last-take}
use Rattle.ckr_library.proofs.fronts.front_before.Goals as goal

pub returns-else-place-eq0 : goal.returns-else-place-eq0
returns-else-place-eq0 c = last-take (fresh 0) c.args.fronts.now c.args.place c.requires _ (omega arith)
