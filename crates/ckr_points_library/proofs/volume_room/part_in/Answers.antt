use Rattle.std.proofs.Common.{subst, sym}
use Rattle.ckr_points_library.specs.FreeSpace.{LiesFree}
use Rattle.ckr_points_library.proofs.FreeSpace.{lies_free}
use Rattle.ckr_library.specs.declared.sets.Part.{Part}
use Rattle.ckr_points_library.proofs.volume_room.part_in.Goals as goal

pub returns-in-Ok-clause-free : goal.returns-in-Ok-clause-free
returns-in-Ok-clause-free c =
    subst (λ (part : Part). LiesFree c.args.layout.now c.args.library.now.sets c.args.dd.now part) (sym c.part_on.ensures)
    (lies_free c.args.layout.now c.args.library.now c.args.dd.now c.args.volume c.space_of-space.result c.in-Ok.extents.items c.space_of-space.ensures c.in-Ok.ensures.allotted)
