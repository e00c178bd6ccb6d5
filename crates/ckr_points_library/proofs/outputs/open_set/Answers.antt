use Rattle.std.proofs.Common.{ap, sym, ◌∙◌}
use Rattle.ckr_library.specs.Catalog.{with_length, with_stamp}
use Rattle.ckr_library.specs.NameMaps.{with_changed}
use Rattle.ckr_meaning.specs.Allotments.{opened_by}
use Rattle.ckr_points_library.specs.Holdings.{holding_ways}
use Rattle.ckr_points_library.proofs.SetChanges.{still_there, with_changed-twice}
use Rattle.ckr_points_library.proofs.outputs.open_set.Goals as goal

pub set_stamp-requires : goal.set_stamp-requires
set_stamp-requires c =
    still_there c.args.name.now (with_length 0) c.set_length.new.self c.args.library.now.sets c.set_length.ensures.sets c.requires

pub returns-in-Old-clause-sets : goal.returns-in-Old-clause-sets
returns-in-Old-clause-sets c =
    c.set_stamp.ensures.sets
    ∙ ap (with_changed c.args.name.now (with_stamp c.args.stamp)) c.set_length.ensures.sets
    ∙ with_changed-twice c.args.name.now (with_length 0) (with_stamp c.args.stamp) c.args.library.now.sets
    ∙ ap (λ status. with_changed c.args.name.now (opened_by holding_ways c.args.stamp status) c.args.library.now.sets) (sym c.in-Old.is)
