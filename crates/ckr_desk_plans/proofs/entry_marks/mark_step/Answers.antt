use Rattle.std.proofs.Common.{◌-◌, ap, sym, ◌∙◌, arith}
use Rattle.std.specs.List.{filter_map}
use Rattle.ckr_meaning.specs.EffectiveJob.{is_among, name_of}
use Rattle.ckr_points_tables.specs.RunJobs.{own_of}
use Rattle.ckr_points_tables.proofs.OwnNames.{one-among}
use Rattle.ckr_desk_plans.proofs.entry_marks.mark_step.Goals as goal

pub mark_dd-requires-clause-known : goal.mark_dd-requires-clause-known
mark_dd-requires-clause-known c = λ known name among.
    let f = name_of c.args.root (own_of c.args.own.now) in
    c.requires.known known name
    (ap (λ all. is_among (filter_map f all) name) (sym c.as_slice-dds.ensures) ∙ one-among f c.as_slice-dds.result.now (c.loop-left.left - 1) c.index-dds-left.result name (omega arith) c.index-dds-left.is among)
