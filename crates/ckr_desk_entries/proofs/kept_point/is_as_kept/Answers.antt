use Rattle.std.proofs.Common.{◌∙◌, ap, sym}
use Rattle.std.specs.Option.{option_copied}
use Rattle.ckr_entry.specs.Parts.{entry_of}
use Rattle.ckr_points.specs.Tables.{kept_entry}
use Rattle.ckr_points_tables.specs.Restart.{point_written}
use Rattle.ckr_desk_entries.proofs.KeptPoints.{unwritten-apart}
use Rattle.ckr_desk_entries.specs.KeptPoint.{is_as_kept}
use Rattle.ckr_desk_entries.proofs.kept_point.is_as_kept.Goals as goal

pub returns-in-None : goal.returns-in-None
returns-in-None c =
    unwritten-apart c.args.entry.now.kept.now (entry_of c.args.point.now) c.text-job.ensures.grammar
    ∙ sym (ap (λ w. is_as_kept (kept_entry c.args.entry.now.kept.now (point_written (option_copied w))) (entry_of c.args.point.now)) c.in-None.is)
