use Rattle.std.proofs.Common.{arith, ap, length}
use Rattle.ckr_points_runs.proofs.start.take_marks.Goals as goal

pub put_marks-requires : goal.put_marks-requires
put_marks-requires c = omega (arith, ap length c.as_slice-2.ensures, c.mark_job.ensures.few, ap (λ l. l.room) c.replace-marks.ensures.value, c.requires.marks)
