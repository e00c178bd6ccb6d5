use Rattle.std.proofs.Common.{ap, arith, length}
use Rattle.ckr_report.proofs.Pieces.{length-trimmed}
use Rattle.ckr_report.proofs.listing.record_line.Goals as goal

pub shown_bytes-requires-clause-bytes : goal.shown_bytes-requires-clause-bytes
shown_bytes-requires-clause-bytes c = omega (arith, ap length c.trimmed.ensures, length-trimmed c.bytes.result.now, ap length c.bytes.ensures.value, c.bytes.ensures.fits)
