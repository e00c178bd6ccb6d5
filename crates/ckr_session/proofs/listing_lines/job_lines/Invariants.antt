use Rattle.std.proofs.Common.{◌≡◌, ◌++◌, take}
use Rattle.std.specs.List.{flat_map}
use Rattle.ckr_report.specs.Listings.{job_line}
use Rattle.ckr_session.proofs.listing_lines.job_lines.Given as goal

abbrev pub invariant-loop-run : goal.invariant-loop-run
invariant-loop-run l = l.out ≡ l.fn.out ++ flat_map job_line (take l.run-index l.runs)
