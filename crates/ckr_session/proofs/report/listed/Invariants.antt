use Rattle.std.proofs.Common.{◌≡◌, ◌++◌, take}
use Rattle.std.specs.List.{flat_map}
use Rattle.ckr_report.specs.Listings.{record_text}
use Rattle.ckr_session.proofs.report.listed.Given as goal

abbrev pub invariant-loop-rec : goal.invariant-loop-rec
invariant-loop-rec l = l.out ≡ l.fn.out ++ flat_map record_text (take l.rec-index l.records)
