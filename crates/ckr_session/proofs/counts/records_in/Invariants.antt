use Rattle.std.proofs.Common.{◌≡◌, ◌-◌, take}
use Rattle.ckr_desk.specs.Model.Listing.{listed}
use Rattle.ckr_desk.specs.Soundness.{IsTrusted, state_of}
use Rattle.ckr_session.specs.Counts.{records_behind}
use Rattle.ckr_session.proofs.counts.records_in.Given as goal

abbrev pub invariant-loop-line : goal.invariant-loop-line
invariant-loop-line g l = IsTrusted g.D.Disk.told g.D.Disk.content g.D.Disk.may_leave l.desk
    → l.count ≡ records_behind 0 (take l.place (listed (state_of g.D.Disk.content l.desk).desk))

abbrev pub decreases-loop-line : goal.decreases-loop-line
decreases-loop-line g l = 4_294_967_295 - l.place
