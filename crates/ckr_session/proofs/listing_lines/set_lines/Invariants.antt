use Rattle.std.proofs.Common.{◌≡◌, ◌++◌, ◌-◌, take}
use Rattle.std.specs.List.{flat_map}
use Rattle.ckr_desk.specs.Model.Listing.{listed}
use Rattle.ckr_desk.specs.Soundness.{IsTrusted, state_of}
use Rattle.ckr_desk.specs.State.{layout_of}
use Rattle.ckr_report.specs.Listings.{set_text}
use Rattle.ckr_session.proofs.listing_lines.set_lines.Given as goal

abbrev pub invariant-loop-line : goal.invariant-loop-line
invariant-loop-line g l = IsTrusted g.D.Disk.told g.D.Disk.content g.D.Disk.may_leave l.desk
    → l.out ≡ l.fn.out ++ flat_map (set_text (layout_of l.desk)) (take l.place (listed (state_of g.D.Disk.content l.desk).desk))

abbrev pub decreases-loop-line : goal.decreases-loop-line
decreases-loop-line g l = 4_294_967_295 - l.place
