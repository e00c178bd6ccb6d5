use Rattle.std.proofs.Common.{List, ℕ, Some, None, subst, ◌∙◌, ◌≡◌}
use Rattle.ckr_desk_format.specs.Formats.{Ends, FormatsBy, IsFormatted}
use Rattle.ckr_service.specs.Faultless.{bytes_left}
use Rattle.ckr_service.proofs.MadeDisks.{formats_so}
use Rattle.ckr_service.proofs.made_disk.format_made.Goals as goal

pub returns-in-Ok-clause-so : goal.returns-in-Ok-clause-so
returns-in-Ok-clause-so g c =
    let d = g.D.Disk in
    let e = c.format_disk.ensures in
    let old = c.args.disk.now in
    let new = c.format_disk.new.disk in
    formats_so d.told d.content d.may_leave d.moment d.left_since d.size d.faults old new c.format_disk.result (bytes_left c.format_disk.new.source) c.requires
    (subst (λ (cards : List ℕ). Ends c.format_disk.result (Some cards) (Some (bytes_left c.format_disk.new.source)) (d.size old) (IsFormatted d.told (d.content new) (d.may_leave new) (d.size new))
    (FormatsBy d.told d.content d.may_leave d.moment d.left_since (d.size old) old new) (new ≡ old) None None) (c.new.ensures ∙ c.in-Ok.ensures) e.ends)
    e.cause
