use Rattle.ckr_service.proofs.Calls.Completeness.{format-completes}
use Rattle.ckr_service.proofs.Calls.Ends.{has_formatted}
use Rattle.ckr_service.proofs.top.format.Goals as goal

pub returns : goal.returns
returns g c =
    let d = g.D.Disk in
    let e = c.format_disk-outcome.ensures in
    let formatted = has_formatted d.told d.content d.may_leave d.size c.format_disk-outcome.new.disk c.format_disk-outcome.result _ _ _ _ _ _ _ _ _ _ _ _ _ _ c.formatting_status.ensures e.ends e.cause in
    record { formatted = formatted; carries_out = format-completes _ _ _ _ _ _ _ _ _ _ _ _ formatted; size = e.size }
