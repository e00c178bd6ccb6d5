use Rattle.std.proofs.Common.{◌≡◌, ◌∙◌, ap, subst, sym}
use Rattle.ckr_desk_store.proofs.Soundness.{opens_now}
use Rattle.ckr_desk_store.specs.OpenImages.{event_records}
use Rattle.ckr_desk_store.specs.State.{IsSound}
use Rattle.ckr_desk.specs.State.{DeskView, disk_of, layout_of}
use Rattle.ckr_desk.proofs.desk.Desk.close.Goals as goal

pub returns-clause-events : goal.returns-clause-events
returns-clause-events g c is_open image =
    let d = g.D.Disk in
    let desk = c.args.self in
    subst (λ disk. d.may_leave disk image → event_records (layout_of desk) image ≡ event_records (layout_of desk) (d.content disk)) (sym (c.into_disk.ensures ∙ ap (λ (w : DeskView _). disk_of w) c.self.view_is))
    (λ may. (opens_now d.told d.content d.may_leave d.moment d.left_since d.size desk.store
    (subst (λ (w : DeskView _). IsSound d.content d.may_leave d.size w.store) c.self.view_is c.self.invariant.store) is_open image may).list)
