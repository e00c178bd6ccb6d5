use Rattle.std.proofs.Common.{◌∙◌, Ok, refl, subst, sym}
use Rattle.ckr_desk_turn.specs.Mounts.{gives_up}
use Rattle.ckr_desk.proofs.Attendances.{attended-fits, room-behind, trusted-room}
use Rattle.ckr_desk.specs.Attendance.{HasAttended, attended}
use Rattle.ckr_desk.specs.State.{DeskView}
use Rattle.ckr_desk.proofs.desk.Desk.turn.Goals as goal

pub returns-clause-reply : goal.returns-clause-reply
returns-clause-reply g c = λ trusted. (c.in_ok-reply.ensures.attended trusted).reply

pub returns-clause-comes : goal.returns-clause-comes
returns-clause-comes g c = λ trusted.
    let d = g.D.Disk in
    let now = c.args.self.now in
    let inside : DeskView g.row.D.Denot = record { store = c.self-2.inside.store; jobs = c.self-2.inside.jobs; machine_room = c.self-2.inside.machine_room } in
    let so =
    subst (λ (s : DeskView g.row.D.Denot). HasAttended d.told d.content d.may_leave d.moment d.left_since d.size c.args.turn now s (Ok c.in_ok-reply.reply)) (sym c.self-2.view_is) (c.in_ok-reply.ensures.attended trusted)
    in
    record {
      fits = attended-fits (attended d.content now) c.args.turn so.fits;
      after = so.after;
      events = so.events;
      trusted = trusted-room d.told d.content d.may_leave inside c.give_up_behind.new.self so.trusted;
      cause = so.cause;
    }

pub returns-clause-machine_room : goal.returns-clause-machine_room
returns-clause-machine_room g c = λ trusted.
    let d = g.D.Disk in
    let now = c.args.self.now in
    let so =
    subst (λ (s : DeskView g.row.D.Denot). HasAttended d.told d.content d.may_leave d.moment d.left_since d.size c.args.turn now s (Ok c.in_ok-reply.reply)) (sym c.self-2.view_is) (c.in_ok-reply.ensures.attended trusted)
    in
    c.give_up_behind.ensures ∙ room-behind (attended d.content now) c.args.turn c.in_ok-reply.reply so.reply c.self-2.inside.machine_room so.room (gives_up c.in_ok-reply.reply) refl

pub returns-clause-kept : goal.returns-clause-kept
returns-clause-kept g c = λ is_open trusted.
    let d = g.D.Disk in
    let now = c.args.self.now in
    let so =
    subst (λ (s : DeskView g.row.D.Denot). HasAttended d.told d.content d.may_leave d.moment d.left_since d.size c.args.turn now s (Ok c.in_ok-reply.reply)) (sym c.self-2.view_is) (c.in_ok-reply.ensures.attended trusted)
    in
    so.kept
