use Rattle.std.proofs.Common.{◌≡◌, ◌≤◌, ◌∙◌, arith, ap, subst, sym, None, IfErr, IfOk, OnOk}
use Rattle.ckr_book.specs.Book.{room_of}
use Rattle.ckr_desk_refines.specs.Memory.Plans.{IsToldReply}
use Rattle.ckr_desk_store.specs.State.{IsSound, StoreView}
use Rattle.ckr_desk_turn.specs.declared.plan.Plan.TheVariants.{Take}
use Rattle.ckr_desk.proofs.Calls.FullBooks.{of-disk-numbers}
use Rattle.ckr_desk.proofs.Calls.Requests.{if-err, if-err-both}
use Rattle.ckr_desk.proofs.Calls.Stops.{now-left, same-left}
use Rattle.ckr_desk.proofs.Checkpoints.Causes.{attempt-cause, attempt-numbers, attempt-stays, attempt-takes}
use Rattle.ckr_desk.proofs.Checkpoints.Unfit.{turned-unfit}
use Rattle.ckr_desk.proofs.Turns.Plans.{of-disk-stays}
use Rattle.ckr_desk.proofs.Turns.Preparation.{as-before, planned-before, same-unchanged, turned-before, turned-not}
use Rattle.ckr_desk.proofs.Units.Preparation.{err-is}
use Rattle.ckr_desk.specs.Checkpoint.{IsAttempt}
use Rattle.ckr_desk.specs.NoChange.{StaysBy}
use Rattle.ckr_desk.specs.Requests.{MayFail, TellsNumbers}
use Rattle.ckr_desk.specs.Rewrite.{OpensSame}
use Rattle.ckr_desk.specs.Units.{HasTurned}
use Rattle.ckr_desk.proofs.desk.Desk.checkpoint.Goals as goal

pub returns-in_err-attempt : goal.returns-in_err-attempt
returns-in_err-attempt g c =
    let d = g.D.Disk in
    let now = c.args.self.now in
    let mid = c.attempt.new.self in
    let store = c.attempt.ensures.store in
    let before = as-before d.content d.may_leave now mid d.told (same-unchanged d.content d.may_leave now mid c.attempt.ensures.jobs store) in
    let sized = ap (λ (s : StoreView g.row.D.Denot). d.size s.disk) store in
    let laws = g.met.D.Disk g.world.𝓛 g.world.𝓜 g.world.𝓡 ((λ s x. x), (λ x. x), (λ x. x), λ x. x) in
    let since = same-left d.moment d.left_since now.store mid.store (λ image. OpensSame d.content d.size now image × d.may_leave now.store.disk image) store
    (now-left d.told d.content d.may_leave d.moment d.left_since d.size now c.requires.sound c.requires.is_open (laws.only_now now.store.disk)) in
    let error = c.in_err-attempt.field-0.0 in
    let cause = c.in_err-attempt.ensures.cause in
    let is = err-is c.from_residual.result error c.from_residual.ensures.1 in
    let stays = attempt-stays d.content d.may_leave d.faults c.args.run now mid error cause in
    record {
      turned = λ turn answer p.
          subst (HasTurned d.told d.content d.may_leave d.moment d.left_since d.size turn answer now mid) (sym is)
          (turned-not d.told d.content d.may_leave d.moment d.left_since d.size now mid before sized since turn answer p.trusted error
          (attempt-cause d.told d.content d.may_leave d.moment d.left_since d.size now p.trusted turn p.its c.args.run p.planned answer mid error cause)
          (attempt-takes d.told d.content d.may_leave d.moment d.left_since d.size now p.trusted turn p.its c.args.run p.planned answer mid error c.requires.due cause));
      spelled = subst (λ r. IfOk r IsToldReply) (sym is) tt;
      machine_room = c.attempt.ensures.machine_room;
      is_open = subst (λ r. OnOk r (mid.store.fault ≡ None)) (sym is) tt;
      layout = ap (λ (s : StoreView g.row.D.Denot). s.layout) store;
      size = sized;
      faults = subst (λ (s : StoreView g.row.D.Denot). d.faults now.store.disk ≤ d.faults s.disk) (sym store) (omega arith);
      may_fail = subst (λ r. IfErr r (MayFail (d.faults now.store.disk) (d.faults mid.store.disk) now.store.fault)) (sym is) stays.1;
      full = subst (λ r. IfErr r (TellsNumbers (room_of now.store.book))) (sym is) (attempt-numbers c.args.run now mid error cause);
      stays = subst (λ r. IfErr r (StaysBy d.content d.may_leave d.faults now mid)) (sym is) stays.0;
    }

pub returns-in-Unfit : goal.returns-in-Unfit
returns-in-Unfit g c =
    let d = g.D.Disk in
    let now = c.args.self.now in
    let mid = c.attempt.new.self in
    let new = c.pass.new.self in
    let first = c.attempt.ensures.store in
    let unfit = subst (IsAttempt c.args.run mid) c.in-Unfit.is c.in_ok-attempt.ensures.attempt in
    let store = c.pass.ensures.store ∙ first in
    let before = as-before d.content d.may_leave now mid d.told (same-unchanged d.content d.may_leave now mid c.attempt.ensures.jobs first) in
    let sized = ap (λ (s : StoreView g.row.D.Denot). d.size s.disk) first in
    let laws = g.met.D.Disk g.world.𝓛 g.world.𝓜 g.world.𝓡 ((λ s x. x), (λ x. x), (λ x. x), λ x. x) in
    let at_first = now-left d.told d.content d.may_leave d.moment d.left_since d.size now c.requires.sound c.requires.is_open (laws.only_now now.store.disk) in
    let since = same-left d.moment d.left_since now.store mid.store (λ image. OpensSame d.content d.size now image × d.may_leave now.store.disk image) first at_first in
    let sound_then = subst (λ (s : StoreView g.row.D.Denot). IsSound d.content d.may_leave d.size s) (sym first) c.requires.sound in
    let at_mid = now-left d.told d.content d.may_leave d.moment d.left_since d.size mid sound_then (ap (λ (s : StoreView g.row.D.Denot). s.fault) first ∙ c.requires.is_open) (laws.only_now mid.store.disk) in
    record {
      turned = λ turn answer p.
          let q = planned-before d.told d.content d.may_leave d.moment d.left_since d.size now mid before sized since turn (Take c.args.run) p in
          turned-before d.told d.content d.may_leave d.moment d.left_since d.size now mid before sized since turn answer p.trusted new _
          (turned-unfit d.told d.content d.may_leave d.moment d.left_since d.size mid q.trusted turn q.its c.args.run q.planned c.in-Unfit.reply unfit answer new.jobs new.machine_room c.pass.ensures.passed new.store c.pass.ensures.store at_mid);
      spelled = subst IsToldReply (sym unfit.reply_is.is) tt;
      machine_room = c.pass.ensures.machine_room ∙ c.attempt.ensures.machine_room;
      is_open = ap (λ (s : StoreView g.row.D.Denot). s.fault) store ∙ c.requires.is_open;
      layout = ap (λ (s : StoreView g.row.D.Denot). s.layout) store;
      size = ap (λ (s : StoreView g.row.D.Denot). d.size s.disk) store;
      faults = subst (λ (s : StoreView g.row.D.Denot). d.faults now.store.disk ≤ d.faults s.disk) (sym store) (omega arith);
      may_fail = tt;
      full = tt;
      stays = tt;
    }

pub returns-in-Fit : goal.returns-in-Fit
returns-in-Fit g c =
    let d = g.D.Disk in
    let now = c.args.self.now in
    let mid = c.attempt.new.self in
    let new = c.take.new.self in
    let store = c.attempt.ensures.store in
    let before = as-before d.content d.may_leave now mid d.told (same-unchanged d.content d.may_leave now mid c.attempt.ensures.jobs store) in
    let sized = ap (λ (s : StoreView g.row.D.Denot). d.size s.disk) store in
    let laws = g.met.D.Disk g.world.𝓛 g.world.𝓜 g.world.𝓡 ((λ s x. x), (λ x. x), (λ x. x), λ x. x) in
    let since = same-left d.moment d.left_since now.store mid.store (λ image. OpensSame d.content d.size now image × d.may_leave now.store.disk image) store
    (now-left d.told d.content d.may_leave d.moment d.left_since d.size now c.requires.sound c.requires.is_open (laws.only_now now.store.disk)) in
    record {
      turned = λ turn answer p.
          turned-before d.told d.content d.may_leave d.moment d.left_since d.size now mid before sized since turn answer p.trusted new c.take.result
          (c.take.ensures.turned turn answer (planned-before d.told d.content d.may_leave d.moment d.left_since d.size now mid before sized since turn (Take c.args.run) p));
      spelled = c.take.ensures.spelled;
      machine_room = c.take.ensures.machine_room ∙ c.attempt.ensures.machine_room;
      is_open = c.take.ensures.is_open;
      layout = c.take.ensures.layout ∙ ap (λ (s : StoreView g.row.D.Denot). s.layout) store;
      size = c.take.ensures.size ∙ sized;
      faults = subst (λ (s : StoreView g.row.D.Denot). d.faults s.disk ≤ d.faults new.store.disk) store c.take.ensures.faults;
      may_fail = subst (λ (s : StoreView g.row.D.Denot). IfErr c.take.result (MayFail (d.faults s.disk) (d.faults new.store.disk) s.fault)) store c.take.ensures.may_fail;
      full = if-err (of-disk-numbers (room_of now.store.book)) c.take.result c.take.ensures.of_disk;
      stays = if-err-both (λ error is halted. of-disk-stays d.content d.may_leave d.faults now new error is halted) c.take.result c.take.ensures.of_disk c.take.ensures.halted;
    }
