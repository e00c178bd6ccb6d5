use Rattle.std.proofs.Common.{◌≡◌, ◌∙◌, ap, subst, sym, refl, IfErr, IfOk, OnOk, None}
use Rattle.ckr_outside.specs.Disk.{EachSince}
use Rattle.ckr_desk_store.specs.OpenImages.{event_records}
use Rattle.ckr_desk_store.specs.State.{IsSound}
use Rattle.ckr_desk_turn.specs.declared.submit.Submission.{Submission}
use Rattle.ckr_desk.proofs.Calls.RequestStops.{call-left, on-ok-now}
use Rattle.ckr_desk.specs.Requests.{event_in}
use Rattle.ckr_desk.specs.Calls.{HasDone, IsLeftByCall, IsSettledBehind, NotDone, with_event}
use Rattle.ckr_desk.specs.Submit.{answer_to, call_by, submit_answer, submit_call}
use Rattle.ckr_desk.proofs.desk.Desk.hand_in.Goals as goal

pub returns-in-Refused-clause-answer : goal.returns-in-Refused-clause-answer
unfolding submit_answer
returns-in-Refused-clause-answer g c =
    sym (ap (answer_to c.args.self.now.jobs.tables.desk) (sym c.in_ok-number.ensures ∙ c.in-Refused.is))

pub returns-in-Refused-clause-done : goal.returns-in-Refused-clause-done
unfolding submit_call
returns-in-Refused-clause-done g c =
    let now = c.args.self.now in
    subst (λ (s : Submission). HasDone (call_by now.jobs.tables.desk c.args.cards.now s) now now) (sym c.in-Refused.is ∙ c.in_ok-number.ensures)
    refl

pub returns-in-Refused-clause-told : goal.returns-in-Refused-clause-told
unfolding submit_call
returns-in-Refused-clause-told g c told =
    let now = c.args.self.now in
    ap (λ (s : Submission). with_event (event_records now.store.layout (g.D.Disk.content now.store.disk)) (call_by now.jobs.tables.desk c.args.cards.now s))
    (sym c.in-Refused.is ∙ c.in_ok-number.ensures)

pub returns-in-Accepted-clause-answer : goal.returns-in-Accepted-clause-answer
unfolding submit_answer
returns-in-Accepted-clause-answer g c =
    subst (λ (s : Submission). IfOk c.accept.result (λ answer. answer ≡ answer_to c.args.self.now.jobs.tables.desk s)) (sym c.in-Accepted.is ∙ c.in_ok-number.ensures)
    c.accept.ensures.answer

pub returns-in-Accepted-clause-done : goal.returns-in-Accepted-clause-done
unfolding submit_call
returns-in-Accepted-clause-done g c =
    let now = c.args.self.now in
    subst (λ (s : Submission). OnOk c.accept.result (HasDone (call_by now.jobs.tables.desk c.args.cards.now s) now c.accept.new.self))
    (sym c.in-Accepted.is ∙ c.in_ok-number.ensures) c.accept.ensures.done

pub returns-in-Accepted-clause-told : goal.returns-in-Accepted-clause-told
unfolding submit_call
returns-in-Accepted-clause-told g c told =
    let now = c.args.self.now in
    let d = g.D.Disk in
    subst (λ (s : Submission). OnOk c.accept.result (event_records now.store.layout (d.content c.accept.new.self.store.disk)
    ≡ with_event (event_records now.store.layout (d.content now.store.disk)) (call_by now.jobs.tables.desk c.args.cards.now s)))
    (sym c.in-Accepted.is ∙ c.in_ok-number.ensures) (c.accept.ensures.told told)

pub returns-in-Accepted-clause-cause : goal.returns-in-Accepted-clause-cause
unfolding submit_call
returns-in-Accepted-clause-cause g c =
    let now = c.args.self.now in
    subst (λ (s : Submission). IfErr c.accept.result (NotDone g.D.Disk.faults (call_by now.jobs.tables.desk c.args.cards.now s) now c.accept.new.self))
    (sym c.in-Accepted.is ∙ c.in_ok-number.ensures) c.accept.ensures.cause

pub returns-in_err-number-clause-left : goal.returns-in_err-number-clause-left
returns-in_err-number-clause-left g c is_open =
    let d = g.D.Disk in
    let now = c.args.self.now in
    let laws = g.met.D.Disk g.world.𝓛 g.world.𝓜 g.world.𝓡 ((λ s x. x), (λ x. x), (λ x. x), λ x. x) in
    call-left d.told d.content d.may_leave d.moment d.left_since d.size (submit_call now.jobs.tables.desk c.args.cards.now) now
    (subst (λ s. IsSound d.content d.may_leave d.size s.store) c.self.view_is c.self.invariant.store) is_open (laws.only_now now.store.disk)

pub returns-in-Refused-clause-left : goal.returns-in-Refused-clause-left
returns-in-Refused-clause-left g c is_open =
    let d = g.D.Disk in
    let now = c.args.self.now in
    let laws = g.met.D.Disk g.world.𝓛 g.world.𝓜 g.world.𝓡 ((λ s x. x), (λ x. x), (λ x. x), λ x. x) in
    call-left d.told d.content d.may_leave d.moment d.left_since d.size (submit_call now.jobs.tables.desk c.args.cards.now) now
    (subst (λ s. IsSound d.content d.may_leave d.size s.store) c.self.view_is c.self.invariant.store) is_open (laws.only_now now.store.disk)

pub returns-in-Refused-clause-settled : goal.returns-in-Refused-clause-settled
unfolding submit_call
returns-in-Refused-clause-settled g c =
    let d = g.D.Disk in
    let now = c.args.self.now in
    subst (λ (s : Submission). IsSettledBehind d.content d.may_leave (event_in (call_by now.jobs.tables.desk c.args.cards.now s)) now)
    (sym c.in-Refused.is ∙ c.in_ok-number.ensures) tt

pub returns-in-Accepted-clause-settled : goal.returns-in-Accepted-clause-settled
unfolding submit_call
returns-in-Accepted-clause-settled g c =
    let d = g.D.Disk in
    let now = c.args.self.now in
    subst (λ (s : Submission). OnOk c.accept.result (IsSettledBehind d.content d.may_leave (event_in (call_by now.jobs.tables.desk c.args.cards.now s)) c.accept.new.self))
    (sym c.in-Accepted.is ∙ c.in_ok-number.ensures) c.accept.ensures.settled

pub returns-in-Accepted-clause-left : goal.returns-in-Accepted-clause-left
unfolding submit_call
returns-in-Accepted-clause-left g c =
    let d = g.D.Disk in
    let now = c.args.self.now in
    subst (λ (s : Submission). now.store.fault ≡ None → EachSince d.moment d.left_since now.store.disk c.accept.new.self.store.disk
    (IsLeftByCall d.content d.may_leave d.size (call_by now.jobs.tables.desk c.args.cards.now s) now))
    (sym c.in-Accepted.is ∙ c.in_ok-number.ensures) c.accept.ensures.left

pub returns-in-Accepted-clause-is_open : goal.returns-in-Accepted-clause-is_open
returns-in-Accepted-clause-is_open g c =
    on-ok-now c.accept.result (ap (λ s. s.store.fault) (sym c.self.view_is) ∙ (sym c.fault.ensures ∙ c.in_default.is))
