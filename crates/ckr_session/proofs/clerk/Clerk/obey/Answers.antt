use Rattle.std.proofs.Common.{◌≡◌, ◌++◌, ◌||◌, ◌∷◌, [], ℕ, List, Bool, true, cond, Result, Ok, Err, OnOk, refl, ap, sym, subst, ◌∙◌, append-nil}
use Rattle.ckr_base.proofs.Bools.{or-true}
use Rattle.ckr_desk.specs.Model.Rows.{TablesModel}
use Rattle.ckr_desk.specs.Requests.{call_fits, event_in, spelled}
use Rattle.ckr_desk.specs.Soundness.{IsTrusted, state_of}
use Rattle.ckr_desk.specs.Model.Layout.{Layout}
use Rattle.ckr_session.specs.declared.orders.Order.TheVariants.{Turns, ListOf, Sets, Jobs, Change, Shift, Unknown}
use Rattle.ckr_session.specs.Orders.{order_of}
use Rattle.ckr_desk.specs.Model.OpenImages.{event_records}
use Rattle.ckr_desk.specs.State.{DeskView, disk_of, layout_of, machine_room_of, tables_in_memory}
use Rattle.ckr_cards.specs.Session.Handed.{Order as Command}
use Rattle.ckr_session.specs.Calls.{JobsListed, Turned, call_for, change_answer, is_refusal, lines_of, may_change, turns}
use Rattle.ckr_session.specs.Events.{change_event}
use Rattle.ckr_session.specs.Lines.{EndsTold, Telling, telling}
use Rattle.ckr_session.specs.Turns.{TurnsHaltTelling}
use Rattle.ckr_session.specs.Service.{ChangeHalt, HaltsSo, HaltsTelling, ListHalt, Serves, attended_of, seen, staffed_of}
use Rattle.ckr_session.specs.Staff.{AttendedDesk, StaffedDesk, tables_at, with_attended, with_call}
use Rattle.ckr_session.specs.Texts.{answer_text}
use Rattle.ckr_session.proofs.Service.Answers.{comes_none, order_served_on, order_kept, tables_in, turns_halted_so, turns_text_to, list_halted_so, change_halted_so}
use Rattle.ckr_session.proofs.Service.Staff.{goes-with_room, staffed-same, trusted-with_room}
use Rattle.ckr_session.proofs.Service.Tallies.{change-uncounted, list-uncounted, shift-uncounted}
use Rattle.ckr_session.proofs.Cards.{on_ok}
use Rattle.ckr_session.proofs.Calls.Halts.{halts_quiet_on, memory_here}
use Rattle.ckr_session.proofs.Calls.Stops.{events_on, goes_nowhere, goes_on_to, same_events, stopped_on}
use Rattle.ckr_session.proofs.Tellings.{tells_on, tells_quiet}
use Rattle.ckr_session.proofs.clerk.Clerk.obey.Goals as goal

-- what waits behind a call that writes nothing
abbrev quiet : Telling → List ℕ → Telling
quiet from text = record { waits = text; failed = from.failed; written = from.written; faults = from.faults }

-- the event of a change that the book has room for
change_came : {E : Type 0} (r : Result (Unit {0}) E) (fits : Bool) (event before after : List (List ℕ)) → OnOk r (fits ≡ true) → OnOk r (after ≡ before ++ event) → OnOk r (after ≡ before ++ cond fits event [])
change_came (Ok x) fits event before after fit came = came ∙ ap (λ (f : Bool). before ++ cond f event []) (sym fit)
change_came (Err e) fits event before after fit came = tt

-- turns change the desk and its operator in office alone
turned_after : {E : Type 0} (r : Result (Unit {0}) E) (desk : StaffedDesk) (attended behind : AttendedDesk) → OnOk r (attended ≡ behind) → OnOk r (with_attended desk attended ≡ with_attended desk behind)
turned_after (Ok x) desk attended behind is = ap (with_attended desk) is
turned_after (Err e) desk attended behind is = tt

-- ---- what is served

pub returns-in-Turns-clause-serves : goal.returns-in-Turns-clause-serves
returns-in-Turns-clause-serves g c holds =
    let d = g.D.Disk in
    let old = c.args.self.now in
    let line = c.args.text.now in
    let turn = c.in-Turns.turn in
    let reads = c.read_order.ensures.value ∙ ap (λ (l : Layout). order_of l.initiators line) c.layout.ensures.layout in
    let from = telling c.args.lines.now (g.K.Sink.written c.args.sink.now) (g.K.Sink.faults c.args.sink.now) in
    let told = from.waits ++ answer_text (Turned (layout_of old.desk) turn.initiator (turns turn c.in-Turns.count (attended_of d.content old.desk))) in
    tells_on c.turned.result (Serves (seen d.content old) _ (Command c.args.number line ∷ []) from.waits) from (telling c.turned.new.lines (g.K.Sink.written c.turned.new.sink) (g.K.Sink.faults c.turned.new.sink)) told
    (order_served_on c.turned.result (seen d.content old) _ c.args.number line (Turns turn c.in-Turns.count) from.waits told (sym c.in-Turns.is ∙ reads)
    (c.turned.ensures.fits holds) (turned_after c.turned.result (staffed_of d.content old) _ _ (c.turned.ensures.after holds)) (on_ok c.turned.result _ (order_kept old.refused _ refl)) (c.turned.ensures.tally holds)
    (events_on d.content d.moment d.left_since d.size c.turned.result old.desk c.turned.new.desk _ c.turned.ensures.layout (c.turned.ensures.events holds)) (on_ok c.turned.result _ refl))
    (c.turned.ensures.text holds)

pub returns-in-ListOf-clause-serves : goal.returns-in-ListOf-clause-serves
returns-in-ListOf-clause-serves g c holds =
    let d = g.D.Disk in
    let old = c.args.self.now in
    let line = c.args.text.now in
    let reads = c.read_order.ensures.value ∙ ap (λ (l : Layout). order_of l.initiators line) c.layout.ensures.layout in
    let from = telling c.args.lines.now (g.K.Sink.written c.args.sink.now) (g.K.Sink.faults c.args.sink.now) in
    tells_quiet c.list.result (Serves (seen d.content old) (seen d.content c.list.new.self) (Command c.args.number line ∷ []) from.waits) from (quiet from c.list.new.out) c.requires.fresh refl
    (order_served_on c.list.result (seen d.content old) (seen d.content c.list.new.self) c.args.number line (ListOf c.in-ListOf.name) _ _ (sym c.in-ListOf.is ∙ reads)
    (on_ok c.list.result _ refl) (c.list.ensures.state holds) (c.list.ensures.refused holds) (on_ok c.list.result _ (c.list.ensures.tally ∙ sym (list-uncounted old.tally c.args.number _)))
    (events_on d.content d.moment d.left_since d.size c.list.result old.desk c.list.new.self.desk [] c.list.ensures.layout (c.list.ensures.events holds)) (c.list.ensures.text holds))

pub returns-in-Sets-clause-serves : goal.returns-in-Sets-clause-serves
returns-in-Sets-clause-serves g c holds =
    let d = g.D.Disk in
    let old = c.args.self.now in
    let line = c.args.text.now in
    let reads = c.read_order.ensures.value ∙ ap (λ (l : Layout). order_of l.initiators line) c.layout.ensures.layout in
    let e = c.list_sets.ensures in
    let from = telling c.args.lines.now (g.K.Sink.written c.args.sink.now) (g.K.Sink.faults c.args.sink.now) in
    tells_quiet c.list_sets.result (Serves (seen d.content old) (seen d.content c.list_sets.new.self) (Command c.args.number line ∷ []) from.waits) from (quiet from c.list_sets.new.out) c.requires.fresh refl
    (order_served_on c.list_sets.result (seen d.content old) (seen d.content c.list_sets.new.self) c.args.number line Sets _ _ (sym c.in-Sets.is ∙ reads)
    (on_ok c.list_sets.result _ refl) (on_ok c.list_sets.result _ (ap (staffed_of d.content) e.clerk))
    (on_ok c.list_sets.result _ (order_kept old.refused _ (ap (λ (o : _). o.refused) e.clerk))) (on_ok c.list_sets.result _ (ap (λ (o : _). o.tally) e.clerk))
    (on_ok c.list_sets.result _ (same_events d.content d.moment d.left_since d.size old.desk c.list_sets.new.self.desk (ap (λ (o : _). o.desk) e.clerk))) (e.text holds))

pub returns-in-Jobs-clause-serves : goal.returns-in-Jobs-clause-serves
returns-in-Jobs-clause-serves g c holds =
    let d = g.D.Disk in
    let old = c.args.self.now in
    let line = c.args.text.now in
    let reads = c.read_order.ensures.value ∙ ap (λ (l : Layout). order_of l.initiators line) c.layout.ensures.layout in
    let e = c.list_jobs.ensures in
    let from = telling c.args.lines.now (g.K.Sink.written c.args.sink.now) (g.K.Sink.faults c.args.sink.now) in
    tells_quiet c.list_jobs.result (Serves (seen d.content old) (seen d.content c.list_jobs.new.self) (Command c.args.number line ∷ []) from.waits) from (quiet from c.list_jobs.new.out) c.requires.fresh refl
    (order_served_on c.list_jobs.result (seen d.content old) (seen d.content c.list_jobs.new.self) c.args.number line Jobs _ _ (sym c.in-Jobs.is ∙ reads)
    (on_ok c.list_jobs.result _ refl) (on_ok c.list_jobs.result _ (ap (staffed_of d.content) e.clerk))
    (on_ok c.list_jobs.result _ (order_kept old.refused _ (ap (λ (o : _). o.refused) e.clerk))) (on_ok c.list_jobs.result _ (ap (λ (o : _). o.tally) e.clerk))
    (on_ok c.list_jobs.result _ (same_events d.content d.moment d.left_since d.size old.desk c.list_jobs.new.self.desk (ap (λ (o : _). o.desk) e.clerk)))
    (subst (λ (t : TablesModel). OnOk c.list_jobs.result (c.list_jobs.new.out ≡ c.args.lines.now.text ++ answer_text (JobsListed (lines_of t)))) (tables_in d.told d.content d.may_leave old.desk holds) e.text))

pub returns-in-Change-clause-serves : goal.returns-in-Change-clause-serves
returns-in-Change-clause-serves g c holds =
    let d = g.D.Disk in
    let old = c.args.self.now in
    let line = c.args.text.now in
    let change = c.in-Change.change in
    let job = c.in-Change.job in
    let s = staffed_of d.content old in
    let reads = c.read_order.ensures.value ∙ ap (λ (l : Layout). order_of l.initiators line) c.layout.ensures.layout in
    let e = c.change.ensures in
    let there = tables_in d.told d.content d.may_leave old.desk holds in
    let from = telling c.args.lines.now (g.K.Sink.written c.args.sink.now) (g.K.Sink.faults c.args.sink.now) in
    tells_quiet c.change.result (Serves (seen d.content old) (seen d.content c.change.new.self) (Command c.args.number line ∷ []) from.waits) from (quiet from c.change.new.out) c.requires.fresh refl
    (order_served_on c.change.result (seen d.content old) (seen d.content c.change.new.self) c.args.number line (Change change job) _ _ (sym c.in-Change.is ∙ reads)
    (subst (λ (t : TablesModel). OnOk c.change.result (call_fits s.attended.state (call_for change t job) ≡ true)) there (e.fits holds))
    (subst (λ (t : TablesModel). OnOk c.change.result (staffed_of d.content c.change.new.self ≡ with_call s (call_for change t job))) there (e.after holds))
    (subst (λ (t : TablesModel). OnOk c.change.result (c.change.new.self.refused ≡ (old.refused || is_refusal (change_answer change c.args.number job (may_change change t job))))) there e.refused)
    (on_ok c.change.result _ (e.tally ∙ sym (change-uncounted old.tally change c.args.number job _)))
    (change_came c.change.result (call_fits s.attended.state (call_for change (tables_at s) job)) (change_event change s job) _ _
    (subst (λ (t : TablesModel). OnOk c.change.result (call_fits s.attended.state (call_for change t job) ≡ true)) there (e.fits holds))
    (subst (λ (t : TablesModel). OnOk c.change.result (event_records (layout_of c.change.new.self.desk) (d.content (disk_of c.change.new.self.desk)) ≡ event_records (layout_of old.desk) (d.content (disk_of old.desk)) ++ spelled (event_in (call_for change t job)))) there
    (events_on d.content d.moment d.left_since d.size c.change.result old.desk c.change.new.self.desk _ e.layout (e.events holds))))
    (subst (λ (t : TablesModel). OnOk c.change.result (c.change.new.out ≡ c.args.lines.now.text ++ answer_text (change_answer change c.args.number job (may_change change t job)))) there e.text))

pub returns-in-Shift-clause-serves : goal.returns-in-Shift-clause-serves
returns-in-Shift-clause-serves g c holds =
    let d = g.D.Disk in
    let old = c.args.self.now in
    let new = c.shift.new.self in
    let line = c.args.text.now in
    let reads = c.read_order.ensures.value ∙ ap (λ (l : Layout). order_of l.initiators line) c.layout.ensures.layout in
    let e = c.shift.ensures in
    let from = telling c.args.lines.now (g.K.Sink.written c.args.sink.now) (g.K.Sink.faults c.args.sink.now) in
    tells_quiet c.shift.result (Serves (seen d.content old) (seen d.content new) (Command c.args.number line ∷ []) from.waits) from (quiet from c.shift.new.out) c.requires.fresh refl
    (order_served_on c.shift.result (seen d.content old) (seen d.content new) c.args.number line Shift _ _ (sym c.in-Shift.is ∙ reads)
    (on_ok c.shift.result _ refl) (on_ok c.shift.result _ e.after) e.refused (on_ok c.shift.result _ (e.tally ∙ sym (shift-uncounted old.tally c.args.number old.roster.place old.roster.later)))
    (on_ok c.shift.result _ (ap (λ (w : DeskView _). event_records (layout_of w) (d.content (disk_of w))) e.desk ∙ sym (append-nil _))) e.text)

pub returns-in-Unknown-clause-serves : goal.returns-in-Unknown-clause-serves
returns-in-Unknown-clause-serves g c holds =
    let d = g.D.Disk in
    let old = c.args.self.now in
    let line = c.args.text.now in
    let reads = c.read_order.ensures.value ∙ ap (λ (l : Layout). order_of l.initiators line) c.layout.ensures.layout in
    let e = c.refuse_line.ensures in
    let from = telling c.args.lines.now (g.K.Sink.written c.args.sink.now) (g.K.Sink.faults c.args.sink.now) in
    tells_quiet c.refuse_line.result (Serves (seen d.content old) (seen d.content c.refuse_line.new.self) (Command c.args.number line ∷ []) from.waits) from (quiet from c.refuse_line.new.out) c.requires.fresh refl
    (order_served_on c.refuse_line.result (seen d.content old) (seen d.content c.refuse_line.new.self) c.args.number line Unknown _ _ (sym c.in-Unknown.is ∙ reads)
    (on_ok c.refuse_line.result _ refl) (on_ok c.refuse_line.result _ (staffed-same (staffed_of d.content c.refuse_line.new.self) (staffed_of d.content old) (ap (state_of d.content) e.desk) (ap machine_room_of e.desk) e.roster))
    (on_ok c.refuse_line.result _ (e.refused ∙ sym (or-true old.refused))) (on_ok c.refuse_line.result _ e.tally)
    (on_ok c.refuse_line.result _ (same_events d.content d.moment d.left_since d.size old.desk c.refuse_line.new.self.desk e.desk)) e.text)

-- ---- what isn't

pub returns-in-Turns-clause-halt : goal.returns-in-Turns-clause-halt
returns-in-Turns-clause-halt g c holds =
    let d = g.D.Disk in
    let old = c.args.self.now.desk in
    let s = staffed_of d.content c.args.self.now in
    let line = c.args.text.now in
    let turn = c.in-Turns.turn in
    let count = c.in-Turns.count in
    let reads = c.read_order.ensures.value ∙ ap (λ (l : Layout). order_of l.initiators line) c.layout.ensures.layout in
    let from = telling c.args.lines.now (g.K.Sink.written c.args.sink.now) (g.K.Sink.faults c.args.sink.now) in
    let to = telling c.turned.new.lines (g.K.Sink.written c.turned.new.sink) (g.K.Sink.faults c.turned.new.sink) in
    stopped_on d.content d.moment d.left_since d.size c.turned.result old (disk_of c.turned.new.desk)
    (λ halt. TurnsHaltTelling (layout_of old) turn halt count s.attended from to) (λ halt. HaltsTelling halt s (Command c.args.number line ∷ []) from to)
    (λ halt came kept why. record {
      told = why.told;
      so = turns_halted_so s c.args.number line _ reads turn count from.waits why.told c.in-Turns.is halt came kept why.so;
      ends = subst (λ (whole : List ℕ). EndsTold halt from whole why.told to) (ap (λ t. from.waits ++ t) (turns_text_to s c.args.number line _ reads turn count c.in-Turns.is)) why.ends;
    })
    (c.turned.ensures.halt holds)

pub returns-in-ListOf-clause-halt : goal.returns-in-ListOf-clause-halt
returns-in-ListOf-clause-halt g c holds =
    let d = g.D.Disk in
    let old = c.args.self.now.desk in
    let s = staffed_of d.content c.args.self.now in
    let line = c.args.text.now in
    let reads = c.read_order.ensures.value ∙ ap (λ (l : Layout). order_of l.initiators line) c.layout.ensures.layout in
    let from = telling c.args.lines.now (g.K.Sink.written c.args.sink.now) (g.K.Sink.faults c.args.sink.now) in
    halts_quiet_on d.content d.moment d.left_since d.size c.list.result c.args.self.now (disk_of c.list.new.self.desk) (Command c.args.number c.args.text.now ∷ []) from (quiet from c.list.new.out) c.requires.fresh refl
    (stopped_on d.content d.moment d.left_since d.size c.list.result old (disk_of c.list.new.self.desk)
    (λ halt. ListHalt halt c.args.lines.now.text c.list.new.out) (λ halt. HaltsSo halt s (Command c.args.number line ∷ []) c.args.lines.now.text c.list.new.out)
    (list_halted_so s c.args.number line _ reads c.in-ListOf.name c.args.lines.now.text c.list.new.out c.in-ListOf.is) (c.list.ensures.halt holds))

pub returns-in-Change-clause-halt : goal.returns-in-Change-clause-halt
returns-in-Change-clause-halt g c holds =
    let d = g.D.Disk in
    let old = c.args.self.now.desk in
    let s = staffed_of d.content c.args.self.now in
    let line = c.args.text.now in
    let change = c.in-Change.change in
    let job = c.in-Change.job in
    let call = call_for change (tables_in_memory old) job in
    let reads = c.read_order.ensures.value ∙ ap (λ (l : Layout). order_of l.initiators line) c.layout.ensures.layout in
    let from = telling c.args.lines.now (g.K.Sink.written c.args.sink.now) (g.K.Sink.faults c.args.sink.now) in
    halts_quiet_on d.content d.moment d.left_since d.size c.change.result c.args.self.now (disk_of c.change.new.self.desk) (Command c.args.number c.args.text.now ∷ []) from (quiet from c.change.new.out) c.requires.fresh refl
    (stopped_on d.content d.moment d.left_since d.size c.change.result old (disk_of c.change.new.self.desk)
    (λ halt. ChangeHalt halt (call_fits s.attended.state call) (spelled (event_in call)) c.args.lines.now.text c.change.new.out) (λ halt. HaltsSo halt s (Command c.args.number line ∷ []) c.args.lines.now.text c.change.new.out)
    (change_halted_so s c.args.number line _ reads (tables_in_memory old) change job c.args.lines.now.text c.change.new.out (tables_in d.told d.content d.may_leave old holds) c.in-Change.is) (c.change.ensures.halt holds))

pub returns-in-Sets-clause-halt : goal.returns-in-Sets-clause-halt
returns-in-Sets-clause-halt g c holds =
    let d = g.D.Disk in
    let old = c.args.self.now.desk in
    let from = telling c.args.lines.now (g.K.Sink.written c.args.sink.now) (g.K.Sink.faults c.args.sink.now) in
    halts_quiet_on d.content d.moment d.left_since d.size c.list_sets.result c.args.self.now (disk_of c.list_sets.new.self.desk) (Command c.args.number c.args.text.now ∷ []) from (quiet from c.list_sets.new.out) c.requires.fresh refl
    (memory_here d.content d.moment d.left_since d.size c.list_sets.result old old _ [] (λ halt. HaltsSo halt (staffed_of d.content c.args.self.now) (Command c.args.number c.args.text.now ∷ []) c.args.lines.now.text c.list_sets.new.out)
    (ap (λ (o : _). o.desk) c.list_sets.ensures.clerk) (goes_nowhere d.content d.moment d.left_since d.size old (c.layout.ensures.kept c.requires.is_open holds)) (sym (append-nil _)) (comes_none _) c.list_sets.ensures.halt)

pub returns-in-Jobs-clause-halt : goal.returns-in-Jobs-clause-halt
returns-in-Jobs-clause-halt g c holds =
    let d = g.D.Disk in
    let old = c.args.self.now.desk in
    let from = telling c.args.lines.now (g.K.Sink.written c.args.sink.now) (g.K.Sink.faults c.args.sink.now) in
    halts_quiet_on d.content d.moment d.left_since d.size c.list_jobs.result c.args.self.now (disk_of c.list_jobs.new.self.desk) (Command c.args.number c.args.text.now ∷ []) from (quiet from c.list_jobs.new.out) c.requires.fresh refl
    (memory_here d.content d.moment d.left_since d.size c.list_jobs.result old old _ [] (λ halt. HaltsSo halt (staffed_of d.content c.args.self.now) (Command c.args.number c.args.text.now ∷ []) c.args.lines.now.text c.list_jobs.new.out)
    (ap (λ (o : _). o.desk) c.list_jobs.ensures.clerk) (goes_nowhere d.content d.moment d.left_since d.size old (c.layout.ensures.kept c.requires.is_open holds)) (sym (append-nil _)) (comes_none _) c.list_jobs.ensures.halt)

pub returns-in-Unknown-clause-halt : goal.returns-in-Unknown-clause-halt
returns-in-Unknown-clause-halt g c holds =
    let d = g.D.Disk in
    let old = c.args.self.now.desk in
    let from = telling c.args.lines.now (g.K.Sink.written c.args.sink.now) (g.K.Sink.faults c.args.sink.now) in
    halts_quiet_on d.content d.moment d.left_since d.size c.refuse_line.result c.args.self.now (disk_of c.refuse_line.new.self.desk) (Command c.args.number c.args.text.now ∷ []) from (quiet from c.refuse_line.new.out) c.requires.fresh refl
    (memory_here d.content d.moment d.left_since d.size c.refuse_line.result old old _ [] (λ halt. HaltsSo halt (staffed_of d.content c.args.self.now) (Command c.args.number c.args.text.now ∷ []) c.args.lines.now.text c.refuse_line.new.out)
    c.refuse_line.ensures.desk (goes_nowhere d.content d.moment d.left_since d.size old (c.layout.ensures.kept c.requires.is_open holds)) (sym (append-nil _)) (comes_none _) c.refuse_line.ensures.halt)

pub returns-in-Shift-clause-halt : goal.returns-in-Shift-clause-halt
returns-in-Shift-clause-halt g c holds =
    let d = g.D.Disk in
    let old = c.args.self.now.desk in
    let behind = record old { machine_room = machine_room_of c.shift.new.self.desk } in
    let from = telling c.args.lines.now (g.K.Sink.written c.args.sink.now) (g.K.Sink.faults c.args.sink.now) in
    halts_quiet_on d.content d.moment d.left_since d.size c.shift.result c.args.self.now (disk_of c.shift.new.self.desk) (Command c.args.number c.args.text.now ∷ []) from (quiet from c.shift.new.out) c.requires.fresh refl
    (memory_here d.content d.moment d.left_since d.size c.shift.result old behind _ [] (λ halt. HaltsSo halt (staffed_of d.content c.args.self.now) (Command c.args.number c.args.text.now ∷ []) c.args.lines.now.text c.shift.new.out)
    c.shift.ensures.desk (goes-with_room old behind.machine_room d.content d.moment d.left_since d.size (c.layout.ensures.kept c.requires.is_open holds)) (sym (append-nil _)) (comes_none _) c.shift.ensures.halt)

-- ---- what a stop leaves

pub returns-in-Shift-clause-goes : goal.returns-in-Shift-clause-goes
returns-in-Shift-clause-goes g c holds =
    let d = g.D.Disk in
    let old = c.args.self.now.desk in
    let room = machine_room_of c.shift.new.self.desk in
    goes_on_to d.content d.moment d.left_since d.size c.shift.result old (record old { machine_room = room }) _ c.shift.ensures.desk
    (goes-with_room old room d.content d.moment d.left_since d.size (c.layout.ensures.kept c.requires.is_open holds))

pub returns-in-Shift-clause-trusted : goal.returns-in-Shift-clause-trusted
returns-in-Shift-clause-trusted g c =
    let d = g.D.Disk in
    let old = c.args.self.now.desk in
    on_ok c.shift.result _
    (λ holds. subst (λ (w : DeskView _). IsTrusted d.told d.content d.may_leave w) (sym c.shift.ensures.desk) (trusted-with_room old (machine_room_of c.shift.new.self.desk) d.told d.content d.may_leave holds))

pub returns-in-Unknown-clause-goes : goal.returns-in-Unknown-clause-goes
returns-in-Unknown-clause-goes g c holds =
    let d = g.D.Disk in
    let old = c.args.self.now.desk in
    goes_on_to d.content d.moment d.left_since d.size c.refuse_line.result old old _ c.refuse_line.ensures.desk (goes_nowhere d.content d.moment d.left_since d.size old (c.layout.ensures.kept c.requires.is_open holds))

pub returns-in-Sets-clause-goes : goal.returns-in-Sets-clause-goes
returns-in-Sets-clause-goes g c holds =
    let d = g.D.Disk in
    let old = c.args.self.now.desk in
    goes_on_to d.content d.moment d.left_since d.size c.list_sets.result old old _ (ap (λ (o : _). o.desk) c.list_sets.ensures.clerk) (goes_nowhere d.content d.moment d.left_since d.size old (c.layout.ensures.kept c.requires.is_open holds))

pub returns-in-Jobs-clause-goes : goal.returns-in-Jobs-clause-goes
returns-in-Jobs-clause-goes g c holds =
    let d = g.D.Disk in
    let old = c.args.self.now.desk in
    goes_on_to d.content d.moment d.left_since d.size c.list_jobs.result old old _ (ap (λ (o : _). o.desk) c.list_jobs.ensures.clerk) (goes_nowhere d.content d.moment d.left_since d.size old (c.layout.ensures.kept c.requires.is_open holds))
