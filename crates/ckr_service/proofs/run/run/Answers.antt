use Rattle.std.proofs.Common.{◌∙◌, ◌≤◌, ℕ, List, arith, map}
use Rattle.ckr_session.specs.Model.FirstSync.{FromSync, IsLeft}
use Rattle.ckr_session.specs.Model.Layout.{Layout}
use Rattle.ckr_session.specs.Model.OpenImages.{event_records}
use Rattle.ckr_session.specs.Model.Soundness.{AllSound, HasKept, IsTrusted, desk_opening, state_of}
use Rattle.ckr_session.specs.Model.State.{disk_of, layout_of, opened_of}
use Rattle.ckr_session.specs.Service.{staffed_by}
use Rattle.ckr_session.specs.Staff.{staffed_with}
use Rattle.ckr_session.specs.Stops.{HasEverywhere, HasSuch, KeepsTo}
use Rattle.ckr_service.proofs.Calls.Completeness.{run-completes}
use Rattle.ckr_service.proofs.Calls.Ends.{run_ended, run_not_opened}
use Rattle.ckr_service.proofs.Calls.OpenStops.{all_sound_after, each_served, has_served, sound_from, sound_left}
use Rattle.ckr_service.proofs.Streams.Servings.{serving_so, some_came}
use Rattle.ckr_session.proofs.Service.Staff.{staffed-opened}
use Rattle.ckr_service.proofs.Streams.Totals.{counted_from}
use Rattle.ckr_service.proofs.run.run.Goals as goal

pub returns-in-Ok : goal.returns-in-Ok
returns-in-Ok g c =
    let d = g.D.Disk in
    let e = c.in-Ok.ensures in
    let s = c.serve-outcome.ensures in
    let disk = c.args.disk in
    let desk = c.in-Ok.desk in
    let end = c.serve-outcome.result.disk in
    let outcome = c.serve-outcome.result.outcome in
    let laws = g.met.D.Disk g.world.𝓛 g.world.𝓜 g.world.𝓡 ((λ s x. x), (λ x. x), (λ x. x), λ x. x) in
    let each : Layout → List (List ℕ) → Type 0 = λ layout came. FromSync d.content d.may_leave d.moment d.left_since disk end (HasKept layout (d.size disk) (event_records layout (d.content disk)) came) in
    let has : Layout → (List (List ℕ) → Type 0) → Type 0 = λ layout. HasEverywhere d.content d.may_leave layout (event_records layout (d.content disk)) end in
    let operators = map g.O.Operator.answering c.args.operators.items in
    let start = staffed_with operators (state_of d.content desk) in
    let opened = staffed-opened d.content g.O.Operator.answering operators c.next-operator.result desk c.new-roster.result c.next-operator.new.self
    c.new-roster.ensures.later c.new-roster.ensures.place c.next-operator.ensures e.machine_room in
    let served = serving_so (IsTrusted d.told d.content d.may_leave desk) (AllSound d.told d.may_leave d.size disk) (KeepsTo d.content d.moment d.left_since d.size desk end) (each (layout_of desk))
    (HasSuch d.content d.moment d.left_since d.size desk end) (has (layout_of desk)) e.trusted
    (λ all came. each_served d.told d.content d.may_leave d.moment d.left_since d.size disk desk end (e.kept all) (e.records all.tells) e.size came)
    (λ all Such. has_served d.told d.content d.may_leave d.moment d.left_since d.size disk desk end (e.records all.tells) (laws.counts_now end) Such)
    (staffed_by d.content desk c.next-operator.new.self) start outcome _ _ _ _ (d.faults disk) (d.faults (disk_of desk)) (d.faults end) _ _ _ _ e.never_falls opened s.served in
    let safe = (λ (all : AllSound d.told d.may_leave d.size disk).
    (let came = some_came (AllSound d.told d.may_leave d.size disk) (each (layout_of desk)) (has (layout_of desk)) start outcome _ _ _ _ _ served all in
    sound_from d.told d.content d.may_leave d.moment d.left_since d.size disk end (HasKept (layout_of desk) (d.size disk) (event_records (layout_of desk) (d.content disk)) came.0) all came.1 (λ image kept. kept.sound))) in
    let ended = run_ended d.told (AllSound d.told d.may_leave d.size disk) (d.content disk) (d.size disk) (opened_of desk) (state_of d.content desk) operators
    (λ error. IsLeft d.content d.may_leave d.moment d.left_since d.size d.told (AllSound d.told d.may_leave d.size disk) error disk end) each has
    outcome _ _ _ _ _ _ e.read e.opened c.serving_status.ensures served in
    record {
      run = ended;
      completes = λ all. run-completes _ _ _ _ _ _ _ _ _ _ _ _ _ ended all.tells all;
      counted = counted_from (IsTrusted d.told d.content d.may_leave desk) (AllSound d.told d.may_leave d.size disk) (staffed_by d.content desk c.next-operator.new.self) operators (state_of d.content desk) (desk_opening (d.content disk) (d.size disk))
          outcome c.serve-outcome.result.counts _ _ _ c.serving_status.ensures e.trusted e.opened opened s.counted;
      size = s.size ∙ e.size;
      disk_later = (let first : d.faults disk ≤ d.faults (disk_of desk) = e.never_falls in
          let then : d.faults (disk_of desk) ≤ d.faults end = s.disk_later in
          omega (arith, first, then));
      safe = safe;
      sound = λ all. all_sound_after d.told d.content d.may_leave d.moment d.left_since d.size disk end all (s.size ∙ e.size) (laws.counts_now end) (safe all);
    }

pub returns-in-Err : goal.returns-in-Err
returns-in-Err g c =
    let d = g.D.Disk in
    let e = c.in-Err.ensures in
    let disk = c.args.disk in
    let end = c.in-Err.field-0.disk in
    let laws = g.met.D.Disk g.world.𝓛 g.world.𝓜 g.world.𝓡 ((λ s x. x), (λ x. x), (λ x. x), λ x. x) in
    let safe = (λ (all : AllSound d.told d.may_leave d.size disk). sound_left d.told d.content d.may_leave d.moment d.left_since d.size c.in-Err.field-0.error disk end all e.left) in
    let ended = run_not_opened d.told (AllSound d.told d.may_leave d.size disk) (desk_opening (d.content disk) (d.size disk)) (map g.O.Operator.answering c.args.operators.items)
    (λ error. IsLeft d.content d.may_leave d.moment d.left_since d.size d.told (AllSound d.told d.may_leave d.size disk) error disk end)
    (λ layout came. FromSync d.content d.may_leave d.moment d.left_since disk end (HasKept layout (d.size disk) (event_records layout (d.content disk)) came))
    (λ layout. HasEverywhere d.content d.may_leave layout (event_records layout (d.content disk)) end) c.in-Err.field-0.error _ (g.S.Source.faults c.args.source.now) (g.K.Sink.faults c.args.sink.now) (d.faults disk) (d.faults end)
    (g.S.Source.left c.args.source.now) (g.K.Sink.written c.args.sink.now) c.opening_status.ensures e.cause e.left in
    record {
      run = ended;
      completes = λ all. run-completes _ _ _ _ _ _ _ _ _ _ _ _ _ ended all.tells all;
      counted = λ all state is whole. tt;
      size = e.size_left;
      disk_later = e.never_falls_left;
      safe = safe;
      sound = λ all. all_sound_after d.told d.content d.may_leave d.moment d.left_since d.size disk end all e.size_left (laws.counts_now end) (safe all);
    }
