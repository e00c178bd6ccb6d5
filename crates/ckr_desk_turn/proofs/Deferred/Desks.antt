-- The desk behind an event that denies a deferred restart, and behind one by which a run goes on with an earlier one.
use Rattle.std.proofs.Common.{◌≡◌, ◌≢◌, ℕ, zero, suc, Bool, true, false, not, ◌&&◌, ◌||◌, ◌∷◌, find, refl, ap, sym, ◌∙◌, subst, Option, Some, None, arith}
use Rattle.std.specs.Prelude.{◌==◌}
use Rattle.std.specs.List.{list_any}
use Rattle.std.specs.Option.{is_none, option_map_or}
use Rattle.std.proofs.lemmas.Bool.{or_left, or_right}
use Rattle.ckr_base.proofs.Bools.{and-false, bool-cases}
use Rattle.ckr_base.proofs.Numbers.{equal-itself, equal-true, number-cases}
use Rattle.ckr_base.proofs.Options.{is_some-true, some-one}
use Rattle.ckr_base.proofs.Sequences.{each-filter, each-implies}
use Rattle.ckr_events.specs.declared.event.Event.TheVariants.{Denied as DeniedEvent, Selected as SelectedEvent}
use Rattle.ckr_library.specs.NameMaps.{Name}
use Rattle.ckr_meaning.specs.EffectiveJob.{step_at}
use Rattle.ckr_meaning.specs.JobRun.{start_at}
use Rattle.ckr_meaning.specs.StepRun.{StepStart}
use Rattle.ckr_meaning.specs.declared.place.Place.{Place}
use Rattle.ckr_meaning.specs.declared.place.Place.TheVariants.{Before, Opened, Within}
use Rattle.ckr_points.specs.declared.run.RunState.{RunState}
use Rattle.ckr_points.specs.declared.run.RunState.TheVariants.{Denied, On, Queued}
use Rattle.ckr_points.specs.Follows.{is_in_state, is_running, is_within, own_step, state_number}
use Rattle.ckr_points.specs.Office.{Leg, Office, continued_leg, leg_by, leg_of, office_after, plain_leg, with_leg}
use Rattle.ckr_points.specs.Payload.{carries_taken}
use Rattle.ckr_points.specs.Restart.{kept_at, place_of, step_in, syschk_name}
use Rattle.ckr_points.specs.Rows.{KeptEntry, RunRow, run_of, with_run}
use Rattle.ckr_points_invariant.specs.Invariant.{IsUnderWay, IsWithinStep}
use Rattle.ckr_points_invariant.specs.KeptEvents.{AreKept}
use Rattle.ckr_points_invariant.specs.Restorability.{StandsAt}
use Rattle.ckr_points_invariant.specs.EarlierRuns.{MayContinue}
use Rattle.ckr_points_invariant.specs.RunningSteps.{its_start}
use Rattle.ckr_points_invariant.proofs.Continuations.Events.{continued-at-start, continued-from-entry}
use Rattle.ckr_points_invariant.proofs.Holders.Rows.{run-other, run-same}
use Rattle.ckr_points_invariant.proofs.Select.Holders.{leg_there}
use Rattle.ckr_points_invariant.proofs.Steps.Walks.{start_at-of}
use Rattle.ckr_desk_turn.specs.Desk.{DeskModel, DeskStep, at_entry, behind, running_from, without_run}
use Rattle.ckr_desk_turn.specs.Invariant.{IsAdmitted, IsDesk, IsFailed, IsGoing, IsOpen, is_accounted, is_on_one}
use Rattle.ckr_desk_turn.specs.NextEvents.{Comes}
use Rattle.ckr_desk_turn.specs.Restarts.{GoesOnBy}
use Rattle.ckr_desk_turn.proofs.Opening.{has-runs}
use Rattle.ckr_desk_turn.proofs.OtherRuns.{Changes, each_row, row-admitted, row-in-state, running-same, step-there}
use Rattle.ckr_desk_turn.proofs.Readiness.{desk-kept, kept-on}
use Rattle.ckr_desk_turn.proofs.Restart.Checkpoints.{open-so}
use Rattle.ckr_desk_turn.proofs.Runs.Continuations.{IsRenewedOn, continued-row, continued-runs, continues-so}
use Rattle.ckr_desk_turn.proofs.Runs.Rows.{HasRow, HasRows, has-row, rows-of}
use Rattle.ckr_desk_turn.proofs.RunningSteps.{nothing-between}
use Rattle.ckr_desk_turn.proofs.Select.{Stays, code_while, entered, failed-stays, going-stays, queued-off}

-- ---- denied

pub denied-keeps : (desk : DeskModel) → IsDesk desk → (row : RunRow) (rule : ℕ) (name : Option Name) → run_of desk.office.tables row.number ≡ Some row → row.state ≡ Queued → Comes desk (DeniedEvent row.number rule name) → GoesOnBy desk (DeniedEvent row.number rule name)
denied-keeps desk is row rule name at queued comes =
    let next : RunRow = record row { state = Denied } in
    let was : IsAdmitted row = row-admitted desk is row.number row at in
    record {
      comes = comes;
      kept =
          entered desk is (office_after (DeniedEvent row.number rule name, None) desk.office) row.number next
          (record {
            mine = of_tables row.number ∙ run-same desk.office.tables next row row.number at refl;
            others = λ other apart. of_tables other ∙ run-other desk.office.tables next other apart;
            legs = λ other apart. refl;
            waits = λ one there on. queued-off one.state (ap (λ (r : RunRow). state_number r.state == 1) (some-one one row (run_of desk.office.tables row.number) there at) ∙ ap (λ s. state_number s == 1) queued) on;
            kept = kept-on desk is (DeniedEvent row.number rule name) comes;
            in_state = sym (ap (λ s. (is_none row.initiator || is_on_one s) && code_while s row.code) queued) ∙ row-in-state desk is row.number row at;
            admitted = record { cards = was.cards; accepted = was.accepted; steps = was.steps; named = was.named; lodged = refl };
            rests = refl;
            stepped = refl;
            spaced = is.spaced;
            spaced_legs = is.spaced_legs;
          });
    }
  where
    of_tables : (number : ℕ) → run_of (option_map_or (λ row. with_run (record row { state = Denied }) desk.office.tables) (run_of desk.office.tables row.number) desk.office.tables) number ≡ run_of (with_run (record row { state = Denied }) desk.office.tables) number
    of_tables number = ap (λ (o : Option RunRow). run_of (option_map_or (λ row. with_run (record row { state = Denied }) desk.office.tables) o desk.office.tables) number) at

-- ---- a run goes on with an earlier one

pub leg-number : (office : Office) (row : RunRow) (earlier : ℕ) → (leg_by office row earlier).number ≡ row.number
leg-number office row zero = refl
leg-number office row (suc before) = by (leg_of office (suc before))
  where
    by : (leg : Option Leg) → (option_map_or (continued_leg office row) leg (plain_leg office row)).number ≡ row.number
    by None = refl
    by (Some leg) = refl

module _ (desk : DeskModel) (is : IsDesk desk) (job initiator before step : ℕ) (id : Option Name) (comes : Comes desk (SelectedEvent job initiator (suc before) step id)) where
  are : AreKept desk.layout desk.office
  are = desk-kept desk is

  has : HasRows desk.office
  has = rows-of desk.office (has-runs desk is)

  abbrev after : Office
  after = office_after (SelectedEvent job initiator (suc before) step id, None) desk.office

  abbrev later : DeskModel
  later = behind (SelectedEvent job initiator (suc before) step id) None desk

  pub kept : AreKept desk.layout after
  kept = kept-on desk is (SelectedEvent job initiator (suc before) step id) comes

  pub its : MayContinue desk.layout desk.office.tables job initiator (suc before) step id
  its = continues-so desk.layout desk.office job initiator before step id None comes

  rows : HasRows after
  rows = continued-runs desk.layout desk.office are has job initiator before step id None comes

  row-on : IsRenewedOn desk.office.tables after.tables job its.other step
  row-on = continued-row desk.layout desk.office are has job initiator before step id None its

  abbrev next : RunRow
  next = row-on.renewed.next

  next_number : next.number ≡ job
  next_number = kept.kept.events.numbered job next row-on.renewed.stands.mine

  legs-there : (other : ℕ) → other ≢ job → leg_of after other ≡ leg_of desk.office other
  legs-there other apart =
      ap (λ (o : Option RunRow). find (λ (leg : Leg). leg.number == other) (option_map_or (λ row. with_leg (leg_by desk.office row row.earlier) desk.office.legs) o desk.office.legs)) row-on.renewed.stands.mine
      ∙ leg_there (leg_by desk.office next next.earlier) other desk.office.legs (differs (leg_by desk.office next next.earlier).number (λ e. apart (sym e ∙ leg-number desk.office next next.earlier ∙ next_number)))
    where
      differs : (number : ℕ) → number ≢ other → (number == other) ≡ false
      differs number apart = bool-cases (number == other) (λ same. absurd (apart (equal-true number other same))) (λ isnt. isnt)

  waited : (one : RunRow) → run_of desk.office.tables job ≡ Some one → one.state ≡ On → ⊥
  waited one there on = queued-off one.state (ap (λ (r : RunRow). state_number r.state == 1) (some-one one its.row (run_of desk.office.tables job) there its.row_at) ∙ its.queued) on

  stay : (run : ℕ) (row : RunRow) → run_of desk.office.tables run ≡ Some row → row.state ≡ On → Stays desk.office after run
  stay run row at on =
      number-cases run job
      (λ same. absurd (waited row (ap (run_of desk.office.tables) (sym same) ∙ at) on))
      (λ apart. record { row = row-on.renewed.stands.others run apart; leg = legs-there run apart })

-- at the start of its step
module _ (desk : DeskModel) (is : IsDesk desk) (job initiator before step : ℕ) (comes : Comes desk (SelectedEvent job initiator (suc before) step None)) where
  pub start-stands : (own : Leg) × StandsAt (office_after (SelectedEvent job initiator (suc before) step None, None) desk.office) job own (Opened step) (its desk is job initiator before step None comes).point.count
  start-stands =
      let continues : MayContinue desk.layout desk.office.tables job initiator (suc before) step None = its desk is job initiator before step None comes in
      continued-at-start desk.layout desk.office (desk-kept desk is) job initiator before step None continues.other continues.point comes continues.other_at continues.at_point

  pub start-goes : GoesOnBy desk (SelectedEvent job initiator (suc before) step None)
  start-goes =
      let stands = start-stands.1 in
      let all : HasRows _ = rows desk is job initiator before step None comes in
      let row : HasRow stands.row = has-row _ all job stands.row stands.holder.row_at in
      record {
        comes = comes;
        kept =
            entered desk is (office_after (SelectedEvent job initiator (suc before) step None, None) desk.office) job stands.row
            (record {
              mine = stands.holder.row_at;
              others = (row-on desk is job initiator before step None comes).renewed.stands.others;
              legs = legs-there desk is job initiator before step None comes;
              waits = waited desk is job initiator before step None comes;
              kept = kept desk is job initiator before step None comes;
              in_state = row.in_state;
              admitted = row.admitted;
              rests =
                  ap (λ (o : Option Place). is_in_state On stands.row && is_within (option_map_or (λ (place : Place). place) o (Before 1))) stands.stands
                  ∙ and-false (is_in_state On stands.row);
              stepped = row.stepped;
              spaced = all.spaced;
              spaced_legs = all.spaced_legs;
            });
      }

-- at a checkpoint
module _ (desk : DeskModel) (is : IsDesk desk) (job initiator before step : ℕ) (id : Name) (comes : Comes desk (SelectedEvent job initiator (suc before) step (Some id)))
    (entry : KeptEntry) (found : kept_at desk.office.tables.sets (syschk_name (its desk is job initiator before step (Some id) comes).row.deck) id ≡ Some entry) where
  abbrev then : Office
  then = office_after (SelectedEvent job initiator (suc before) step (Some id), None) desk.office

  abbrev its_going : DeskModel
  its_going = record (behind (SelectedEvent job initiator (suc before) step (Some id)) None desk) { running = at_entry job entry.point ∷ without_run job desk.running }

  pub entry-stands : (own : Leg) × StandsAt then job own (Within step entry.point.writes) entry.point.count
      × ((start : StepStart) → start_at own.job own.start step ≡ Some start → carries_taken entry.point.taken entry.point.writes start ≡ true)
  entry-stands = continued-from-entry desk.layout desk.office (desk-kept desk is) job initiator before step id None (its desk is job initiator before step (Some id) comes) entry found

  abbrev own : Leg
  own = entry-stands.0

  stands : StandsAt then job own (Within step entry.point.writes) entry.point.count
  stands = entry-stands.1

  all : HasRows then
  all = rows desk is job initiator before step (Some id) comes

  on : stands.row.state ≡ On
  on =
      let renewed : IsRenewedOn desk.office.tables then.tables job (its desk is job initiator before step (Some id) comes).other step = row-on desk is job initiator before step (Some id) comes in
      ap (λ (r : RunRow). r.state) (some-one stands.row renewed.renewed.next (run_of then.tables job) stands.holder.row_at renewed.renewed.stands.mine) ∙ renewed.on

  place-is : place_of stands.row ≡ Within step entry.point.writes
  place-is = ap (λ (o : Option Place). option_map_or (λ (place : Place). place) o (Before 1)) stands.stands

  runs : is_running stands.row ≡ true
  runs = ap (λ (s : RunState). (state_number s == 2) && is_within (place_of stands.row)) on ∙ ap is_within place-is

  numbered : stands.row.number ≡ job
  numbered = (kept desk is job initiator before step (Some id) comes).kept.events.numbered job stands.row stands.holder.row_at

  -- its step goes on from the entry
  pub entry-going : IsGoing then (at_entry job entry.point)
  entry-going =
      let row : HasRow stands.row = has-row then all job stands.row stands.holder.row_at in
      let place = (kept desk is job initiator before step (Some id) comes).kept.events.places job stands.row own stands.holder in
      is_some-true (own_step stands.row) (step-there stands.row row.stepped runs)
      (λ owned own_found.
      let start : StepStart = its_start own owned step in
      let here : step_at own.job step ≡ Some owned = ap (λ job. step_at job step) place.job ∙ ap (step_at stands.row.job) (sym (ap step_in place-is)) ∙ own_found in
      let starts : start_at own.job own.start step ≡ Some start = start_at-of own.job own.start step owned here in
      let way : IsUnderWay stands.row start entry.point.writes = subst (IsWithinStep stands.row own) place-is place.within start starts in
      let opened : IsOpen start (at_entry 0 entry.point).progress = open-so start entry.point (entry-stands.2 start starts) in
      record {
        row = stands.row;
        row_at = stands.holder.row_at;
        on = on;
        number = step;
        committed = entry.point.writes;
        place = stands.stands;
        start = start;
        start_at =
            ap (λ (o : Option Leg). option_map_or (λ (leg : Leg). start_at leg.job leg.start (step_in (place_of stands.row))) o None) (ap (leg_of then) numbered ∙ stands.holder.leg_at)
            ∙ ap (λ place. start_at own.job own.start (step_in place)) place-is ∙ starts;
        fit = way.done;
        behind = omega arith;
        plain = nothing-between start entry.point.writes;
        come = record { taken = opened.taken; writes = opened.writes };
      })

  accounted-so : (other : RunRow) → other.number ≢ job → is_accounted desk other ≡ true → is_accounted its_going other ≡ true
  accounted-so other apart was = by (not (is_running other)) (job == other.number) _ _ _ (running-same job desk.running other.number apart) was
    where
      by : (rests here old new failed : Bool) → old ≡ new → (rests || (old || failed)) ≡ true → (rests || ((here || new) || failed)) ≡ true
      by true here old new failed same was = refl
      by false true old new failed same was = refl
      by false false old new failed same was = ap (λ b. b || failed) (sym same) ∙ was

  abbrev aside : DeskModel
  aside = record desk { office = record then { legs = desk.office.legs } }

  changes : Changes desk.office aside.office job stands.row
  changes = record { mine = stands.holder.row_at; others = (row-on desk is job initiator before step (Some id) comes).renewed.stands.others; legs = refl }

  going-kept : IsDesk its_going
  going-kept =
      let on_kept : AreKept desk.layout then = kept desk is job initiator before step (Some id) comes in
      let stays = stay desk is job initiator before step (Some id) comes in
      record {
        kept = on_kept.kept;
        going = (entry-going, each-filter (IsGoing then) (λ (step : DeskStep). not (step.run == job)) desk.running (each-implies (IsGoing desk.office) (IsGoing then) desk.running (going-stays desk is then stays) is.going));
        failed = each-implies (IsFailed desk.office) (IsFailed then) desk.failed (failed-stays desk is then stays) is.failed;
        states = all.states;
        admitted = all.admitted;
        stepped = all.stepped;
        accounted = each_row desk aside is job stands.row changes (is_accounted desk) (is_accounted its_going)
            (or_right (not (is_running stands.row)) _
            (or_left (list_any (λ (step : DeskStep). step.run == stands.row.number) its_going.running) _
            (or_left (job == stands.row.number) _ (ap (λ n. job == n) numbered ∙ equal-itself job)))) is.accounted accounted-so;
        spaced = all.spaced;
        spaced_legs = all.spaced_legs;
        pointed = on_kept.pointed;
        ready = on_kept.ready;
        begun = on_kept.begun;
        written = on_kept.written;
      }

  -- the running steps behind it
  pub running-from : running_from desk.office.tables job id desk.running ≡ at_entry job entry.point ∷ without_run job desk.running
  running-from =
      ap (λ (o : Option KeptEntry). option_map_or (λ entry. at_entry job entry.point ∷ without_run job desk.running) o desk.running)
      (ap (λ (o : Option RunRow). option_map_or (λ row. kept_at desk.office.tables.sets (syschk_name row.deck) id) o None) (its desk is job initiator before step (Some id) comes).row_at ∙ found)

  pub entry-goes : GoesOnBy desk (SelectedEvent job initiator (suc before) step (Some id))
  entry-goes = record {
    comes = comes;
    kept =
        subst (λ running. IsDesk (record (behind (SelectedEvent job initiator (suc before) step (Some id)) None desk) { running = running }))
        (sym running-from) going-kept;
  }
