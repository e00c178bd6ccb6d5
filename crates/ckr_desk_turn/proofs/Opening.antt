-- A desk behind its opening, and a run that is running or was when the system failed.
use Rattle.std.proofs.Common.{◌≡◌, ℕ, zero, suc, Bool, true, false, cond, not, ◌&&◌, ◌||◌, List, [], ◌∷◌, filter, map, slice_get, refl, ap, sym, ◌∙◌, subst, Option, Some, None}
use Rattle.std.specs.Prelude.{◌==◌}
use Rattle.std.specs.List.{AllByRecursion, list_any}
use Rattle.std.specs.Option.{is_none, is_some, option_map_or}
use Rattle.std.proofs.lemmas.Bool.{false≢true, or_left, or_right}
use Rattle.std.proofs.lemmas.Option.{same_Some}
use Rattle.ckr_base.proofs.Bools.{and-first, and-second, bool-cases, or-cases}
use Rattle.ckr_base.proofs.Numbers.{equal-itself, equal-true}
use Rattle.ckr_base.proofs.Options.{option-cases, some-not-none}
use Rattle.ckr_base.proofs.Sequences.{all-get, each-get}
use Rattle.ckr_meaning.specs.EffectiveJob.{step_at}
use Rattle.ckr_meaning.specs.JobRun.{start_at}
use Rattle.ckr_meaning.specs.StepRun.{StepStart}
use Rattle.ckr_points.specs.declared.run.RunState.{RunState}
use Rattle.ckr_points.specs.declared.run.RunState.TheVariants.{Queued, On, Held, Released, Ended, Denied, Purged}
use Rattle.ckr_points.specs.Follows.{is_in_state, is_running, is_within, own_step, state_number}
use Rattle.ckr_points.specs.Payload.{writes_in}
use Rattle.ckr_points.specs.Office.{Leg, Office}
use Rattle.ckr_points.specs.Restart.{place_of, step_in}
use Rattle.ckr_points.specs.Rows.{RunRow, run_of}
use Rattle.ckr_points_invariant.proofs.Steps.Events.{led-by, on-holds, within-is}
use Rattle.ckr_points_invariant.proofs.Steps.Walks.{start_at-of}
use Rattle.ckr_points_invariant.specs.Invariant.{IsKept}
use Rattle.ckr_points_invariant.specs.RunningSteps.{its_start}
use Rattle.ckr_desk_turn.specs.declared.failed_run.FailedRun.{FailedRun}
use Rattle.ckr_desk_turn.specs.Desk.{DeskModel, DeskStep, opened, is_running as has_run}
use Rattle.ckr_desk_turn.specs.Plans.{is_within as is_planned}
use Rattle.ckr_volumes.specs.declared.layout.Layout.{Layout}
use Rattle.ckr_desk_turn.specs.NextEvents.{IsWithinStep}
use Rattle.ckr_desk_turn.specs.Invariant.{HasRuns, IsAdmitted, IsDesk, IsFailed, IsGoing, has_its_step, is_accounted, is_in_its_state, is_on_one}
use Rattle.ckr_desk_turn.proofs.OtherRuns.{all-by, some-holds, step-there}
use Rattle.ckr_desk_turn.proofs.RunningSteps.{going-within}
use Rattle.ckr_desk_turn.proofs.Start.Invariant.{planned-within}

-- ---- lists

filtered-every : {X Y : Type 0} (P : Y → Type 0) (f : X → Y) (test : X → Bool) (xs : List X) → ((place : ℕ) (x : X) → slice_get xs place ≡ Some x → test x ≡ true → P (f x)) → AllByRecursion P (map f (filter test xs))
filtered-every P f test [] each = tt
filtered-every P f test (x ∷ xs) each =
    let rest : AllByRecursion P (map f (filter test xs)) = filtered-every P f test xs (λ place x at. each (suc place) x at) in
    bool-cases (test x)
    (λ does. subst (λ b. AllByRecursion P (map f (cond b (x ∷ filter test xs) (filter test xs)))) (sym does) (each 0 x refl does, rest))
    (λ isnt. subst (λ b. AllByRecursion P (map f (cond b (x ∷ filter test xs) (filter test xs)))) (sym isnt) rest)

abbrev mark_of : RunRow → FailedRun
mark_of row = record { run = row.number; asked = false }

filtered-any : (test : RunRow → Bool) (xs : List RunRow) (place : ℕ) (x : RunRow) → slice_get xs place ≡ Some x → test x ≡ true → list_any (λ (one : FailedRun). one.run == x.number) (map mark_of (filter test xs)) ≡ true
filtered-any test [] place x at does = absurd (some-not-none x (sym at))
filtered-any test (first ∷ xs) zero x at does =
    let same : first ≡ x = same_Some first x at in
    ap (λ b. list_any (λ (one : FailedRun). one.run == x.number) (map mark_of (cond b (first ∷ filter test xs) (filter test xs)))) (ap test same ∙ does)
    ∙ or_left (first.number == x.number) _ (ap (λ (y : RunRow). y.number == x.number) same ∙ equal-itself x.number)
filtered-any test (first ∷ xs) (suc place) x at does =
    let rest : list_any (λ (one : FailedRun). one.run == x.number) (map mark_of (filter test xs)) ≡ true = filtered-any test xs place x at does in
    bool-cases (test first)
    (λ here. ap (λ b. list_any (λ (one : FailedRun). one.run == x.number) (map mark_of (cond b (first ∷ filter test xs) (filter test xs)))) here ∙ or_right (first.number == x.number) _ rest)
    (λ out. ap (λ b. list_any (λ (one : FailedRun). one.run == x.number) (map mark_of (cond b (first ∷ filter test xs) (filter test xs)))) out ∙ rest)

-- ---- a run that is running

pub on-is : (state : RunState) → (state_number state == 2) ≡ true → state ≡ On
on-is Queued e = absurd (false≢true e)
on-is On e = refl
on-is Held e = absurd (false≢true e)
on-is Released e = absurd (false≢true e)
on-is Ended e = absurd (false≢true e)
on-is Denied e = absurd (false≢true e)
on-is Purged e = absurd (false≢true e)

-- it stands where its job comes to, whether its step goes on or failed
pub running-stands : {A : Type 0} (desk : DeskModel) → IsDesk desk → (row : RunRow) → run_of desk.office.tables row.number ≡ Some row → is_accounted desk row ≡ true → is_running row ≡ true → ((number committed : ℕ) (start : StepStart) → IsWithinStep desk.office row.number row number committed start → A) → A
running-stands {A = A} desk is row at accounted runs use_it =
    let some : (list_any (λ (step : DeskStep). step.run == row.number) desk.running || list_any (λ (one : FailedRun). one.run == row.number) desk.failed) ≡ true =
    sym (ap (λ b. not b || (list_any (λ (step : DeskStep). step.run == row.number) desk.running || list_any (λ (one : FailedRun). one.run == row.number) desk.failed)) runs) ∙ accounted in
    or-cases _ _ some
    (λ running.
    some-holds (IsGoing desk.office) (λ step. step.run == row.number) desk.running is.going running
    (λ on going same. stands (record { run = on.run; asked = false }) (record { row = going.row; number = going.number; committed = going.committed; start = going.start; within = going-within desk.office on going }) (equal-true on.run row.number same)))
    (λ failed.
    some-holds (IsFailed desk.office) (λ (one : FailedRun). one.run == row.number) desk.failed is.failed failed
    (λ one its same. stands one its (equal-true one.run row.number same)))
  where
    stands : (one : FailedRun) → IsFailed desk.office one → one.run ≡ row.number → A
    stands one failed same =
        let mine : failed.row ≡ row = same_Some _ _ (sym failed.within.row_at ∙ ap (run_of desk.office.tables) same ∙ at) in
        use_it failed.number failed.committed failed.start
        (subst (λ r. IsWithinStep desk.office row.number r failed.number failed.committed failed.start) mine
        (subst (λ n. IsWithinStep desk.office n failed.row failed.number failed.committed failed.start) same failed.within))

-- so a desk has its runs
pub has-runs : (desk : DeskModel) → IsDesk desk → HasRuns desk.office
has-runs desk is = record {
  states = is.states;
  admitted = is.admitted;
  stepped = is.stepped;
  spaced = is.spaced;
  spaced_legs = is.spaced_legs;
  pointed = is.pointed;
  ready = is.ready;
  begun = is.begun;
  written = is.written;
}

-- ---- the opening

on_one : (state : RunState) → is_on_one state ≡ (state_number state == 2)
on_one Queued = refl
on_one _ = refl

lodged-on : (initiator : Option ℕ) (on : Bool) → (is_none initiator || on) ≡ true → (not on || is_some initiator) ≡ true → is_some initiator ≡ on
lodged-on None true one other = absurd (false≢true other)
lodged-on None false one other = refl
lodged-on (Some initiator) true one other = refl
lodged-on (Some initiator) false one other = absurd (false≢true one)

-- a run has an initiator where it is on one
has-run : (row : RunRow) → is_in_its_state row ≡ true → IsAdmitted row → has_run row ≡ is_running row
has-run row state admitted =
    ap (λ b. b && is_planned (place_of row))
    (lodged-on row.initiator (is_on_one row.state) (and-first (is_none row.initiator || is_on_one row.state) _ state) admitted.lodged ∙ on_one row.state)
    ∙ ap (λ b. is_in_state On row && b) (planned-within (place_of row))

module _ (layout : Layout) (office : Office) (kept : IsKept layout office) (has : HasRuns office) where
  failed-so : (place : ℕ) (row : RunRow) → slice_get office.tables.runs place ≡ Some row → is_running row ≡ true → IsFailed office (mark_of row)
  failed-so place row at runs =
      let its : run_of office.tables row.number ≡ Some row = ap (run_of office.tables) (kept.events.numbered (suc place) row at) ∙ at in
      let on : (state_number row.state == 2) ≡ true = and-first (is_in_state On row) (is_within (place_of row)) runs in
      led-by layout office row.number row kept.events its (on-holds row.state on)
      (λ leg holder.
      option-cases (own_step row)
      (λ none. absurd (false≢true (sym (ap is_some none) ∙ step-there row (all-get has_its_step office.tables.runs place row has.stepped at) runs)))
      (λ owned found. record {
        row = row;
        number = step_in (place_of row);
        committed = writes_in (place_of row);
        start = its_start leg owned (step_in (place_of row));
        within = record {
          row_at = its;
          on = on-is row.state on;
          place = within-is (place_of row) (and-second (is_in_state On row) (is_within (place_of row)) runs);
          start_at =
              ap (λ (o : Option Leg). option_map_or (λ leg. start_at leg.job leg.start (step_in (place_of row))) o None) holder.leg_at
              ∙ start_at-of leg.job leg.start (step_in (place_of row)) owned (ap (λ job. step_at job (step_in (place_of row))) (kept.events.places row.number row leg holder).job ∙ found);
        };
      }))

  ran : (place : ℕ) (row : RunRow) → slice_get office.tables.runs place ≡ Some row → has_run row ≡ is_running row
  ran place row at = has-run row (all-get is_in_its_state office.tables.runs place row has.states at) (each-get IsAdmitted office.tables.runs place row has.admitted at)

  pub opened-is : IsDesk (opened layout office)
  opened-is = record {
    kept = kept;
    going = tt;
    failed = filtered-every (IsFailed office) mark_of has_run office.tables.runs (λ place row at runs. failed-so place row at (sym (ran place row at) ∙ runs));
    states = has.states;
    admitted = has.admitted;
    stepped = has.stepped;
    accounted = all-by (is_accounted (opened layout office)) office.tables.runs accounted;
    spaced = has.spaced;
    spaced_legs = has.spaced_legs;
    pointed = has.pointed;
    ready = has.ready;
    begun = has.begun;
    written = has.written;
  }
    where
      accounted : (place : ℕ) (row : RunRow) → slice_get office.tables.runs place ≡ Some row → is_accounted (opened layout office) row ≡ true
      accounted place row at =
          bool-cases (is_running row)
          (λ runs. or_right (not (is_running row)) _ (filtered-any has_run office.tables.runs place row at (ran place row at ∙ runs)))
          (λ isnt. or_left (not (is_running row)) _ (ap not isnt))
