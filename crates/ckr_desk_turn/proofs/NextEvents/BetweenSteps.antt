-- The events of turns between steps, and of the other calls, may come.
use Rattle.std.proofs.Common.{◌≡◌, ◌≤◌, ℕ, suc, Bool, true, false, ◌&&◌, ◌||◌, not, nat_le, nat_eq, ◌==◌, List, [], ◌∷◌, refl, ap, sym, ◌∙◌, subst, cond, Option, None, Some, arith, slice_get, find, length}
use Rattle.std.specs.Option.{option_map_or, option_eq, is_none}
use Rattle.std.specs.List.{list_all}
use Rattle.std.proofs.lemmas.Bool.{and_from}
use Rattle.std.proofs.lemmas.Bool.{false≢true}
use Rattle.std.proofs.lemmas.Bool.Decides.{nat_tests}
use Rattle.ckr_base.proofs.Bools.{bool-cases}
use Rattle.ckr_base.proofs.Numbers.{equal-itself}
use Rattle.ckr_base.proofs.Options.{some-not-none}
use Rattle.ckr_base.proofs.Sequences.{find-all, find-passes}
use Rattle.ckr_events.specs.declared.event.Event.TheVariants.{Submitted as SubmittedEvent, Selected as SelectedEvent, Ended as EndedEvent, Purged as PurgedEvent, Released as ReleasedEvent}
use Rattle.ckr_events.specs.declared.event.Ending.TheVariants.{Completed, Allocation}
use Rattle.ckr_jcl.specs.declared.deck.Job.{Job}
use Rattle.ckr_meaning.specs.EffectiveJob.{OwnedStep}
use Rattle.ckr_volumes.specs.declared.layout.Layout.{Layout}
use Rattle.ckr_points.specs.declared.run.RunState.{RunState}
use Rattle.ckr_points.specs.declared.run.RunState.TheVariants.{Queued, On, Held, Released, Ended, Denied, Purged}
use Rattle.ckr_points.specs.Follows.{ended_follows, follows, is_free, is_in_state, is_within, may_hold, may_restart, own_step, selected_follows, state_number}
use Rattle.ckr_points.specs.Office.{Office}
use Rattle.ckr_points.specs.Restart.{place_of}
use Rattle.ckr_points.specs.Rows.{RunRow, TablesModel, run_of}
use Rattle.ckr_points.specs.Soundness.{ending_names_first, may_come}
use Rattle.ckr_points_invariant.specs.Invariant.{IsKept}
use Rattle.ckr_desk_turn.specs.Select.{is_on, may_select, next_run, run_on_initiator}
use Rattle.ckr_desk_turn.specs.Desk.{DeskModel}
use Rattle.ckr_desk_turn.specs.Invariant.{IsDesk, is_in_its_state, is_on_one}
use Rattle.ckr_desk_turn.proofs.OtherRuns.{state-lodged}

-- ---- runs that are found

record FoundAt (rows : List RunRow) (row : RunRow) : Type 0 where
  place : ℕ
  at : slice_get rows place ≡ Some row

found_at : (test : RunRow → Bool) (rows : List RunRow) (row : RunRow) → find test rows ≡ Some row → FoundAt rows row
found_at test [] row found = cc
found_at test (first ∷ rows) row found =
    bool-cases (test first)
    (λ does. record { place = 0; at = sym (ap (λ b. cond b (Some first) (find test rows)) does) ∙ found })
    (λ isnt. let rest = found_at test rows row (sym (ap (λ b. cond b (Some first) (find test rows)) isnt) ∙ found) in record { place = suc rest.place; at = rest.at })

-- a run that is found has its row under its number
pub row_of_found : (layout : Layout) (office : Office) (test : RunRow → Bool) (row : RunRow) → IsKept layout office → find test office.tables.runs ≡ Some row → run_of office.tables row.number ≡ Some row
row_of_found layout office test row kept found =
    let at = found_at test office.tables.runs row found in
    subst (λ n. run_of office.tables n ≡ Some row) (sym (kept.events.numbered (suc at.place) row at.at)) at.at

pub state_found : (desk : DeskModel) (test : RunRow → Bool) (row : RunRow) → IsDesk desk → find test desk.office.tables.runs ≡ Some row → is_in_its_state row ≡ true
state_found desk test row is found = find-all is_in_its_state test desk.office.tables.runs row is.states found

-- ---- a run is selected

turned_number : (i other : ℕ) → nat_eq other i ≡ (i == other)
turned_number i other = grind (arith, nat_tests)

not_on : (i : ℕ) (row : RunRow) → is_on i row.initiator ≡ false → not (option_eq nat_eq row.initiator (Some i)) ≡ true
not_on i row off = elim row.initiator as (λ o. is_on i o ≡ false → not (option_eq nat_eq o (Some i)) ≡ true) [
  | None ↦ λ e. refl
  | Some other ↦ λ e. ap not (turned_number i other ∙ e)
] off

-- an initiator that no run is on is free
free_initiator : (i : ℕ) (rows : List RunRow) → find (λ row. is_on i row.initiator) rows ≡ None → list_all (λ row. not (option_eq nat_eq row.initiator (Some i))) rows ≡ true
free_initiator i [] none = refl
free_initiator i (first ∷ rows) none =
    elim (is_on i first.initiator) as (λ b. is_on i first.initiator ≡ b → cond b (Some first) (find (λ row. is_on i row.initiator) rows) ≡ None → list_all (λ row. not (option_eq nat_eq row.initiator (Some i))) (first ∷ rows) ≡ true) [
      | true ↦ λ on some. absurd (some-not-none first some)
      | false ↦ λ off rest. and_from _ _ (not_on i first off) (free_initiator i rows rest)
    ] refl none

pub free-there : (layout : Layout) (tables : TablesModel) (i : ℕ) → 1 ≤ i → i ≤ layout.initiators → run_on_initiator tables i ≡ None → is_free layout tables i ≡ true
free-there layout tables i above below free = and_from _ _ (and_from _ _ within below_most) (free_initiator i tables.runs free)
  where
    within : nat_le 1 i ≡ true
    within = grind (arith, nat_tests, above)

    below_most : nat_le i layout.initiators ≡ true
    below_most = grind (arith, nat_tests, below)

-- a queued run that comes next: its uses don't hold against those of a selected one
pub next_waits : (tables : TablesModel) (row : RunRow) → may_select tables row.state row ≡ true → row.state ≡ Queued → may_hold tables row ≡ true
next_waits tables row may queued = ap (λ s. may_select tables s row) (sym queued) ∙ may

-- a run that comes next is queued, or was released
pub next_cases : {A : Type 0} (tables : TablesModel) (row : RunRow) → next_run tables ≡ Some row → (row.state ≡ Queued → A) → (row.state ≡ Released → A) → A
next_cases {A = A} tables row next queued released =
    by row.state refl (find-passes (λ other. may_select tables other.state other) tables.runs row next)
  where
    by : (state : RunState) → row.state ≡ state → may_select tables state row ≡ true → A
    by Queued its may = queued its
    by On its may = absurd (false≢true may)
    by Held its may = absurd (false≢true may)
    by Released its may = released its
    by Ended its may = absurd (false≢true may)
    by Denied its may = absurd (false≢true may)
    by Purged its may = absurd (false≢true may)

-- a run that comes next to an initiator that no run is on
pub selected-follows : (layout : Layout) (tables : TablesModel) (i : ℕ) (row : RunRow) → run_of tables row.number ≡ Some row → row.state ≡ Queued → row.deck.restart ≡ None → 1 ≤ i → i ≤ layout.initiators → run_on_initiator tables i ≡ None → next_run tables ≡ Some row
    → follows layout tables (SelectedEvent row.number i 0 0 None) None ≡ true
selected-follows layout tables i row at waits none above below free next =
    ap (λ o. option_map_or (selected_follows layout tables i 0 0 None) o false) at
    ∙ and_from _ _ (and_from _ _ (and_from _ _ queued is_there) held) alone
  where
    held : may_hold tables row ≡ true
    held = next_waits tables row (find-passes (λ other. may_select tables other.state other) tables.runs row next) waits

    queued : is_in_state Queued row ≡ true
    queued = ap (λ s. state_number s == state_number Queued) waits

    is_there : is_free layout tables i ≡ true
    is_there = free-there layout tables i above below free

    alone : option_map_or (λ restart. may_restart tables row restart 0 0 None) row.deck.restart true ≡ true
    alone = ap (λ r. option_map_or (λ restart. may_restart tables row restart 0 0 None) r true) none

pub selected_comes : (desk : DeskModel) (i : ℕ) (row : RunRow) → IsDesk desk → 1 ≤ i → i ≤ desk.layout.initiators → run_on_initiator desk.office.tables i ≡ None → next_run desk.office.tables ≡ Some row → row.state ≡ Queued → row.deck.restart ≡ None
    → may_come desk.layout desk.office (SelectedEvent row.number i 0 0 None, None) ≡ true
selected_comes desk i row is above below free next waits none =
    let selects : RunRow → Bool = λ other. may_select desk.office.tables other.state other in
    and_from _ _ (selected-follows desk.layout desk.office.tables i row (row_of_found desk.layout desk.office selects row is.kept next) waits none above below free next) refl

-- ---- a run that is on an initiator

on_it : (state : RunState) → is_on_one state ≡ true → state ≡ On
on_it Queued e = absurd (false≢true e)
on_it On e = refl
on_it Held e = absurd (false≢true e)
on_it Released e = absurd (false≢true e)
on_it Ended e = absurd (false≢true e)
on_it Denied e = absurd (false≢true e)
on_it Purged e = absurd (false≢true e)

placed_on : (i : ℕ) (o : Option ℕ) (on : Bool) → is_on i o ≡ true → (is_none o || on) ≡ true → on ≡ true
placed_on i None on is either = absurd (false≢true is)
placed_on i (Some other) on is either = either

-- a run that has an initiator only where it is on it
pub lodged-on : (i : ℕ) (row : RunRow) → is_on i row.initiator ≡ true → (is_none row.initiator || is_on_one row.state) ≡ true → row.state ≡ On
lodged-on i row is lodged = on_it row.state (placed_on i row.initiator (is_on_one row.state) is lodged)

-- the run on an initiator is in that state
pub state_on : (desk : DeskModel) (i : ℕ) (row : RunRow) → IsDesk desk → run_on_initiator desk.office.tables i ≡ Some row → row.state ≡ On
state_on desk i row is found =
    let here = λ (other : RunRow). is_on i other.initiator in
    lodged-on i row (find-passes here desk.office.tables.runs row found) (state-lodged row (state_found desk here row is found))

-- a run ends behind its last step
pub completed-follows : (layout : Layout) (tables : TablesModel) (row : RunRow) → run_of tables row.number ≡ Some row → row.state ≡ On → is_within (place_of row) ≡ false → own_step row ≡ None → follows layout tables (EndedEvent row.number Completed) None ≡ true
completed-follows layout tables row at on between none =
    ap (λ o. option_map_or (λ row. ended_follows tables row Completed) o false) at
    ∙ and_from _ _ (and_from _ _ (ap (λ s. state_number s == state_number On) on) (ap not between)) (ap is_none none)

pub completed_comes : (desk : DeskModel) (i : ℕ) (row : RunRow) → IsDesk desk → run_on_initiator desk.office.tables i ≡ Some row → is_within (place_of row) ≡ false → own_step row ≡ None
    → may_come desk.layout desk.office (EndedEvent row.number Completed, None) ≡ true
completed_comes desk i row is found between none =
    let at : run_of desk.office.tables row.number ≡ Some row = row_of_found desk.layout desk.office (λ other. is_on i other.initiator) row is.kept found in
    and_from _ _
    (completed-follows desk.layout desk.office.tables row at (state_on desk i row is found) between none)
    (ap (λ o. option_map_or (λ row. ending_names_first desk.layout row Completed) o false) at)

-- a run ends since a DD of its next step isn't allocated
pub refused-follows : (layout : Layout) (tables : TablesModel) (row : RunRow) (owned : OwnedStep) (dd cause first second : ℕ) → run_of tables row.number ≡ Some row → row.state ≡ On → own_step row ≡ Some owned → 1 ≤ dd → dd ≤ length owned.step.dds
    → follows layout tables (EndedEvent row.number (Allocation dd cause first second)) None ≡ true
refused-follows layout tables row owned dd cause first second at on there above below =
    ap (λ o. option_map_or (λ row. ended_follows tables row (Allocation dd cause first second)) o false) at
    ∙ and_from _ _ (ap (λ s. state_number s == state_number On) on)
    (ap (λ o. option_map_or (λ owned. nat_le 1 dd && nat_le dd (length owned.step.dds)) o false) there ∙ and_from _ _ one most)
  where
    one : nat_le 1 dd ≡ true
    one = grind (arith, nat_tests, above)

    most : nat_le dd (length owned.step.dds) ≡ true
    most = grind (arith, nat_tests, below)

pub refused_comes : (desk : DeskModel) (i : ℕ) (row : RunRow) (owned : OwnedStep) (dd cause first second : ℕ) → IsDesk desk → run_on_initiator desk.office.tables i ≡ Some row → own_step row ≡ Some owned
    → 1 ≤ dd → dd ≤ length owned.step.dds → may_come desk.layout desk.office (EndedEvent row.number (Allocation dd cause first second), None) ≡ true
refused_comes desk i row owned dd cause first second is found there above below =
    let at : run_of desk.office.tables row.number ≡ Some row = row_of_found desk.layout desk.office (λ other. is_on i other.initiator) row is.kept found in
    and_from _ _
    (refused-follows desk.layout desk.office.tables row owned dd cause first second at (state_on desk i row is found) there above below)
    (ap (λ o. option_map_or (λ row. ending_names_first desk.layout row (Allocation dd cause first second)) o false) at)

-- ---- the other calls

pub purged_comes : (desk : DeskModel) (job : ℕ) (row : RunRow) → run_of desk.office.tables job ≡ Some row → row.state ≡ Queued → may_come desk.layout desk.office (PurgedEvent job, None) ≡ true
purged_comes desk job row at queued =
    and_from _ _ (ap (λ o. option_map_or (is_in_state Queued) o false) at ∙ ap (λ s. state_number s == state_number Queued) queued) refl

pub released_comes : (desk : DeskModel) (job : ℕ) (row : RunRow) → run_of desk.office.tables job ≡ Some row → row.state ≡ Held → may_come desk.layout desk.office (ReleasedEvent job, None) ≡ true
released_comes desk job row at held =
    and_from _ _ (ap (λ o. option_map_or (is_in_state Held) o false) at ∙ ap (λ s. state_number s == state_number Held) held) refl

-- a deck of at least one card, with the next number
pub submitted_comes : (desk : DeskModel) (first : ℕ) (cards : List ℕ) (deck : Job) → may_come desk.layout desk.office (SubmittedEvent (suc (length desk.office.tables.runs)) (first ∷ cards), Some deck) ≡ true
submitted_comes desk first cards deck = and_from _ _ (and_from _ _ (and_from _ _ (equal-itself (suc (length desk.office.tables.runs))) refl) refl) refl
