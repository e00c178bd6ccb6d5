-- A desk whose run is submitted, selected, purged or released: the runs on initiators are as they were.
use Rattle.std.proofs.Common.{◌≡◌, ◌≢◌, ◌≤◌, ◌*◌, ◌/◌, ℕ, zero, suc, true, false, not, List, [], ◌∷◌, length, refl, ap, sym, ◌∙◌, Option, Some, None, Ok, arith}
use Rattle.std.specs.Prelude.{◌==◌, Bool, if◌then◌else◌, ◌&&◌, ◌||◌}
use Rattle.std.specs.List.{AllByRecursion}
use Rattle.std.specs.Option.{option_map_or, is_none, is_some}
use Rattle.std.proofs.lemmas.Bool.{false≢true}
use Rattle.std.proofs.lemmas.Option.{same_Some, slice_get_past}
use Rattle.ckr_base.specs.declared.code.Code.{Code}
use Rattle.ckr_base.proofs.Bools.{and-second}
use Rattle.ckr_base.proofs.Numbers.{number-cases}
use Rattle.ckr_base.proofs.Options.{some-not-none}
use Rattle.ckr_base.proofs.Sequences.{each-implies, get-append-last, get-append-front}
use Rattle.ckr_events.specs.declared.event.Event.TheVariants.{Purged as PurgedEvent, Released as ReleasedEvent, Selected as SelectedEvent, Submitted as SubmittedEvent}
use Rattle.ckr_jcl.specs.declared.deck.Job.{Job}
use Rattle.ckr_jcl_decks.specs.Deck.{stored_deck}
use Rattle.ckr_meaning.specs.LibrarySet.{AreWithinSpace}
use Rattle.ckr_meaning.specs.declared.place.Place.TheVariants.{Before}
use Rattle.ckr_meaning.specs.JobRun.{start_at}
use Rattle.ckr_desk_turn.proofs.Decks.OrderlyDecks.{deck-orderly}
use Rattle.ckr_desk_turn.proofs.Decks.KeptCards.{kept_long}
use Rattle.ckr_desk_turn.specs.Cards.{kept_of_stored}
use Rattle.ckr_points.specs.declared.run.RunState.{RunState}
use Rattle.ckr_points.specs.declared.run.RunState.TheVariants.{Held as HeldRun, On, Queued, Purged, Released as ReleasedRun}
use Rattle.ckr_points.specs.Tables.{after_submitted, queued_run}
use Rattle.ckr_points.specs.Events.{IsNext}
use Rattle.ckr_points.specs.Follows.{is_running, is_within, own_step, state_number}
use Rattle.ckr_points.specs.Office.{Leg, Office, leg_of, office_after}
use Rattle.ckr_points.specs.Restart.{place_of, step_in}
use Rattle.ckr_points.specs.Rows.{RunRow, run_of, with_run}
use Rattle.ckr_points.specs.Soundness.{may_come}
use Rattle.ckr_points_invariant.proofs.Select.Invariant.{chosen, led_there}
use Rattle.ckr_points_invariant.proofs.WaitingRuns.{by-selected}
use Rattle.ckr_points_invariant.proofs.Holders.Rows.{queued-is, run-other, run-same}
use Rattle.ckr_points_invariant.proofs.KeptEvents.{next-kept}
use Rattle.ckr_desk_turn.proofs.Readiness.{desk-kept}
use Rattle.ckr_points_invariant.proofs.Select.Holders.{all_legs}
use Rattle.ckr_desk_turn.specs.declared.failed_run.FailedRun.{FailedRun}
use Rattle.ckr_desk_turn.specs.Desk.{DeskModel, DeskStep, behind, submitted as submitted_desk, purged as purged_desk, released as released_desk}
use Rattle.ckr_desk_turn.specs.Invariant.{IsAdmitted, IsDesk, IsFailed, IsGoing, has_its_step, is_in_its_state, is_off, is_on_one}
use Rattle.ckr_desk_turn.proofs.AdmittedSteps.{queued-admitted}
use Rattle.ckr_desk_turn.proofs.NextEvents.BetweenSteps.{purged_comes, released_comes, submitted_comes}
use Rattle.ckr_desk_turn.proofs.OtherRuns.{Changes, accounted-then, admitted-then, failed-still, going-still, states-then, row-admitted, row-in-state, row-stepped, stepped-then}
use Rattle.ckr_desk_turn.proofs.Readiness.{kept-on}
use Rattle.ckr_points_invariant.specs.KeptEvents.{AreKept}
use Rattle.ckr_points.specs.Payload.{start_in_office}

-- ---- the runs on initiators

-- the row and the leg of a run are as they were
pub record Stays (office after : Office) (run : ℕ) : Type 0 where
  pub row : run_of after.tables run ≡ run_of office.tables run
  pub leg : leg_of after run ≡ leg_of office run

module _ (desk : DeskModel) (is : IsDesk desk) (after : Office) (stay : (run : ℕ) (row : RunRow) → run_of desk.office.tables run ≡ Some row → row.state ≡ On → Stays desk.office after run) where
  start-stays : (run : ℕ) (row : RunRow) → run_of desk.office.tables run ≡ Some row → row.state ≡ On → start_in_office after row ≡ start_in_office desk.office row
  start-stays run row at on =
      let its : row.number ≡ run = is.kept.events.numbered run row at in
      ap (λ (o : Option Leg). option_map_or (λ leg. start_at leg.job leg.start (step_in (place_of row))) o None)
      (ap (leg_of after) its ∙ (stay run row at on).leg ∙ ap (leg_of desk.office) (sym its))

  pub going-stays : (on : DeskStep) → IsGoing desk.office on → IsGoing after on
  going-stays on going = going-still desk.office after on going (stay on.run going.row going.row_at going.on).row (start-stays on.run going.row going.row_at going.on)

  pub failed-stays : (one : FailedRun) → IsFailed desk.office one → IsFailed after one
  failed-stays one failed = failed-still desk.office after one failed (stay one.run failed.row failed.within.row_at failed.within.on).row (start-stays one.run failed.row failed.within.row_at failed.within.on)

-- ---- one run that isn't on an initiator changes

-- the row of a run that wasn't on an initiator is a new one, and the others are as they were
pub record Enters (desk : DeskModel) (after : Office) (job : ℕ) (next : RunRow) : Type 0 where
  pub mine : run_of after.tables job ≡ Some next
  pub others : (other : ℕ) → other ≢ job → run_of after.tables other ≡ run_of desk.office.tables other
  pub legs : (other : ℕ) → other ≢ job → leg_of after other ≡ leg_of desk.office other
  pub waits : (row : RunRow) → run_of desk.office.tables job ≡ Some row → row.state ≡ On → ⊥
  pub kept : AreKept desk.layout after
  pub in_state : is_in_its_state next ≡ true
  pub admitted : IsAdmitted next
  pub rests : is_running next ≡ false
  pub stepped : has_its_step next ≡ true
  pub spaced : AreWithinSpace after.library
  pub spaced_legs : AllByRecursion (λ (leg : Leg). AreWithinSpace leg.start) after.legs

-- the desk with it is as its events have brought it about
pub entered : (desk : DeskModel) → IsDesk desk → (after : Office) (job : ℕ) (next : RunRow) → Enters desk after job next → IsDesk (record desk { office = after })
entered desk is after job next enters = record {
  kept = enters.kept.kept;
  going = each-implies (IsGoing desk.office) (IsGoing after) desk.running (going-stays desk is after stay) is.going;
  failed = each-implies (IsFailed desk.office) (IsFailed after) desk.failed (failed-stays desk is after stay) is.failed;
  states = states-then desk later is job next changes enters.in_state;
  admitted = admitted-then desk later is job next changes enters.admitted;
  stepped = stepped-then desk later is job next changes enters.stepped;
  accounted = accounted-then desk later is job next changes enters.rests (λ number apart. refl) (λ number apart. refl);
  spaced = enters.spaced;
  spaced_legs = enters.spaced_legs;
  pointed = enters.kept.pointed;
  ready = enters.kept.ready;
  begun = enters.kept.begun;
  written = enters.kept.written;
}
  where
    stay : (run : ℕ) (row : RunRow) → run_of desk.office.tables run ≡ Some row → row.state ≡ On → Stays desk.office after run
    stay run row at on =
        number-cases run job
        (λ same. absurd (enters.waits row (ap (run_of desk.office.tables) (sym same) ∙ at) on))
        (λ apart. record { row = enters.others run apart; leg = enters.legs run apart })

    later : DeskModel
    later = record desk { office = record after { legs = desk.office.legs } }

    changes : Changes desk.office later.office job next
    changes = record { mine = enters.mine; others = enters.others; legs = refl }

-- whether a run of a state has the code that it has
abbrev pub code_while : RunState → Option Code → Bool
code_while state code = if is_off state then is_some code else is_none code

-- a queued run that comes to an initiator
pub queued-on : (row : RunRow) → row.state ≡ Queued → is_in_its_state row ≡ true → is_none row.code ≡ true
queued-on row queued state =
    and-second (is_none row.initiator || is_on_one Queued) (is_none row.code) (ap (λ s. (is_none row.initiator || is_on_one s) && code_while s row.code) (sym queued) ∙ state)

pub queued-off : (state : RunState) → (state_number state == 1) ≡ true → state ≡ On → ⊥
queued-off state queued on = false≢true (ap (λ (s : RunState). state_number s == 1) (sym on) ∙ queued)

-- ---- purged

pub purged-keeps : (desk : DeskModel) → IsDesk desk → (job : ℕ) (row : RunRow) → run_of desk.office.tables job ≡ Some row → row.state ≡ Queued → IsDesk (purged_desk job desk)
purged-keeps desk is job row at queued =
    let its : row.number ≡ job = is.kept.events.numbered job row at in
    let next : RunRow = record row { state = Purged } in
    let was : IsAdmitted row = row-admitted desk is job row at in
    let state : is_in_its_state row ≡ true = row-in-state desk is job row at in
    let here : run_of desk.office.tables row.number ≡ Some row = ap (run_of desk.office.tables) its ∙ at in
    entered desk is (office_after (PurgedEvent job, None) desk.office) job next
    (record {
      mine = of_tables job ∙ run-same desk.office.tables next row job at its;
      others = λ other apart. of_tables other ∙ run-other desk.office.tables next other (λ e. apart (e ∙ its));
      legs = λ other apart. refl;
      waits = λ one there on. queued-off one.state (ap (λ (r : RunRow). state_number r.state == 1) (same_Some one row (sym there ∙ at)) ∙ ap (λ s. state_number s == 1) queued) on;
      kept = kept-on desk is (PurgedEvent job) (record { may = purged_comes desk job row at queued; carried = refl });
      in_state = off_state state;
      admitted = record { cards = was.cards; accepted = was.accepted; steps = was.steps; named = was.named; lodged = refl };
      rests = refl;
      stepped = refl;
      spaced = is.spaced;
      spaced_legs = is.spaced_legs;
    })
  where
    of_tables : (number : ℕ) → run_of (option_map_or (λ row. with_run (record row { state = Purged }) desk.office.tables) (run_of desk.office.tables job) desk.office.tables) number ≡ run_of (with_run (record row { state = Purged }) desk.office.tables) number
    of_tables number = ap (λ (o : Option RunRow). run_of (option_map_or (λ row. with_run (record row { state = Purged }) desk.office.tables) o desk.office.tables) number) at

    off_state : is_in_its_state row ≡ true → is_in_its_state (record row { state = Purged }) ≡ true
    off_state state = sym (ap (λ s. (is_none row.initiator || is_on_one s) && code_while s row.code) queued) ∙ state

-- ---- released

pub released-keeps : (desk : DeskModel) → IsDesk desk → (job : ℕ) (row : RunRow) → run_of desk.office.tables job ≡ Some row → row.state ≡ HeldRun → IsDesk (released_desk job desk)
released-keeps desk is job row at held =
    let its : row.number ≡ job = is.kept.events.numbered job row at in
    let next : RunRow = record row { state = ReleasedRun } in
    let was : IsAdmitted row = row-admitted desk is job row at in
    entered desk is (office_after (ReleasedEvent job, None) desk.office) job next
    (record {
      mine = of_tables job ∙ run-same desk.office.tables next row job at its;
      others = λ other apart. of_tables other ∙ run-other desk.office.tables next other (λ e. apart (e ∙ its));
      legs = λ other apart. refl;
      waits = λ one there on. held-off one.state (ap (λ (r : RunRow). state_number r.state == 3) (same_Some one row (sym there ∙ at)) ∙ ap (λ s. state_number s == 3) held) on;
      kept = kept-on desk is (ReleasedEvent job) (record { may = released_comes desk job row at held; carried = refl });
      in_state = off_state (row-in-state desk is job row at);
      admitted = record { cards = was.cards; accepted = was.accepted; steps = was.steps; named = was.named; lodged = refl };
      rests = refl;
      stepped = off_stepped (row-stepped desk is job row at);
      spaced = is.spaced;
      spaced_legs = is.spaced_legs;
    })
  where
    of_tables : (number : ℕ) → run_of (option_map_or (λ row. with_run (record row { state = ReleasedRun }) desk.office.tables) (run_of desk.office.tables job) desk.office.tables) number ≡ run_of (with_run (record row { state = ReleasedRun }) desk.office.tables) number
    of_tables number = ap (λ (o : Option RunRow). run_of (option_map_or (λ row. with_run (record row { state = ReleasedRun }) desk.office.tables) o desk.office.tables) number) at

    held-off : (state : RunState) → (state_number state == 3) ≡ true → state ≡ On → ⊥
    held-off state held on = false≢true (ap (λ (s : RunState). state_number s == 3) (sym on) ∙ held)

    off_state : is_in_its_state row ≡ true → is_in_its_state (record row { state = ReleasedRun }) ≡ true
    off_state state = sym (ap (λ s. (is_none row.initiator || is_on_one s) && code_while s row.code) held) ∙ state

    off_stepped : has_its_step row ≡ true → has_its_step (record row { state = ReleasedRun }) ≡ true
    off_stepped stepped = sym (ap (λ s. not ((state_number s == 2) && is_within (place_of row) || is_off s) || is_some (own_step row)) held) ∙ stepped

-- ---- submitted

pub submitted-keeps : (desk : DeskModel) → IsDesk desk → (cards : List ℕ) (first : ℕ) (kept : List ℕ) (deck : Job) → suc (length desk.office.tables.runs) ≤ 9999999 → stored_deck cards ≡ Ok deck → IsDesk (submitted_desk (first ∷ kept) deck desk)
submitted-keeps desk is cards first kept deck few accepted =
    entered desk is (office_after (SubmittedEvent job (first ∷ kept), Some deck) desk.office) job (queued_run job deck)
    (record {
      mine = get-append-last desk.office.tables.runs (queued_run job deck);
      others = others;
      legs = λ other apart. refl;
      waits = λ row at on. some-not-none row (sym at ∙ slice_get_past desk.office.tables.runs (length desk.office.tables.runs) (omega arith));
      kept = next-kept desk.layout desk.office (desk-kept desk is) (SubmittedEvent job (first ∷ kept)) (Some deck) (record { may = submitted_comes desk first kept deck; carried = deck-orderly cards deck job few accepted });
      in_state = refl;
      admitted = queued-admitted cards job deck accepted;
      rests = refl;
      stepped = refl;
      spaced = is.spaced;
      spaced_legs = is.spaced_legs;
    })
  where
    job : ℕ
    job = suc (length desk.office.tables.runs)

    others : (other : ℕ) → other ≢ suc (length desk.office.tables.runs) → run_of (after_submitted job deck desk.office.tables) other ≡ run_of desk.office.tables other
    others zero apart = refl
    others (suc place) apart = get-append-front desk.office.tables.runs (queued_run job deck) place (λ e. apart (ap suc e))

-- the cards that its event keeps are at least one
pub stored-keeps : (desk : DeskModel) → IsDesk desk → (cards : List ℕ) (deck : Job) → suc (length desk.office.tables.runs) ≤ 9999999 → 81 ≤ length cards → stored_deck cards ≡ Ok deck → IsDesk (submitted_desk (kept_of_stored cards) deck desk)
stored-keeps desk is cards deck few some accepted =
    by (kept_of_stored cards) (kept_long cards)
  where
    by : (kept : List ℕ) → length kept ≡ 80 * (length cards / 81) → IsDesk (submitted_desk kept deck desk)
    by [] long = absurd (omega (arith, long, some))
    by (first ∷ kept) long = submitted-keeps desk is cards first kept deck few accepted

-- its event may come, and carries what the job gives
pub stored-comes : (desk : DeskModel) (cards : List ℕ) (deck : Job) → suc (length desk.office.tables.runs) ≤ 9999999 → 81 ≤ length cards → stored_deck cards ≡ Ok deck
    → IsNext desk.layout desk.office (SubmittedEvent (suc (length desk.office.tables.runs)) (kept_of_stored cards), Some deck)
stored-comes desk cards deck few some accepted =
    by (kept_of_stored cards) (kept_long cards)
  where
    by : (kept : List ℕ) → length kept ≡ 80 * (length cards / 81) → IsNext desk.layout desk.office (SubmittedEvent (suc (length desk.office.tables.runs)) kept, Some deck)
    by [] long = absurd (omega (arith, long, some))
    by (first ∷ kept) long = record { may = submitted_comes desk first kept deck; carried = deck-orderly cards deck (suc (length desk.office.tables.runs)) few accepted }

-- ---- selected

pub selected-keeps : (desk : DeskModel) → IsDesk desk → (job initiator : ℕ) → may_come desk.layout desk.office (SelectedEvent job initiator 0 0 None, None) ≡ true → IsDesk (behind (SelectedEvent job initiator 0 0 None) None desk)
selected-keeps desk is job initiator may =
    by-selected (λ after. AreKept desk.layout after → IsDesk (record desk { office = after })) desk.layout desk.office job initiator 0 None None is.kept.events may
    (λ row row_at queued plain free kept.
    let next : RunRow = record row { state = On; initiator = Some initiator; place = Some (Before 1) } in
    let was : IsAdmitted row = row-admitted desk is row.number row row_at in
    entered desk is (chosen desk.layout desk.office row initiator is.kept.events row_at queued plain free) row.number next
    (record {
      mine = run-same desk.office.tables next row row.number row_at refl;
      others = λ other apart. run-other desk.office.tables next other apart;
      legs = λ other apart. led_there desk.layout desk.office row initiator is.kept.events row_at queued plain free other apart;
      waits = λ one there on. queued-off one.state (ap (λ (r : RunRow). state_number r.state == 1) (same_Some one row (sym there ∙ row_at)) ∙ queued) on;
      kept = kept;
      in_state = queued-on row (queued-is row.state queued) (row-in-state desk is row.number row row_at);
      admitted = record { cards = was.cards; accepted = was.accepted; steps = was.steps; named = was.named; lodged = refl };
      rests = refl;
      stepped = refl;
      spaced = is.spaced;
      spaced_legs = all_legs (λ (leg : Leg). AreWithinSpace leg.start) _ desk.office.legs is.spaced is.spaced_legs;
    }))
    (kept-on desk is (SelectedEvent job initiator 0 0 None) (record { may = may; carried = refl }))
