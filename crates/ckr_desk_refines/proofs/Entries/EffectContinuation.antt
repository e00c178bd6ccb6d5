-- A run that continues another one has the entry of that run in effect, where it goes back to its checkpoint: its job comes to the step as that one's did.
-- The other checkpoints in effect stay.
use Rattle.std.proofs.Common.{◌≡◌, ◌≢◌, ℕ, suc, true, false, List, refl, ap, sym, ◌∙◌, subst, Option, Some, None, arith}
use Rattle.std.specs.Option.{option_map_or}
use Rattle.ckr_base.proofs.Numbers.{number-cases}
use Rattle.ckr_base.proofs.Options.{is_some-true, some-not-none, some-one}
use Rattle.ckr_events.specs.declared.event.Event.TheVariants.{Selected}
use Rattle.ckr_jcl.specs.declared.deck.Job.{Job}
use Rattle.ckr_library.specs.NameMaps.{Name, taken_over}
use Rattle.ckr_meaning.specs.EffectiveJob.{Effective, OwnedStep, is_among, names_of_job, step_at}
use Rattle.ckr_meaning.specs.Fronts.{BeginAlike}
use Rattle.ckr_meaning.specs.JobRun.{start_at}
use Rattle.ckr_meaning.proofs.Fronts.{begin-case}
use Rattle.ckr_points_library.specs.Commit.{output_names}
use Rattle.ckr_points.specs.Events.{IsNext}
use Rattle.ckr_points.specs.Office.{Leg, Office, continued_leg, leg_by, leg_of, office_after, office_selected, plain_leg, with_leg}
use Rattle.ckr_points.specs.Restart.{Back, after_continued_at, after_entry_continued, after_put_back, deferred_entry, deferred_start, kept_at, sets_back, syschk_name}
use Rattle.ckr_points.specs.RuleCases.{has_present_marks}
use Rattle.ckr_points.specs.Rows.{EffectPoint, KeptEntry, RunRow, TablesModel, run_of}
use Rattle.ckr_points.specs.Tables.{fresh_effect}
use Rattle.ckr_points_invariant.specs.Invariant.{IsAgreed}
use Rattle.ckr_points_invariant.specs.KeptEvents.{AreKept}
use Rattle.ckr_points_invariant.specs.WrittenEntries.{IsWrittenEntry}
use Rattle.ckr_points_invariant.specs.EarlierRuns.{IsEntryOf, MayContinue}
use Rattle.ckr_points_invariant.specs.RunningSteps.{start_of}
use Rattle.ckr_points_invariant.proofs.Continuations.Follows.{after-selected}
use Rattle.ckr_points_invariant.proofs.Continuations.Fronts.{begins-alike}
use Rattle.ckr_points_invariant.proofs.Continuations.WrittenEntries.Marks.{kept-so}
use Rattle.ckr_points_invariant.proofs.Holders.Places.{outputs-among}
use Rattle.ckr_points_invariant.proofs.Holders.Rows.{run-same}
use Rattle.ckr_points_invariant.proofs.Readiness.Runs.{kept-entry}
use Rattle.ckr_points_invariant.proofs.Select.Holders.{leg_here}
use Rattle.ckr_points_invariant.proofs.Steps.Walks.{start_at-of}
use Rattle.ckr_volumes.specs.declared.layout.Layout.{Layout}
use Rattle.ckr_desk_refines.specs.Entries.{AreOwned, HasOwner}
use Rattle.ckr_desk_refines.specs.InEffect.{AreInEffect, HasSameCase, IsInEffect}
use Rattle.ckr_desk_refines.specs.SharedSets.{LeavesReach}
use Rattle.ckr_desk_refines.proofs.Durable.Continuation as continuation
use Rattle.ckr_desk_refines.proofs.Entries.Effects as effects
use Rattle.ckr_desk_refines.proofs.Entries.KeptEntries.{kept_at-put_back}
use Rattle.ckr_desk_refines.proofs.Entries.Legs.{legs-stay}
use Rattle.ckr_desk_refines.proofs.Entries.Refusal.{kept-table}

-- ---- at a checkpoint

-- a run has the entry in effect behind the event that its data set for checkpoints kept under an identifier before
pub record HasWanted (now after : TablesModel) (job : ℕ) (set id : Name) : Type 0 where
  pub entry : KeptEntry
  pub found : kept_at now.sets set id ≡ Some entry
  pub next : RunRow
  pub next_at : run_of after job ≡ Some next
  pub got : next.in_effect ≡ Some (fresh_effect set entry.kept)
  pub still : kept_at after.sets set entry.kept.id ≡ Some entry

module _ (layout : Layout) (now : Office) (are : AreKept layout now) (job initiator before step : ℕ) (id : Name) (its : MayContinue layout now.tables job initiator (suc before) step (Some id))
    (entry : KeptEntry) (kept_so : kept_at now.tables.sets (syschk_name its.row.deck) id ≡ Some entry) (of_run : IsEntryOf its.other step (Some id) (Some entry)) where
  abbrev set : Name
  set = syschk_name its.row.deck

  abbrev effect : EffectPoint
  effect = fresh_effect set entry.kept

  abbrev row_before : RunRow
  row_before = continuation.row_before layout now are.kept.events job initiator before step (Some id) its

  abbrev back : Back
  back = deferred_entry row_before step entry.point

  abbrev lost : List Name
  lost = continuation.lost_by (record row_before { in_effect = Some effect }) its.owned back now.tables

  -- its row then
  abbrev mine : RunRow
  mine = record row_before { lost = lost; in_effect = Some effect; place = Some back.place; count = back.count; passed = back.passed }

  abbrev tables : TablesModel
  tables = after_put_back (record row_before { lost = lost; in_effect = Some effect }) its.owned back now.tables

  abbrev behind : Office
  behind = office_selected now job tables

  row-number : its.row.number ≡ job
  row-number = are.kept.events.numbered job its.row its.row_at

  here : run_of tables job ≡ Some mine
  here = run-same (record now.tables { sets = sets_back row_before its.owned back now.tables.sets }) mine its.row job its.row_at row-number

  found-here : step_at mine.job step ≡ Some its.owned
  found-here = continuation.step-spliced layout now are.kept.events job initiator before step (Some id) its

  taken-by : entry.point.run ≡ suc before
  taken-by = of_run.0 ∙ are.kept.events.numbered (suc before) its.other its.other_at

  none_led : leg_of now its.row.number ≡ None
  none_led = (are.kept.events.waiting job its.row its.row_at its.queued).alone

  -- ---- its entry

  written : IsWrittenEntry now set entry
  written = (kept-so now set id entry are.written kept_so).1

  row-is : written.row ≡ its.other
  row-is = some-one written.row its.other (run_of now.tables entry.point.run) written.row_at (ap (run_of now.tables) taken-by ∙ its.other_at)

  owned-is : written.of_run.owned ≡ its.owned
  owned-is =
      some-one written.of_run.owned its.owned (step_at its.other.job step)
      (ap (λ (row : RunRow). step_at row.job step) (sym row-is) ∙ ap (step_at written.row.job) (sym of_run.1) ∙ written.of_run.found) its.found

  output : is_among (output_names its.other.job.root its.owned) set ≡ true
  output =
      ap (λ (owned : OwnedStep). is_among (output_names its.other.job.root owned) set) (sym owned-is)
      ∙ ap (λ (row : RunRow). is_among (output_names row.job.root written.of_run.owned) set) (sym row-is) ∙ written.of_run.output

  still-kept : kept_at tables.sets set entry.kept.id ≡ Some entry
  still-kept =
      kept_at-put_back entry.point.marks (output_names its.other.job.root its.owned) back.needed now.tables.sets set entry.kept.id entry written.of_run.back
      (kept-entry now.tables.sets set entry.kept.id entry (kept-so now set id entry are.written kept_so).0)

  -- the run has it in effect
  has-wanted : HasWanted now.tables tables job set id
  has-wanted = record { entry = entry; found = kept_so; next = mine; next_at = here; got = refl; still = still-kept }

  -- ---- the jobs of both runs

  module _ (owners : AreOwned now) (taker : Leg) (led : leg_of now (suc before) ≡ Some taker) where
    abbrev leg : Leg
    leg = continued_leg now mine taker

    taker-job : taker.job ≡ its.other.job
    taker-job = (are.begun.runs (suc before) its.other taker its.other_at led).job

    continues : leg_by now mine mine.earlier ≡ leg
    continues =
        ap (leg_by now mine) (are.kept.events.numbered (suc before) its.other its.other_at)
        ∙ ap (λ (o : Option Leg). option_map_or (continued_leg now mine) o (plain_leg now mine)) led

    all-legs : behind.legs ≡ with_leg leg now.legs
    all-legs =
        ap (λ (o : Option RunRow). option_map_or (λ (row : RunRow). with_leg (leg_by now row row.earlier) now.legs) o now.legs) here
        ∙ ap (λ (leg : Leg). with_leg leg now.legs) continues

    own-led : leg_of behind its.row.number ≡ Some leg
    own-led = ap (λ (legs : List Leg). leg_of (record now { legs = legs }) its.row.number) all-legs ∙ leg_here leg now.legs none_led

    apart : suc before ≢ job
    apart same = some-not-none taker (sym led ∙ ap (leg_of now) (same ∙ sym row-number) ∙ none_led)

    taker-led : leg_of behind entry.point.run ≡ Some taker
    taker-led =
        ap (leg_of behind) taken-by
        ∙ continuation.legs-apart now tables job (λ row e. ap (λ (row : RunRow). row.number) (some-one row mine (run_of tables job) e here) ∙ row-number) (suc before) apart
        ∙ led

    alike : BeginAlike step leg.job taker.job leg.start taker.start
    alike =
        subst (λ (job : Effective). BeginAlike step leg.job job (taken_over (names_of_job job) taker.start now.library) taker.start) (sym taker-job)
        (begins-alike its.other.job taker.start now.library step its.row.number its.row.deck its.owned its.found)

    found-there : step_at taker.job step ≡ Some its.owned
    found-there = ap (λ (job : Effective). step_at job step) taker-job ∙ its.found

    same-case : HasSameCase behind.legs mine.number its.owned entry.point
    same-case = record {
      leg = leg;
      led = own-led;
      start = start_of leg.job leg.start step its.owned;
      starts = ap (start_at leg.job leg.start) of_run.1 ∙ start_at-of leg.job leg.start step its.owned found-here;
      program = refl;
      taker = taker;
      taker_led = taker-led;
      begun = start_of taker.job taker.start step its.owned;
      begins = ap (start_at taker.job taker.start) of_run.1 ∙ start_at-of taker.job taker.start step its.owned found-there;
      same = sym (begin-case step leg.job taker.job leg.start taker.start alike step its.owned (omega arith) found-here);
    }

    -- the entry tells the owner of the step
    owner-so : entry.point.owner ≡ its.owned.owner
    owner-so =
        let table = kept-table now.tables.sets set id entry kept_so in
        let told : HasOwner now.legs entry = table.2 (HasOwner now.legs) (owners set table.0 table.1) in
        let same : told.leg ≡ taker = some-one told.leg taker (leg_of now entry.point.run) told.led (ap (leg_of now) taken-by ∙ led) in
        told.owner
        ∙ ap (λ (owned : OwnedStep). owned.owner)
        (some-one told.owned its.owned (step_at taker.job step)
        (ap (λ (leg : Leg). step_at leg.job step) (sym same) ∙ ap (step_at told.leg.job) (sym of_run.1) ∙ told.found) found-there)

    in-effect : IsInEffect behind mine effect
    in-effect = record {
      holds = refl;
      within = refl;
      owned = its.owned;
      found = found-here;
      among = outputs-among its.other.job.root its.owned set output;
      entry = entry;
      at = still-kept;
      kept = refl;
      same = same-case;
      owner = owner-so;
      step = of_run.1;
      present = sym (ap (λ (o : Option KeptEntry). option_map_or (λ entry. has_present_marks its.other its.owned entry.point) o false) kept_so) ∙ its.marks;
    }

  own-effect : AreOwned now → IsInEffect behind mine effect
  own-effect owners = is_some-true (leg_of now (suc before)) (are.begun.led (suc before) its.other its.other_at its.selected) (in-effect owners)

  -- so it is with the run's row, which has it in effect
  pub entry-effect : AreOwned now → (row : RunRow) (other : EffectPoint) → run_of tables job ≡ Some row → row.in_effect ≡ Some other → IsInEffect behind row other
  entry-effect owners row other e f =
      let same : mine ≡ row = some-one mine row (run_of tables job) here e in
      let same_effect : effect ≡ other = some-one effect other row.in_effect (ap (λ (row : RunRow). row.in_effect) (sym same)) f in
      subst (λ (row : RunRow). IsInEffect behind row other) same (subst (IsInEffect behind mine) same_effect (own-effect owners))

-- so it is behind the event
pub wanted-behind : (layout : Layout) (now : Office) → AreKept layout now → (job initiator before step : ℕ) (id : Name) (deck : Option Job) (its : MayContinue layout now.tables job initiator (suc before) step (Some id))
    → HasWanted now.tables (office_after (Selected job initiator (suc before) step (Some id), deck) now).tables job (syschk_name its.row.deck) id
wanted-behind layout now are job initiator before step id deck its =
    subst (λ tables. HasWanted now.tables tables job (syschk_name its.row.deck) id) (sym (after-selected layout now.tables job initiator before step (Some id) deck its))
    (by (kept_at now.tables.sets (syschk_name its.row.deck) id) refl its.entry)
  where
    by : (entry : Option KeptEntry) → kept_at now.tables.sets (syschk_name its.row.deck) id ≡ entry → IsEntryOf its.other step (Some id) entry
        → HasWanted now.tables (option_map_or (λ entry. after_entry_continued (continuation.row_before layout now are.kept.events job initiator before step (Some id) its) its.owned step (syschk_name its.row.deck) entry now.tables) entry now.tables) job (syschk_name its.row.deck) id
    by None kept_so of_run = absurd of_run
    by (Some entry) kept_so of_run = has-wanted layout now are job initiator before step id its entry kept_so of_run

-- ---- the event

module _ (layout : Layout) (now : Office) (are : AreKept layout now) (owners : AreOwned now) (job initiator before step : ℕ) where
  -- the run's own checkpoint in effect behind it
  abbrev HasOwnEffect : TablesModel → Type 0
  HasOwnEffect tables = (row : RunRow) (effect : EffectPoint) → run_of tables job ≡ Some row → row.in_effect ≡ Some effect → IsInEffect (office_selected now job tables) row effect

  -- at the start of the step it has none
  start-effect : (its : MayContinue layout now.tables job initiator (suc before) step None) → HasOwnEffect (after_continued_at (continuation.row_before layout now are.kept.events job initiator before step None its) its.owned step its.point None now.tables)
  start-effect its row effect e f =
      let row_before : RunRow = continuation.row_before layout now are.kept.events job initiator before step None its in
      let back : Back = deferred_start row_before its.owned step its.point in
      let lost : List Name = continuation.lost_by row_before its.owned back now.tables in
      let mine : RunRow = record row_before { lost = lost; place = Some back.place; count = back.count; passed = back.passed } in
      let here : run_of (after_put_back (record row_before { lost = lost }) its.owned back now.tables) job ≡ Some mine =
      run-same (record now.tables { sets = sets_back row_before its.owned back now.tables.sets }) mine its.row job its.row_at (are.kept.events.numbered job its.row its.row_at) in
      let same : mine ≡ row = some-one mine row _ here e in
      absurd (some-not-none effect (sym f ∙ ap (λ (row : RunRow). row.in_effect) (sym same) ∙ are.ready.waits job its.row its.row_at its.queued))

  own-by : (id : Option Name) (its : MayContinue layout now.tables job initiator (suc before) step id) → HasOwnEffect (after_continued_at (continuation.row_before layout now are.kept.events job initiator before step id its) its.owned step its.point id now.tables)
  own-by None its = start-effect its
  own-by (Some id) its = by (kept_at now.tables.sets (syschk_name its.row.deck) id) refl its.entry
    where
      by : (entry : Option KeptEntry) → kept_at now.tables.sets (syschk_name its.row.deck) id ≡ entry → IsEntryOf its.other step (Some id) entry
          → HasOwnEffect (option_map_or (λ entry. after_entry_continued (continuation.row_before layout now are.kept.events job initiator before step (Some id) its) its.owned step (syschk_name its.row.deck) entry now.tables) entry now.tables)
      by None kept_so of_run = absurd of_run
      by (Some entry) kept_so of_run = entry-effect layout now are job initiator before step id its entry kept_so of_run owners

  module _ (id : Option Name) (deck : Option Job) (next : IsNext layout now (Selected job initiator (suc before) step id, deck)) (in_effect : AreInEffect now) where
    abbrev agreed : IsAgreed layout now
    agreed = are.kept.events

    abbrev later : Office
    later = office_after (Selected job initiator (suc before) step id, deck) now

    own : HasOwnEffect later.tables
    own =
        let its : MayContinue layout now.tables job initiator (suc before) step id = continuation.may-so layout now agreed job initiator before step id deck next.may in
        subst HasOwnEffect (sym (after-selected layout now.tables job initiator before step id deck its)) (own-by id its)

    other : LeavesReach now job later.tables.sets → (number : ℕ) (row : RunRow) (effect : EffectPoint) → number ≢ job → run_of later.tables number ≡ Some row → row.in_effect ≡ Some effect → IsInEffect later row effect
    other leaves number row effect apart e f =
        let was : run_of now.tables number ≡ Some row = sym (continuation.rows-behind layout now agreed job initiator before step id deck next.may number apart) ∙ e in
        effects.effect-led (record now { tables = later.tables }) later row effect refl (legs-stay layout now agreed (Selected job initiator (suc before) step id) deck next.may)
        (effects.other-stays layout now agreed job in_effect later.tables leaves number row effect apart was (in_effect number row effect was f))

    pub effects-continued : LeavesReach now job later.tables.sets → AreInEffect later
    effects-continued leaves number row effect e f =
        number-cases number job
        (λ same. own row effect (ap (run_of later.tables) (sym same) ∙ e) f)
        (λ apart. other leaves number row effect apart e f)
