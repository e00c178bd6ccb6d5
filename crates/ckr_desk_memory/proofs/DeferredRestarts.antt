-- What the deferred rules say of a queued run follows on any disk: where none of them holds, each test of its selection does.
use Rattle.std.proofs.Common.{◌≡◌, ◌==◌, ◌≤◌, ◌<◌, ℕ, suc, pred, Bool, true, false, ◌&&◌, [], filter, slice_get, refl, ap, sym, ◌∙◌, subst, Option, Some, None, arith}
use Rattle.std.specs.List.{AllByRecursion}
use Rattle.std.specs.Option.{is_none, is_some, option_eq, option_map_or}
use Rattle.std.proofs.lemmas.Bool.{and_from, false≢true}
use Rattle.ckr_points_invariant.specs.EarlierRuns.{wanted_by}
use Rattle.ckr_base.proofs.Bools.{and-first, and-second}
use Rattle.ckr_base.proofs.Numbers.{equal-itself}
use Rattle.ckr_base.proofs.Options.{is_some-true, some-not-none, some-one}
use Rattle.ckr_base.proofs.Sequences.{each-by_place, each-implies, each-passes, find-passes, last-holds}
use Rattle.ckr_events.specs.declared.event.Event.TheVariants.{Denied as DeniedEvent, Selected as SelectedEvent}
use Rattle.ckr_jcl.specs.declared.deck.Restart.{Restart}
use Rattle.ckr_jcl.specs.declared.deck.Step.{Step as StepOfDeck}
use Rattle.ckr_library.specs.NameMaps.{Name, entry_at, same_name}
use Rattle.ckr_library.proofs.Named.{name-itself, name-same}
use Rattle.ckr_meaning.specs.declared.place.Place.{Place}
use Rattle.ckr_meaning.specs.declared.place.Place.TheVariants.{Before}
use Rattle.ckr_points.specs.Denials.{denial_of}
use Rattle.ckr_points.specs.declared.denial.Denial.{Denial}
use Rattle.ckr_points.specs.Follows.{follows, is_free, is_in_state, is_point_of, may_continue, may_hold, may_restart, same_restart, selected_follows, state_number}
use Rattle.ckr_points.specs.Office.{Office}
use Rattle.ckr_points.specs.Restart.{kept_at, syschk_name}
use Rattle.ckr_points.specs.RuleCases.{Wanted, deferred_case, earlier_run, is_of_step, latest_run, wanted_of, was_selected}
use Rattle.ckr_points.specs.Rows.{KeptEntry, RunRow, TableSet, TablesModel, run_of}
use Rattle.ckr_points.specs.Soundness.{serials}
use Rattle.ckr_points.specs.declared.run.RunState.TheVariants.{Queued}
use Rattle.ckr_rules.specs.RuleTables.{deferred, rule_number}
use Rattle.ckr_rules.specs.declared.cases.DeferredCase.{DeferredCase}
use Rattle.ckr_rules.specs.declared.cases.Verdict.{Verdict}
use Rattle.ckr_rules.specs.declared.cases.Verdict.TheVariants.{Step as AtStep, Checkpoint, Denied}
use Rattle.ckr_desk_turn.specs.declared.plan.Plan.TheVariants.{Rest}
use Rattle.ckr_points.specs.declared.reply.Reply.TheVariants.{Idle}
use Rattle.ckr_desk_turn.specs.Deferred.{continued_at_entry, continued_by, deferred_plan, deferred_verdict}
use Rattle.ckr_desk_turn.specs.Invariant.{IsAdmitted}
use Rattle.ckr_desk_turn.specs.Queue.{AreNumbered}
use Rattle.ckr_desk_turn.specs.Select.{may_select, next_run, run_on_initiator}
use Rattle.ckr_desk_turn.proofs.Deferred.EarlierRuns.{IsOwnStep, number-at, same-number}
use Rattle.ckr_desk_turn.proofs.Deferred.Permissions.{IsEntryPermitted, IsStartPermitted, IsWanted, counted, its-step, kept-id, numbered-above, permitted-continues}
use Rattle.ckr_desk_turn.proofs.Deferred.Rules.{IsPassed, passed-so}
use Rattle.ckr_desk_turn.proofs.NextEvents.BetweenSteps.{free-there, next_waits}
use Rattle.ckr_desk_turn.proofs.Queue.Events.{run_number}
use Rattle.ckr_volumes.specs.declared.layout.Layout.{Layout}
use Rattle.ckr_desk_memory.proofs.FoundRuns.{found-run}
use Rattle.ckr_desk_memory.proofs.Holders.KeptEntries.{kept-of}
use Rattle.ckr_desk_memory.proofs.Holders.Moves.{row-accepted}
use Rattle.ckr_desk_memory.proofs.Starts.Steps.{row-among}
use Rattle.ckr_desk_memory.specs.Holders.{AreHolders, IsNamedEntry, IsOwnEntry, steps_begun}
use Rattle.ckr_desk_memory.specs.Invariant.{IsAcceptedRow, IsPlacedRow}
use Rattle.ckr_desk_memory.specs.OwnSteps.{PlanFollows}

-- ---- lists

-- each run of the tables stands at its number
each-at : (tables : TablesModel) → AreNumbered 1 tables.runs → AllByRecursion (λ (row : RunRow). run_of tables row.number ≡ Some row) tables.runs
each-at tables numbered = each-by_place (λ (row : RunRow). run_of tables row.number ≡ Some row) tables.runs (λ place row at. ap (run_of tables) (run_number tables (suc place) row numbered at) ∙ at)

module _ (layout : Layout) (tables : TablesModel) (rows : AllByRecursion IsAcceptedRow tables.runs) (numbered : AreNumbered 1 tables.runs) (placed : AllByRecursion IsPlacedRow tables.runs) (are : AreHolders tables) (row : RunRow) where
  -- what is judged are tables alone
  abbrev office : Office
  office = record { tables = tables; library = []; legs = [] }

  -- a deferred restart by its step and its identifier
  abbrev wanted_for : ℕ → Option Name → Wanted
  wanted_for number id =
      let entry = option_map_or (λ id. kept_at tables.sets (syschk_name row.deck) id) id None in
      record { number = number; checkpoint = is_some id; entry = entry; earlier = earlier_run row tables entry (is_some id); step = slice_get row.deck.steps (pred number) }

  -- the case of a deferred restart by its parts
  abbrev judged_as : ℕ → Bool → Option KeptEntry → Option RunRow → DeferredCase
  judged_as number checkpoint entry earlier =
      deferred_case (serials layout) row (record { number = number; checkpoint = checkpoint; entry = entry; earlier = earlier; step = slice_get row.deck.steps (pred number) }) tables

  may-so : (number : ℕ) (id : Option Name) (restart : Restart) (other : RunRow) → restart.step ≡ number → option_eq same_name restart.id id ≡ true → run_of tables other.number ≡ Some other → may_continue tables row other (wanted_by tables row other number id) ≡ true
      → may_restart tables row restart other.number number id ≡ true
  may-so number id restart other step same at continues =
      and_from (same_restart restart number id) _ (and_from (restart.step == number) _ (ap (λ n. n == number) step ∙ equal-itself number) same)
      (ap (λ (o : Option RunRow). option_map_or (λ other. may_continue tables row other (wanted_by tables row other number id)) o false) at ∙ continues)

  -- ---- at the start of the step

  latest-at : (name : Name) (other : RunRow) → latest_run name tables ≡ Some other → (run_of tables other.number ≡ Some other) × (was_selected other ≡ true) × (same_name other.deck.name name ≡ true)
  latest-at name other is =
      let test : RunRow → Bool = λ row. was_selected row && same_name row.deck.name name in
      let At : RunRow → Type 0 = λ row. run_of tables row.number ≡ Some row in
      let its = last-holds (λ row. At row × (test row ≡ true)) None (filter test tables.runs) other (λ row none. absurd (some-not-none row (sym none))) (each-passes At test tables.runs (each-at tables numbered)) is in
      (its.0, and-first (was_selected other) _ its.1, and-second (was_selected other) _ its.1)

  start-permitted : (restart : Restart) → deferred_verdict layout tables row (wanted_of row tables restart) ≡ AtStep → IsStartPermitted office row restart
  start-permitted restart judged = by restart.id refl judged
    where
      by-latest : restart.id ≡ None → (o : Option RunRow) → latest_run row.deck.name tables ≡ o → deferred (judged_as restart.step false None o) ≡ AtStep → IsStartPermitted office row restart
      by-latest none None e judged = absurd (false≢true (passed-so (judged_as restart.step false None None) AtStep refl judged).ended)
      by-latest none (Some other) e judged =
          let passed : IsPassed (deferred_case (serials layout) row (wanted_by tables row other restart.step None) tables) AtStep = passed-so (judged_as restart.step false None (Some other)) AtStep refl judged in
          let its = latest-at row.deck.name other e in
          record {
            other = other;
            latest = ap (λ (id : Option Name). (wanted_for restart.step id).earlier) none ∙ e;
            other_at = its.0;
            may = may-so restart.step None restart other refl (ap (λ (id : Option Name). option_eq same_name id None) none) its.0 (permitted-continues layout office row other restart.step None AtStep passed its.1 its.2 refl);
          }

      by : (id : Option Name) → restart.id ≡ id → deferred (deferred_case (serials layout) row (wanted_for restart.step id) tables) ≡ AtStep → IsStartPermitted office row restart
      by (Some id) is judged = absurd (at-checkpoint (passed-so (deferred_case (serials layout) row (wanted_for restart.step (Some id)) tables) AtStep refl judged).how)
        where
          at-checkpoint : Checkpoint ≡ AtStep → ⊥
          at-checkpoint e = cc
      by None is judged = by-latest is (latest_run row.deck.name tables) refl judged

  -- ---- at a checkpoint

  -- a run of the tables by what its deck gives it
  admitted : (other : RunRow) → run_of tables other.number ≡ Some other → IsAdmitted other
  admitted other at =
      let accepted = row-accepted tables other.number other rows at in
      record {
        cards = accepted.cards;
        accepted = accepted.accepted;
        steps = accepted.steps;
        named = are.steps other.number other at;
        lodged = (row-among IsPlacedRow tables other.number other placed at).seated;
      }

  -- a run that has come to a step was selected
  come-selected : (place : Option Place) (step : ℕ) → 1 ≤ step → step < steps_begun (option_map_or (λ place. place) place (Before 1)) → is_some place ≡ true
  come-selected None step first begun = absurd (omega (arith, first, begun))
  come-selected (Some place) step first begun = refl

  -- what holds of each entry holds of the one that is found
  entry-found : (P : Name → KeptEntry → Type 0) (set id : Name) (entry : KeptEntry) → ((table : TableSet) → entry_at tables.sets set ≡ Some table → AllByRecursion (P set) table.entries) → kept_at tables.sets set id ≡ Some entry → P set entry
  entry-found P set id entry each found =
      kept-of (P set) id tables.sets set entry (λ table at. each-implies (P set) (λ entry. same_name entry.kept.id id ≡ true → P set entry) table.entries (λ entry holds same. holds) (each table at)) found

  -- the run by which an entry was found wrote it
  module _ (id : Name) (entry : KeptEntry) (other : RunRow) (found : kept_at tables.sets (syschk_name row.deck) id ≡ Some entry) (other_at : run_of tables entry.kept.run ≡ Some other) where
    own : (entry.point.run ≡ other.number) × IsOwnEntry other (syschk_name row.deck) entry.point × IsNamedEntry other entry
    own =
        is_some-true (run_of tables entry.point.run) (entry-found (λ set entry. is_some (run_of tables entry.point.run) ≡ true) (syschk_name row.deck) id entry (are.written (syschk_name row.deck)) found)
        (λ writer at.
        let same : writer.number ≡ entry.point.run = run_number tables entry.point.run writer numbered at in
        let its = entry-found (λ set entry. entry.point.run ≡ writer.number → IsOwnEntry writer set entry.point × IsNamedEntry writer entry) (syschk_name row.deck) id entry (are.entries entry.point.run writer at (syschk_name row.deck)) found (sym same) in
        let is : writer ≡ other = some-one writer other (run_of tables entry.point.run) at (ap (run_of tables) (sym same ∙ sym its.1.run) ∙ other_at) in
        subst (λ (other : RunRow). (entry.point.run ≡ other.number) × IsOwnEntry other (syschk_name row.deck) entry.point × IsNamedEntry other entry) is (sym same, its.0, its.1))

    -- it stands at its number
    other-here : run_of tables other.number ≡ Some other
    other-here = ap (run_of tables) (sym own.2.run) ∙ other_at

    module _ (number : ℕ) (passed : IsPassed (deferred_case (serials layout) row (wanted_by tables row other number (Some id)) tables) Checkpoint) where
      abbrev wanted_step : IsWanted row other number (wanted_by tables row other number (Some id))
      wanted_step = its-step layout office row other number (Some id) Checkpoint passed

      of-step : (same_name entry.point.job row.deck.name && same_name entry.point.step_name wanted_step.mine.name) ≡ true
      of-step =
          sym (ap (λ (o : Option StepOfDeck). same_name entry.point.job row.deck.name && option_map_or (λ (step : StepOfDeck). same_name entry.point.step_name step.name) o false) wanted_step.its)
          ∙ sym (ap (λ (o : Option KeptEntry). option_map_or (λ (entry : KeptEntry). is_of_step row (wanted_by tables row other number (Some id)) entry.point) o false) found)
          ∙ passed.same_job_step refl

      its : IsOwnStep other wanted_step.mine.name number
      its = number-at other wanted_step.mine.name number (numbered-above layout office row other number (Some id) Checkpoint passed) (counted layout office row other number (Some id) Checkpoint passed)

      step-is : entry.point.step ≡ number
      step-is =
          same-number other (admitted other other-here) entry.point.step number own.2.owned its.owned own.2.executed its.executed own.2.found its.found
          (sym own.2.name ∙ name-same entry.point.step_name wanted_step.mine.name (and-second (same_name entry.point.job row.deck.name) _ of-step) ∙ sym (name-same its.owned.step.name wanted_step.mine.name its.named))

      entry-continues : may_continue tables row other (wanted_by tables row other number (Some id)) ≡ true
      entry-continues =
          permitted-continues layout office row other number (Some id) Checkpoint passed (come-selected other.place entry.point.step own.1.first own.1.begun)
          (ap (λ name. same_name name row.deck.name) (sym own.2.job) ∙ and-first (same_name entry.point.job row.deck.name) _ of-step)
          (ap (λ (o : Option KeptEntry). option_map_or (is_point_of other.number number) o false) found
          ∙ and_from (entry.point.run == other.number) _ (ap (λ n. n == other.number) own.0 ∙ equal-itself other.number) (ap (λ n. n == number) step-is ∙ equal-itself number))

  entry-permitted : (restart : Restart) → deferred_verdict layout tables row (wanted_of row tables restart) ≡ Checkpoint → IsEntryPermitted office row restart
  entry-permitted restart judged = by restart.id refl judged
    where
      by-run : (id : Name) → restart.id ≡ Some id → (entry : KeptEntry) → kept_at tables.sets (syschk_name row.deck) id ≡ Some entry → (o : Option RunRow) → run_of tables entry.kept.run ≡ o
          → deferred (judged_as restart.step true (Some entry) o) ≡ Checkpoint → IsEntryPermitted office row restart
      by-run id is entry found None at judged = absurd (false≢true (passed-so (judged_as restart.step true (Some entry) None) Checkpoint refl judged).ended)
      by-run id is entry found (Some other) at judged =
          let so : deferred (deferred_case (serials layout) row (wanted_by tables row other restart.step (Some id)) tables) ≡ Checkpoint = ap (λ (o : Option KeptEntry). deferred (judged_as restart.step true o (Some other))) found ∙ judged in
          let passed : IsPassed (deferred_case (serials layout) row (wanted_by tables row other restart.step (Some id)) tables) Checkpoint = passed-so (deferred_case (serials layout) row (wanted_by tables row other restart.step (Some id)) tables) Checkpoint refl so in
          let same : entry.kept.id ≡ id = kept-id layout office (syschk_name row.deck) id entry found in
          let here : run_of tables other.number ≡ Some other = other-here id entry other found at in
          let wanted_entry : (wanted_of row tables restart).entry ≡ Some entry = ap (λ (id : Option Name). option_map_or (λ id. kept_at tables.sets (syschk_name row.deck) id) id None) is ∙ found in
          record {
            entry = entry;
            wanted = wanted_entry;
            found = ap (kept_at tables.sets (syschk_name row.deck)) same ∙ found;
            other = other;
            earlier =
                ap (λ (id : Option Name). earlier_run row tables (wanted_of row tables restart).entry (is_some id)) is
                ∙ ap (λ (o : Option KeptEntry). earlier_run row tables o true) wanted_entry ∙ at;
            other_at = here;
            may = subst (λ name. may_restart tables row restart other.number restart.step (Some name) ≡ true) (sym same)
                (may-so restart.step (Some id) restart other refl (ap (λ (o : Option Name). option_eq same_name o (Some id)) is ∙ name-itself id) here
                (entry-continues id entry other found at restart.step passed));
          }

      by-entry : (id : Name) → restart.id ≡ Some id → (o : Option KeptEntry) → kept_at tables.sets (syschk_name row.deck) id ≡ o
          → deferred (judged_as restart.step true o (earlier_run row tables o true)) ≡ Checkpoint → IsEntryPermitted office row restart
      by-entry id is None found judged = absurd (false≢true ((passed-so (judged_as restart.step true None (earlier_run row tables None true)) Checkpoint refl judged).found_entry refl))
      by-entry id is (Some entry) found judged = by-run id is entry found (run_of tables entry.kept.run) refl judged

      by : (id : Option Name) → restart.id ≡ id → deferred (deferred_case (serials layout) row (wanted_for restart.step id) tables) ≡ Checkpoint → IsEntryPermitted office row restart
      by None is judged = absurd (at-start (passed-so (deferred_case (serials layout) row (wanted_for restart.step None) tables) Checkpoint refl judged).how)
        where
          at-start : AtStep ≡ Checkpoint → ⊥
          at-start e = cc
      by (Some id) is judged = by-entry id is (kept_at tables.sets (syschk_name row.deck) id) refl judged

  -- ---- its events

  module _ (initiator : ℕ) (restart : Restart) (queued : row.state ≡ Queued) (has : row.deck.restart ≡ Some restart) (above : 1 ≤ initiator) (below : initiator ≤ layout.initiators) (free : run_on_initiator tables initiator ≡ None) (next : next_run tables ≡ Some row) where
    at : run_of tables row.number ≡ Some row
    at = found-run tables (λ other. may_select tables other.state other) row numbered next

    waits : is_in_state Queued row ≡ true
    waits = ap (λ s. state_number s == state_number Queued) queued

    denied-follows : (rule : ℕ) (name : Option Name) → follows layout tables (DeniedEvent row.number rule name) None ≡ true
    denied-follows rule name =
        ap (λ (o : Option RunRow). option_map_or (λ row. is_in_state Queued row && is_some row.deck.restart) o false) at ∙ and_from (is_in_state Queued row) (is_some row.deck.restart) waits (ap is_some has)

    -- the run is selected where it may be restarted so
    selected-may : (earlier : ℕ) (id : Option Name) → may_restart tables row restart earlier restart.step id ≡ true → follows layout tables (SelectedEvent row.number initiator earlier restart.step id) None ≡ true
    selected-may earlier id may = follows-by restart.step may
      where
        follows-by : (step : ℕ) → may_restart tables row restart earlier step id ≡ true → follows layout tables (SelectedEvent row.number initiator earlier step id) None ≡ true
        follows-by step may =
            ap (λ (o : Option RunRow). option_map_or (selected_follows layout tables initiator earlier step id) o false) at
            ∙ and_from (is_in_state Queued row && is_free layout tables initiator && may_hold tables row) _
            (and_from (is_in_state Queued row && is_free layout tables initiator) (may_hold tables row)
            (and_from (is_in_state Queued row) (is_free layout tables initiator) waits (free-there layout tables initiator above below free))
            (next_waits tables row (find-passes (λ (other : RunRow). may_select tables other.state other) tables.runs row next) queued))
            (ap (λ (o : Option Restart). option_map_or (λ restart. may_restart tables row restart earlier step id) o (earlier == 0 && step == 0 && is_none id)) has ∙ may)

    -- the event of what the rules say follows
    pub deferred-follows : PlanFollows layout tables (deferred_plan layout tables initiator row restart)
    deferred-follows = by (deferred_verdict layout tables row (wanted_of row tables restart)) refl
      where
        by : (verdict : Verdict) → deferred_verdict layout tables row (wanted_of row tables restart) ≡ verdict → PlanFollows layout tables (continued_by verdict tables initiator row (wanted_of row tables restart))
        by (Denied rule) judged =
            let denial : Denial = denial_of row (wanted_of row tables restart) tables rule in
            denied-follows (rule_number denial.rule) denial.name
        by AtStep judged =
            let permitted : IsStartPermitted office row restart = start-permitted restart judged in
            subst (λ (o : Option RunRow). follows layout tables (SelectedEvent row.number initiator (option_map_or (λ (earlier : RunRow). earlier.number) o 0) restart.step None) None ≡ true) (sym permitted.latest)
            (selected-may permitted.other.number None permitted.may)
        by Checkpoint judged =
            let permitted : IsEntryPermitted office row restart = entry-permitted restart judged in
            subst (λ (o : Option KeptEntry). PlanFollows layout tables (option_map_or (continued_at_entry initiator row (wanted_of row tables restart)) o (Rest Idle))) (sym permitted.wanted)
            (subst (λ (o : Option RunRow). follows layout tables (SelectedEvent row.number initiator (option_map_or (λ (earlier : RunRow). earlier.number) o 0) restart.step (Some permitted.entry.kept.id)) None ≡ true) (sym permitted.earlier)
            (selected-may permitted.other.number (Some permitted.entry.kept.id) permitted.may))
