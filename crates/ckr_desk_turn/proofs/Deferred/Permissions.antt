-- Where the deferred rules permit it, the run may continue the earlier one: no rule holds, so each test of the event does.
use Rattle.std.proofs.Common.{◌≡◌, ◌==◌, ◌≤◌, ℕ, zero, suc, pred, Bool, true, false, not, ◌&&◌, slice_get, find, refl, ap, sym, ◌∙◌, subst, Option, Some, None, arith}
use Rattle.std.specs.Option.{is_none, is_some, option_eq, option_map, option_map_or}
use Rattle.std.proofs.lemmas.Bool.{and_from, false≢true}
use Rattle.ckr_base.proofs.Bools.{and-first, and-second}
use Rattle.ckr_base.proofs.Numbers.{equal-itself, equal-true}
use Rattle.ckr_base.proofs.Options.{some-not-none, some-one}
use Rattle.ckr_base.proofs.Sequences.{find-passes}
use Rattle.ckr_jcl.specs.declared.deck.Restart.{Restart}
use Rattle.ckr_jcl.specs.declared.deck.Step.{Step}
use Rattle.ckr_library.specs.NameMaps.{Name, same_name, entry_at}
use Rattle.ckr_library.proofs.Named.{name-itself, name-same}
use Rattle.ckr_meaning.specs.EffectiveJob.{Effective, OwnedStep, step_at}
use Rattle.ckr_volumes.specs.declared.layout.Layout.{Layout}
use Rattle.ckr_points.specs.Follows.{is_point_of, may_continue, may_restart, same_restart}
use Rattle.ckr_points.specs.Marks.{point_at}
use Rattle.ckr_points.specs.Office.{Office}
use Rattle.ckr_points.specs.Restart.{kept_at, syschk_name}
use Rattle.ckr_points.specs.RuleCases.{Wanted, deferred_case, earlier_run, is_of_step, is_same_step, latest_run, number_named, stale_denial, wanted_of, was_selected}
use Rattle.ckr_points.specs.Rows.{KeptEntry, RunRow, TableSet, run_of}
use Rattle.ckr_points.specs.Soundness.{serials}
use Rattle.ckr_points.specs.declared.denial.Denial.{Denial}
use Rattle.ckr_points_invariant.specs.KeptEvents.{AreKept}
use Rattle.ckr_points_invariant.specs.WrittenEntries.{IsEntryOf, IsWrittenEntry}
use Rattle.ckr_points_invariant.specs.EarlierRuns.{wanted_by}
use Rattle.ckr_points_invariant.proofs.Continuations.WrittenEntries.Marks.{kept-so}
use Rattle.ckr_rules.specs.RuleTables.{deferred}
use Rattle.ckr_rules.specs.declared.cases.DeferredCase.{DeferredCase}
use Rattle.ckr_rules.specs.declared.cases.Verdict.{Verdict}
use Rattle.ckr_rules.specs.declared.cases.Verdict.TheVariants.{Step as AtStep, Checkpoint}
use Rattle.ckr_desk_turn.specs.Deferred.{deferred_verdict}
use Rattle.ckr_desk_turn.proofs.Deferred.EarlierRuns.{IsOwnStep, latest-at, number-at, same-number}
use Rattle.ckr_desk_turn.proofs.Deferred.Rules.{IsPassed, passed-so}
use Rattle.ckr_desk_turn.proofs.Runs.Rows.{HasRows, has-row}

-- the entry of an identifier has it
pub kept-id : (layout : Layout) (office : Office) (set id : Name) (entry : KeptEntry) → kept_at office.tables.sets set id ≡ Some entry → entry.kept.id ≡ id
kept-id layout office set id entry found = by (entry_at office.tables.sets set) found
  where
    by : (table : Option TableSet) → option_map_or (λ (table : TableSet). find (λ (one : KeptEntry). same_name one.kept.id id) table.entries) table None ≡ Some entry → entry.kept.id ≡ id
    by None is = absurd (some-not-none entry (sym is))
    by (Some table) is = name-same entry.kept.id id (find-passes (λ (one : KeptEntry). same_name one.kept.id id) table.entries entry is)

-- a step that is found has a number
found-above : (job : Effective) (number : ℕ) (test : OwnedStep → Bool) → option_map_or test (step_at job number) false ≡ true → 1 ≤ number
found-above job zero test is = absurd (false≢true is)
found-above job (suc before) test is = omega arith

-- the case of a deferred restart by its parts
abbrev judged_as : Layout → Office → RunRow → ℕ → Bool → Option KeptEntry → Option RunRow → DeferredCase
judged_as layout office row number checkpoint entry earlier =
    deferred_case (serials layout) row (record { number = number; checkpoint = checkpoint; entry = entry; earlier = earlier; step = slice_get row.deck.steps (pred number) }) office.tables

-- ---- no rule holds

-- the step that is wanted, which the earlier run executed itself, and which has a point of it
pub record IsWanted (row other : RunRow) (number : ℕ) (wanted : Wanted) : Type 0 where
  pub mine : Step
  pub its : slice_get row.deck.steps (pred number) ≡ Some mine
  pub same : is_same_step other wanted mine ≡ true
  pub reached : is_some (point_at other.points (number_named other mine.name)) ≡ true

none-mapped : (denial : Option Denial) → option_map (λ (denial : Denial). denial.rule) denial ≡ None → is_none denial ≡ true
none-mapped None none = refl
none-mapped (Some denial) none = absurd (some-not-none denial.rule none)

module _ (layout : Layout) (office : Office) (row other : RunRow) (number : ℕ) (id : Option Name) (verdict : Verdict)
    (passed : IsPassed (deferred_case (serials layout) row (wanted_by office.tables row other number id) office.tables) verdict) where
  abbrev wanted : Wanted
  wanted = wanted_by office.tables row other number id

  pub its-step : IsWanted row other number wanted
  its-step = by (slice_get row.deck.steps (pred number)) refl passed.reached passed.same_statements
    where
      by : (step : Option Step) → slice_get row.deck.steps (pred number) ≡ step → option_map_or (λ step. is_some (point_at other.points (number_named other step.name))) step false ≡ true
          → option_map_or (is_same_step other wanted) step false ≡ true → IsWanted row other number wanted
      by None e reached same = absurd (false≢true same)
      by (Some mine) e reached same = record { mine = mine; its = e; same = same; reached = reached }

  -- its number is that of the step of its name
  pub counted : number_named other its-step.mine.name ≡ number
  counted = equal-true (number_named other its-step.mine.name) number (and-first (number_named other its-step.mine.name == number) _ its-step.same)

  pub numbered-above : 1 ≤ number
  numbered-above = found-above other.job number _ (and-second (number_named other its-step.mine.name == number) _ its-step.same)

  -- Each test of the event holds then, where those of the run and of its entry do.
  pub permitted-continues : was_selected other ≡ true → same_name other.deck.name row.deck.name ≡ true → option_map_or (is_point_of other.number number) wanted.entry (not wanted.checkpoint) ≡ true → may_continue office.tables row other wanted ≡ true
  permitted-continues selected named pointed =
      let there : is_some (point_at other.points number) ≡ true = ap (λ n. is_some (point_at other.points n)) (sym counted) ∙ its-step.reached in
      and_from _ _ (and_from _ _ (and_from _ _ (and_from _ _ (and_from _ _ (and_from _ _ selected named) passed.ended) there) passed.same_statements) (none-mapped (stale_denial row wanted office.tables) passed.fresh)) pointed

-- ---- at the start of the step

-- the earlier run is the latest one, which the run may continue there
pub record IsStartPermitted (office : Office) (row : RunRow) (restart : Restart) : Type 0 where
  pub other : RunRow
  pub latest : (wanted_of row office.tables restart).earlier ≡ Some other
  pub other_at : run_of office.tables other.number ≡ Some other
  pub may : may_restart office.tables row restart other.number restart.step None ≡ true

module _ (layout : Layout) (office : Office) (are : AreKept layout office) (row : RunRow) where
  -- a deferred restart by its step and its identifier
  abbrev wanted_for : ℕ → Option Name → Wanted
  wanted_for number id =
      let entry = option_map_or (λ id. kept_at office.tables.sets (syschk_name row.deck) id) id None in
      record { number = number; checkpoint = is_some id; entry = entry; earlier = earlier_run row office.tables entry (is_some id); step = slice_get row.deck.steps (pred number) }

  -- the run may be restarted so
  may-so : (number : ℕ) (id : Option Name) (restart : Restart) (other : RunRow) → restart.step ≡ number → option_eq same_name restart.id id ≡ true → run_of office.tables other.number ≡ Some other → may_continue office.tables row other (wanted_by office.tables row other number id) ≡ true
      → may_restart office.tables row restart other.number number id ≡ true
  may-so number id restart other step same at continues =
      and_from (same_restart restart number id) _ (and_from (restart.step == number) _ (ap (λ n. n == number) step ∙ equal-itself number) same)
      (ap (λ (o : Option RunRow). option_map_or (λ other. may_continue office.tables row other (wanted_by office.tables row other number id)) o false) at ∙ continues)

  pub start-permitted : (restart : Restart) → deferred_verdict layout office.tables row (wanted_of row office.tables restart) ≡ AtStep → IsStartPermitted office row restart
  start-permitted restart judged = by restart.id refl judged
    where
      by-latest : restart.id ≡ None → (o : Option RunRow) → latest_run row.deck.name office.tables ≡ o
          → deferred (judged_as layout office row restart.step false None o) ≡ AtStep → IsStartPermitted office row restart
      by-latest none None e judged = absurd (false≢true (passed-so (judged_as layout office row restart.step false None None) AtStep refl judged).ended)
      by-latest none (Some other) e judged =
          let passed : IsPassed (deferred_case (serials layout) row (wanted_by office.tables row other restart.step None) office.tables) AtStep = passed-so (judged_as layout office row restart.step false None (Some other)) AtStep refl judged in
          let its = latest-at layout office are row.deck.name other e in
          record {
            other = other;
            latest = ap (λ (id : Option Name). (wanted_for restart.step id).earlier) none ∙ e;
            other_at = its.0;
            may = may-so restart.step None restart other refl (ap (λ (id : Option Name). option_eq same_name id None) none) its.0 (permitted-continues layout office row other restart.step None AtStep passed its.1 its.2 refl);
          }

      by : (id : Option Name) → restart.id ≡ id → deferred (deferred_case (serials layout) row (wanted_for restart.step id) office.tables) ≡ AtStep → IsStartPermitted office row restart
      by (Some id) is judged = absurd (at-checkpoint (passed-so (deferred_case (serials layout) row (wanted_for restart.step (Some id)) office.tables) AtStep refl judged).how)
        where
          at-checkpoint : Checkpoint ≡ AtStep → ⊥
          at-checkpoint e = cc
      by None is judged = by-latest is (latest_run row.deck.name office.tables) refl judged

-- ---- at a checkpoint

-- the earlier run is that of the entry, at whose checkpoint the run may continue it
pub record IsEntryPermitted (office : Office) (row : RunRow) (restart : Restart) : Type 0 where
  pub entry : KeptEntry
  pub wanted : (wanted_of row office.tables restart).entry ≡ Some entry
  pub found : kept_at office.tables.sets (syschk_name row.deck) entry.kept.id ≡ Some entry
  pub other : RunRow
  pub earlier : (wanted_of row office.tables restart).earlier ≡ Some other
  pub other_at : run_of office.tables other.number ≡ Some other
  pub may : may_restart office.tables row restart other.number restart.step (Some entry.kept.id) ≡ true

module _ (layout : Layout) (office : Office) (are : AreKept layout office) (has : HasRows office) (row : RunRow) where
  -- the entry is of the earlier run and of the step
  module _ (other : RunRow) (number : ℕ) (id : Name) (entry : KeptEntry) (found : kept_at office.tables.sets (syschk_name row.deck) id ≡ Some entry) (other_at : run_of office.tables entry.kept.run ≡ Some other)
      (passed : IsPassed (deferred_case (serials layout) row (wanted_by office.tables row other number (Some id)) office.tables) Checkpoint) where
    written : IsWrittenEntry office (syschk_name row.deck) entry
    written = (kept-so office (syschk_name row.deck) id entry are.written found).1

    its : IsEntryOf other written.leg (syschk_name row.deck) entry
    its = subst (λ (r : RunRow). IsEntryOf r written.leg (syschk_name row.deck) entry) (some-one written.row other (run_of office.tables entry.point.run) written.row_at (ap (run_of office.tables) (sym written.run) ∙ other_at)) written.of_run

    other_number : other.number ≡ entry.kept.run
    other_number = are.kept.events.numbered entry.kept.run other other_at

    abbrev wanted_step : IsWanted row other number (wanted_by office.tables row other number (Some id))
    wanted_step = its-step layout office row other number (Some id) Checkpoint passed

    of-step : (same_name entry.point.job row.deck.name && same_name entry.point.step_name wanted_step.mine.name) ≡ true
    of-step =
        sym (ap (λ (o : Option Step). same_name entry.point.job row.deck.name && option_map_or (λ (step : Step). same_name entry.point.step_name step.name) o false) wanted_step.its)
        ∙ sym (ap (λ (o : Option KeptEntry). option_map_or (λ (entry : KeptEntry). is_of_step row (wanted_by office.tables row other number (Some id)) entry.point) o false) found)
        ∙ passed.same_job_step refl

    own : IsOwnStep other wanted_step.mine.name number
    own = number-at other wanted_step.mine.name number (numbered-above layout office row other number (Some id) Checkpoint passed) (counted layout office row other number (Some id) Checkpoint passed)

    step-is : entry.point.step ≡ number
    step-is =
        same-number other (has-row office has entry.kept.run other other_at).admitted entry.point.step number its.owned own.owned its.executed own.executed its.found own.found
        (sym its.step_name ∙ name-same entry.point.step_name wanted_step.mine.name (and-second (same_name entry.point.job row.deck.name) _ of-step) ∙ sym (name-same own.owned.step.name wanted_step.mine.name own.named))

    pointed : is_point_of other.number number entry ≡ true
    pointed =
        and_from (entry.point.run == other.number) _ (ap (λ n. n == other.number) (sym written.run ∙ sym other_number) ∙ equal-itself other.number)
        (ap (λ n. n == number) step-is ∙ equal-itself number)

    pub entry-continues : may_continue office.tables row other (wanted_by office.tables row other number (Some id)) ≡ true
    entry-continues =
        permitted-continues layout office row other number (Some id) Checkpoint passed its.selected
        (ap (λ name. same_name name row.deck.name) (sym its.job_name) ∙ and-first (same_name entry.point.job row.deck.name) _ of-step)
        (ap (λ (o : Option KeptEntry). option_map_or (is_point_of other.number number) o false) found ∙ pointed)

  pub entry-permitted : (restart : Restart) → deferred_verdict layout office.tables row (wanted_of row office.tables restart) ≡ Checkpoint → IsEntryPermitted office row restart
  entry-permitted restart judged = by restart.id refl judged
    where
      by-run : (id : Name) → restart.id ≡ Some id → (entry : KeptEntry) → kept_at office.tables.sets (syschk_name row.deck) id ≡ Some entry → (o : Option RunRow) → run_of office.tables entry.kept.run ≡ o
          → deferred (judged_as layout office row restart.step true (Some entry) o) ≡ Checkpoint → IsEntryPermitted office row restart
      by-run id is entry found None at judged = absurd (false≢true (passed-so (judged_as layout office row restart.step true (Some entry) None) Checkpoint refl judged).ended)
      by-run id is entry found (Some other) at judged =
          let so : deferred (deferred_case (serials layout) row (wanted_by office.tables row other restart.step (Some id)) office.tables) ≡ Checkpoint =
          ap (λ (o : Option KeptEntry). deferred (judged_as layout office row restart.step true o (Some other))) found ∙ judged in
          let passed : IsPassed (deferred_case (serials layout) row (wanted_by office.tables row other restart.step (Some id)) office.tables) Checkpoint = passed-so (deferred_case (serials layout) row (wanted_by office.tables row other restart.step (Some id)) office.tables) Checkpoint refl so in
          let same : entry.kept.id ≡ id = kept-id layout office (syschk_name row.deck) id entry found in
          let here : run_of office.tables other.number ≡ Some other = ap (run_of office.tables) (are.kept.events.numbered entry.kept.run other at) ∙ at in
          let wanted_entry : (wanted_of row office.tables restart).entry ≡ Some entry = ap (λ (id : Option Name). option_map_or (λ id. kept_at office.tables.sets (syschk_name row.deck) id) id None) is ∙ found in
          record {
            entry = entry;
            wanted = wanted_entry;
            found = ap (kept_at office.tables.sets (syschk_name row.deck)) same ∙ found;
            other = other;
            earlier =
                ap (λ (id : Option Name). earlier_run row office.tables (wanted_of row office.tables restart).entry (is_some id)) is
                ∙ ap (λ (o : Option KeptEntry). earlier_run row office.tables o true) wanted_entry ∙ at;
            other_at = here;
            may = subst (λ name. may_restart office.tables row restart other.number restart.step (Some name) ≡ true) (sym same)
                (may-so layout office are row restart.step (Some id) restart other refl (ap (λ (o : Option Name). option_eq same_name o (Some id)) is ∙ name-itself id) here
                (entry-continues other restart.step id entry found at passed));
          }

      by-entry : (id : Name) → restart.id ≡ Some id → (o : Option KeptEntry) → kept_at office.tables.sets (syschk_name row.deck) id ≡ o
          → deferred (judged_as layout office row restart.step true o (earlier_run row office.tables o true)) ≡ Checkpoint → IsEntryPermitted office row restart
      by-entry id is None found judged = absurd (false≢true ((passed-so (judged_as layout office row restart.step true None (earlier_run row office.tables None true)) Checkpoint refl judged).found_entry refl))
      by-entry id is (Some entry) found judged = by-run id is entry found (run_of office.tables entry.kept.run) refl judged

      by : (id : Option Name) → restart.id ≡ id → deferred (deferred_case (serials layout) row (wanted_for layout office are row restart.step id) office.tables) ≡ Checkpoint → IsEntryPermitted office row restart
      by None is judged = absurd (at-start (passed-so (deferred_case (serials layout) row (wanted_for layout office are row restart.step None) office.tables) Checkpoint refl judged).how)
        where
          at-start : AtStep ≡ Checkpoint → ⊥
          at-start e = cc
      by (Some id) is judged = by-entry id is (kept_at office.tables.sets (syschk_name row.deck) id) refl judged
