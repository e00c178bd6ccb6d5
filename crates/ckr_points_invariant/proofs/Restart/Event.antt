-- A Restarted that follows and has the verdict of the rules keeps the events, and its run stands at the point then.
use Rattle.std.proofs.Common.{◌≡◌, ℕ, Bool, true, false, ◌&&◌, ◌||◌, [], refl, ap, sym, ◌∙◌, subst, Option, Some, None}
use Rattle.std.specs.Prelude.{◌==◌, nat_eq}
use Rattle.std.specs.Option.{option_eq, option_map, option_map_or}
use Rattle.ckr_base.specs.declared.code.Code.{Code}
use Rattle.ckr_base.proofs.Bools.{and-first, bool-cases}
use Rattle.ckr_base.proofs.Numbers.{equal-true}
use Rattle.ckr_base.proofs.Options.{option-cases, some-one}
use Rattle.ckr_base.proofs.Sequences.{find-holds, find-passes}
use Rattle.ckr_events.specs.declared.event.Event.TheVariants.{Restarted}
use Rattle.ckr_jcl.specs.declared.deck.Job.{Job}
use Rattle.ckr_library.specs.NameMaps.{Name, Named, entry_at}
use Rattle.ckr_meaning.specs.EffectiveJob.{OwnedStep, is_among, names_of}
use Rattle.ckr_meaning.specs.JobRun.{at}
use Rattle.ckr_meaning.specs.LibrarySet.{LibrarySet}
use Rattle.ckr_meaning.specs.Dispositions.{Stock}
use Rattle.ckr_meaning.specs.declared.place.Place.{Place}
use Rattle.ckr_meaning.specs.declared.place.Place.TheVariants.{Before, Opened, Within}
use Rattle.ckr_rules.specs.RuleTables.{automatic}
use Rattle.ckr_volumes.specs.declared.layout.Layout.{Layout}
use Rattle.ckr_points.specs.declared.run.RunState.TheVariants.{Released as ReleasedRun}
use Rattle.ckr_points.specs.Follows.{is_free, is_in_state, is_running, is_within, may_restart_again, own_step}
use Rattle.ckr_points.specs.Marks.{point_at, with_point}
use Rattle.ckr_points.specs.Office.{Leg, Office, leg_of, office_after}
use Rattle.ckr_points.specs.Payload.{carries, is_verdict, writes_in}
use Rattle.ckr_points.specs.Restart.{after_put_back, after_restarted, back_to_entry, back_to_start, by_step, effect_restarted, kept_at, place_of, point_restarted, row_on}
use Rattle.ckr_points.specs.RuleCases.{auto_case}
use Rattle.ckr_points.specs.Rows.{EffectPoint, KeptEntry, RunRow, StartPoint, TableSet, TablesModel, run_of, step_of_run}
use Rattle.ckr_points.specs.Soundness.{may_come}
use Rattle.ckr_points.specs.Tables.{own_made}
use Rattle.ckr_points_library.specs.Commit.{output_names}
use Rattle.ckr_points_invariant.specs.Invariant.{AreStamped, IsAgreed, IsHolder, IsKept, IsMarkedShort, set_shape, step_now}
use Rattle.ckr_points_invariant.specs.Points.{AreEntryPoints, ArePointed, AreStepPoints, IsPointAt}
use Rattle.ckr_points_invariant.proofs.Decks.Events.{row-orderly, with-orderly}
use Rattle.ckr_points_invariant.proofs.Holders.Moves.{moved, standing-is}
use Rattle.ckr_points_invariant.proofs.Holders.Rows.{run-same}
use Rattle.ckr_points_invariant.proofs.Marks.Changes as marks
use Rattle.ckr_points_invariant.proofs.Points.Rows as rows
use Rattle.ckr_points_invariant.proofs.Soundness.{at-passed}
use Rattle.ckr_points_invariant.proofs.Stamps.Events.{same_library}
use Rattle.ckr_points_invariant.proofs.Start.Event.{running-so}
use Rattle.ckr_points_invariant.proofs.Steps.Events.{led-by, running-holds, running-within}
use Rattle.ckr_points_invariant.proofs.WaitingRuns.{follows-of, tested-run}
use Rattle.ckr_points_invariant.specs.Restorability.{AreEntriesRestorable, AreStepsRestorable, HasPoint, IsRestorable, LeavesTheRest, StandsAt}
use Rattle.ckr_points_invariant.specs.RunningSteps.{IsRunning}
use Rattle.ckr_points_invariant.proofs.Restart.Invariant.{entry-outside, entry-shared, entry_row, entry_sets, kept-entry_back, kept-start_back, point-of, start-outside, start-shared, start_row, start_sets}
use Rattle.ckr_points_invariant.proofs.Restart.Points.{back-holds, fewer, points-with}
use Rattle.ckr_points_invariant.proofs.Restart.Verdicts.{check-unwritten, start-unwritten}

-- ---- the tables

abbrev start_change : RunRow → OwnedStep → ℕ → ℕ → TablesModel → StartPoint → TablesModel
start_change row owned step initiator tables point =
    after_put_back (record (row_on initiator row) { points = with_point (point_restarted point) row.points; in_effect = None }) owned (back_to_start row owned step point) tables

abbrev entry_change : RunRow → OwnedStep → ℕ → ℕ → TablesModel → EffectPoint → KeptEntry → TablesModel
entry_change row owned step initiator tables effect entry =
    after_put_back (record (row_on initiator row) { in_effect = Some (effect_restarted effect) }) owned (back_to_entry row owned step entry.point) tables

-- ---- the run

either : (a b c d : Bool) → (a && b || c && d) ≡ true → (a || c) ≡ true
either true b c d e = refl
either false b true d e = refl
either false b false d e = e

-- what follows of a run that restarts
abbrev restarts : Layout → TablesModel → ℕ → Bool → RunRow → Bool
restarts layout tables initiator checkpoint row =
    (is_running row && option_eq nat_eq row.initiator (Some initiator) || is_in_state ReleasedRun row && is_free layout tables initiator)
    && may_restart_again checkpoint row

module _ (layout : Layout) (now : Office) (job initiator : ℕ) (code : Code) (deck : Option Job) (kept : IsAgreed layout now) (pointed : ArePointed now) where
  abbrev behind : Bool → Office
  behind checkpoint = office_after (Restarted job initiator code checkpoint, deck) now

  -- a run in its step, with the verdict of the rules
  pub record RestartsNow (row : RunRow) (leg : Leg) (checkpoint : Bool) : Type 0 where
    pub holder : IsHolder now job row leg
    pub within : is_within (place_of row) ≡ true
    pub verdict : is_verdict checkpoint (automatic (auto_case row (step_now row) layout.eligible.items code false)) ≡ true

  pub restarts-now : (checkpoint : Bool) (row : RunRow) (leg : Leg) → IsHolder now job row leg → may_come layout now (Restarted job initiator code checkpoint, deck) ≡ true → carries layout now (Restarted job initiator code checkpoint) deck ≡ true → RestartsNow row leg checkpoint
  restarts-now checkpoint row leg holder may carried = record {
    holder = holder;
    within =
        running-within now.tables row leg (kept.places job row leg holder)
        (either (is_running row) (option_eq nat_eq row.initiator (Some initiator)) (is_in_state ReleasedRun row) (is_free layout now.tables initiator)
        (and-first _ (may_restart_again checkpoint row)
        (sym (ap (λ (o : Option RunRow). option_map_or (restarts layout now.tables initiator checkpoint) o false) holder.row_at) ∙ follows-of layout now (Restarted job initiator code checkpoint) deck may)));
    verdict =
        sym (ap (λ (o : Option RunRow). option_map_or (λ row. is_verdict checkpoint (automatic (auto_case row (step_now row) layout.eligible.items code false))) o false) holder.row_at) ∙ carried;
  }

  -- what holds behind each such run
  pub by-run : (checkpoint : Bool) (Q : Office → Type 0) → may_come layout now (Restarted job initiator code checkpoint, deck) ≡ true → carries layout now (Restarted job initiator code checkpoint) deck ≡ true → ((row : RunRow) (leg : Leg) → RestartsNow row leg checkpoint → Q (behind checkpoint)) → Q (behind checkpoint)
  by-run checkpoint Q may carried each =
      tested-run now.tables job (restarts layout now.tables initiator checkpoint) (follows-of layout now (Restarted job initiator code checkpoint) deck may)
      (λ row e passes.
      led-by layout now job row kept e
      (running-holds row (either (is_running row) (option_eq nat_eq row.initiator (Some initiator)) (is_in_state ReleasedRun row) (is_free layout now.tables initiator) (and-first _ (may_restart_again checkpoint row) passes)))
      (λ leg holder. each row leg (restarts-now checkpoint row leg holder may carried)))

  -- what its step does to the tables, or nothing
  pub at-step : (checkpoint : Bool) (Q : Office → Type 0) (row : RunRow) → run_of now.tables job ≡ Some row → (step : Option OwnedStep) → step_of_run row (step_now row) ≡ step → Q (record now { tables = option_map_or (λ owned. after_restarted row owned (step_now row) initiator checkpoint now.tables) step now.tables }) → Q (behind checkpoint)
  at-step checkpoint Q row e step found it =
      subst (λ (o : Option RunRow). Q (record now { tables = option_map_or (λ row. by_step (λ owned step. after_restarted row owned step initiator checkpoint now.tables) row now.tables) o now.tables })) (sym e)
      (subst (λ (o : Option OwnedStep). Q (record now { tables = option_map_or (λ owned. after_restarted row owned (step_now row) initiator checkpoint now.tables) o now.tables })) (sym found) it)

  with-step : (checkpoint : Bool) (Q : Office → Type 0) (row : RunRow) → run_of now.tables job ≡ Some row → Q now → ((owned : OwnedStep) → step_of_run row (step_now row) ≡ Some owned → Q (record now { tables = after_restarted row owned (step_now row) initiator checkpoint now.tables })) → Q (behind checkpoint)
  with-step checkpoint Q row e same each =
      option-cases (step_of_run row (step_now row))
      (λ none. at-step checkpoint Q row e None none same)
      (λ owned found. at-step checkpoint Q row e (Some owned) found (each owned found))

  its-points : (row : RunRow) → run_of now.tables job ≡ Some row → AreStepPoints now.legs row.number row.points
  its-points row e = rows.row-holds (λ run count. AreStepPoints now.legs run) (AreEntryPoints now.legs) tt (fewer now.legs) now.tables job row pointed e

  -- ---- at the start of its step

  module _ (can : AreStepsRestorable now) (row : RunRow) (leg : Leg) (its : RestartsNow row leg false) (owned : OwnedStep) (found : step_of_run row (step_now row) ≡ Some owned) (point : StartPoint) (got : point_at row.points (step_now row) ≡ Some point) where
    abbrev running : IsRunning now job row leg owned (step_now row) (writes_in (place_of row))
    running = running-so layout now job row leg owned its.holder its.within found

    pub point_is : IsPointAt now.legs row.number (Opened point.step) point.marks point.passed
    point_is = find-holds (λ (point : StartPoint). IsPointAt now.legs row.number (Opened point.step) point.marks point.passed) (λ (point : StartPoint). point.step == step_now row) row.points point (its-points row its.holder.row_at) got

    abbrev has : HasPoint leg (Opened (step_now row)) point.marks point.passed
    has =
        point-of now job leg (Opened (step_now row)) point.marks point.passed its.holder.leg_at
        (subst (λ step. IsPointAt now.legs job (Opened step) point.marks point.passed) (equal-true point.step (step_now row) (find-passes (λ (one : StartPoint). one.step == step_now row) row.points point got))
        (subst (λ run. IsPointAt now.legs run (Opened point.step) point.marks point.passed) (kept.numbered job row its.holder.row_at) point_is))

    abbrev restorable : IsRestorable row leg 0
    restorable = can.since job row leg point its.holder its.within got (start-unwritten row (step_now row) layout.eligible.items code point got its.verdict)

    abbrev pub row_then : RunRow
    row_then = start_row layout now job row leg owned (step_now row) (writes_in (place_of row)) kept running point initiator got has restorable row.job

    abbrev pub sets_then : Named TableSet
    sets_then = start_sets layout now job row leg owned (step_now row) (writes_in (place_of row)) kept running point initiator got has restorable row.job

    pub start-left : (name : Name) → is_among leg.reach name ≡ false → entry_at sets_then name ≡ entry_at now.tables.sets name
    start-left = start-outside layout now job row leg owned (step_now row) (writes_in (place_of row)) kept running point initiator got has restorable

    start-rest : LeavesTheRest now job sets_then
    start-rest = record {
      outside = λ other fellow name there out.
          start-left name
          (ap (λ (one : Leg). is_among one.reach name) (some-one leg fellow (leg_of now job) its.holder.leg_at there.leg_at) ∙ out);
      shared = λ number other fellow name there apart theirs.
          bool-cases (is_among leg.reach name)
          (λ mine.
          start-shared layout now job row leg owned (step_now row) (writes_in (place_of row)) kept running point initiator got has restorable name mine
          (kept.left job number row other leg fellow name its.holder there (λ e. apart (sym e)) mine theirs))
          (start-left name);
    }

    abbrev pub office_then : Office
    office_then = moved row_then sets_then now.library now

    agreed-start : IsAgreed layout office_then
    agreed-start = kept-start_back layout now job row leg owned (step_now row) (writes_in (place_of row)) kept running point initiator got has restorable

    stamped-start : AreStamped now → AreStamped office_then
    stamped-start stamps =
        same_library now office_then.tables stamps
        (back-holds (marks.Points (IsMarkedShort now)) (marks.Entries (IsMarkedShort now)) tt (marks.fewer (IsMarkedShort now)) now.tables row_then point.marks (output_names row.job.root owned) (names_of row.job.root owned) (own_made row owned (step_now row))
        (marks.points-with (IsMarkedShort now) (point_restarted point) row.points (marks.point-holds (IsMarkedShort now) row.points (step_now row) point mine got) mine) stamps.marks)
      where
        mine : marks.Points (IsMarkedShort now) row.number row.count row.points
        mine = marks.row-holds (IsMarkedShort now) now.tables job row stamps.marks its.holder.row_at

    pointed-start : ArePointed office_then
    pointed-start =
        back-holds (λ run count. AreStepPoints now.legs run) (AreEntryPoints now.legs) tt (fewer now.legs) now.tables row_then point.marks (output_names row.job.root owned) (names_of row.job.root owned) (own_made row owned (step_now row))
        (points-with now.legs row.number (point_restarted point) row.points point_is (its-points row its.holder.row_at)) pointed

    -- the tables behind it are these
    pub to-start : (Q : Office → Type 0) → Q office_then → Q (record now { tables = after_restarted row owned (step_now row) initiator false now.tables })
    to-start Q it = subst (λ (o : Option StartPoint). Q (record now { tables = option_map_or (start_change row owned (step_now row) initiator now.tables) o now.tables })) (sym got) it

    pub holder-start : IsHolder office_then job row_then leg
    holder-start = record {
      row_at = run-same (record now.tables { sets = sets_then }) row_then row job its.holder.row_at (kept.numbered job row its.holder.row_at);
      holds = refl;
      leg_at = its.holder.leg_at;
    }

  -- ---- at its checkpoint in effect

  module _ (can : AreEntriesRestorable now) (row : RunRow) (leg : Leg) (its : RestartsNow row leg true) (owned : OwnedStep) (found : step_of_run row (step_now row) ≡ Some owned) (effect : EffectPoint) (got : row.in_effect ≡ Some effect) (entry : KeptEntry) (there : kept_at now.tables.sets effect.set effect.kept.id ≡ Some entry) where
    abbrev running_so : IsRunning now job row leg owned (step_now row) (writes_in (place_of row))
    running_so = running-so layout now job row leg owned its.holder its.within found

    abbrev has_entry : HasPoint leg (Within (step_now row) entry.point.writes) entry.point.marks entry.point.passed
    has_entry = can.points job row leg effect entry its.holder its.within got there

    abbrev entry_restorable : IsRestorable row leg entry.point.writes
    entry_restorable = can.since job row leg effect entry its.holder its.within got there (check-unwritten row (step_now row) layout.eligible.items code effect got its.verdict)

    abbrev pub row_back : RunRow
    row_back = entry_row layout now job row leg owned (step_now row) (writes_in (place_of row)) kept running_so effect entry.point.writes entry.point.count entry.point.marks entry.point.passed initiator has_entry entry_restorable row.job

    abbrev pub sets_then_back : Named TableSet
    sets_then_back = entry_sets layout now job row leg owned (step_now row) (writes_in (place_of row)) kept running_so effect entry.point.writes entry.point.count entry.point.marks entry.point.passed initiator has_entry entry_restorable row.job

    pub entry-left : (name : Name) → is_among leg.reach name ≡ false → entry_at sets_then_back name ≡ entry_at now.tables.sets name
    entry-left = entry-outside layout now job row leg owned (step_now row) (writes_in (place_of row)) kept running_so effect entry.point.writes entry.point.count entry.point.marks entry.point.passed initiator has_entry entry_restorable

    entry-rest : LeavesTheRest now job sets_then_back
    entry-rest = record {
      outside = λ other fellow name there out.
          entry-left name
          (ap (λ (one : Leg). is_among one.reach name) (some-one leg fellow (leg_of now job) its.holder.leg_at there.leg_at) ∙ out);
      shared = λ number other fellow name there apart theirs.
          bool-cases (is_among leg.reach name)
          (λ mine.
          entry-shared layout now job row leg owned (step_now row) (writes_in (place_of row)) kept running_so effect entry.point.writes entry.point.count entry.point.marks entry.point.passed initiator has_entry entry_restorable name mine
          (kept.left job number row other leg fellow name its.holder there (λ e. apart (sym e)) mine theirs))
          (entry-left name);
    }

    abbrev pub office_back : Office
    office_back = moved row_back sets_then_back now.library now

    agreed-entry : IsAgreed layout office_back
    agreed-entry = kept-entry_back layout now job row leg owned (step_now row) (writes_in (place_of row)) kept running_so effect entry.point.writes entry.point.count entry.point.marks entry.point.passed initiator has_entry entry_restorable

    stamped-entry : AreStamped now → AreStamped office_back
    stamped-entry stamps =
        same_library now office_back.tables stamps
        (back-holds (marks.Points (IsMarkedShort now)) (marks.Entries (IsMarkedShort now)) tt (marks.fewer (IsMarkedShort now)) now.tables row_back entry.point.marks (output_names row.job.root owned) (names_of row.job.root owned) []
        (marks.row-holds (IsMarkedShort now) now.tables job row stamps.marks its.holder.row_at) stamps.marks)

    pointed-entry : ArePointed office_back
    pointed-entry =
        back-holds (λ run count. AreStepPoints now.legs run) (AreEntryPoints now.legs) tt (fewer now.legs) now.tables row_back entry.point.marks (output_names row.job.root owned) (names_of row.job.root owned) []
        (its-points row its.holder.row_at) pointed

    pub to-entry : (Q : Office → Type 0) → Q office_back → Q (record now { tables = after_restarted row owned (step_now row) initiator true now.tables })
    to-entry Q it =
        subst (λ (o : Option EffectPoint). Q (record now { tables = option_map_or (λ effect. option_map_or (entry_change row owned (step_now row) initiator now.tables effect) (kept_at now.tables.sets effect.set effect.kept.id) now.tables) o now.tables })) (sym got)
        (subst (λ (o : Option KeptEntry). Q (record now { tables = option_map_or (entry_change row owned (step_now row) initiator now.tables effect) o now.tables })) (sym there) it)

    pub holder-entry : IsHolder office_back job row_back leg
    holder-entry = record {
      row_at = run-same (record now.tables { sets = sets_then_back }) row_back row job its.holder.row_at (kept.numbered job row its.holder.row_at);
      holds = refl;
      leg_at = its.holder.leg_at;
    }

  -- ---- what is kept

  -- what is so behind both points, or where the tables stay, is so behind a restart
  pub start-by : (can : AreStepsRestorable now) (Q : Office → Type 0) (row : RunRow) (leg : Leg) (its : RestartsNow row leg false) → Q now → ((owned : OwnedStep) (found : step_of_run row (step_now row) ≡ Some owned) (point : StartPoint) (got : point_at row.points (step_now row) ≡ Some point) → Q (office_then can row leg its owned found point got)) → Q (behind false)
  start-by can Q row leg its same each =
      with-step false Q row its.holder.row_at same
      (λ owned found.
      option-cases (point_at row.points (step_now row))
      (λ none. subst (λ (o : Option StartPoint). Q (record now { tables = option_map_or (start_change row owned (step_now row) initiator now.tables) o now.tables })) (sym none) same)
      (λ point got. to-start can row leg its owned found point got Q (each owned found point got)))

  pub entry-by : (can : AreEntriesRestorable now) (Q : Office → Type 0) (row : RunRow) (leg : Leg) (its : RestartsNow row leg true) → Q now → ((owned : OwnedStep) (found : step_of_run row (step_now row) ≡ Some owned) (effect : EffectPoint) (got : row.in_effect ≡ Some effect) (entry : KeptEntry) (there : kept_at now.tables.sets effect.set effect.kept.id ≡ Some entry) → Q (office_back can row leg its owned found effect got entry there)) → Q (behind true)
  entry-by can Q row leg its same each =
      with-step true Q row its.holder.row_at same
      (λ owned found.
      option-cases row.in_effect
      (λ none. subst (λ (o : Option EffectPoint). Q (record now { tables = option_map_or (λ effect. option_map_or (entry_change row owned (step_now row) initiator now.tables effect) (kept_at now.tables.sets effect.set effect.kept.id) now.tables) o now.tables })) (sym none) same)
      (λ effect got.
      option-cases (kept_at now.tables.sets effect.set effect.kept.id)
      (λ none.
      subst (λ (o : Option EffectPoint). Q (record now { tables = option_map_or (λ effect. option_map_or (entry_change row owned (step_now row) initiator now.tables effect) (kept_at now.tables.sets effect.set effect.kept.id) now.tables) o now.tables })) (sym got)
      (subst (λ (o : Option KeptEntry). Q (record now { tables = option_map_or (entry_change row owned (step_now row) initiator now.tables effect) o now.tables })) (sym none) same))
      (λ entry there. to-entry can row leg its owned found effect got entry there Q (each owned found effect got entry there))))

  -- a run stands where its events are kept
  stands-at : (later : Office) (next : RunRow) (leg : Leg) (place : Place) → IsAgreed layout later → IsHolder later job next leg → next.place ≡ Some place → StandsAt later job leg place next.count
  stands-at later next leg place agreed holder stands =
      let there : place_of next ≡ place = ap (λ (o : Option Place). option_map_or (λ place. place) o (Before 1)) stands in
      record {
        row = next;
        holder = holder;
        stands = stands;
        count_so = refl;
        passed = (agreed.places job next leg holder).passed ∙ sym (at-passed leg.job leg.start (place_of next)) ∙ ap (λ its. (at leg.job leg.start its).passed) there;
        agrees = λ name among.
            agreed.held job next leg name holder among
            ∙ ap (λ (standing : Stock LibrarySet). option_map set_shape (entry_at standing.sets name)) (standing-is later job next leg holder.row_at holder.leg_at ∙ ap (at leg.job leg.start) there);
      }

-- ---- the laws

module _ (layout : Layout) (now : Office) (job initiator : ℕ) (code : Code) (deck : Option Job) where
  pub start-keeps : IsKept layout now → ArePointed now → AreStepsRestorable now → may_come layout now (Restarted job initiator code false, deck) ≡ true → carries layout now (Restarted job initiator code false) deck ≡ true → IsKept layout (office_after (Restarted job initiator code false, deck) now)
  start-keeps kept pointed can may carried =
      by-run layout now job initiator code deck kept.events pointed false (IsKept layout) may carried
      (λ row leg its.
      start-by layout now job initiator code deck kept.events pointed can (IsKept layout) row leg its kept
      (λ owned found point got. record {
        events = agreed-start layout now job initiator code deck kept.events pointed can row leg its owned found point got;
        stamps = stamped-start layout now job initiator code deck kept.events pointed can row leg its owned found point got kept.stamps;
        decks = with-orderly (row_then layout now job initiator code deck kept.events pointed can row leg its owned found point got) now.tables (row-orderly now.tables job row kept.decks its.holder.row_at) kept.decks;
      }))

  pub entry-keeps : IsKept layout now → ArePointed now → AreEntriesRestorable now → may_come layout now (Restarted job initiator code true, deck) ≡ true → carries layout now (Restarted job initiator code true) deck ≡ true → IsKept layout (office_after (Restarted job initiator code true, deck) now)
  entry-keeps kept pointed can may carried =
      by-run layout now job initiator code deck kept.events pointed true (IsKept layout) may carried
      (λ row leg its.
      entry-by layout now job initiator code deck kept.events pointed can (IsKept layout) row leg its kept
      (λ owned found effect got entry there. record {
        events = agreed-entry layout now job initiator code deck kept.events pointed can row leg its owned found effect got entry there;
        stamps = stamped-entry layout now job initiator code deck kept.events pointed can row leg its owned found effect got entry there kept.stamps;
        decks = with-orderly (row_back layout now job initiator code deck kept.events pointed can row leg its owned found effect got entry there) now.tables (row-orderly now.tables job row kept.decks its.holder.row_at) kept.decks;
      }))

  pub start-pointed : IsKept layout now → ArePointed now → AreStepsRestorable now → may_come layout now (Restarted job initiator code false, deck) ≡ true → carries layout now (Restarted job initiator code false) deck ≡ true → ArePointed (office_after (Restarted job initiator code false, deck) now)
  start-pointed kept pointed can may carried =
      by-run layout now job initiator code deck kept.events pointed false ArePointed may carried
      (λ row leg its.
      start-by layout now job initiator code deck kept.events pointed can ArePointed row leg its pointed
      (pointed-start layout now job initiator code deck kept.events pointed can row leg its))

  pub entry-pointed : IsKept layout now → ArePointed now → AreEntriesRestorable now → may_come layout now (Restarted job initiator code true, deck) ≡ true → carries layout now (Restarted job initiator code true) deck ≡ true → ArePointed (office_after (Restarted job initiator code true, deck) now)
  entry-pointed kept pointed can may carried =
      by-run layout now job initiator code deck kept.events pointed true ArePointed may carried
      (λ row leg its.
      entry-by layout now job initiator code deck kept.events pointed can ArePointed row leg its pointed
      (pointed-entry layout now job initiator code deck kept.events pointed can row leg its))

  pub start-stands : (row : RunRow) (leg : Leg) (owned : OwnedStep) (point : StartPoint) → IsKept layout now → ArePointed now → AreStepsRestorable now → may_come layout now (Restarted job initiator code false, deck) ≡ true → carries layout now (Restarted job initiator code false) deck ≡ true
      → IsHolder now job row leg → own_step row ≡ Some owned → point_at row.points (step_now row) ≡ Some point → StandsAt (office_after (Restarted job initiator code false, deck) now) job leg (Opened (step_now row)) point.count
  start-stands row leg owned point kept pointed can may carried holder found got =
      let its = restarts-now layout now job initiator code deck kept.events pointed false row leg holder may carried in
      at-step layout now job initiator code deck kept.events pointed false (λ later. StandsAt later job leg (Opened (step_now row)) point.count) row holder.row_at (Some owned) found
      (to-start layout now job initiator code deck kept.events pointed can row leg its owned found point got (λ later. StandsAt later job leg (Opened (step_now row)) point.count)
      (stands-at layout now job initiator code deck kept.events pointed _ (row_then layout now job initiator code deck kept.events pointed can row leg its owned found point got) leg (Opened (step_now row))
      (agreed-start layout now job initiator code deck kept.events pointed can row leg its owned found point got)
      (holder-start layout now job initiator code deck kept.events pointed can row leg its owned found point got) refl))

  pub entry-stands : (row : RunRow) (leg : Leg) (owned : OwnedStep) (effect : EffectPoint) (entry : KeptEntry) → IsKept layout now → ArePointed now → AreEntriesRestorable now → may_come layout now (Restarted job initiator code true, deck) ≡ true → carries layout now (Restarted job initiator code true) deck ≡ true
      → IsHolder now job row leg → own_step row ≡ Some owned → row.in_effect ≡ Some effect → kept_at now.tables.sets effect.set effect.kept.id ≡ Some entry → StandsAt (office_after (Restarted job initiator code true, deck) now) job leg (Within (step_now row) entry.point.writes) entry.point.count
  entry-stands row leg owned effect entry kept pointed can may carried holder found got there =
      let its = restarts-now layout now job initiator code deck kept.events pointed true row leg holder may carried in
      at-step layout now job initiator code deck kept.events pointed true (λ later. StandsAt later job leg (Within (step_now row) entry.point.writes) entry.point.count) row holder.row_at (Some owned) found
      (to-entry layout now job initiator code deck kept.events pointed can row leg its owned found effect got entry there (λ later. StandsAt later job leg (Within (step_now row) entry.point.writes) entry.point.count)
      (stands-at layout now job initiator code deck kept.events pointed _ (row_back layout now job initiator code deck kept.events pointed can row leg its owned found effect got entry there) leg (Within (step_now row) entry.point.writes)
      (agreed-entry layout now job initiator code deck kept.events pointed can row leg its owned found effect got entry there)
      (holder-entry layout now job initiator code deck kept.events pointed can row leg its owned found effect got entry there) refl))

  rest-same : LeavesTheRest now job now.tables.sets
  rest-same = record { outside = λ row leg name there out. refl; shared = λ number row leg name there apart among. refl }

  pub start-leaves : IsKept layout now → ArePointed now → AreStepsRestorable now → may_come layout now (Restarted job initiator code false, deck) ≡ true → carries layout now (Restarted job initiator code false) deck ≡ true → LeavesTheRest now job (office_after (Restarted job initiator code false, deck) now).tables.sets
  start-leaves kept pointed can may carried =
      by-run layout now job initiator code deck kept.events pointed false (λ later. LeavesTheRest now job later.tables.sets) may carried
      (λ row leg its.
      start-by layout now job initiator code deck kept.events pointed can (λ later. LeavesTheRest now job later.tables.sets) row leg its rest-same
      (start-rest layout now job initiator code deck kept.events pointed can row leg its))

  pub entry-leaves : IsKept layout now → ArePointed now → AreEntriesRestorable now → may_come layout now (Restarted job initiator code true, deck) ≡ true → carries layout now (Restarted job initiator code true) deck ≡ true → LeavesTheRest now job (office_after (Restarted job initiator code true, deck) now).tables.sets
  entry-leaves kept pointed can may carried =
      by-run layout now job initiator code deck kept.events pointed true (λ later. LeavesTheRest now job later.tables.sets) may carried
      (λ row leg its.
      entry-by layout now job initiator code deck kept.events pointed can (λ later. LeavesTheRest now job later.tables.sets) row leg its rest-same
      (entry-rest layout now job initiator code deck kept.events pointed can row leg its))
