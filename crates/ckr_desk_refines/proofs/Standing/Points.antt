-- The points of checkpoints in effect stand in memory for their entries behind an event of a run.
use Rattle.std.proofs.Common.{◌≡◌, ◌≢◌, ℕ, true, List, find, ap, sym, ◌∙◌, subst, Option, Some, None}
use Rattle.std.specs.Option.{option_map_or}
use Rattle.ckr_base.proofs.Bools.{and-first, and-second}
use Rattle.ckr_base.proofs.Numbers.{number-cases}
use Rattle.ckr_base.proofs.Options.{option-cases, some-not-none}
use Rattle.ckr_library.specs.NameMaps.{entry_at}
use Rattle.ckr_meaning.specs.EffectiveJob.{Effective, is_among}
use Rattle.ckr_meaning.specs.JobRun.{start_at}
use Rattle.ckr_meaning.specs.StepRun.{StepStart}
use Rattle.ckr_points_library.specs.Commit.{output_names}
use Rattle.ckr_points.specs.Follows.{is_within}
use Rattle.ckr_points.specs.Office.{Leg, Office, is_holder}
use Rattle.ckr_points.specs.Payload.{writes_in, start_in_office}
use Rattle.ckr_points.specs.Restart.{kept_at, place_of, step_in}
use Rattle.ckr_points.specs.Rows.{EffectPoint, KeptEntry, RunRow, TablesModel, run_of}
use Rattle.ckr_points_invariant.specs.Invariant.{IsAgreed, IsHolder, step_now}
use Rattle.ckr_points_invariant.specs.Readiness.{AreReady, IsCheck}
use Rattle.ckr_points_invariant.proofs.Holders.Places.{outputs-among}
use Rattle.ckr_points_invariant.proofs.Start.Event.{running-so}
use Rattle.ckr_points_invariant.proofs.Steps.Commits.{in_reach}
use Rattle.ckr_points_invariant.proofs.Steps.Events.{led-by}
use Rattle.ckr_volumes.specs.declared.layout.Layout.{Layout}
use Rattle.ckr_desk_memory.specs.EventChanges.{is_point_of}
use Rattle.ckr_desk_memory.specs.Invariant.{is_in_step}
use Rattle.ckr_desk_memory.specs.View.{PointView}
use Rattle.ckr_desk_turn.specs.Jobs.{effect_entry}
use Rattle.ckr_desk_refines.specs.SharedSets.{LeavesOthers}
use Rattle.ckr_desk_refines.specs.Standing.{OwnStands, PointsStand, StandsForPoint}
use Rattle.ckr_desk_refines.proofs.Entries.KeptEntries.{kept_in}
use Rattle.ckr_desk_refines.proofs.Events.OtherRows.{LeavesRuns}

-- the entry of an effect
abbrev pub entry_in_effect : TablesModel → Option EffectPoint → Option KeptEntry
entry_in_effect tables effect = option_map_or (λ effect. kept_at tables.sets effect.set effect.kept.id) effect None

-- a run with an entry in effect has a checkpoint in effect
pub by-effect : {A : Type 0} (tables : TablesModel) (row : RunRow) (entry : KeptEntry) → effect_entry tables row ≡ Some entry → ((effect : EffectPoint) → row.in_effect ≡ Some effect → kept_at tables.sets effect.set effect.kept.id ≡ Some entry → A) → A
by-effect tables row entry found use_it =
    option-cases row.in_effect
    (λ none. absurd (some-not-none entry (sym found ∙ ap (entry_in_effect tables) none)))
    (λ effect got. use_it effect got (sym (ap (entry_in_effect tables) got) ∙ found))

-- what stands for a point stands among other points that have it
pub point-moves : (old new : List PointView) (run other : ℕ) (start : StepStart) (entry : KeptEntry) → find (is_point_of other) new ≡ find (is_point_of run) old → StandsForPoint old run start entry → StandsForPoint new other start entry
point-moves old new run other start entry same stands = record {
  point = stands.point;
  found = same ∙ stands.found;
  stands = stands.stands;
  writes = stands.writes;
  unclosed = stands.unclosed;
  served = stands.served;
}

-- a run isn't within a step with a checkpoint in effect
abbrev pub IsIdle : TablesModel → ℕ → Type 0
IsIdle tables run = (row : RunRow) → run_of tables run ≡ Some row → is_in_step row ≡ true → row.in_effect ≡ None

pub idle-stands : (office : Office) (points : List PointView) (run : ℕ) → IsIdle office.tables run → OwnStands office points run
idle-stands office points run idle row entry start at runs found starts = absurd (some-not-none entry (sym found ∙ ap (entry_in_effect office.tables) (idle row at runs)))

module _ (layout : Layout) (now : Office) (agreed : IsAgreed layout now) (ready : AreReady now) where
  -- what a run that holds its names within its step has of its checkpoint in effect
  pub check-by : {A : Type 0} (number : ℕ) (row : RunRow) (effect : EffectPoint) → run_of now.tables number ≡ Some row → is_in_step row ≡ true → row.in_effect ≡ Some effect → ((leg : Leg) → IsHolder now number row leg → IsCheck now.tables.sets row leg effect → A) → A
  check-by number row effect at runs got use_it =
      led-by layout now number row agreed at (and-first (is_holder row.state) (is_within (place_of row)) runs)
      (λ leg holder. use_it leg holder ((ready.runs number row leg holder).check effect (and-second (is_holder row.state) (is_within (place_of row)) runs) got))

  module _ (later : Office) (run : ℕ) (leaves : LeavesRuns now later run) (others : LeavesOthers now run later) (old new : List PointView)
      (same : (number : ℕ) → number ≢ run → find (is_point_of number) new ≡ find (is_point_of number) old) (stand : PointsStand now old) where
    -- the data set with another run's entry is as it was
    set-same : (number : ℕ) (row : RunRow) (effect : EffectPoint) → number ≢ run → run_of now.tables number ≡ Some row → is_in_step row ≡ true → row.in_effect ≡ Some effect → entry_at later.tables.sets effect.set ≡ entry_at now.tables.sets effect.set
    set-same number row effect apart at runs got =
        check-by number row effect at runs got
        (λ leg holder check.
        others number row leg effect.set holder apart
        (in_reach layout now number row leg check.owned (step_now row) (writes_in (place_of row)) agreed
        (running-so layout now number row leg check.owned holder (and-second (is_holder row.state) (is_within (place_of row)) runs) check.found_step) effect.set
        (outputs-among leg.job.root check.owned effect.set (ap (λ (job : Effective). is_among (output_names job.root check.owned) effect.set) (agreed.places number row leg holder).job ∙ check.among))))

    other-stands : (number : ℕ) (row : RunRow) (entry : KeptEntry) (start : StepStart) → number ≢ run → run_of later.tables number ≡ Some row → is_in_step row ≡ true → effect_entry later.tables row ≡ Some entry → start_in_office later row ≡ Some start → StandsForPoint new number start entry
    other-stands number row entry start apart at_later runs found starts =
        let at : run_of now.tables number ≡ Some row = sym (leaves.rows number apart) ∙ at_later in
        by-effect later.tables row entry found
        (λ effect got there.
        point-moves old new number number start entry (same number apart)
        (stand number row entry start at runs
        (ap (entry_in_effect now.tables) got ∙ ap (kept_in effect.kept.id) (sym (set-same number row effect apart at runs got)) ∙ there)
        (ap (λ (o : Option Leg). option_map_or (λ leg. start_at leg.job leg.start (step_in (place_of row))) o None) (sym (leaves.legs row.number (λ e. apart (sym (agreed.numbered number row at) ∙ e)))) ∙ starts)))

    -- the points stand behind an event of a run, if its own does
    pub points-next : OwnStands later new run → PointsStand later new
    points-next own number row entry start at runs found starts =
        number-cases number run
        (λ here. subst (λ n. StandsForPoint new n start entry) (sym here) (own row entry start (ap (run_of later.tables) (sym here) ∙ at) runs found starts))
        (λ apart. other-stands number row entry start apart at runs found starts)
