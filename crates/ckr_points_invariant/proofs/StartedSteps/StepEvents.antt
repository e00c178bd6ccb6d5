-- One more event of a run in its step leaves what runs keep of the steps that they began.
use Rattle.std.proofs.Common.{◌≡◌, ◌≢◌, ◌≤◌, ◌<◌, ℕ, suc, Bool, true, false, cond, if◌then◌else◌, List, ◌∷◌, ◌++◌, map, refl, ap, sym, ◌∙◌, subst, Option, Some, None, arith, []}
use Rattle.std.specs.Prelude.{◌==◌}
use Rattle.std.specs.Option.{option_map}
use Rattle.ckr_base.specs.declared.code.Code.{Code}
use Rattle.ckr_base.proofs.Numbers.{equal-true, number-cases}
use Rattle.ckr_base.proofs.Sequences.{find-passes}
use Rattle.ckr_events.specs.declared.event.Event.TheVariants.{Restarted}
use Rattle.ckr_events.specs.declared.event.Made.{Made}
use Rattle.ckr_jcl.specs.declared.deck.Job.{Job}
use Rattle.ckr_library.specs.declared.sets.Kept.{Kept}
use Rattle.ckr_library.specs.NameMaps.{Name, Named, with_changed}
use Rattle.ckr_meaning.specs.EffectiveJob.{OwnedStep}
use Rattle.ckr_meaning.specs.declared.place.Place.TheVariants.{Before, Within}
use Rattle.ckr_volumes.specs.declared.layout.Layout.{Layout}
use Rattle.ckr_points_library.specs.Commit.{output_names}
use Rattle.ckr_points.specs.declared.run.RunState.TheVariants.{Held as HeldRun}
use Rattle.ckr_points.specs.Marks.{point_at, with_point}
use Rattle.ckr_points.specs.Office.{Leg, Office, office_after}
use Rattle.ckr_points.specs.Payload.{carries}
use Rattle.ckr_points.specs.Restart.{point_restarted}
use Rattle.ckr_points.specs.Rows.{RunRow, StartPoint, TableSet, TablesModel, with_run}
use Rattle.ckr_points.specs.Soundness.{may_come}
use Rattle.ckr_points.specs.Tables.{after_checkpointed, after_commit, after_dispositions, after_held, after_rewritten, after_started, after_step_ended, committed, entry_point, fresh_effect, is_checkpoints, is_updates, kept_entry, name_with_role, point_rewritten, row_rewritten, start_point, table_rewritten, with_kept_entry}
use Rattle.ckr_points_invariant.specs.Invariant.{IsAgreed, IsHolder, step_now}
use Rattle.ckr_points_invariant.specs.Points.{ArePointed}
use Rattle.ckr_points_invariant.specs.Readiness.{AreReady}
use Rattle.ckr_points_invariant.specs.StartedSteps.{AreBegunSteps, HasBegunSteps, IsBegunStep}
use Rattle.ckr_points_invariant.proofs.Holders.Places.{HasNext, owners-same}
use Rattle.ckr_points_invariant.proofs.Holders.Rows.{run-other, run-same}
use Rattle.ckr_points_invariant.proofs.Marks.Points.{point_at-new, point_at-other}
use Rattle.ckr_points_invariant.proofs.Readiness.Office.{entries-restorable, steps-restorable}
use Rattle.ckr_points_invariant.proofs.Restart.Event.{by-run, entry-by, row_back, row_then, sets_then, sets_then_back, start-by}
use Rattle.ckr_points_invariant.proofs.Start.Event.{StartsNow}
use Rattle.ckr_points_invariant.proofs.Start.Invariant as starting
use Rattle.ckr_points_invariant.proofs.StartedSteps.Kin.{kin-next}
use Rattle.ckr_points_invariant.proofs.StartedSteps.ReturnCodes.{codes-behind}
use Rattle.ckr_points_invariant.proofs.StartedSteps.Rows.{begun-by, begun-moved, begun-with, has-next, row-here}
use Rattle.ckr_points_invariant.proofs.StartedSteps.Runs.{begun-next, begun-now, marks_at}

-- ---- the marks of points

-- a rewrite marks the points, and leaves their marks
pub marks-rewritten : (step number : ℕ) (points : List StartPoint) → marks_at (map (point_rewritten step) points) number ≡ marks_at points number
marks-rewritten step number [] = refl
marks-rewritten step number (first ∷ rest) =
    elim (first.step == step) as
    (λ b.
    option_map (λ (point : StartPoint). point.marks) (point_at ((if b then record first { rewritten = true } else first) ∷ map (point_rewritten step) rest) number)
    ≡ option_map (λ (point : StartPoint). point.marks) (cond (first.step == number) (Some first) (point_at rest number))) [
      | true ↦ by (first.step == number) (record first { rewritten = true }) refl (marks-rewritten step number rest)
      | false ↦ by (first.step == number) first refl (marks-rewritten step number rest)
    ]
  where
    by : (b : Bool) (point : StartPoint) → point.marks ≡ first.marks → marks_at (map (point_rewritten step) rest) number ≡ marks_at rest number → option_map (λ (point : StartPoint). point.marks) (cond b (Some point) (point_at (map (point_rewritten step) rest) number)) ≡ option_map (λ (point : StartPoint). point.marks) (cond b (Some first) (point_at rest number))
    by true point same others = ap Some same
    by false point same others = others

-- so does a restart at the start of a step
marks-restarted : (points : List StartPoint) (step number : ℕ) (point : StartPoint) → point_at points step ≡ Some point → marks_at (with_point (point_restarted point) points) number ≡ marks_at points number
marks-restarted points step number point got =
    let its : point.step ≡ step = equal-true point.step step (find-passes (λ (one : StartPoint). one.step == step) points point got) in
    number-cases number point.step
    (λ here.
    ap (marks_at (with_point (point_restarted point) points)) here
    ∙ ap (option_map (λ (point : StartPoint). point.marks)) (point_at-new (point_restarted point) points)
    ∙ sym (ap (marks_at points) (here ∙ its) ∙ ap (option_map (λ (point : StartPoint). point.marks)) got))
    (λ apart. ap (option_map (λ (point : StartPoint). point.marks)) (point_at-other (point_restarted point) points number apart))

module _ (layout : Layout) (now : Office) (kept : IsAgreed layout now) (begun : AreBegunSteps now) where
  -- ---- a step starts

  pub begun-started : (job step : ℕ) (items : List Made) (row : RunRow) (leg : Leg) (owned : OwnedStep) → StartsNow layout now job row leg owned step items → AreBegunSteps (record now { tables = after_started row owned step items now.tables })
  begun-started job step items row leg owned starts =
      begun-by layout now kept job row row next leg now.tables sets now.library starts.holder starts.holder.row_at refl (λ number apart. refl) begun
      (record {
        job = old.job;
        formed = old.formed;
        orderly = old.orderly;
        kin = kin-next now.tables later.tables row next has refl refl refl old.kin;
        owners = owners-same now.tables later.tables row next has refl refl row.job.steps old.owners;
        steps = λ number its got.
            number-cases number step
            (λ here. subst (IsBegunStep later.tables next leg) (sym here) (begun-now layout later job next leg owned agreed holds refl starts.found))
            (λ apart.
            let got_then : point_at row.points number ≡ Some its = sym (point_at-other point row.points number apart) ∙ got in
            begun-next now.tables later.tables row next leg has refl refl number refl
            (λ other below.
            let under : number < step = before number its apart got_then in
            ap (option_map (λ (one : StartPoint). one.marks)) (point_at-other point row.points other (λ e. omega (arith, below, e, under))))
            (old.steps number its got_then));
        so_far = λ number its got.
            number-cases number step
            (λ here. omega (arith, here))
            (λ apart. let under : number < step = before number its apart (sym (point_at-other point row.points number apart) ∙ got) in omega (arith, under));
      })
    where
      opened : Named TableSet
      opened = starting.opened layout now job row leg owned step items kept starts.holder starts.stands starts.found

      point : StartPoint
      point = start_point row step opened

      sets : Named TableSet
      sets = starting.sets layout now job row leg owned step items kept starts.holder starts.stands starts.found

      next : RunRow
      next = record row { place = Some (Within step 0); points = with_point point row.points }

      later : Office
      later = record now { tables = with_run next (record now.tables { sets = sets }) }

      has : HasNext now.tables later.tables row next
      has = has-next layout now kept job row row next leg now.tables sets now.library starts.holder starts.holder.row_at refl (λ number apart. refl)

      holds : IsHolder later job next leg
      holds = record { row_at = row-here layout now kept job row row next leg now.tables sets now.library starts.holder starts.holder.row_at refl (λ number apart. refl); holds = starts.holds; leg_at = starts.holder.leg_at }

      agreed : IsAgreed layout later
      agreed = starting.kept-started layout now job row leg owned step items kept starts.holder starts.stands starts.found starts.holds starts.runs starts.flawless starts.clear

      old : HasBegunSteps now.tables row leg
      old = begun.runs job row leg starts.holder.row_at starts.holder.leg_at

      before : (number : ℕ) (its : StartPoint) → number ≢ step → point_at row.points number ≡ Some its → number < step
      before number its apart got =
          let is : step_now row ≡ step = starting.now layout now job row leg owned step items kept starts.holder starts.stands starts.found in
          let under : number ≤ step_now row = old.so_far number its got in
          omega (arith, is, under, apart)

  -- ---- within a step

  pub begun-held : (job writes : ℕ) (code : Code) (lengths : List ℕ) (row : RunRow) (leg : Leg) (owned : OwnedStep) → IsHolder now job row leg → AreBegunSteps (record now { tables = after_held row owned (step_now row) code writes lengths now.tables })
  begun-held job writes code lengths row leg owned holder =
      begun-moved layout now kept job row (record row { state = HeldRun; initiator = None; code = Some code; place = Some (Within (step_now row) writes) }) leg (committed (output_names row.job.root owned) lengths now.tables.sets) now.library begun holder
      (record { number = refl; deck = refl; job = refl; marks = λ step. refl; rcs = λ step before. refl; step = omega arith })

  pub begun-rewritten : (job writes : ℕ) (lengths : List ℕ) (row : RunRow) (leg : Leg) (owned : OwnedStep) → IsHolder now job row leg → AreBegunSteps (record now { tables = after_rewritten row owned (step_now row) writes lengths now.tables })
  begun-rewritten job writes lengths row leg owned holder =
      let done : TablesModel = after_commit (row_rewritten (step_now row) row) owned (step_now row) writes lengths now.tables in
      begun-moved layout now kept job row (record (row_rewritten (step_now row) row) { place = Some (Within (step_now row) writes) }) leg (with_changed (name_with_role row.job.root owned is_updates) (table_rewritten owned.owner (step_now row)) done.sets) now.library begun holder
      (record { number = refl; deck = refl; job = refl; marks = λ step. marks-rewritten (step_now row) step row.points; rcs = λ step before. refl; step = omega arith })

  pub begun-checkpointed : (job taken writes : ℕ) (lengths : List ℕ) (entry : Kept) (row : RunRow) (leg : Leg) (owned : OwnedStep) → IsHolder now job row leg → AreBegunSteps (record now { tables = after_checkpointed row owned (step_now row) entry taken writes lengths now.tables })
  begun-checkpointed job taken writes lengths entry row leg owned holder =
      let set : Name = name_with_role row.job.root owned is_checkpoints in
      let counted : RunRow = record row { count = suc row.count; in_effect = Some (fresh_effect set entry) } in
      let done : TablesModel = after_commit counted owned (step_now row) writes lengths now.tables in
      begun-moved layout now kept job row (record counted { place = Some (Within (step_now row) writes) }) leg (with_changed set (with_kept_entry (kept_entry entry (entry_point row owned (step_now row) taken writes done.sets))) done.sets) now.library begun holder
      (record { number = refl; deck = refl; job = refl; marks = λ step. refl; rcs = λ step before. refl; step = omega arith })

  -- ---- a step ends

  pub begun-step_done : (job rc writes : ℕ) (lengths : List ℕ) (row : RunRow) (leg : Leg) (owned : OwnedStep) → IsHolder now job row leg → AreBegunSteps (record now { tables = after_step_ended row owned (step_now row) rc writes lengths now.tables })
  begun-step_done job rc writes lengths row leg owned holder =
      let sets : Named TableSet = committed (output_names row.job.root owned) lengths now.tables.sets in
      let mid : RunRow = record row { place = Some (Within (step_now row) writes) } in
      let done : TablesModel = with_run mid (record now.tables { sets = sets }) in
      let disposed = after_dispositions row owned (step_now row) false done in
      let next : RunRow = record row { place = Some (Before (suc (step_now row))); rcs = row.rcs ++ (step_now row, rc) ∷ []; in_effect = None; passed = disposed.passed } in
      begun-with layout now kept job row mid next leg done disposed.sets now.library holder
      (run-same (record now.tables { sets = sets }) mid row job holder.row_at (kept.numbered job row holder.row_at)) refl
      (λ number differs. run-other (record now.tables { sets = sets }) mid number (λ same. differs (same ∙ kept.numbered job row holder.row_at))) begun
      (record { number = refl; deck = refl; job = refl; marks = λ step. refl; rcs = λ step before. codes-behind step (step_now row) rc row.rcs before; step = omega arith })

  -- ---- a run goes back

  module _ (pointed : ArePointed now) (ready : AreReady now) where
    pub begun-start : (job initiator : ℕ) (code : Code) (deck : Option Job) → may_come layout now (Restarted job initiator code false, deck) ≡ true → carries layout now (Restarted job initiator code false) deck ≡ true → AreBegunSteps (office_after (Restarted job initiator code false, deck) now)
    begun-start job initiator code deck may carried =
        by-run layout now job initiator code deck kept pointed false AreBegunSteps may carried
        (λ row leg its.
        let can = steps-restorable now ready in
        start-by layout now job initiator code deck kept pointed can AreBegunSteps row leg its begun
        (λ owned found point got.
        begun-moved layout now kept job row (row_then layout now job initiator code deck kept pointed can row leg its owned found point got) leg
        (sets_then layout now job initiator code deck kept pointed can row leg its owned found point got) now.library begun its.holder
        (record { number = refl; deck = refl; job = refl; marks = λ step. marks-restarted row.points (step_now row) step point got; rcs = λ step before. refl; step = omega arith })))

    pub begun-entry : (job initiator : ℕ) (code : Code) (deck : Option Job) → may_come layout now (Restarted job initiator code true, deck) ≡ true → carries layout now (Restarted job initiator code true) deck ≡ true → AreBegunSteps (office_after (Restarted job initiator code true, deck) now)
    begun-entry job initiator code deck may carried =
        by-run layout now job initiator code deck kept pointed true AreBegunSteps may carried
        (λ row leg its.
        let can = entries-restorable now ready in
        entry-by layout now job initiator code deck kept pointed can AreBegunSteps row leg its begun
        (λ owned found effect got entry there.
        begun-moved layout now kept job row (row_back layout now job initiator code deck kept pointed can row leg its owned found effect got entry there) leg
        (sets_then_back layout now job initiator code deck kept pointed can row leg its owned found effect got entry there) now.library begun its.holder
        (record { number = refl; deck = refl; job = refl; marks = λ step. refl; rcs = λ step before. refl; step = omega arith })))
