-- The points of checkpoints in effect stand in memory for their entries behind a checkpoint that is written.
use Rattle.std.proofs.Common.{◌≡◌, ◌≢◌, ◌==◌, ℕ, true, false, cond, List, [], ◌∷◌, find, refl, ap, sym, ◌∙◌, subst, Option, Some, None}
use Rattle.std.specs.Option.{option_map}
use Rattle.std.proofs.lemmas.Option.{same_Some}
use Rattle.ckr_base.proofs.Numbers.{equal-itself}
use Rattle.ckr_base.proofs.Options.{some-not-none, some-one}
use Rattle.ckr_entry.specs.Parts.{Entry}
use Rattle.ckr_events.specs.declared.event.Event.TheVariants.{Checkpointed}
use Rattle.ckr_library.specs.NameMaps.{Name}
use Rattle.ckr_meaning.specs.EffectiveJob.{Effective}
use Rattle.ckr_meaning.specs.States.{StandsFor}
use Rattle.ckr_meaning.specs.StepRun.{StepStart, case_at}
use Rattle.ckr_points.specs.Office.{Office}
use Rattle.ckr_points.specs.Restart.{kept_at}
use Rattle.ckr_points.specs.Rows.{EffectPoint, KeptEntry, RunRow, TablesModel, run_of}
use Rattle.ckr_points.specs.Tables.{is_checkpoints, name_with_role}
use Rattle.ckr_desk_memory.specs.EventChanges.{is_of_run, is_point_of, point_of, with_point}
use Rattle.ckr_desk_memory.specs.View.{PointView, RunningStepView}
use Rattle.ckr_desk_memory.proofs.Points.{other-point, own-with}
use Rattle.ckr_desk_turn.proofs.Checkpoints.Events.{behind-by, check-named, kept-so, next_row, row-now, check-dd}
use Rattle.ckr_desk_turn.specs.Checkpoints.{check_set, checkpoint_fits, entry_with, next_id, written_entry}
use Rattle.ckr_desk_turn.specs.Desk.{DeskModel, DeskStep, checkpoint_done}
use Rattle.ckr_desk_turn.specs.Invariant.{IsDesk, IsGoing}
use Rattle.ckr_desk_turn.specs.Jobs.{effect_entry}
use Rattle.ckr_desk_refines.specs.Standing.{OwnStands, PointsStand, StandsForStep}
use Rattle.ckr_desk_refines.proofs.Checkpoints.Office.{leaves, leaves-others, may, office_then}
use Rattle.ckr_desk_refines.proofs.Standing.Points.{entry_in_effect, points-next}
use Rattle.ckr_points.specs.Payload.{start_in_office}

-- the entry of which a whole entry is made tells its records taken and its writes
told-by : (made : Entry) (kept : Option KeptEntry) (entry : KeptEntry) → option_map (λ (entry : KeptEntry). entry_with entry.kept.id made.state entry.point) kept ≡ Some made → kept ≡ Some entry → (entry.point.taken ≡ made.taken) × (entry.point.writes ≡ made.writes)
told-by made None entry told is = absurd (some-not-none entry (sym is))
told-by made (Some found) entry told is =
    let same : found ≡ entry = same_Some found entry is in
    let whole = same_Some _ made told in (
      ap (λ (e : KeptEntry). e.point.taken) (sym same) ∙ ap (λ (e : Entry). e.taken) whole,
      ap (λ (e : KeptEntry). e.point.writes) (sym same) ∙ ap (λ (e : Entry). e.writes) whole,
    )

module _ (desk : DeskModel) (is : IsDesk desk) (step : DeskStep) (going : IsGoing desk.office step) (uncoded : step.code ≡ None) (unclosed : step.progress.closed ≡ false) (fits : checkpoint_fits desk.office.tables.sets going.row going.start step.progress ≡ true)
    (check : Name) (check_is : check_set going.start ≡ Some check) where
  abbrev later : Office
  later = office_then desk is step going uncoded unclosed fits

  -- its row, with the entry in effect
  record HasNow (tables : TablesModel) : Type 0 where
    row : RunRow
    row_at : run_of tables step.run ≡ Some row
    effect : EffectPoint
    got : row.in_effect ≡ Some effect
    set : effect.set ≡ check
    id : effect.kept.id ≡ next_id going.row going.start
    starts : start_in_office desk.office row ≡ Some going.start

  has-now : HasNow later.tables
  has-now =
      behind-by desk.layout desk.office step (may desk is step going uncoded unclosed fits) HasNow
      (λ leg owned same job. record {
        row = next_row desk.layout desk.office step (may desk is step going uncoded unclosed fits) owned;
        row_at = row-now desk.layout desk.office step (may desk is step going uncoded unclosed fits) owned;
        effect = _;
        got = refl;
        set = ap (λ (j : Effective). name_with_role j.root owned is_checkpoints) (sym job)
            ∙ ap (λ (s : StepStart). name_with_role s.root s.owned is_checkpoints) (sym same)
            ∙ check-named going.start check (check-dd going.start check check_is);
        id = refl;
        starts = going.start_at;
      })

  -- the entry in effect is the one that was written
  entry-now : (row : RunRow) (entry : KeptEntry) → run_of later.tables step.run ≡ Some row → effect_entry later.tables row ≡ Some entry → (entry.point.taken ≡ step.progress.taken) × (entry.point.writes ≡ step.progress.writes)
  entry-now row entry at found =
      let same : has-now.row ≡ row = some-one has-now.row row (run_of later.tables step.run) has-now.row_at at in
      told-by (written_entry desk.layout desk.office step (may desk is step going uncoded unclosed fits)) (kept_at later.tables.sets check (next_id going.row going.start)) entry
      (kept-so desk.layout desk.office step (may desk is step going uncoded unclosed fits) check check_is)
      (ap (λ (set : Name). kept_at later.tables.sets set (next_id going.row going.start)) (sym has-now.set) ∙ ap (kept_at later.tables.sets has-now.effect.set) (sym has-now.id)
      ∙ ap (entry_in_effect later.tables) (sym has-now.got ∙ ap (λ (r : RunRow). r.in_effect) same) ∙ found)

  start-now : (row : RunRow) (start : StepStart) → run_of later.tables step.run ≡ Some row → start_in_office later row ≡ Some start → start ≡ going.start
  start-now row start at starts =
      let same : has-now.row ≡ row = some-one has-now.row row (run_of later.tables step.run) has-now.row_at at in
      same_Some start going.start (sym starts ∙ ap (start_in_office desk.office) (sym same) ∙ has-now.starts)

  module _ (image : List ℕ) (first : RunningStepView) (rest running : List RunningStepView) (run : ℕ) (same_run : step.run ≡ run) (stands : StandsForStep desk.layout later image first (record { run = run; progress = checkpoint_done step.progress; code = None }))
      (uncancelled : step.progress.cancelled ≡ false) (is_first : running ≡ first ∷ rest) (points : List PointView) (stand : PointsStand desk.office points) where
    found-first : find (is_of_run run) running ≡ Some first
    found-first = ap (find (is_of_run run)) is_first ∙ ap (λ b. cond b (Some first) (find (is_of_run run) rest)) (ap (λ n. n == run) stands.run ∙ equal-itself run)

    own-points : OwnStands later (with_point run running points) step.run
    own-points row entry start at runs found starts =
        let told = entry-now row entry at found in
        let its : stands.start ≡ start = same_Some stands.start start (sym stands.start_at ∙ ap (start_in_office later) (some-one stands.row row (run_of later.tables run) stands.row_at (ap (run_of later.tables) (sym same_run) ∙ at)) ∙ starts) in
        record {
          point = point_of first;
          found = ap (λ n. find (is_point_of n) (with_point run running points)) same_run ∙ own-with run running points first found-first;
          stands = subst (λ n. StandsFor first.step.state (case_at start) n) (sym told.0) (subst (λ (s : StepStart). StandsFor first.step.state (case_at s) step.progress.taken) its (stands.stands stands.code).state);
          writes = stands.writes ∙ sym told.1;
          unclosed = (stands.stands stands.code).open_or_closed ∙ unclosed;
          served = record { checkpoint = (stands.served stands.code).checkpoint; cancel = (stands.served stands.code).cancel ∙ uncancelled };
        }

    other-same : (number : ℕ) → number ≢ step.run → find (is_point_of number) (with_point run running points) ≡ find (is_point_of number) points
    other-same number apart =
        other-point (Checkpointed run [] 0 0 (record { items = [] }) 0 0) running points number (λ e. apart (e ∙ sym same_run))

    pub points-written : PointsStand later (with_point run running points)
    points-written =
        points-next desk.layout desk.office is.kept.events is.ready later step.run (leaves desk is step going uncoded unclosed fits) (leaves-others desk is step going uncoded unclosed fits) points (with_point run running points) other-same stand own-points
