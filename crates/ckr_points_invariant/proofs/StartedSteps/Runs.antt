-- A step that a run began stays so while the points of its owners stay, while its own row goes on, and where it is the one that the run is in.
use Rattle.std.proofs.Common.{◌≡◌, ◌≤◌, ℕ, pred, true, List, [], take, length, refl, ap, sym, ◌∙◌, subst, Option, Some, None, arith}
use Rattle.std.specs.List.{list_all}
use Rattle.std.specs.Option.{option_map, option_map_or}
use Rattle.ckr_base.proofs.Numbers.{number-cases}
use Rattle.ckr_base.proofs.Options.{option-cases, some-not-none}
use Rattle.ckr_base.proofs.Sequences.{all-implies, all-take}
use Rattle.ckr_entry.specs.declared.point.Mark.{Mark}
use Rattle.ckr_library.specs.NameMaps.{Name}
use Rattle.ckr_meaning.specs.EffectiveJob.{Effective, OwnedStep, is_among, names_of, step_at}
use Rattle.ckr_meaning.specs.JobRun.{is_bypassed}
use Rattle.ckr_volumes.specs.declared.layout.Layout.{Layout}
use Rattle.ckr_points.specs.Follows.{is_within}
use Rattle.ckr_points.specs.Marks.{made_names, point_at}
use Rattle.ckr_points.specs.Office.{Leg, Office}
use Rattle.ckr_points.specs.Payload.{writes_in}
use Rattle.ckr_points.specs.Restart.{place_of, rcs_before}
use Rattle.ckr_points.specs.Rows.{RunRow, StartPoint, TablesModel, run_of, step_of_run}
use Rattle.ckr_points.specs.Tables.{own_made, step_made, steps_made}
use Rattle.ckr_points_invariant.specs.Invariant.{IsAgreed, IsAtPlace, IsHolder, IsUnderWay, step_now}
use Rattle.ckr_points_invariant.specs.StartedSteps.{HasBegunSteps, IsBegunStep, start_by}
use Rattle.ckr_points_invariant.proofs.Holders.Places.{HasNext, lent-same, own_made-is, own_made-was, owners-same, steps_made-same}
use Rattle.ckr_points_invariant.proofs.Holders.Rows.{PointsStay, step-all, step_made-stays, steps_made-stays}
use Rattle.ckr_points_invariant.proofs.Start.Event.{running-so}
use Rattle.ckr_points_invariant.proofs.StartedSteps.Kin.{keeps-stays, kin-next, kin-stays}
use Rattle.ckr_points_invariant.proofs.StartedSteps.ReturnCodes.{short-take, walk-codes}
use Rattle.ckr_points_invariant.proofs.StepEnd.Invariant.{made_is}
use Rattle.ckr_points_invariant.proofs.Steps.Commits.{under_way}
use Rattle.ckr_points_invariant.specs.JobNames.{keeps_points}
use Rattle.ckr_points_invariant.specs.RunningSteps.{IsRunning}

-- ---- where the points of the owners stay

module _ (tables other : TablesModel) (row : RunRow) (stay : PointsStay tables other row.number) (leg : Leg) where
  begun-stays : (step : ℕ) → leg.job ≡ row.job → list_all (λ owned. keeps_points tables row.number owned.owner) row.job.steps ≡ true → IsBegunStep tables row leg step → IsBegunStep other row leg step
  begun-stays step same owners its = record {
    owned = its.owned;
    found = its.found;
    begun = its.begun;
    goes_on = its.goes_on;
    runs = its.runs;
    flawless = its.flawless;
    rcs = its.rcs;
    earlier = λ name.
        ap (λ names. is_among names name) (steps_made-stays tables other row stay 1 (take (pred step) row.job.steps) (all-take (λ owned. keeps_points tables row.number owned.owner) (pred step) row.job.steps owners))
        ∙ its.earlier name;
    made = λ name.
        ap (λ names. is_among names name) (step_made-stays tables other row stay its.owned step (step-all (λ owned. keeps_points tables row.number owned.owner) row.job step its.owned owners (ap (λ job. step_at job step) (sym same) ∙ its.found)))
        ∙ its.made name;
  }

  pub steps-stay : HasBegunSteps tables row leg → HasBegunSteps other row leg
  steps-stay its = record {
    job = its.job;
    formed = its.formed;
    orderly = its.orderly;
    kin = kin-stays tables other row stay its.kin;
    owners = all-implies (λ owned. keeps_points tables row.number owned.owner) (λ owned. keeps_points other row.number owned.owner) row.job.steps (λ owned. keeps-stays tables other row stay owned.owner) its.owners;
    steps = λ step point got. begun-stays step its.job its.owners (its.steps step point got);
    so_far = its.so_far;
  }

-- ---- where its row goes on

abbrev pub marks_at : List StartPoint → ℕ → Option (List Mark)
marks_at points step = option_map (λ (point : StartPoint). point.marks) (point_at points step)

made-by : (points : List StartPoint) (step : ℕ) (names : List Name) → option_map_or (λ (point : StartPoint). made_names point.marks names) (point_at points step) [] ≡ option_map_or (λ marks. made_names marks names) (marks_at points step) []
made-by points step names = by (point_at points step)
  where
    by : (o : Option StartPoint) → option_map_or (λ (point : StartPoint). made_names point.marks names) o [] ≡ option_map_or (λ marks. made_names marks names) (option_map (λ (point : StartPoint). point.marks) o) []
    by None = refl
    by (Some point) = refl

-- where a point marks the same, its step made the same
own-marked : (row next : RunRow) (owned : OwnedStep) (step : ℕ) → next.job ≡ row.job → marks_at next.points step ≡ marks_at row.points step → own_made next owned step ≡ own_made row owned step
own-marked row next owned step same marks =
    ap (λ (job : Effective). option_map_or (λ (point : StartPoint). made_names point.marks (names_of job.root owned)) (point_at next.points step) []) same
    ∙ made-by next.points step (names_of row.job.root owned)
    ∙ ap (λ o. option_map_or (λ marks. made_names marks (names_of row.job.root owned)) o []) marks
    ∙ sym (made-by row.points step (names_of row.job.root owned))

module _ (tables later : TablesModel) (row next : RunRow) (leg : Leg) (has : HasNext tables later row next) (numbered : next.number ≡ row.number) (same_job : next.job ≡ row.job) where
  -- a step stays begun while the points up to it mark the same
  pub begun-next : (step : ℕ) → rcs_before step next.rcs ≡ rcs_before step row.rcs → ((number : ℕ) → number ≤ step → marks_at next.points number ≡ marks_at row.points number) → IsBegunStep tables row leg step → IsBegunStep later next leg step
  begun-next step rcs marks its = record {
    owned = its.owned;
    found = its.found;
    begun = its.begun;
    goes_on = its.goes_on;
    runs = its.runs;
    flawless = its.flawless;
    rcs = rcs ∙ its.rcs;
    earlier = λ name.
        ap (λ (job : Effective). is_among (steps_made later next 1 (take (pred step) job.steps)) name) same_job
        ∙ ap (λ names. is_among names name)
        (steps_made-same tables later row next has numbered same_job 1 step (take (pred step) row.job.steps)
        (let short : length (take (pred step) row.job.steps) ≤ pred step = short-take (pred step) row.job.steps in let begun : 1 ≤ step = its.begun in omega (arith, short, begun))
        (λ owned number below. own-marked row next owned number same_job (marks number (omega (arith, below)))))
        ∙ its.earlier name;
    made = λ name.
        ap (λ names. is_among names name)
        (number-cases its.owned.owner row.number
        (λ mine. own_made-is tables later row next has numbered same_job its.owned step mine ∙ own-marked row next its.owned step same_job (marks step (omega arith)) ∙ sym (own_made-was tables later row next has numbered same_job its.owned step mine))
        (λ other. lent-same tables later row next has numbered same_job its.owned step other))
        ∙ its.made name;
  }

-- a row that keeps what its points mark, and the return codes before the step that it was in
pub record KeepsPoints (row next : RunRow) : Type 0 where
  pub number : next.number ≡ row.number
  pub deck : next.deck ≡ row.deck
  pub job : next.job ≡ row.job
  pub marks : (step : ℕ) → marks_at next.points step ≡ marks_at row.points step
  pub rcs : (step : ℕ) → step ≤ step_now row → rcs_before step next.rcs ≡ rcs_before step row.rcs
  pub step : step_now row ≤ step_now next

-- what has a point with those marks had one
pub marked-was : (points others : List StartPoint) (step : ℕ) (point : StartPoint) → marks_at points step ≡ marks_at others step → point_at points step ≡ Some point → (old : StartPoint) × (point_at others step ≡ Some old)
marked-was points others step point same got =
    option-cases (point_at others step)
    (λ none. absurd (some-not-none point.marks (sym (ap (option_map (λ (point : StartPoint). point.marks)) got) ∙ same ∙ ap (option_map (λ (point : StartPoint). point.marks)) none)))
    (λ old e. (old, e))

pub steps-next : (tables later : TablesModel) (row next : RunRow) (leg : Leg) → HasNext tables later row next → KeepsPoints row next → HasBegunSteps tables row leg → HasBegunSteps later next leg
steps-next tables later row next leg has keeps its = record {
  job = its.job ∙ sym keeps.job;
  formed = its.formed;
  orderly = its.orderly;
  kin = kin-next tables later row next has keeps.number keeps.deck keeps.job its.kin;
  owners = subst (λ (job : Effective). list_all (λ owned. keeps_points later next.number owned.owner) job.steps ≡ true) (sym keeps.job) (owners-same tables later row next has keeps.number keeps.job row.job.steps its.owners);
  steps = λ step point got.
      let old = marked-was next.points row.points step point (keeps.marks step) got in
      begun-next tables later row next leg has keeps.number keeps.job step (keeps.rcs step (its.so_far step old.0 old.1)) (λ number below. keeps.marks number) (its.steps step old.0 old.1);
  so_far = λ step point got.
      let old = marked-was next.points row.points step point (keeps.marks step) got in
      let before : step ≤ step_now row = its.so_far step old.0 old.1 in
      let on : step_now row ≤ step_now next = keeps.step in
      omega (arith, before, on);
}

-- ---- the step that it is in

module _ (layout : Layout) (office : Office) (job : ℕ) (row : RunRow) (leg : Leg) (owned : OwnedStep) (kept : IsAgreed layout office) (holder : IsHolder office job row leg) (inside : is_within (place_of row) ≡ true) (found : step_of_run row (step_now row) ≡ Some owned) where
  abbrev step : ℕ
  step = step_now row

  running : IsRunning office job row leg owned step (writes_in (place_of row))
  running = running-so layout office job row leg owned holder inside found

  place : IsAtPlace office.tables row leg
  place = kept.places job row leg holder

  way : IsUnderWay row (start_by leg owned step) (writes_in (place_of row))
  way = under_way layout office job row leg owned step (writes_in (place_of row)) kept running

  its_step : step_at leg.job step ≡ Some owned
  its_step = ap (λ job. step_at job step) place.job ∙ found

  own-step : owned.owner ≡ row.number → step_made office.tables row owned step ≡ own_made row owned step
  own-step mine =
      ap (λ (o : Option RunRow). option_map_or (λ (owner : RunRow). option_map_or (λ (point : StartPoint). made_names point.marks (names_of row.job.root owned)) (point_at owner.points step) []) o [])
      (ap (run_of office.tables) (mine ∙ kept.numbered job row holder.row_at) ∙ holder.row_at)

  -- it began that step
  pub begun-now : IsBegunStep office.tables row leg step
  begun-now = record {
    owned = owned;
    found = its_step;
    begun = place.begun;
    goes_on = place.goes_on;
    runs = ap (λ rcs. is_bypassed rcs owned) (sym place.rcs) ∙ way.runs;
    flawless = way.flawless;
    rcs = ap (rcs_before step) place.rcs ∙ walk-codes leg.job leg.start step place.begun;
    earlier = place.earlier;
    made = λ name.
        number-cases owned.owner row.number
        (λ mine. ap (λ names. is_among names name) (own-step mine) ∙ made_is layout office job row leg owned step (writes_in (place_of row)) kept running name)
        (λ other. place.lent owned name its_step other);
  }
