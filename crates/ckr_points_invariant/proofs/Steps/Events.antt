-- One more event of a run that is in a step.
use Rattle.std.proofs.Common.{◌≡◌, ℕ, Bool, true, false, cond, ◌||◌, if◌then◌else◌, List, ◌∷◌, map, refl, ap, sym, ◌∙◌, subst, Some, []}
use Rattle.std.specs.Prelude.{◌==◌}
use Rattle.std.specs.Option.{option_map_or}
use Rattle.std.proofs.lemmas.Bool.{false≢true}
use Rattle.ckr_base.proofs.Bools.{and-first, and-second, or-cases}
use Rattle.ckr_base.proofs.Options.{is_some-true, option-cases}
use Rattle.ckr_entry.specs.declared.point.Mark.{Mark}
use Rattle.ckr_meaning.specs.EffectiveJob.{Effective, OwnedStep, names_of}
use Rattle.ckr_meaning.specs.declared.place.Place.{Place}
use Rattle.ckr_meaning.specs.declared.place.Place.TheVariants.{Before, Opened, Within}
use Rattle.ckr_volumes.specs.declared.layout.Layout.{Layout}
use Rattle.ckr_points.specs.declared.run.RunState.{RunState}
use Rattle.ckr_points.specs.declared.run.RunState.TheVariants.{Queued, On, Held as HeldRun, Released as ReleasedRun, Ended as EndedRun, Denied as DeniedRun, Purged as PurgedRun}
use Rattle.ckr_points.specs.Tables.{committed, own_made, point_rewritten, row_rewritten}
use Rattle.ckr_points.specs.Follows.{are_lengths, is_in_state, is_running, is_within, lengths_follow, state_number}
use Rattle.ckr_points.specs.Payload.{commits, writes_in}
use Rattle.ckr_points_invariant.specs.Invariant.{IsAtPlace, IsHolder, IsAgreed, step_now}
use Rattle.ckr_points_invariant.specs.RunningSteps.{IsRunning, its_start}
use Rattle.ckr_points_library.specs.Commit.{output_names}
use Rattle.ckr_points.specs.Marks.{carried_marks, made_names, point_at}
use Rattle.ckr_points.specs.Office.{Leg, Office, is_holder, leg_of}
use Rattle.ckr_points.specs.Restart.{place_of, step_in}
use Rattle.ckr_points.specs.Rows.{RunRow, StartPoint, TablesModel, run_of, step_of_run, with_run}
use Rattle.ckr_points_invariant.proofs.Marks.Points.{carried-same}
use Rattle.ckr_points_invariant.proofs.Steps.Commits.{GoesBehind, kept-committed}

-- ---- states and places

pub on-holds : (state : RunState) → (state_number state == 2) ≡ true → is_holder state ≡ true
on-holds Queued e = absurd (false≢true e)
on-holds On e = refl
on-holds HeldRun e = absurd (false≢true e)
on-holds ReleasedRun e = absurd (false≢true e)
on-holds EndedRun e = absurd (false≢true e)
on-holds DeniedRun e = absurd (false≢true e)
on-holds PurgedRun e = absurd (false≢true e)

pub held-holds : (state : RunState) → (state_number state == 3) ≡ true → (is_holder state ≡ true) × ((state_number state == 2) ≡ false)
held-holds Queued e = absurd (false≢true e)
held-holds On e = absurd (false≢true e)
held-holds HeldRun e = (refl, refl)
held-holds ReleasedRun e = absurd (false≢true e)
held-holds EndedRun e = absurd (false≢true e)
held-holds DeniedRun e = absurd (false≢true e)
held-holds PurgedRun e = absurd (false≢true e)

released-holds : (state : RunState) → (state_number state == 4) ≡ true → (is_holder state ≡ true) × ((state_number state == 2) ≡ false)
released-holds Queued e = absurd (false≢true e)
released-holds On e = absurd (false≢true e)
released-holds HeldRun e = absurd (false≢true e)
released-holds ReleasedRun e = (refl, refl)
released-holds EndedRun e = absurd (false≢true e)
released-holds DeniedRun e = absurd (false≢true e)
released-holds PurgedRun e = absurd (false≢true e)

-- a place within a step, behind its writes
pub within-is : (place : Place) → is_within place ≡ true → place ≡ Within (step_in place) (writes_in place)
within-is (Before step) e = absurd (false≢true e)
within-is (Opened step) e = absurd (false≢true e)
within-is (Within step writes) e = refl

-- ---- the holder of a row

-- a holder's leg
pub led-by : {A : Type 0} (layout : Layout) (office : Office) (job : ℕ) (row : RunRow) → IsAgreed layout office → run_of office.tables job ≡ Some row → is_holder row.state ≡ true → ((leg : Leg) → IsHolder office job row leg → A) → A
led-by layout office job row kept e holds use_it =
    is_some-true (leg_of office job) (kept.led job row e holds) (λ leg led. use_it leg (record { row_at = e; holds = holds; leg_at = led }))

-- a run that is running, or released, is within its step
pub running-holds : (row : RunRow) → (is_running row || is_in_state ReleasedRun row) ≡ true → is_holder row.state ≡ true
running-holds row e =
    or-cases (is_running row) (is_in_state ReleasedRun row) e
    (λ running. on-holds row.state (and-first (is_in_state On row) (is_within (place_of row)) running))
    (λ released. (released-holds row.state released).0)

pub running-within : (tables : TablesModel) (row : RunRow) (leg : Leg) → IsAtPlace tables row leg → (is_running row || is_in_state ReleasedRun row) ≡ true → is_within (place_of row) ≡ true
running-within tables row leg place e =
    or-cases (is_running row) (is_in_state ReleasedRun row) e
    (λ running. and-second (is_in_state On row) (is_within (place_of row)) running)
    (λ released. place.waits (released-holds row.state released).1)

-- the step of a run whose lengths follow
pub step-by : {A : Type 0} (tables : TablesModel) (row : RunRow) (lengths : List ℕ) → lengths_follow tables row lengths ≡ true → ((owned : OwnedStep) → step_of_run row (step_now row) ≡ Some owned → are_lengths tables.sets (output_names row.job.root owned) lengths ≡ true → A) → A
step-by tables row lengths follow use_it =
    option-cases (step_of_run row (step_now row))
    (λ none. absurd (false≢true (sym (ap (λ o. option_map_or (λ owned. are_lengths tables.sets (output_names row.job.root owned) lengths) o false) none) ∙ follow)))
    (λ owned found. use_it owned found (sym (ap (λ o. option_map_or (λ owned. are_lengths tables.sets (output_names row.job.root owned) lengths) o false) found) ∙ follow))

-- ---- rows of the run within its step

-- a row that differs in what its step isn't told by
pub record IsRowOf (row next : RunRow) (step writes : ℕ) : Type 0 where
  pub number : next.number ≡ row.number
  pub deck : next.deck ≡ row.deck
  pub job : next.job ≡ row.job
  pub own_from : next.earlier_step ≡ row.earlier_step
  pub rcs : next.rcs ≡ row.rcs
  pub passed : next.passed ≡ row.passed
  pub lost : next.lost ≡ row.lost
  pub stands : place_of next ≡ Within step writes
  pub holds : is_holder next.state ≡ true
  pub made : (owned : OwnedStep) (step : ℕ) → own_made next owned step ≡ own_made row owned step
  pub carried : carried_marks next ≡ carried_marks row

pub is-behind : (layout : Layout) (office : Office) (job : ℕ) (row next : RunRow) (leg : Leg) (owned : OwnedStep) (from to : ℕ) (kept : IsAgreed layout office) (running : IsRunning office job row leg owned (step_now row) from) → IsRowOf row next (step_now row) to → GoesBehind layout office job row leg owned (step_now row) from kept running next to
is-behind layout office job row next leg owned from to kept running its = record {
  same = record {
    number = its.number;
    job = its.job;
    own_from = its.own_from;
    rcs = its.rcs;
    passed = its.passed;
    deck = its.deck;
    lost = its.lost;
    step = ap step_in its.stands;
    made = λ owned step below. its.made owned step;
    carried = carried-same row next its.carried;
  };
  deck = its.deck;
  holds = its.holds;
  stands = its.stands;
  made = its.made owned (step_now row);
}

-- points that a rewrite marks tell by their marks what they told
told_rewritten : {A : Type 0} (tell : List Mark → A) (none : A) (step : ℕ) (points : List StartPoint) (its : ℕ) → option_map_or (λ (point : StartPoint). tell point.marks) (point_at (map (point_rewritten step) points) its) none ≡ option_map_or (λ (point : StartPoint). tell point.marks) (point_at points its) none
told_rewritten tell none step [] its = refl
told_rewritten tell none step (first ∷ rest) its =
    elim (first.step == step) as
    (λ b.
    option_map_or (λ (point : StartPoint). tell point.marks) (point_at ((if b then record first { rewritten = true } else first) ∷ map (point_rewritten step) rest) its) none
    ≡ option_map_or (λ (point : StartPoint). tell point.marks) (cond (first.step == its) (Some first) (point_at rest its)) none) [
      | true ↦ by (record first { rewritten = true }) refl refl (told_rewritten tell none step rest its)
      | false ↦ by first refl refl (told_rewritten tell none step rest its)
    ]
  where
    by : (point : StartPoint) → point.step ≡ first.step → point.marks ≡ first.marks → option_map_or (λ (point : StartPoint). tell point.marks) (point_at (map (point_rewritten step) rest) its) none ≡ option_map_or (λ (point : StartPoint). tell point.marks) (point_at rest its) none → option_map_or (λ (point : StartPoint). tell point.marks) (cond (point.step == its) (Some point) (point_at (map (point_rewritten step) rest) its)) none ≡ option_map_or (λ (point : StartPoint). tell point.marks) (cond (first.step == its) (Some first) (point_at rest its)) none
    by point at_step marks others =
        ap (λ n. option_map_or (λ (point : StartPoint). tell point.marks) (cond (n == its) (Some point) (point_at (map (point_rewritten step) rest) its)) none) at_step
        ∙ here (first.step == its)
      where
        here : (b : Bool) → option_map_or (λ (point : StartPoint). tell point.marks) (cond b (Some point) (point_at (map (point_rewritten step) rest) its)) none ≡ option_map_or (λ (point : StartPoint). tell point.marks) (cond b (Some first) (point_at rest its)) none
        here true = ap tell marks
        here false = others

pub row-rewritten-made : (row : RunRow) (step : ℕ) (owned : OwnedStep) (its : ℕ) → own_made (row_rewritten step row) owned its ≡ own_made row owned its
row-rewritten-made row step owned its = told_rewritten (λ marks. made_names marks (names_of row.job.root owned)) [] step row.points its

pub row-rewritten-carried : (row : RunRow) (step : ℕ) → carried_marks (row_rewritten step row) ≡ carried_marks row
row-rewritten-carried row step = told_rewritten (λ marks. marks) [] step row.points row.earlier_step

-- ---- committed

-- the events stay kept with the lengths committed that an event carries
pub kept-commit : (layout : Layout) (office : Office) (job : ℕ) (row next : RunRow) (leg : Leg) (owned : OwnedStep) (to : ℕ) (lengths : List ℕ) (kept : IsAgreed layout office) (running : IsRunning office job row leg owned (step_now row) (writes_in (place_of row))) → IsRowOf row next (step_now row) to → commits office.tables.sets row to lengths (its_start leg owned (step_now row)) ≡ true → are_lengths office.tables.sets (output_names row.job.root owned) lengths ≡ true → IsAgreed layout (record office { tables = with_run next (record office.tables { sets = committed (output_names row.job.root owned) lengths office.tables.sets }) })
kept-commit layout office job row next leg owned to lengths kept running its carried are =
    let same : leg.job ≡ row.job = (kept.places job row leg running.holder).job in
    subst (λ (effective : Effective). IsAgreed layout (record office { tables = with_run next (record office.tables { sets = committed (output_names effective.root owned) lengths office.tables.sets }) })) same
    (kept-committed layout office job row leg owned (step_now row) (writes_in (place_of row)) kept running next to lengths
    (is-behind layout office job row next leg owned (writes_in (place_of row)) to kept running its) carried
    (ap (λ (effective : Effective). are_lengths office.tables.sets (output_names effective.root owned) lengths) same ∙ are))
