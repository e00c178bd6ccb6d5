-- The points of checkpoints in effect behind an event: whose they are, and their numbers.
use Rattle.std.proofs.Common.{◌≡◌, ◌≢◌, ◌==◌, ℕ, Bool, true, false, not, cond, List, [], ◌∷◌, find, refl, ap, sym, ◌∙◌, Option, None, Some}
use Rattle.std.specs.List.{AllByRecursion}
use Rattle.std.specs.Option.{option_map_or}
use Rattle.ckr_base.proofs.Numbers.{equal-itself, equal-true}
use Rattle.ckr_base.proofs.Sequences.{find-holds, find-passes}
use Rattle.ckr_events.specs.Jobs.{job_of}
use Rattle.ckr_events.specs.declared.event.Event.{Event}
use Rattle.ckr_events.specs.declared.event.Event.TheVariants.{Checkpointed, Cancelled, StepEnded, Restarted, Ended}
use Rattle.ckr_desk_memory.specs.EventChanges.{is_of_run, is_point_of, point_of, points_behind, with_point, without_point}
use Rattle.ckr_desk_memory.specs.Parts.{IsPointCounted}
use Rattle.ckr_desk_memory.specs.Plans.{HasCounts}
use Rattle.ckr_desk_memory.specs.View.{PointView, RunningStepView}

-- ---- what holds of each

module _ (P : PointView → Type 0) where
  all-without_point : (run : ℕ) (points : List PointView) → AllByRecursion P points → AllByRecursion P (without_point run points)
  all-without_point run [] all = tt
  all-without_point run (point ∷ rest) all = by (point.run == run) (all-without_point run rest all.1)
    where
      by : (b : Bool) → AllByRecursion P (without_point run rest) → AllByRecursion P (cond (not b) (point ∷ without_point run rest) (without_point run rest))
      by true others = others
      by false others = (all.0, others)

  all-with_point : (run : ℕ) (running : List RunningStepView) (points : List PointView) → ((on : RunningStepView) → find (is_of_run run) running ≡ Some on → P (point_of on)) → AllByRecursion P points → AllByRecursion P (with_point run running points)
  all-with_point run running points new all = by (find (is_of_run run) running) refl
    where
      by : (found : Option RunningStepView) → find (is_of_run run) running ≡ found → AllByRecursion P (option_map_or (λ on. point_of on ∷ without_point run points) found (without_point run points))
      by None is = all-without_point run points all
      by (Some on) is = (new on is, all-without_point run points all)

-- ---- their numbers

counted-of : (on : RunningStepView) → HasCounts on → IsPointCounted (point_of on)
counted-of on has parm range = record {
  field = range.sum;
  key = range.key;
  first = has.first;
  second = has.second;
  rejects = has.rejects;
  entries = has.entries;
  sum = has.sum;
  writes = has.writes;
}

pub counted-behind : (event : Event) (running : List RunningStepView) (points : List PointView) → AllByRecursion HasCounts running → AllByRecursion IsPointCounted points → AllByRecursion IsPointCounted (points_behind event running points)
counted-behind (Checkpointed job id taken writes lengths place bytes) running points all counted =
    all-with_point IsPointCounted job running points (λ on found. counted-of on (find-holds HasCounts (is_of_run job) running on all found)) counted
counted-behind (Cancelled job) running points all counted = all-without_point IsPointCounted job points counted
counted-behind (StepEnded job step rc writes lengths) running points all counted = all-without_point IsPointCounted job points counted
counted-behind (Restarted job initiator code true) running points all counted = counted
counted-behind (Restarted job initiator code false) running points all counted = all-without_point IsPointCounted job points counted
counted-behind (Ended job ending) running points all counted = all-without_point IsPointCounted job points counted
counted-behind _ running points all counted = counted

-- where one is put before those of other runs
pub counted-put : (point : PointView) (points : List PointView) → IsPointCounted point → AllByRecursion IsPointCounted points → AllByRecursion IsPointCounted (point ∷ without_point point.run points)
counted-put point points its counted = (its, all-without_point IsPointCounted point.run points counted)

-- ---- the point of a run

other-without : (job run : ℕ) → run ≢ job → (points : List PointView) → find (is_point_of run) (without_point job points) ≡ find (is_point_of run) points
other-without job run apart [] = refl
other-without job run apart (point ∷ rest) = by (point.run == job) refl (other-without job run apart rest)
  where
    passed : (point.run == job) ≡ true → (b : Bool) → (point.run == run) ≡ b → find (is_point_of run) rest ≡ cond b (Some point) (find (is_point_of run) rest)
    passed is true same = absurd (apart (sym (equal-true point.run run same) ∙ equal-true point.run job is))
    passed is false same = refl

    by : (b : Bool) → (point.run == job) ≡ b → find (is_point_of run) (without_point job rest) ≡ find (is_point_of run) rest
        → find (is_point_of run) (cond (not b) (point ∷ without_point job rest) (without_point job rest)) ≡ cond (point.run == run) (Some point) (find (is_point_of run) rest)
    by true is later = later ∙ passed is (point.run == run) refl
    by false is later = ap (cond (point.run == run) (Some point)) later

-- where one is put before those of other runs
pub own-put : (point : PointView) (points : List PointView) → find (is_point_of point.run) (point ∷ without_point point.run points) ≡ Some point
own-put point points = ap (λ b. cond b (Some point) (find (is_point_of point.run) (without_point point.run points))) (equal-itself point.run)

pub other-put : (point : PointView) (points : List PointView) (run : ℕ) → run ≢ point.run → find (is_point_of run) (point ∷ without_point point.run points) ≡ find (is_point_of run) points
other-put point points run apart = by (point.run == run) refl
  where
    by : (b : Bool) → (point.run == run) ≡ b → cond b (Some point) (find (is_point_of run) (without_point point.run points)) ≡ find (is_point_of run) points
    by true same = absurd (apart (sym (equal-true point.run run same)))
    by false same = other-without point.run run apart points

module _ (job : ℕ) (running : List RunningStepView) (points : List PointView) where
  -- that of the run itself
  pub own-with : (on : RunningStepView) → find (is_of_run job) running ≡ Some on → find (is_point_of job) (with_point job running points) ≡ Some (point_of on)
  own-with on found =
      ap (λ o. find (is_point_of job) (option_map_or (λ on. point_of on ∷ without_point job points) o (without_point job points))) found
      ∙ ap (λ b. cond b (Some (point_of on)) (find (is_point_of job) (without_point job points))) (find-passes (is_of_run job) running on found)

  other-with : (run : ℕ) → run ≢ job → find (is_point_of run) (with_point job running points) ≡ find (is_point_of run) points
  other-with run apart = by (find (is_of_run job) running) refl
    where
      first : (on : RunningStepView) → find (is_of_run job) running ≡ Some on → (b : Bool) → (on.run == run) ≡ b → cond b (Some (point_of on)) (find (is_point_of run) (without_point job points)) ≡ find (is_point_of run) (without_point job points)
      first on found true same = absurd (apart (sym (equal-true on.run run same) ∙ equal-true on.run job (find-passes (is_of_run job) running on found)))
      first on found false same = refl

      by : (found : Option RunningStepView) → find (is_of_run job) running ≡ found → find (is_point_of run) (option_map_or (λ on. point_of on ∷ without_point job points) found (without_point job points)) ≡ find (is_point_of run) points
      by None found = other-without job run apart points
      by (Some on) found = first on found (on.run == run) refl ∙ other-without job run apart points

-- that of another run stays
pub other-point : (event : Event) (running : List RunningStepView) (points : List PointView) (run : ℕ) → run ≢ job_of event → find (is_point_of run) (points_behind event running points) ≡ find (is_point_of run) points
other-point (Checkpointed job id taken writes lengths place bytes) running points run apart = other-with job running points run apart
other-point (Cancelled job) running points run apart = other-without job run apart points
other-point (StepEnded job step rc writes lengths) running points run apart = other-without job run apart points
other-point (Restarted job initiator code true) running points run apart = refl
other-point (Restarted job initiator code false) running points run apart = other-without job run apart points
other-point (Ended job ending) running points run apart = other-without job run apart points
other-point _ running points run apart = refl
