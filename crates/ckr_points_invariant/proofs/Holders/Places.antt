-- A holder at its place, where its row goes on.
use Rattle.std.proofs.Common.{◌≡◌, ◌≢◌, ◌≤◌, ◌<◌, ℕ, zero, suc, pred, ◌+◌, true, false, ◌||◌, List, [], ◌∷◌, ◌++◌, filter, take, drop, length, refl, ap, sym, ◌∙◌, subst, Option, Some, None, arith}
use Rattle.std.specs.Prelude.{◌==◌}
use Rattle.std.specs.List.{list_all}
use Rattle.std.specs.Option.{option_map_or}
use Rattle.std.proofs.lemmas.Bool.{false≢true}
use Rattle.ckr_base.proofs.Bools.{bool-cases}
use Rattle.ckr_base.proofs.Numbers.{equal-itself, number-cases}
use Rattle.ckr_base.proofs.Sequences.{all-implies, any-filter, any-second}
use Rattle.ckr_entry.specs.declared.point.Mark.{Mark}
use Rattle.ckr_library.specs.NameMaps.{Name}
use Rattle.ckr_meaning.specs.Allotments.{is_output}
use Rattle.ckr_jcl.specs.declared.deck.Job.{Job}
use Rattle.ckr_meaning.specs.EffectiveJob.{Effective, OwnedStep, is_among, name_of, names_made, names_of, names_of_job, names_of_steps, step_at}
use Rattle.ckr_meaning.specs.LibrarySet.{LibrarySet}
use Rattle.ckr_meaning.specs.JobRun.{all_go_on, start_in, walk_before, walk_from}
use Rattle.ckr_meaning.specs.StepRun.{placed_at}
use Rattle.ckr_points.specs.declared.run.RunState.TheVariants.{On}
use Rattle.ckr_points.specs.Tables.{earlier_made, own_made, step_made, steps_made}
use Rattle.ckr_points.specs.Follows.{is_in_state, is_within}
use Rattle.ckr_points.specs.RuleCases.{is_ended}
use Rattle.ckr_points_invariant.specs.Invariant.{HasMarkOf, IsAtPlace, IsWithinStep, step_now}
use Rattle.ckr_points_library.specs.Commit.{output_names}
use Rattle.ckr_points.specs.Marks.{carried_marks, made_names, mark_at, own_names, point_at}
use Rattle.ckr_points.specs.Office.{Leg, passed_made}
use Rattle.ckr_points.specs.Restart.{place_of}
use Rattle.ckr_points.specs.Rows.{RunRow, TablesModel, run_of}
use Rattle.ckr_points_invariant.proofs.Marks.Points.{KeepsCarried}
use Rattle.ckr_points_invariant.proofs.Steps.Walks.{at-same-step}
use Rattle.ckr_points_invariant.proofs.Library.Entries.{among-filter_map, is_name}
use Rattle.ckr_points_invariant.specs.JobNames.{keeps_points}

-- ---- names of a step

-- the outputs of a step are among its names
pub outputs-among : (root : ℕ) (owned : OwnedStep) (name : Name) → is_among (output_names root owned) name ≡ true → is_among (names_of root owned) name ≡ true
outputs-among root owned name among =
    among-filter_map (name_of root owned) owned.step.dds name
    ∙ any-second (λ dd. is_output dd.role) (λ dd. is_name name (name_of root owned dd)) owned.step.dds
    (sym (any-filter (λ dd. is_output dd.role) (λ dd. is_name name (name_of root owned dd)) owned.step.dds)
    ∙ sym (among-filter_map (name_of root owned) (filter (λ dd. is_output dd.role) owned.step.dds) name) ∙ among)

-- ---- a row that goes on in its step

-- a row of the same run, in the same step, whose earlier points mark the same
pub record IsSameRun (row next : RunRow) : Type 0 where
  pub number : next.number ≡ row.number
  pub job : next.job ≡ row.job
  pub own_from : next.earlier_step ≡ row.earlier_step
  pub rcs : next.rcs ≡ row.rcs
  pub passed : next.passed ≡ row.passed
  pub deck : next.deck ≡ row.deck
  pub lost : next.lost ≡ row.lost
  pub step : step_now next ≡ step_now row
  pub made : (owned : OwnedStep) (step : ℕ) → step < step_now row → own_made next owned step ≡ own_made row owned step
  pub carried : KeepsCarried row next

-- the tables have the later row, and the other rows as they were
pub record HasNext (tables later : TablesModel) (row next : RunRow) : Type 0 where
  pub was : run_of tables row.number ≡ Some row
  pub now : run_of later row.number ≡ Some next
  pub others : (other : ℕ) → other ≢ row.number → run_of later other ≡ run_of tables other

module _ (tables later : TablesModel) (row next : RunRow) (has : HasNext tables later row next) (numbered : next.number ≡ row.number) (same_job : next.job ≡ row.job) where
  pub own_made-is : (owned : OwnedStep) (step : ℕ) → owned.owner ≡ row.number → step_made later next owned step ≡ own_made next owned step
  own_made-is owned step mine =
      ap (λ (o : Option RunRow). option_map_or (λ (owner : RunRow). option_map_or (λ point. made_names point.marks (names_of next.job.root owned)) (point_at owner.points step) []) o [])
      (ap (run_of later) mine ∙ has.now)

  pub own_made-was : (owned : OwnedStep) (step : ℕ) → owned.owner ≡ row.number → step_made tables row owned step ≡ own_made row owned step
  own_made-was owned step mine =
      ap (λ (o : Option RunRow). option_map_or (λ (owner : RunRow). option_map_or (λ point. made_names point.marks (names_of row.job.root owned)) (point_at owner.points step) []) o [])
      (ap (run_of tables) mine ∙ has.was)

  pub lent-same : (owned : OwnedStep) (step : ℕ) → owned.owner ≢ row.number → step_made later next owned step ≡ step_made tables row owned step
  lent-same owned step other =
      ap (λ (o : Option RunRow). option_map_or (λ (owner : RunRow). option_map_or (λ point. made_names point.marks (names_of next.job.root owned)) (point_at owner.points step) []) o []) (has.others owned.owner other)
      ∙ ap (λ (job : Effective). option_map_or (λ (owner : RunRow). option_map_or (λ point. made_names point.marks (names_of job.root owned)) (point_at owner.points step) []) (run_of tables owned.owner) []) same_job

  pub steps_made-same : (first bound : ℕ) (steps : List OwnedStep) → first + length steps ≤ bound → ((owned : OwnedStep) (step : ℕ) → step < bound → own_made next owned step ≡ own_made row owned step) → steps_made later next first steps ≡ steps_made tables row first steps
  steps_made-same first bound [] below made = refl
  steps_made-same first bound (owned ∷ rest) below made =
      ap (λ names. names ++ steps_made later next (suc first) rest)
      (number-cases owned.owner row.number
      (λ mine. own_made-is owned first mine ∙ made owned first (omega (arith, below)) ∙ sym (own_made-was owned first mine))
      (λ other. lent-same owned first other))
      ∙ ap (λ names. step_made tables row owned first ++ names) (steps_made-same (suc first) bound rest (omega (arith, below)) made)

  pub owners-same : (steps : List OwnedStep) → list_all (λ owned. keeps_points tables row.number owned.owner) steps ≡ true → list_all (λ owned. keeps_points later next.number owned.owner) steps ≡ true
  owners-same steps each =
      all-implies (λ owned. keeps_points tables row.number owned.owner) (λ owned. keeps_points later next.number owned.owner) steps
      (λ owned keeps.
      number-cases owned.owner row.number
      (λ mine. ap (λ n. keeps_points later n owned.owner) numbered ∙ ap (λ n. keeps_points later row.number n) mine ∙ itself)
      (λ other.
      ap (λ n. keeps_points later n owned.owner) numbered
      ∙ ap (λ (o : Option RunRow). owned.owner == row.number || option_map_or (λ row. is_ended row.state) o false) (has.others owned.owner other) ∙ keeps)) each
    where
      itself : keeps_points later row.number row.number ≡ true
      itself = ap (λ b. b || option_map_or (λ row. is_ended row.state) (run_of later row.number) false) (equal-itself row.number)

shorter : (count : ℕ) (steps : List OwnedStep) → length (take count steps) ≤ count
shorter zero steps = omega arith
shorter (suc count) [] = omega arith
shorter (suc count) (first ∷ rest) = let e : length (take count rest) ≤ count = shorter count rest in omega (arith, e)

own-is : (row next : RunRow) → IsSameRun row next → (name : Name) → is_among (own_names next) name ≡ is_among (own_names row) name
own-is row next same name =
    ap (λ (job : Effective). is_among (names_of_steps job.root (drop (pred next.earlier_step) job.steps)) name) same.job
    ∙ ap (λ n. is_among (names_of_steps row.job.root (drop (pred n) row.job.steps)) name) same.own_from

-- a name that isn't the run's own isn't one of its step
pub other-out : (tables : TablesModel) (row : RunRow) (leg : Leg) (name : Name) → IsAtPlace tables row leg → is_among (own_names row) name ≡ false → (owned : OwnedStep) → step_at leg.job (step_now row) ≡ Some owned → is_among (names_of leg.job.root owned) name ≡ false
other-out tables row leg name place other owned found =
    bool-cases (is_among (names_of leg.job.root owned) name)
    (λ among. absurd (false≢true (sym other ∙ (place.ahead (step_now row) owned name (omega arith) found among).1)))
    (λ e. e)

-- a mark that stays
pub mark-stays : (one other : Option Mark) (set : Option LibrarySet) → ((mark : Mark) → one ≡ Some mark → other ≡ Some mark) → HasMarkOf one set → HasMarkOf other set
mark-stays None other set stays has = absurd has
mark-stays (Some mark) other set stays has = subst (λ (o : Option Mark). HasMarkOf o set) (sym (stays mark refl)) has

-- a holder is at its place, as its row goes on in the step
pub place-next : (tables later : TablesModel) (row next : RunRow) (leg : Leg) → HasNext tables later row next → IsSameRun row next → (is_in_state On next ≡ false → is_within (place_of next) ≡ true) → IsWithinStep next leg (place_of next) → IsAtPlace tables row leg → IsAtPlace later next leg
place-next tables later row next leg has same waits within place = record {
  job = place.job ∙ sym same.job;
  begun = subst (λ n. 1 ≤ n) (sym same.step) place.begun;
  past = subst (λ n. n ≤ step_now next) (sym same.own_from) (subst (λ n. row.earlier_step ≤ n) (sym same.step) place.past);
  formed = place.formed;
  goes_on = ap (λ n. all_go_on leg.job.root 1 (take (pred n) leg.job.steps) (walk_from leg.start)) same.step ∙ place.goes_on;
  rcs = same.rcs ∙ place.rcs ∙ ap (λ n. (walk_before leg.job leg.start n).rcs) (sym same.step);
  passed = same.passed ∙ place.passed ∙ ap (λ n. (walk_before leg.job leg.start n).standing.passed) (sym same.step);
  earlier = λ name.
      ap (λ n. is_among (earlier_made later next n) name) same.step
      ∙ ap (λ (job : Effective). is_among (steps_made later next 1 (take (pred (step_now row)) job.steps)) name) same.job
      ∙ ap (λ names. is_among names name) (steps_made-same tables later row next has same.number same.job 1 (step_now row) (take (pred (step_now row)) row.job.steps) (let short : length (take (pred (step_now row)) row.job.steps) ≤ pred (step_now row) = shorter (pred (step_now row)) row.job.steps in let begun : 1 ≤ step_now row = place.begun in omega (arith, short, begun)) same.made)
      ∙ place.earlier name ∙ ap (λ n. is_among (walk_before leg.job leg.start n).earlier name) (sym same.step);
  owners = subst (λ (job : Effective). list_all (λ owned. keeps_points later next.number owned.owner) job.steps ≡ true) (sym same.job) (owners-same tables later row next has same.number same.job row.job.steps place.owners);
  ahead = λ number owned name from found among.
      let its = place.ahead number owned name (subst (λ n. n ≤ number) same.step from) found among in
      (its.0, own-is row next same name ∙ its.1);
  own = λ name own. place.own name (sym (own-is row next same name) ∙ own);
  carried = λ name among other.
      let apart : is_among (own_names row) name ≡ false = sym (own-is row next same name) ∙ other in
      subst (HasMarkOf (mark_at (carried_marks next) name)) (at-same-step leg.job leg.start (place_of row) (place_of next) name same.step (other-out tables row leg name place apart))
      (mark-stays (mark_at (carried_marks row) name) (mark_at (carried_marks next) name) _ (λ mark has. same.carried name mark (ap (λ job. is_among (names_of_job job) name) (sym place.job) ∙ among) apart has)
      (place.carried name among apart));
  later = λ number owned from found. place.later number owned (subst (λ n. n < number) same.step from) found ∙ sym same.number;
  lent = λ owned name found apart.
      ap (λ n. is_among (step_made later next owned n) name) same.step
      ∙ ap (λ names. is_among names name) (lent-same tables later row next has same.number same.job owned (step_now row) (λ e. apart (e ∙ sym same.number)))
      ∙ place.lent owned name (ap (step_at leg.job) (sym same.step) ∙ found) (λ e. apart (e ∙ sym same.number))
      ∙ ap (λ n. is_among (names_made (placed_at (start_in leg.job.root n owned (walk_before leg.job leg.start n)))) name) (sym same.step);
  unreached = λ name gone. place.unreached name (ap (λ lost. is_among lost name) (sym same.lost) ∙ gone);
  none_lost = λ plain. same.lost ∙ place.none_lost (ap (λ (deck : Job). deck.restart) (sym same.deck) ∙ plain);
  entered = λ name out stays.
      ap (λ passed. is_among (passed_made passed) name) same.passed ∙ place.entered name out (ap (λ lost. is_among lost name) (sym same.lost) ∙ stays);
  waits = waits;
  within = within;
}
