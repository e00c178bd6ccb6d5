-- A job that runs without a stop, or that is cut at a place.
use Rattle.std.specs.Prelude.{ℕ, suc, pred, ◌+◌, ◌==◌, Bool, true, false, ◌&&◌, not, nat_lt, nat_le, List, [], ◌∷◌, ◌++◌, take, length, Option, None, Some}
use Rattle.std.specs.Option.{option_map, option_map_or}
use Rattle.std.specs.List.{list_any}
use Rattle.ckr_base.specs.declared.programs.Finish.{Finish}
use Rattle.ckr_base.specs.declared.programs.Finish.TheVariants.{Returned, Abend}
use Rattle.ckr_jcl.specs.declared.deck.Cond.{Cond}
use Rattle.ckr_jcl.specs.declared.deck.CondOp.{CondOp}
use Rattle.ckr_jcl.specs.declared.deck.CondOp.TheVariants.{Gt, Ge, Eq, Lt, Le, Ne}
use Rattle.ckr_library.specs.NameMaps.{Name}
use Rattle.ckr_programs.specs.Work.{Work}
use Rattle.ckr_meaning.specs.declared.place.Place.{Place}
use Rattle.ckr_meaning.specs.declared.place.Place.TheVariants.{Before, Opened, Within}
use Rattle.ckr_meaning.specs.LibrarySet.{LibrarySet, Library}
use Rattle.ckr_meaning.specs.Dispositions.{Stock, passed_ended}
use Rattle.ckr_meaning.specs.EffectiveJob.{OwnedStep, Effective, step_at, names_made}
use Rattle.ckr_meaning.specs.StepRun.{StepStart, StepEnd, not_started, ended, placed_at, opened_at, within_at, work_at, disposed_at, end_at}

-- ---- tests of return codes

-- the return codes of steps that weren't bypassed, each with the step's number
abbrev pub StepCodes : Type 0
StepCodes = List (ℕ × ℕ)

-- whether the test's number stands so to the return code
abbrev pub compares : CondOp → ℕ → ℕ → Bool
compares Gt code rc = nat_lt rc code
compares Ge code rc = nat_le rc code
compares Eq code rc = code == rc
compares Lt code rc = nat_lt code rc
compares Le code rc = nat_le code rc
compares Ne code rc = not (code == rc)

-- whether a test is of this step: of the one that it names, or of each earlier one
abbrev pub is_tested : Option ℕ → ℕ → Bool
is_tested None step = true
is_tested (Some named) step = named == step

abbrev pub test_holds : StepCodes → Cond → Bool
test_holds rcs cond = list_any (λ past. is_tested cond.step past.0 && compares cond.op cond.code past.1) rcs

-- a step is bypassed where one of its tests holds of the return codes before it
abbrev pub is_bypassed : StepCodes → OwnedStep → Bool
is_bypassed rcs owned = list_any (test_holds rcs) owned.tests

-- ---- between steps

-- how far a job has come between two steps: the library with the passed list, the names that its steps made, their return codes
pub record Walk : Type 0 where
  pub standing : Stock LibrarySet
  pub earlier : List Name
  pub rcs : StepCodes

abbrev pub start_in : ℕ → ℕ → OwnedStep → Walk → StepStart
start_in root number owned walk =
    record { root = root; owned = owned; number = number; standing = walk.standing; earlier = walk.earlier }

abbrev pub rc_of : ℕ → Finish → StepCodes
rc_of number (Returned rc) = (number, rc) ∷ []
rc_of number (Abend code) = []

-- behind a step with its normal dispositions
unfoldable pub step_walked : StepStart → Walk → Walk
step_walked start walk = record {
  standing = disposed_at start false (within_at start (length (work_at start).writes));
  earlier = walk.earlier ++ names_made (placed_at start);
  rcs = walk.rcs ++ rc_of start.number (work_at start).finish;
}

abbrev pub walked_by : Bool → StepStart → Walk → Walk
walked_by true start walk = walk
walked_by false start walk = step_walked start walk

-- behind a step of this number, which is bypassed or runs
unfoldable pub walked_one : ℕ → ℕ → OwnedStep → Walk → Walk
walked_one root number owned walk = walked_by (is_bypassed walk.rcs owned) (start_in root number owned walk) walk

-- behind steps, the first of which has this number
abbrev pub walked : ℕ → ℕ → List OwnedStep → Walk → Walk
walked root number [] walk = walk
walked root number (owned ∷ rest) walk = walked root (suc number) rest (walked_one root number owned walk)

-- before the first step
abbrev pub walk_from : Library → Walk
walk_from library = record { standing = record { sets = library; passed = [] }; earlier = []; rcs = [] }

-- before the step of this number
unfoldable pub walk_before : Effective → Library → ℕ → Walk
walk_before job library number = walked job.root 1 (take (pred number) job.steps) (walk_from library)

-- a step as it is about to start in its job
unfoldable pub start_at : Effective → Library → ℕ → Option StepStart
start_at job library number =
    option_map (λ owned. start_in job.root number owned (walk_before job library number)) (step_at job number)

-- ---- a place

abbrev pub with_sets : Library → Stock LibrarySet → Stock LibrarySet
with_sets library standing = record standing { sets = library }

-- the library with the passed list at a place
unfoldable pub at : Effective → Library → Place → Stock LibrarySet
at job library (Before number) = (walk_before job library number).standing
at job library (Opened number) =
    option_map_or (λ start. with_sets (opened_at start) start.standing) (start_at job library number) (walk_before job library number).standing
at job library (Within number writes) =
    option_map_or (λ start. with_sets (within_at start writes) start.standing) (start_at job library number) (walk_before job library number).standing

-- what is left when the job ends with this library and passed list
abbrev pub ended_with : Stock LibrarySet → Library
ended_with standing = passed_ended standing.passed standing.sets

-- with the abnormal dispositions of a step that was running
abbrev pub cut_from : Effective → Library → Place → Stock LibrarySet → Stock LibrarySet
cut_from job library (Before number) standing = standing
cut_from job library (Opened number) standing = standing
cut_from job library (Within number writes) standing =
    option_map_or (λ start. disposed_at start true standing.sets) (start_at job library number) standing

-- what is left of a job that is cut at a place
unfoldable pub cut_at : Effective → Library → Place → Library
cut_at job library place = ended_with (cut_from job library place (at job library place))

-- ---- the end

-- where the job ends in a step that isn't bypassed, if it does: before it where it isn't started, within it at an abend
abbrev pub place_of_end : ℕ → Work → StepEnd → Option Place
place_of_end number work (not_started cause) = Some (Before number)
place_of_end number work (ended (Returned rc)) = None
place_of_end number work (ended (Abend code)) = Some (Within number (length work.writes))

abbrev pub end_unless : Bool → StepStart → Option Place
end_unless true start = None
end_unless false start = place_of_end start.number (work_at start) (end_at start)

unfoldable pub end_in : ℕ → ℕ → OwnedStep → Walk → Option Place
end_in root number owned walk = end_unless (is_bypassed walk.rcs owned) (start_in root number owned walk)

-- where a job ends whose steps from this number on are these: at the first own end or abend, or behind them all; the steps behind an
-- end aren't looked at
abbrev pub end_from : ℕ → ℕ → List OwnedStep → Walk → Place
end_from root number [] walk = Before number
end_from root number (owned ∷ rest) walk = elim (end_in root number owned walk) [
  | Some place ↦ place
  | None ↦ end_from root (suc number) rest (walked_one root number owned walk)
]

unfoldable pub end_of_job : Effective → Library → Place
end_of_job job library = end_from job.root 1 job.steps (walk_from library)

-- what a job leaves: to its end, or cut at a place
unfoldable pub job_run : Effective → Library → Option Place → Library
job_run job library None = cut_at job library (end_of_job job library)
job_run job library (Some place) = cut_at job library place

-- ---- which places there are

-- whether each of these steps is bypassed or ends with a return code
abbrev pub all_go_on : ℕ → ℕ → List OwnedStep → Walk → Bool
all_go_on root number [] walk = true
all_go_on root number (owned ∷ rest) walk = elim (end_in root number owned walk) [
  | Some place ↦ false
  | None ↦ all_go_on root (suc number) rest (walked_one root number owned walk)
]

-- whether the job comes to the step of this number, or to its end behind the last step
unfoldable pub is_reached : Effective → Library → ℕ → Bool
is_reached job library number =
    nat_le 1 number && nat_le number (length job.steps + 1)
    && all_go_on job.root 1 (take (pred number) job.steps) (walk_from library)

-- whether a step isn't bypassed and makes at least so many writes
abbrev pub is_within : StepCodes → ℕ → StepStart → Bool
is_within rcs writes start = not (is_bypassed rcs start.owned) && nat_le writes (length (work_at start).writes)

abbrev pub is_open_place : Effective → Library → ℕ → ℕ → Bool
is_open_place job library number writes =
    option_map_or (is_within (walk_before job library number).rcs writes) (start_at job library number) false

-- whether a run of the job may stand at a place
unfoldable pub is_place : Effective → Library → Place → Bool
is_place job library (Before number) = is_reached job library number
is_place job library (Opened number) = is_reached job library number && is_open_place job library number 0
is_place job library (Within number writes) = is_reached job library number && is_open_place job library number writes
