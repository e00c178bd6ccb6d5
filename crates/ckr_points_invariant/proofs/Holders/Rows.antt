-- Rows and legs by number, and the holders of an office where one run's row changes.
use Rattle.std.proofs.Common.{◌≡◌, ◌≢◌, ℕ, zero, suc, pred, Bool, true, false, ◌||◌, List, [], ◌∷◌, ◌++◌, take, refl, ap, sym, ◌∙◌, Option, Some}
use Rattle.std.specs.Prelude.{◌==◌, slice_get}
use Rattle.std.specs.List.{list_all}
use Rattle.std.specs.Option.{option_map_or}
use Rattle.std.proofs.lemmas.Bool.{false≢true}
use Rattle.ckr_base.proofs.Bools.{and-first, and-second}
use Rattle.ckr_base.proofs.Numbers.{equal-true}
use Rattle.ckr_base.proofs.Options.{some-not-none}
use Rattle.ckr_base.proofs.Sequences.{all-get, all-implies, all-take, find-passes, get-set-other, get-set-same}
use Rattle.ckr_meaning.specs.EffectiveJob.{Effective, OwnedStep, is_among, names_of, step_at}
use Rattle.ckr_points.specs.declared.run.RunState.{RunState}
use Rattle.ckr_points.specs.declared.run.RunState.TheVariants.{Queued, On, Held, Released, Ended, Denied, Purged}
use Rattle.ckr_points.specs.Tables.{step_made, steps_made}
use Rattle.ckr_points.specs.Follows.{state_number}
use Rattle.ckr_points.specs.RuleCases.{is_ended}
use Rattle.ckr_points_invariant.specs.Invariant.{IsAtPlace, step_now}
use Rattle.ckr_points.specs.Office.{Leg, Office, is_holder, leg_of}
use Rattle.ckr_points.specs.Rows.{RunRow, TablesModel, run_of, with_row, with_run}
use Rattle.ckr_points.specs.Marks.{made_names, point_at}
use Rattle.ckr_points_invariant.specs.JobNames.{keeps_points}

-- ---- rows

pub run-same : (tables : TablesModel) (row old : RunRow) (number : ℕ) → run_of tables number ≡ Some old → row.number ≡ number → run_of (with_run row tables) number ≡ Some row
run-same tables row old zero was e = absurd (some-not-none old (sym was))
run-same tables row old (suc before) was e =
    ap (λ n. slice_get (with_row row n tables.runs) before) e ∙ get-set-same tables.runs before row old was

row_other : (runs : List RunRow) (row : RunRow) (number place : ℕ) → suc place ≢ number → slice_get (with_row row number runs) place ≡ slice_get runs place
row_other runs row zero place apart = refl
row_other runs row (suc before) place apart = get-set-other runs before place row (λ e. apart (ap suc e))

pub run-other : (tables : TablesModel) (row : RunRow) (number : ℕ) → number ≢ row.number → run_of (with_run row tables) number ≡ run_of tables number
run-other tables row zero apart = refl
run-other tables row (suc before) apart = row_other tables.runs row row.number before apart

pub leg-number : (office : Office) (number : ℕ) (leg : Leg) → leg_of office number ≡ Some leg → leg.number ≡ number
leg-number office number leg found = equal-true leg.number number (find-passes (λ (one : Leg). one.number == number) office.legs leg found)

-- ---- states

pub holder-waits : (state : RunState) → is_holder state ≡ true → (state_number state == 1) ≡ false
holder-waits Queued e = absurd (false≢true e)
holder-waits On e = refl
holder-waits Held e = refl
holder-waits Released e = refl
holder-waits Ended e = absurd (false≢true e)
holder-waits Denied e = absurd (false≢true e)
holder-waits Purged e = absurd (false≢true e)

pub holder-ended : (state : RunState) → is_holder state ≡ true → is_ended state ≡ false
holder-ended Queued e = refl
holder-ended On e = refl
holder-ended Held e = refl
holder-ended Released e = refl
holder-ended Ended e = absurd (false≢true e)
holder-ended Denied e = refl
holder-ended Purged e = refl

pub queued-is : (state : RunState) → (state_number state == 1) ≡ true → state ≡ Queued
queued-is Queued e = refl
queued-is On e = absurd (false≢true e)
queued-is Held e = absurd (false≢true e)
queued-is Released e = absurd (false≢true e)
queued-is Ended e = absurd (false≢true e)
queued-is Denied e = absurd (false≢true e)
queued-is Purged e = absurd (false≢true e)

-- ---- lists

pub step-all : (all : OwnedStep → Bool) (job : Effective) (number : ℕ) (owned : OwnedStep) → list_all all job.steps ≡ true → step_at job number ≡ Some owned → all owned ≡ true
step-all all job zero owned each e = absurd (some-not-none owned (sym e))
step-all all job (suc before) owned each e = all-get all job.steps before owned each e

-- ---- what earlier steps made, by points that stay

-- the rows of a run and of the owners of its steps stay
abbrev pub PointsStay : TablesModel → TablesModel → ℕ → Type 0
PointsStay tables other number = (owner : ℕ) → keeps_points tables number owner ≡ true → run_of other owner ≡ run_of tables owner

module _ (tables other : TablesModel) (row : RunRow) (stay : PointsStay tables other row.number) where
  pub step_made-stays : (owned : OwnedStep) (step : ℕ) → keeps_points tables row.number owned.owner ≡ true → step_made other row owned step ≡ step_made tables row owned step
  step_made-stays owned step keeps =
      ap (λ (o : Option RunRow). option_map_or (λ owner. option_map_or (λ point. made_names point.marks (names_of row.job.root owned)) (point_at owner.points step) []) o []) (stay owned.owner keeps)

  pub steps_made-stays : (step : ℕ) (steps : List OwnedStep) → list_all (λ owned. keeps_points tables row.number owned.owner) steps ≡ true → steps_made other row step steps ≡ steps_made tables row step steps
  steps_made-stays step [] each = refl
  steps_made-stays step (owned ∷ rest) each =
      ap (λ names. names ++ steps_made other row (suc step) rest) (step_made-stays owned step (and-first (keeps_points tables row.number owned.owner) _ each))
      ∙ ap (λ names. step_made tables row owned step ++ names) (steps_made-stays (suc step) rest (and-second (keeps_points tables row.number owned.owner) _ each))

  keeps-stays : (owner : ℕ) → keeps_points tables row.number owner ≡ true → keeps_points other row.number owner ≡ true
  keeps-stays owner keeps =
      ap (λ (o : Option RunRow). owner == row.number || option_map_or (λ row. is_ended row.state) o false) (stay owner keeps) ∙ keeps

  -- a holder stays at its place where those rows stay
  pub place-stays : (leg : Leg) → IsAtPlace tables row leg → IsAtPlace other row leg
  place-stays leg place = record {
    job = place.job;
    begun = place.begun;
    past = place.past;
    formed = place.formed;
    goes_on = place.goes_on;
    rcs = place.rcs;
    passed = place.passed;
    earlier = λ name.
        ap (λ names. is_among names name) (steps_made-stays 1 (take (pred (step_now row)) row.job.steps) (all-take (λ owned. keeps_points tables row.number owned.owner) (pred (step_now row)) row.job.steps place.owners))
        ∙ place.earlier name;
    owners = all-implies (λ owned. keeps_points tables row.number owned.owner) (λ owned. keeps_points other row.number owned.owner) row.job.steps (λ owned. keeps-stays owned.owner) place.owners;
    ahead = place.ahead;
    own = place.own;
    carried = place.carried;
    later = place.later;
    lent = λ owned name found apart.
        ap (λ names. is_among names name) (step_made-stays owned (step_now row) (step-all (λ owned. keeps_points tables row.number owned.owner) row.job (step_now row) owned place.owners (ap (λ job. step_at job (step_now row)) (sym place.job) ∙ found)))
        ∙ place.lent owned name found apart;
    unreached = place.unreached;
    none_lost = place.none_lost;
    entered = place.entered;
    waits = place.waits;
    within = place.within;
  }
