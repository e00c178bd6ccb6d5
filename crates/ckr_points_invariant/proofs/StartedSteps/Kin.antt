-- The root of a run's job and the owners of its steps stay kin where their rows stay, and where its own row goes on. A run that continues no other
-- one is its own kin.
use Rattle.std.proofs.Common.{◌≡◌, ℕ, true, false, ◌||◌, List, [], ◌∷◌, map, refl, ap, sym, ◌∙◌, subst, Option, Some}
use Rattle.std.specs.Prelude.{◌==◌}
use Rattle.std.specs.List.{list_all}
use Rattle.std.specs.Option.{option_map_or}
use Rattle.std.proofs.lemmas.Bool.{and_from, or_left}
use Rattle.ckr_base.proofs.Numbers.{equal-itself, equal-true, number-cases}
use Rattle.ckr_base.proofs.Sequences.{all-implies}
use Rattle.ckr_jcl.specs.declared.deck.Job.{Job}
use Rattle.ckr_jcl.specs.declared.deck.Step.{Step}
use Rattle.ckr_meaning.specs.EffectiveJob.{Effective, owned_by, plain_job, step_at}
use Rattle.ckr_points.specs.RuleCases.{is_ended}
use Rattle.ckr_points.specs.Rows.{RunRow, TablesModel, run_of}
use Rattle.ckr_points_invariant.specs.JobNames.{AreKin, IsKin, keeps_points}
use Rattle.ckr_points_invariant.proofs.Holders.Places.{HasNext}
use Rattle.ckr_points_invariant.proofs.Holders.Rows.{PointsStay, step-all}

-- a run keeps its own points
pub keeps-itself : (tables : TablesModel) (number : ℕ) → keeps_points tables number number ≡ true
keeps-itself tables number = or_left (number == number) _ (equal-itself number)

-- ---- where the rows of kin stay

module _ (tables other : TablesModel) (row : RunRow) (stay : PointsStay tables other row.number) where
  pub keeps-stays : (owner : ℕ) → keeps_points tables row.number owner ≡ true → keeps_points other row.number owner ≡ true
  keeps-stays owner keeps =
      ap (λ (o : Option RunRow). owner == row.number || option_map_or (λ row. is_ended row.state) o false) (stay owner keeps) ∙ keeps

  one-stays : (number : ℕ) → IsKin tables row number → IsKin other row number
  one-stays number kin = ((kin.0.0, stay number kin.1 ∙ kin.0.1, kin.0.2), keeps-stays number kin.1)

  pub kin-stays : AreKin tables row → AreKin other row
  kin-stays kin = record {
    root = one-stays row.job.root kin.root;
    owners = λ number owned found. one-stays owned.owner (kin.owners number owned found);
  }

-- ---- where the row of the run goes on

module _ (tables later : TablesModel) (row next : RunRow) (has : HasNext tables later row next) (numbered : next.number ≡ row.number) (deck : next.deck ≡ row.deck) where
  one-next : (number : ℕ) → IsKin tables row number → IsKin later next number
  one-next number kin =
      number-cases number row.number
      (λ mine. ((next, ap (run_of later) mine ∙ has.now, refl), ap (keeps_points later next.number) (mine ∙ sym numbered) ∙ keeps-itself later next.number))
      (λ other. (
        (kin.0.0, has.others number other ∙ kin.0.1, kin.0.2 ∙ ap (λ (deck : Job). deck.name) (sym deck)),
        ap (λ n. keeps_points later n number) numbered
            ∙ ap (λ (o : Option RunRow). number == row.number || option_map_or (λ row. is_ended row.state) o false) (has.others number other)
            ∙ kin.1,
      ))

  pub kin-next : next.job ≡ row.job → AreKin tables row → AreKin later next
  kin-next same kin = record {
    root = subst (λ (job : Effective). IsKin later next job.root) (sym same) (one-next row.job.root kin.root);
    owners = λ number owned found. one-next owned.owner (kin.owners number owned (ap (λ (job : Effective). step_at job number) (sym same) ∙ found));
  }

-- ---- a run that continues no other one

-- it owns its steps
own-steps : (run : ℕ) (deck : Job) (steps : List Step) → list_all (λ owned. owned.owner == run) (map (owned_by run deck) steps) ≡ true
own-steps run deck [] = refl
own-steps run deck (first ∷ rest) = and_from (run == run) _ (equal-itself run) (own-steps run deck rest)

module _ (tables : TablesModel) (row : RunRow) (job : row.job ≡ plain_job row.number row.deck) where
  all-own : list_all (λ owned. owned.owner == row.number) row.job.steps ≡ true
  all-own = ap (λ (job : Effective). list_all (λ owned. owned.owner == row.number) job.steps) job ∙ own-steps row.number row.deck row.deck.steps

  pub owners-plain : list_all (λ owned. keeps_points tables row.number owned.owner) row.job.steps ≡ true
  owners-plain =
      all-implies (λ owned. owned.owner == row.number) (λ owned. keeps_points tables row.number owned.owner) row.job.steps
      (λ owned mine. or_left (owned.owner == row.number) _ mine) all-own

  pub kin-plain : run_of tables row.number ≡ Some row → AreKin tables row
  kin-plain row_at = record {
    root = subst (IsKin tables row) (sym (ap (λ (job : Effective). job.root) job)) itself;
    owners = λ number owned found.
        subst (IsKin tables row) (sym (equal-true owned.owner row.number (step-all (λ owned. owned.owner == row.number) row.job number owned all-own found))) itself;
  }
    where
      itself : IsKin tables row row.number
      itself = ((row, row_at, refl), keeps-itself tables row.number)
