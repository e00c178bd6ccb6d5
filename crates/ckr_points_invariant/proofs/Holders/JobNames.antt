-- The job names of runs, and the names that holders reach, in other tables: runs keep their decks, and ended ones have ended there.
use Rattle.std.proofs.Common.{◌≡◌, ◌≢◌, ℕ, true, false, ap, sym, ◌∙◌, subst, Option, Some, None}
use Rattle.std.specs.Prelude.{◌==◌}
use Rattle.std.specs.Option.{is_some, option_map_or}
use Rattle.std.proofs.lemmas.Bool.{false≢true, or_left, or_right}
use Rattle.ckr_base.proofs.Bools.{or-cases}
use Rattle.ckr_base.proofs.Numbers.{number-cases}
use Rattle.ckr_base.proofs.Options.{some-one}
use Rattle.ckr_jcl.specs.declared.deck.Job.{Job}
use Rattle.ckr_library.specs.NameMaps.{Name}
use Rattle.ckr_meaning.specs.EffectiveJob.{plain_job}
use Rattle.ckr_points.specs.Office.{Leg}
use Rattle.ckr_points.specs.RuleCases.{is_ended}
use Rattle.ckr_points.specs.Rows.{RunRow, TablesModel, run_of}
use Rattle.ckr_points_invariant.specs.JobNames.{HasJobName, HasUses, IsKin, IsNameOf, KeepsJobNames, has_ended, keeps_points}

-- ---- a run there, with the number and the deck that it has here

module _ (tables later : TablesModel) (keeps : KeepsJobNames tables later) (row next : RunRow) (same : next.number ≡ row.number) (deck : next.deck ≡ row.deck) where
  points-stay : (number : ℕ) → keeps_points tables row.number number ≡ true → keeps_points later next.number number ≡ true
  points-stay number keeper =
      ap (λ n. keeps_points later n number) same
      ∙ or-cases (number == row.number) _ keeper
      (λ own. or_left (number == row.number) (has_ended later number) own)
      (λ over. or_right (number == row.number) (has_ended later number) (keeps.ended number over))

  -- its kin is kin there
  pub kin-stays : (number : ℕ) → IsKin tables row number → IsKin later next number
  kin-stays number kin = (subst (λ (deck : Job). HasJobName later number deck.name) (sym deck) (keeps.named number row.deck.name kin.0), points-stay number kin.1)

  was : next.deck.restart ≡ None → row.deck.restart ≡ None
  was none = ap (λ (deck : Job). deck.restart) (sym deck) ∙ none

  had : is_some next.deck.restart ≡ true → is_some row.deck.restart ≡ true
  had given = ap (λ (deck : Job). is_some deck.restart) (sym deck) ∙ given

  -- and the names that it reaches are those of its deck
  pub uses-stay : (leg : Leg) → next.job.root ≡ row.job.root → HasUses tables row leg → HasUses later next leg
  uses-stay leg root uses = record {
    plain = λ none. uses.plain (was none) ∙ ap (λ n. plain_job n row.deck) (sym same) ∙ ap (plain_job next.number) (sym deck);
    reached = λ none. uses.reached (was none);
    root = λ given. subst (IsKin later next) (sym root) (kin-stays row.job.root (uses.root (had given)));
    deck = λ given name among.
        let its = uses.deck (had given) name among in (
          its.0,
          subst (λ root. IsNameOf next.deck root its.0 name) (sym root) (subst (λ (deck : Job). IsNameOf deck row.job.root its.0 name) (sym deck) its.1),
          kin-stays its.0 its.2,
        );
  }

-- ---- one run has another row

-- the other runs stay, and this one hadn't ended
pub others-keep : (tables later : TablesModel) (job : ℕ) → ((name : Name) → HasJobName tables job name → HasJobName later job name) → has_ended tables job ≡ false
    → ((number : ℕ) → number ≢ job → run_of later number ≡ run_of tables number) → KeepsJobNames tables later
others-keep tables later job own on others = record {
  named = λ number name has.
      number-cases number job
      (λ here. subst (λ n. HasJobName later n name) (sym here) (own name (subst (λ n. HasJobName tables n name) here has)))
      (λ apart. (has.0, others number apart ∙ has.1, has.2));
  ended = λ number over.
      number-cases number job
      (λ here. absurd (false≢true (sym on ∙ ap (has_ended tables) (sym here) ∙ over)))
      (λ apart. ap (λ row. option_map_or (λ (row : RunRow). is_ended row.state) row false) (others number apart) ∙ over);
}

-- and it has the job name that it had
pub one-row-keeps : (tables later : TablesModel) (job : ℕ) (row next : RunRow) → run_of tables job ≡ Some row → run_of later job ≡ Some next → next.deck ≡ row.deck → is_ended row.state ≡ false
    → ((number : ℕ) → number ≢ job → run_of later number ≡ run_of tables number) → KeepsJobNames tables later
one-row-keeps tables later job row next row_at next_at deck on others =
    others-keep tables later job
    (λ name has. (
      next,
      next_at,
      ap (λ (deck : Job). deck.name) deck ∙ ap (λ (row : RunRow). row.deck.name) (some-one row has.0 (run_of tables job) row_at has.1) ∙ has.2,
    ))
    (ap (λ (o : Option RunRow). option_map_or (λ row. is_ended row.state) o false) row_at ∙ on) others
