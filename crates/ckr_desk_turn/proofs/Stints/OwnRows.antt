-- The row of a run behind an event of its own that leaves it on its initiator, and the place where it stands then.
use Rattle.std.proofs.Common.{◌≡◌, ◌≢◌, ℕ, zero, suc, Bool, false, List, ◌∷◌, [], ◌++◌, slice_get, refl, ap, sym, ◌∙◌, subst, Option, Some, None}
use Rattle.std.specs.Option.{option_map_or}
use Rattle.arrayvec.specs.ArrayVec.{ArrayVec}
use Rattle.ckr_base.proofs.Numbers.{suc-same}
use Rattle.ckr_base.proofs.Sequences.{get-set-other}
use Rattle.ckr_events.specs.Jobs.{job_of}
use Rattle.ckr_events.specs.declared.event.Event.{Event}
use Rattle.ckr_events.specs.declared.event.Event.TheVariants.{Cancelled, Checkpointed, Restarted, Rewritten, Selected, Started, StepEnded}
use Rattle.ckr_events.specs.declared.event.Made.{Made}
use Rattle.ckr_library.specs.NameMaps.{Name, Named}
use Rattle.ckr_library.specs.declared.sets.Kept.{Kept}
use Rattle.ckr_meaning.specs.Allotments.{DdAllotment, opened_all}
use Rattle.ckr_meaning.specs.EffectiveJob.{OwnedStep, placed_in, stamp_of}
use Rattle.ckr_meaning.specs.declared.place.Place.{Place}
use Rattle.ckr_meaning.specs.declared.place.Place.TheVariants.{Before, Within}
use Rattle.ckr_points_library.specs.Commit.{output_names}
use Rattle.ckr_points.specs.Marks.{with_point}
use Rattle.ckr_points.specs.Restart.{after_event, place_of, step_in}
use Rattle.ckr_points.specs.Rows.{RunRow, TableSet, TablesModel, run_of, standing_of, step_of_run, table_ways, with_row}
use Rattle.ckr_points.specs.Tables.{after_cancelled, after_checkpointed, after_commit, after_dispositions, after_rewritten, after_started, after_step_ended, committed, fresh_effect, is_checkpoints, made_tables, name_with_role, row_rewritten, start_point}
use Rattle.ckr_points_invariant.proofs.Holders.Rows.{run-same}
use Rattle.ckr_desk_turn.specs.Select.{is_on, run_on_initiator}
use Rattle.ckr_desk_turn.proofs.StepEnd.{by-changed}
use Rattle.ckr_desk_turn.proofs.Stints.Initiators.{first-found, first-same, found-first}
use Rattle.ckr_desk_turn.proofs.Stints.Rows.{GivesOnly, rows-behind}

-- the run has another row, on the same initiator, at a place
pub record GoesTo (tables : TablesModel) (row : RunRow) (place : Place) : Type 0 where
  pub next : RunRow
  pub at : run_of tables row.number ≡ Some next
  pub number : next.number ≡ row.number
  pub lodged : next.initiator ≡ row.initiator
  pub stands : place_of next ≡ place

module _ (tables : TablesModel) (row : RunRow) (at : run_of tables row.number ≡ Some row) where
  pub goes-started : (step : ℕ) (items : ArrayVec Made) (owned : OwnedStep) → step_of_run row step ≡ Some owned → GoesTo (after_event (Started row.number step items) None tables) row (Within step 0)
  goes-started step items owned found =
      let placed : List DdAllotment = placed_in table_ways (standing_of row tables) row.job.root owned in
      let opened : Named TableSet = opened_all table_ways (stamp_of owned step) placed tables.sets in
      let next : RunRow = record row { place = Some (Within step 0); points = with_point (start_point row step opened) row.points } in
      subst (λ (o : Option RunRow). GoesTo (option_map_or (λ row. option_map_or (λ owned. after_started row owned step items.items tables) (step_of_run row step) tables) o tables) row (Within step 0)) (sym at)
      (subst (λ (o : Option OwnedStep). GoesTo (option_map_or (λ owned. after_started row owned step items.items tables) o tables) row (Within step 0)) (sym found)
      (record { next = next; at = run-same (record tables { sets = made_tables (stamp_of owned step) items.items placed opened }) next row row.number at refl; number = refl; lodged = refl; stands = refl }))

  pub goes-cancelled : GoesTo (after_event (Cancelled row.number) None tables) row (place_of row)
  goes-cancelled =
      subst (λ (o : Option RunRow). GoesTo (option_map_or (λ row. after_cancelled row tables) o tables) row (place_of row)) (sym at)
      (record { next = record row { in_effect = None }; at = run-same tables (record row { in_effect = None }) row row.number at refl; number = refl; lodged = refl; stands = refl })

  module _ (owned : OwnedStep) (found : step_of_run row (step_in (place_of row)) ≡ Some owned) where
    abbrev its_step : ℕ
    its_step = step_in (place_of row)

    pub goes-rewritten : (taken writes place : ℕ) (lengths : ArrayVec ℕ) (image : List ℕ) → GoesTo (after_event (Rewritten row.number taken writes lengths place image) None tables) row (Within its_step writes)
    goes-rewritten taken writes place lengths image =
        let next : RunRow = record (row_rewritten its_step row) { place = Some (Within its_step writes) } in
        by-changed (λ after. GoesTo after row (Within its_step writes)) tables row.number row owned (λ row owned step. after_rewritten row owned step writes lengths.items tables) at found
        (record { next = next; at = run-same (record tables { sets = committed (output_names row.job.root owned) lengths.items tables.sets }) next row row.number at refl; number = refl; lodged = refl; stands = refl })

    pub goes-checkpointed : (taken writes place bytes : ℕ) (id : Name) (lengths : ArrayVec ℕ) → GoesTo (after_event (Checkpointed row.number id taken writes lengths place bytes) None tables) row (Within its_step writes)
    goes-checkpointed taken writes place bytes id lengths =
        let kept : Kept = record { id = id; run = row.number; place = place; bytes = bytes } in
        let next : RunRow = record row { count = suc row.count; in_effect = Some (fresh_effect (name_with_role row.job.root owned is_checkpoints) kept); place = Some (Within its_step writes) } in
        by-changed (λ after. GoesTo after row (Within its_step writes)) tables row.number row owned (λ row owned step. after_checkpointed row owned step kept taken writes lengths.items tables) at found
        (record { next = next; at = run-same (record tables { sets = committed (output_names row.job.root owned) lengths.items tables.sets }) next row row.number at refl; number = refl; lodged = refl; stands = refl })

    pub goes-step_ended : (step rc writes : ℕ) (lengths : ArrayVec ℕ) → GoesTo (after_event (StepEnded row.number step rc writes lengths) None tables) row (Before (suc its_step))
    goes-step_ended step rc writes lengths =
        let mid : RunRow = record row { place = Some (Within its_step writes) } in
        let done : TablesModel = after_commit row owned its_step writes lengths.items tables in
        let stock = after_dispositions row owned its_step false done in
        let next : RunRow = record row { place = Some (Before (suc its_step)); rcs = row.rcs ++ (its_step, rc) ∷ []; in_effect = None; passed = stock.passed } in
        by-changed (λ after. GoesTo after row (Before (suc its_step))) tables row.number row owned (λ row owned step. after_step_ended row owned step rc writes lengths.items tables) at found
        (record {
          next = next;
          at =
              run-same (record done { sets = stock.sets }) next mid row.number
              (run-same (record tables { sets = committed (output_names row.job.root owned) lengths.items tables.sets }) mid row row.number at refl) refl;
          number = refl;
          lodged = refl;
          stands = refl;
        })

-- ---- it is on its initiator still

any-given : (event : Event) → GivesOnly (λ o. Unit {0}) event
any-given (Selected job initiator earlier step id) = tt
any-given (Restarted job initiator code checkpoint) = tt
any-given _ = tt

-- the rows of the other runs stay
pub others-stay : (tables : TablesModel) → ((number : ℕ) (one : RunRow) → run_of tables number ≡ Some one → one.number ≡ number) → (event : Event) (place : ℕ) → suc place ≢ job_of event → slice_get (after_event event None tables).runs place ≡ slice_get tables.runs place
others-stay tables numbered event place away =
    rows-behind (λ runs. slice_get runs place ≡ slice_get tables.runs place) (λ o. Unit {0}) tt event (any-given event)
    (λ other runs its same. put other.number other runs (λ e. away (e ∙ its.number)) ∙ same)
    tables refl (λ one at. record { number = numbered (job_of event) one at; off = tt })
  where
    put : (number : ℕ) (other : RunRow) (runs : List RunRow) → suc place ≢ number → slice_get (with_row other number runs) place ≡ slice_get runs place
    put zero other runs apart = refl
    put (suc before) other runs apart = get-set-other runs before place other (λ e. apart (ap suc e))

pub on-still : (tables : TablesModel) → ((number : ℕ) (one : RunRow) → run_of tables number ≡ Some one → one.number ≡ number) → (i : ℕ) (row : RunRow) → run_on_initiator tables i ≡ Some row → (event : Event) → job_of event ≡ row.number
    → (next : RunRow) → run_of (after_event event None tables) row.number ≡ Some next → next.initiator ≡ row.initiator → run_on_initiator (after_event event None tables) i ≡ Some next
on-still tables numbered i row on event job next at lodged =
    let first = first-found here tables.runs row on in
    let number : row.number ≡ suc first.0 = numbered (suc first.0) row first.1.at in
    found-first here (after_event event None tables).runs first.0 next
    (first-same here tables.runs (after_event event None tables).runs first.0 row next (ap (run_of (after_event event None tables)) (sym number) ∙ at) (ap (is_on i) lodged ∙ first.1.passes)
    (λ other apart. others-stay tables numbered event other (λ e. apart (suc-same other first.0 (e ∙ job ∙ number))))
    first.1)
  where
    here : RunRow → Bool
    here other = is_on i other.initiator
