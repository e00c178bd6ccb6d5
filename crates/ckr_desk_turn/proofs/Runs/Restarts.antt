-- The rows behind an automatic restart.
use Rattle.std.proofs.Common.{◌≡◌, ℕ, Bool, true, false, refl, ◌∙◌, Option, Some}
use Rattle.ckr_base.specs.declared.code.Code.{Code}
use Rattle.ckr_events.specs.declared.event.Event.TheVariants.{Restarted}
use Rattle.ckr_jcl.specs.declared.deck.Job.{Job}
use Rattle.ckr_library.specs.NameMaps.{Named}
use Rattle.ckr_points.specs.Events.{IsNext}
use Rattle.ckr_points.specs.Office.{Office, office_after}
use Rattle.ckr_points.specs.Rows.{RunRow, TableSet, run_of, with_run}
use Rattle.ckr_points_invariant.proofs.Readiness.Office.{entries-restorable, steps-restorable}
use Rattle.ckr_points_invariant.proofs.Restart.Event.{by-run, entry-by, row_back, row_then, sets_then, sets_then_back, start-by}
use Rattle.ckr_volumes.specs.declared.layout.Layout.{Layout}
use Rattle.ckr_desk_turn.proofs.Runs.Events.{has-step}
use Rattle.ckr_desk_turn.proofs.Runs.Rows.{HasRow, HasRows, has-row, runs-renewed, stands-one}
use Rattle.ckr_points_invariant.specs.KeptEvents.{AreKept}

module _ (layout : Layout) (now : Office) (are : AreKept layout now) (has : HasRows now) where
  -- with one row that is renewed
  renewed-one : (job : ℕ) (row next : RunRow) (sets : Named TableSet) → run_of now.tables job ≡ Some row → next.number ≡ row.number → HasRow next → HasRows (record now { tables = with_run next (record now.tables { sets = sets }) })
  renewed-one job row next sets at same its =
      runs-renewed now (record now { tables = with_run next (record now.tables { sets = sets }) }) job has
      (record { next = next; stands = stands-one now.tables sets job row next at (same ∙ are.kept.events.numbered job row at); has = its })
      has.spaced has.spaced_legs

  pub restarted-runs : (checkpoint : Bool) (job initiator : ℕ) (code : Code) (deck : Option Job) → IsNext layout now (Restarted job initiator code checkpoint, deck) → HasRows (office_after (Restarted job initiator code checkpoint, deck) now)
  restarted-runs false job initiator code deck comes =
      by-run layout now job initiator code deck are.kept.events are.pointed false HasRows comes.may comes.carried
      (λ row leg its.
      let can = steps-restorable now are.ready in
      let was : HasRow row = has-row now has job row its.holder.row_at in
      start-by layout now job initiator code deck are.kept.events are.pointed can HasRows row leg its has
      (λ owned found point got.
      renewed-one job row
      (row_then layout now job initiator code deck are.kept.events are.pointed can row leg its owned found point got)
      (sets_then layout now job initiator code deck are.kept.events are.pointed can row leg its owned found point got) its.holder.row_at refl
      (record {
        in_state = refl;
        admitted = record { cards = was.admitted.cards; accepted = was.admitted.accepted; steps = was.admitted.steps; named = was.admitted.named; lodged = refl };
        stepped = refl;
      })))
  restarted-runs true job initiator code deck comes =
      by-run layout now job initiator code deck are.kept.events are.pointed true HasRows comes.may comes.carried
      (λ row leg its.
      let can = entries-restorable now are.ready in
      let was : HasRow row = has-row now has job row its.holder.row_at in
      entry-by layout now job initiator code deck are.kept.events are.pointed can HasRows row leg its has
      (λ owned found effect got entry there.
      let next : RunRow = row_back layout now job initiator code deck are.kept.events are.pointed can row leg its owned found effect got entry there in
      renewed-one job row next
      (sets_then_back layout now job initiator code deck are.kept.events are.pointed can row leg its owned found effect got entry there) its.holder.row_at refl
      (has-step next owned found refl (record { cards = was.admitted.cards; accepted = was.admitted.accepted; steps = was.admitted.steps; named = was.admitted.named; lodged = refl }))))
