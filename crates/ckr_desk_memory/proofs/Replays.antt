-- An event that is read again goes on as it did.
use Rattle.std.proofs.Common.{◌≡◌, ℕ, true, false, cond, nat_le, List, refl, ap, sym, subst, Option, None, Some}
use Rattle.std.specs.List.{AllByRecursion}
use Rattle.ckr_base.proofs.Bools.{and-first, and-second}
use Rattle.ckr_base.proofs.Numbers.{nat_le-true}
use Rattle.ckr_events.specs.declared.event.Event.{Event}
use Rattle.ckr_events.specs.declared.event.Event.TheVariants.{Submitted, Held}
use Rattle.ckr_desk_plans.specs.Model.RewriteCounts.{may_count}
use Rattle.ckr_desk_plans.proofs.RewriteCounts.{counted-may}
use Rattle.ckr_jcl.specs.declared.deck.Job.{Job}
use Rattle.ckr_volumes.specs.declared.layout.Layout.{Layout}
use Rattle.ckr_points.specs.Follows.{follows}
use Rattle.ckr_points.specs.Restart.{after_event}
use Rattle.ckr_points.specs.Rows.{TablesModel}
use Rattle.ckr_points.specs.Soundness.{AreLaidOut}
use Rattle.ckr_desk_turn.specs.Cards.{kept_deck, stored_of_kept}
use Rattle.ckr_points_tables.specs.Invariant.{IsAnySubmittable, MayCount, MaySubmit}
use Rattle.ckr_desk_turn.specs.Queue.{AreNumbered}
use Rattle.ckr_desk_memory.specs.Invariant.{AreJobs, IsAcceptedDeck, IsAcceptedRow, IsAnyAccepted, IsPlacedRow, IsRunnable}
use Rattle.ckr_desk_memory.specs.Replay.{IsBounded, deck_of, goes_on, has_few_digits, replayed}
use Rattle.ckr_desk_memory.specs.View.{JobsView}
use Rattle.ckr_desk_turn.proofs.AdmittedSteps.{own-step}
use Rattle.ckr_desk_turn.proofs.KeptDecks.{kept_read}
use Rattle.ckr_desk_memory.proofs.AcceptedDecks.{accepted-submits}
use Rattle.ckr_desk_memory.proofs.AcceptedRuns.{accepted-behind}
use Rattle.ckr_desk_memory.proofs.Invariant.{placed-behind}
use Rattle.ckr_desk_memory.proofs.Extents.{laid-behind}

-- ---- where it goes on

pub replayed-some : (layout : Layout) (tables : TablesModel) (event : Event) → goes_on layout tables event (deck_of event) ≡ true → replayed layout tables event ≡ Some (after_event event (deck_of event) tables)
unfolding replayed
replayed-some layout tables event e = ap (λ b. cond b (Some (after_event event (deck_of event) tables)) None) e

pub replayed-none : (layout : Layout) (tables : TablesModel) (event : Event) → goes_on layout tables event (deck_of event) ≡ false → replayed layout tables event ≡ None
unfolding replayed
replayed-none layout tables event e = ap (λ b. cond b (Some (after_event event (deck_of event) tables)) None) e

-- what an event that goes on has
pub record GoesOnWith (layout : Layout) (tables : TablesModel) (event : Event) (deck : Option Job) : Type 0 where
  pub few : has_few_digits event ≡ true
  pub follow : follows layout tables event deck ≡ true
  pub count : MayCount event tables.sets

pub goes-on-with : (layout : Layout) (tables : TablesModel) (event : Event) (deck : Option Job) → goes_on layout tables event deck ≡ true → GoesOnWith layout tables event deck
goes-on-with layout tables event deck e =
    let others = and-second (has_few_digits event) _ e in
    record {
      few = and-first (has_few_digits event) _ e;
      follow = and-first (follows layout tables event deck) (may_count event tables.sets) others;
      count = counted-may event tables.sets (and-second (follows layout tables event deck) (may_count event tables.sets) others);
    }

-- ---- the deck that is read again

deck_accepted : (job : ℕ) (cards : List ℕ) (found : Option Job) → kept_deck cards ≡ found → IsAcceptedDeck job found
deck_accepted job cards None is = tt
deck_accepted job cards (Some deck) is = record {
  cards = stored_of_kept cards;
  accepted = kept_read cards deck is;
  steps = own-step (stored_of_kept cards) job deck (kept_read cards deck is);
  plain = λ none. refl;
  first = λ none. refl;
}

pub any_accepted : (event : Event) → IsBounded event → IsAnyAccepted event (deck_of event)
any_accepted (Submitted job cards) bounded = deck_accepted job cards (kept_deck cards) refl
any_accepted (Held job code writes lengths) bounded = bounded
any_accepted _ bounded = tt

deck_submits : (job : ℕ) (cards : List ℕ) (found : Option Job) → kept_deck cards ≡ found → nat_le job 9999999 ≡ true → IsAnySubmittable job found
deck_submits job cards None is few = tt
deck_submits job cards (Some deck) is few = accepted-submits (stored_of_kept cards) job deck (kept_read cards deck is) (nat_le-true job 9999999 few)

pub any_submits : (event : Event) → has_few_digits event ≡ true → MaySubmit event (deck_of event)
any_submits (Submitted job cards) few = deck_submits job cards (kept_deck cards) refl few
any_submits _ few = tt

-- ---- what holds of the jobs

pub jobs-same : (layout : Layout) (old new : JobsView) → new.tables.desk ≡ old.tables.desk → new.running ≡ old.running → AreJobs layout old → AreJobs layout new
jobs-same layout old new tables running are = record {
  laid = subst (λ (t : TablesModel). AreLaidOut layout t.sets) (sym tables) are.laid;
  rows = subst (λ (t : TablesModel). AllByRecursion IsAcceptedRow t.runs) (sym tables) are.rows;
  placed = subst (λ (t : TablesModel). AllByRecursion IsPlacedRow t.runs) (sym tables) are.placed;
  running = subst (AllByRecursion (IsRunnable layout)) (sym running) are.running;
}

pub jobs-replayed : (layout : Layout) (old new : JobsView) (event : Event) → IsBounded event → AreNumbered 1 old.tables.desk.runs → goes_on layout old.tables.desk event (deck_of event) ≡ true → new.tables.desk ≡ after_event event (deck_of event) old.tables.desk → new.running ≡ old.running
    → AreJobs layout old → AreJobs layout new
jobs-replayed layout old new event bounded numbered goes tables running are =
    let its = goes-on-with layout old.tables.desk event (deck_of event) goes in
    let accepted = any_accepted event bounded in
    record {
      laid = subst (λ (t : TablesModel). AreLaidOut layout t.sets) (sym tables) (laid-behind layout old.tables.desk are.laid event (deck_of event) its.follow);
      rows = subst (λ (t : TablesModel). AllByRecursion IsAcceptedRow t.runs) (sym tables) (accepted-behind layout old.tables.desk event (deck_of event) numbered accepted its.follow are.rows);
      placed = subst (λ (t : TablesModel). AllByRecursion IsPlacedRow t.runs) (sym tables) (placed-behind layout old.tables.desk event (deck_of event) accepted its.follow are.placed);
      running = subst (AllByRecursion (IsRunnable layout)) (sym running) are.running;
    }
