-- What an event leaves of its run: its number, its name and its job; and who is on an initiator.
use Rattle.std.proofs.Common.{◌≡◌, ℕ, ◌⊎◌, inl, inr, Bool, true, List, refl, sym, Some, None, Option}
use Rattle.std.specs.Option.{option_map_or}
use Rattle.std.proofs.lemmas.Bool.{false≢true}
use Rattle.std.proofs.lemmas.Option.{same_Some}
use Rattle.ckr_base.proofs.Options.{some-not-none}
use Rattle.ckr_events.specs.declared.event.Event.{Event}
use Rattle.ckr_events.specs.declared.event.Event.TheVariants.{Selected, Denied, Started, Rewritten, Checkpointed, Cancelled, StepEnded, Ended, Purged}
use Rattle.ckr_events.specs.declared.event.Ending.{Ending}
use Rattle.ckr_events.specs.declared.event.Ending.TheVariants.{Completed, Coded, Allocation}
use Rattle.ckr_library.specs.Catalog.{Holding}
use Rattle.ckr_meaning.specs.EffectiveJob.{OwnedStep}
use Rattle.ckr_meaning.specs.declared.place.Place.{Place}
use Rattle.ckr_meaning.specs.declared.place.Place.TheVariants.{Before, Opened, Within}
use Rattle.ckr_points_runs.specs.RunChange.{Going, by_step_of, changed, checkpointed, coded, ended, ended_at, ended_by, ended_in, holding_kit, kept_by, place_now, rewritten, started, step_ended, step_of}
use Rattle.ckr_points_tables.specs.Invariant.{is_queued}
use Rattle.ckr_points.specs.Restart.{step_in}

-- the event selects a run for the initiator
abbrev pub IsSelecting : ℕ → Event → Type 0
IsSelecting i (Selected job initiator earlier step id) = initiator ≡ i
IsSelecting i _ = ⊥

-- the run stays what it is
pub record Stays (event : Event) (now after : Going Holding) : Type 0 where
  pub number : after.line.number ≡ now.line.number
  pub name : after.line.name ≡ now.line.name
  pub job : after.facts.job ≡ now.facts.job
  pub free : is_queued after.line.state ≡ true → (is_queued now.line.state ≡ true) × (after.line.initiator ≡ now.line.initiator)
  pub on : (i : ℕ) → after.line.initiator ≡ Some i → (now.line.initiator ≡ Some i) ⊎ IsSelecting i event

same : (event : Event) (now : Going Holding) → Stays event now now
same event now = record { number = refl; name = refl; job = refl; free = λ e. (e, refl); on = λ i e. inl e }

module _ (event : Event) (now : Going Holding) where
  by_step-stays : (step : ℕ) (change : OwnedStep → Going Holding) → ((own : OwnedStep) → Stays event now (change own)) → Stays event now (by_step_of step change now)
  by_step-stays step change stays = by (step_of now step)
    where
      by : (found : Option OwnedStep) → Stays event now (option_map_or change found now)
      by None = same event now
      by (Some own) = stays own

  ended-stays : Stays event now (ended now)
  ended-stays = record { number = refl; name = refl; job = refl; free = λ e. absurd (false≢true e); on = λ i e. absurd (some-not-none _ (sym e)) }

  ended_in-stays : (earlier : List Bool) (step : ℕ) (own : OwnedStep) → Stays event now (ended_in holding_kit earlier step now own)
  ended_in-stays earlier step own = record { number = refl; name = refl; job = refl; free = λ e. absurd (false≢true e); on = λ i e. absurd (some-not-none _ (sym e)) }

  ended_at-stays : (earlier : List Bool) (place : Place) → Stays event now (ended_at holding_kit earlier place now)
  ended_at-stays earlier (Before step) = ended-stays
  ended_at-stays earlier (Opened step) = ended-stays
  ended_at-stays earlier (Within step writes) = by_step-stays step (ended_in holding_kit earlier step now) (ended_in-stays earlier step)

  ended_by-stays : (earlier : List Bool) (ending : Ending) → Stays event now (ended_by holding_kit earlier ending now)
  ended_by-stays earlier Completed = ended-stays
  ended_by-stays earlier (Coded code rule writes lengths) =
      by_step-stays (step_in (place_now now.facts)) (coded holding_kit earlier (step_in (place_now now.facts)) writes lengths.items now)
      (λ own. record { number = refl; name = refl; job = refl; free = λ e. absurd (false≢true e); on = λ i e. absurd (some-not-none _ (sym e)) })
  ended_by-stays earlier (Allocation dd cause one other) = ended_at-stays earlier (place_now now.facts)

-- an event leaves its run so
pub stays : (earlier : List Bool) (event : Event) (now : Going Holding) → Stays event now (changed holding_kit earlier event now)
stays flags (Selected job initiator earlier step id) now = record { number = refl; name = refl; job = refl; free = λ e. absurd (false≢true e); on = λ i e. inr (same_Some initiator i e) }
stays earlier (Denied job rule name) now = record { number = refl; name = refl; job = refl; free = λ e. absurd (false≢true e); on = λ i e. inl e }
stays earlier (Started job step items) now =
    by_step-stays (Started job step items) now step (started holding_kit step items.items now) (λ own. record { number = refl; name = refl; job = refl; free = λ e. (e, refl); on = λ i e. inl e })
stays earlier (Rewritten job taken writes lengths place image) now =
    by_step-stays (Rewritten job taken writes lengths place image) now (step_in (place_now now.facts)) (rewritten holding_kit (step_in (place_now now.facts)) writes lengths.items now) (λ own. record { number = refl; name = refl; job = refl; free = λ e. (e, refl); on = λ i e. inl e })
stays earlier (Checkpointed job id taken writes lengths place bytes) now =
    by_step-stays (Checkpointed job id taken writes lengths place bytes) now (step_in (place_now now.facts)) (checkpointed holding_kit (step_in (place_now now.facts)) (kept_by now id place bytes) taken writes lengths.items now) (λ own. record { number = refl; name = refl; job = refl; free = λ e. (e, refl); on = λ i e. inl e })
stays earlier (Cancelled job) now = record { number = refl; name = refl; job = refl; free = λ e. (e, refl); on = λ i e. inl e }
stays earlier (StepEnded job step rc writes lengths) now =
    by_step-stays (StepEnded job step rc writes lengths) now (step_in (place_now now.facts)) (step_ended holding_kit earlier (step_in (place_now now.facts)) rc lengths.items now) (λ own. record { number = refl; name = refl; job = refl; free = λ e. (e, refl); on = λ i e. inl e })
stays earlier (Ended job ending) now = ended_by-stays (Ended job ending) now earlier ending
stays earlier (Purged job) now = record { number = refl; name = refl; job = refl; free = λ e. absurd (false≢true e); on = λ i e. inl e }
stays earlier _ now = same _ now
