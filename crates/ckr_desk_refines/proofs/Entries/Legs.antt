-- What an office has behind an event: the tables of the event, and the legs of the runs, which stay.
use Rattle.std.proofs.Common.{◌≡◌, ◌≢◌, ℕ, zero, suc, true, List, refl, sym, ◌∙◌, ap, Option, Some}
use Rattle.std.specs.Prelude.{find, ◌==◌}
use Rattle.ckr_base.proofs.Options.{is_some-from, some-not-none}
use Rattle.ckr_events.specs.declared.event.Event.{Event}
use Rattle.ckr_events.specs.declared.event.Event.TheVariants.{Ended, Selected}
use Rattle.ckr_jcl.specs.declared.deck.Job.{Job}
use Rattle.ckr_library.specs.NameMaps.{Name}
use Rattle.ckr_points.specs.Office.{Leg, Office, leg_of, office_after}
use Rattle.ckr_points.specs.Restart.{after_event}
use Rattle.ckr_points.specs.Soundness.{may_come}
use Rattle.ckr_points_invariant.specs.Invariant.{IsAgreed}
use Rattle.ckr_points_invariant.proofs.Select.Invariant.{led_there, waits}
use Rattle.ckr_points_invariant.proofs.WaitingRuns.{by-selected}
use Rattle.ckr_volumes.specs.declared.layout.Layout.{Layout}
use Rattle.ckr_desk_refines.proofs.Durable.Continuation.{apart-led, legs-behind}

-- the tables of the office behind an event
pub tables-behind : (now : Office) (event : Event) (deck : Option Job) → (office_after (event, deck) now).tables ≡ after_event event deck now.tables
tables-behind now (Selected job initiator earlier step id) deck = refl
tables-behind now (Ended job ending) deck = refl
tables-behind now event deck = refl

-- a run's leg among some is its leg among others
abbrev pub KeepLegs : List Leg → List Leg → Type 0
KeepLegs legs later = (run : ℕ) (leg : Leg) → find (λ (one : Leg). one.number == run) legs ≡ Some leg → find (λ (one : Leg). one.number == run) later ≡ Some leg

module _ (layout : Layout) (now : Office) (agreed : IsAgreed layout now) where
  -- a run that is selected had none
  legs-selected : (job initiator step : ℕ) (id : Option Name) (deck : Option Job) → may_come layout now (Selected job initiator 0 step id, deck) ≡ true → KeepLegs now.legs (office_after (Selected job initiator 0 step id, deck) now).legs
  legs-selected job initiator step id deck may =
      by-selected (λ (later : Office). KeepLegs now.legs later.legs) layout now job initiator step id deck agreed may
      (λ row row_at queued plain free run leg led.
      let apart : run ≢ row.number = λ same. some-not-none leg (sym led ∙ ap (leg_of now) same ∙ (waits layout now row initiator agreed row_at queued plain free).alone) in
      led_there layout now row initiator agreed row_at queued plain free run apart ∙ led)

  legs-continued : (job initiator before step : ℕ) (id : Option Name) (deck : Option Job) → may_come layout now (Selected job initiator (suc before) step id, deck) ≡ true → KeepLegs now.legs (office_after (Selected job initiator (suc before) step id, deck) now).legs
  legs-continued job initiator before step id deck may run leg led =
      legs-behind layout now agreed job initiator before step id deck may run (apart-led layout now agreed job initiator before step id deck may run (is_some-from (leg_of now run) leg led)) ∙ led

  pub legs-stay : (event : Event) (deck : Option Job) → may_come layout now (event, deck) ≡ true → KeepLegs now.legs (office_after (event, deck) now).legs
  legs-stay (Selected job initiator zero step id) deck may = legs-selected job initiator step id deck may
  legs-stay (Selected job initiator (suc before) step id) deck may = legs-continued job initiator before step id deck may
  legs-stay (Ended job ending) deck may = λ run leg led. led
  legs-stay event deck may = λ run leg led. led
