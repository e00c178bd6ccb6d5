-- One more event of a run in a step: it starts, its lengths are committed, it ends, its run ends.
use Rattle.std.proofs.Common.{◌≡◌, ◌⊎◌, inl, inr, ℕ, Bool, true, false, not, ◌&&◌, List, ◌∷◌, refl, ap, sym, ◌∙◌, subst, Option, Some, None, []}
use Rattle.std.specs.Prelude.{map, nat_eq}
use Rattle.std.specs.Cmp.Lexicographic.{pointwise}
use Rattle.std.specs.List.{list_all}
use Rattle.std.specs.Option.{option_map_or}
use Rattle.std.proofs.lemmas.Bool.{false≢true, not-true}
use Rattle.arrayvec.specs.ArrayVec.{ArrayVec}
use Rattle.ckr_base.specs.declared.code.Code.{Code}
use Rattle.ckr_base.proofs.Bools.{and-first, and-second}
use Rattle.ckr_base.proofs.Numbers.{equal-true}
use Rattle.ckr_base.proofs.Options.{option-cases}
use Rattle.ckr_events.specs.declared.event.Event.TheVariants.{Started}
use Rattle.ckr_events.specs.declared.event.Made.{Made}
use Rattle.ckr_jcl.specs.declared.deck.Job.{Job}
use Rattle.ckr_meaning.specs.EffectiveJob.{OwnedStep, flaws_in, placed_in, stamp_of}
use Rattle.ckr_meaning.specs.declared.place.Place.{Place}
use Rattle.ckr_meaning.specs.declared.place.Place.TheVariants.{Before, Opened, Within}
use Rattle.ckr_meaning.specs.JobRun.{is_bypassed}
use Rattle.ckr_volumes.specs.declared.layout.Layout.{Layout}
use Rattle.ckr_points.specs.declared.run.RunState.TheVariants.{On, Held as HeldRun}
use Rattle.ckr_points.specs.Tables.{after_held, after_started}
use Rattle.ckr_points.specs.Follows.{are_items, are_made_clear, is_part_whole, made_dds, is_empty, is_in_state, is_within, may_start, started_follows}
use Rattle.ckr_points.specs.Payload.{carries, writes_in}
use Rattle.ckr_points_invariant.specs.Invariant.{IsHolder, IsAgreed, step_now}
use Rattle.ckr_points_invariant.specs.RunningSteps.{IsRunning}
use Rattle.ckr_points.specs.Office.{Leg, Office, is_holder, office_after}
use Rattle.ckr_points.specs.Restart.{place_of}
use Rattle.ckr_points.specs.Rows.{RunRow, standing_of, step_of_run, table_ways}
use Rattle.ckr_points.specs.Soundness.{may_come}
use Rattle.ckr_points_invariant.proofs.WaitingRuns.{follows-of, tested-run}
use Rattle.ckr_points_invariant.proofs.Steps.Events.{kept-commit, led-by, on-holds, within-is}
use Rattle.ckr_points_invariant.proofs.Start.Invariant.{kept-started}
use Rattle.ckr_points_invariant.proofs.EventRows.{IsCommitting}

-- a holder in its step
pub running-so : (layout : Layout) (office : Office) (job : ℕ) (row : RunRow) (leg : Leg) (owned : OwnedStep) → IsHolder office job row leg → is_within (place_of row) ≡ true → step_of_run row (step_now row) ≡ Some owned → IsRunning office job row leg owned (step_now row) (writes_in (place_of row))
running-so layout office job row leg owned holder within found = record { holder = holder; stands = within-is (place_of row) within; found = found }

-- ---- held

pub kept-held : (layout : Layout) (office : Office) (job writes : ℕ) (code : Code) (lengths : List ℕ) (row : RunRow) (leg : Leg) (owned : OwnedStep) → IsAgreed layout office → IsCommitting office job row leg owned writes lengths → IsAgreed layout (record office { tables = after_held row owned (step_now row) code writes lengths office.tables })
kept-held layout office job writes code lengths row leg owned kept its =
    kept-commit layout office job row (record row { state = HeldRun; initiator = None; code = Some code; place = Some (Within (step_now row) writes) }) leg owned writes lengths kept its.at.running
    (record { number = refl; deck = refl; job = refl; own_from = refl; rcs = refl; passed = refl; lost = refl; stands = refl; holds = refl; made = λ owned step. refl; carried = refl })
    its.commit its.at.are

-- ---- started

starts-at : (step : ℕ) (place : Place) → may_start step place ≡ true → (place ≡ Before step) ⊎ (place ≡ Opened step)
starts-at step (Before number) e = inl (ap Before (equal-true number step e))
starts-at step (Opened number) e = inr (ap Opened (equal-true number step e))
starts-at step (Within number writes) e = absurd (false≢true e)

empty-is : {A : Type 0} (items : List A) → is_empty items ≡ true → items ≡ []
empty-is [] e = refl
empty-is (first ∷ rest) e = absurd (false≢true e)

-- what follows of a step that starts
abbrev starts : Layout → Office → ℕ → List Made → RunRow → OwnedStep → Bool
starts layout office step items row owned =
    let placed = placed_in table_ways (standing_of row office.tables) row.job.root owned in
    may_start step (place_of row) && is_empty (flaws_in placed) && are_items layout (stamp_of owned step) office.tables.sets placed items

-- what is given of a step that starts
pub record StartsNow (layout : Layout) (office : Office) (job : ℕ) (row : RunRow) (leg : Leg) (owned : OwnedStep) (step : ℕ) (items : List Made) : Type 0 where
  pub holder : IsHolder office job row leg
  pub stands : (place_of row ≡ Before step) ⊎ (place_of row ≡ Opened step)
  pub found : step_of_run row step ≡ Some owned
  pub holds : is_holder row.state ≡ true
  pub runs : is_bypassed row.rcs owned ≡ false
  pub flawless : flaws_in (placed_in table_ways (standing_of row office.tables) row.job.root owned) ≡ []
  pub clear : are_made_clear layout (stamp_of owned step) items (placed_in table_ways (standing_of row office.tables) row.job.root owned) office.tables.sets ≡ true

-- what holds of the tables behind each such step holds behind Started
pub by-start : (Q : Office → Type 0) (layout : Layout) (office : Office) (job step : ℕ) (items : ArrayVec Made) (deck : Option Job) → IsAgreed layout office → may_come layout office (Started job step items, deck) ≡ true → carries layout office (Started job step items) deck ≡ true → ((row : RunRow) (leg : Leg) (owned : OwnedStep) → StartsNow layout office job row leg owned step items.items → Q (record office { tables = after_started row owned step items.items office.tables })) → Q (office_after (Started job step items, deck) office)
by-start Q layout office job step items deck kept may carried each =
    tested-run office.tables job (started_follows layout office.tables step items.items) (follows-of layout office (Started job step items) deck may)
    (λ row e passes.
    let on : is_in_state On row ≡ true = and-first (is_in_state On row) _ passes in
    let ready = and-second (is_in_state On row) _ passes in
    option-cases (step_of_run row step)
    (λ none. absurd (false≢true (sym (ap (λ (o : Option OwnedStep). option_map_or (starts layout office step items.items row) o false) none) ∙ ready)))
    (λ owned found.
    let tests : starts layout office step items.items row owned ≡ true = sym (ap (λ (o : Option OwnedStep). option_map_or (starts layout office step items.items row) o false) found) ∙ ready in
    let placed = placed_in table_ways (standing_of row office.tables) row.job.root owned in
    let early : (may_start step (place_of row) && is_empty (flaws_in placed)) ≡ true = and-first (may_start step (place_of row) && is_empty (flaws_in placed)) (are_items layout (stamp_of owned step) office.tables.sets placed items.items) tests in
    led-by layout office job row kept e (on-holds row.state on)
    (λ leg holder.
    subst (λ (o : Option RunRow). Q (record office { tables = option_map_or (λ row. option_map_or (λ owned. after_started row owned step items.items office.tables) (step_of_run row step) office.tables) o office.tables })) (sym e)
    (subst (λ (o : Option OwnedStep). Q (record office { tables = option_map_or (λ owned. after_started row owned step items.items office.tables) o office.tables })) (sym found)
    (each row leg owned (record {
      holder = holder;
      stands = starts-at step (place_of row) (and-first (may_start step (place_of row)) (is_empty (flaws_in placed)) early);
      found = found;
      holds = on-holds row.state on;
      runs =
          not-true (is_bypassed row.rcs owned)
          (sym (ap (λ (o : Option OwnedStep). option_map_or (λ owned. not (is_bypassed row.rcs owned)) o false) found)
          ∙ sym (ap (λ (o : Option RunRow). option_map_or (λ row. option_map_or (λ owned. not (is_bypassed row.rcs owned)) (step_of_run row step) false) o false) e) ∙ carried);
      flawless = empty-is (flaws_in placed) (and-second (may_start step (place_of row)) (is_empty (flaws_in placed)) early);
      clear =
          and-second (pointwise nat_eq (made_dds placed) (map (λ item. item.dd) items.items) && list_all (is_part_whole placed) items.items) (are_made_clear layout (stamp_of owned step) items.items placed office.tables.sets)
          (and-second (may_start step (place_of row) && is_empty (flaws_in placed)) (are_items layout (stamp_of owned step) office.tables.sets placed items.items) tests);
    }))))))

pub kept-start : (layout : Layout) (office : Office) (job step : ℕ) (items : ArrayVec Made) (deck : Option Job) → IsAgreed layout office → may_come layout office (Started job step items, deck) ≡ true → carries layout office (Started job step items) deck ≡ true → IsAgreed layout (office_after (Started job step items, deck) office)
kept-start layout office job step items deck kept may carried =
    by-start (IsAgreed layout) layout office job step items deck kept may carried
    (λ row leg owned now. kept-started layout office job row leg owned step items.items kept now.holder now.stands now.found now.holds now.runs now.flawless now.clear)
