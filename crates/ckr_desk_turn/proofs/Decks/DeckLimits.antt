-- An accepted deck is within the limits of decks, and each PARM in the ranges that its program rests on.
use Rattle.std.proofs.Common.{inl, inr, ◌≡◌, ◌≤◌, ℕ, true, nat_le, List, [], ◌∷◌, length, map, Option, Some, None, Result, Ok, Err, refl, sym, ◌∙◌, subst, arith}
use Rattle.std.proofs.lemmas.List.{length-map}
use Rattle.std.proofs.lemmas.Option.{none-some, slice_get_cases}
use Rattle.std.specs.Prelude.{slice_get}
use Rattle.std.specs.List.{AllByRecursion, cons_option, filter_map, list_all}
use Rattle.std.specs.Option.{option_map}
use Rattle.ckr_base.proofs.Sequences.{each-implies}
use Rattle.ckr_base.proofs.Options.{option_or-none}
use Rattle.ckr_jcl.specs.declared.deck.Job.{Job}
use Rattle.ckr_jcl.specs.declared.deck.Kind.{Kind}
use Rattle.ckr_jcl.specs.declared.deck.Parm.{Parm}
use Rattle.ckr_jcl_decks.proofs.CardLimit.{lesser-none}
use Rattle.ckr_jcl_decks.specs.Parts.DdText.{DdText}
use Rattle.ckr_jcl_decks.specs.Parts.JobText.{JobText}
use Rattle.ckr_jcl_decks.specs.Parts.StepText.{StepText}
use Rattle.ckr_jcl_decks.specs.Parts.VolText.{VolText}
use Rattle.ckr_jcl_decks.specs.Parts.VolText.TheVariants.{Serial, Private, Elsewhere}
use Rattle.ckr_jcl.specs.declared.refusal.ParmError.{ParmError}
use Rattle.ckr_jcl_decks.specs.DeckFaults.{card_beyond, dd_beyond, dd_card, lesser, limit_fault, no_step, parm_of, parm_or_none, step_beyond, step_card}
use Rattle.ckr_jcl_decks.specs.Deck.{dd_of, job_of, step_of, step_with, stored_deck, volumes_of}
use Rattle.ckr_jcl.specs.ParmGrammar.{read_parm_text}
use Rattle.ckr_programs.specs.Ranges.{IsInRange}
use Rattle.ckr_programs.proofs.Ranges.{read_parm_ranges}
use Rattle.ckr_desk_turn.specs.DeckLimits.{IsWithinLimits, has_few_volumes}
use Rattle.ckr_desk_turn.proofs.Decks.DeckTests.{OfStep, all_pass, map_none, steps_hold}
use Rattle.ckr_desk_turn.proofs.Decks.Texts.{IsReadFrom, read_from}

-- ---- counts

few : {X : Type 0} (xs : List X) (place : ℕ) → slice_get xs place ≡ None → length xs ≤ place
few xs place none =
    elim (slice_get_cases xs place).1 [
      | inl found ↦ absurd (none-some found.0 (sym none ∙ found.2))
      | inr past ↦ past.0
    ]

few_dds : (steps : List StepText) → dd_beyond steps ≡ None → AllByRecursion (λ step. length step.dds ≤ 16) steps
few_dds [] none = tt
few_dds (step ∷ rest) none =
    let both = option_or-none (option_map dd_card (slice_get step.dds 16)) (dd_beyond rest) none in
    (few step.dds 16 (map_none dd_card (slice_get step.dds 16) both.0), few_dds rest both.1)

few_chosen : (steps : List StepText) → length (filter_map step_of steps) ≤ length steps
few_chosen [] = omega arith
few_chosen (step ∷ rest) = by_program (few_chosen rest) step.program
  where
    by_program : length (filter_map step_of rest) ≤ length rest → (program : Option Kind) → length (cons_option (option_map (step_with step) program) (filter_map step_of rest)) ≤ length (step ∷ rest)
    by_program fewer None = omega arith
    by_program fewer (Some kind) = omega arith

record AreFew (steps : List StepText) : Type 0 where
  few : length steps ≤ 64
  dds : AllByRecursion (λ step. length step.dds ≤ 16) steps

are_few : (cards : ℕ) (job : JobText) → limit_fault cards job ≡ None → AreFew job.steps
unfolding limit_fault
are_few cards job none =
    let later = lesser (card_beyond cards) (no_step cards job.steps) in
    let both = lesser-none (step_beyond job.steps) (lesser (dd_beyond job.steps) later) none in
    record {
      few = few job.steps 64 (map_none step_card (slice_get job.steps 64) both.0);
      dds = few_dds job.steps (lesser-none (dd_beyond job.steps) later both.1).0;
    }

-- ---- volumes

few_named : (volume : Option VolText) → nat_le (length (volumes_of volume)) 5 ≡ true
few_named None = refl
few_named (Some (Serial serial)) = refl
few_named (Some Private) = refl
few_named (Some Elsewhere) = refl

few_at : (dd : DdText) → has_few_volumes (dd_of dd) ≡ true
unfolding dd_of
few_at dd = few_named dd.volume

few_volumes : (dds : List DdText) → list_all has_few_volumes (map dd_of dds) ≡ true
few_volumes dds = all_pass has_few_volumes dd_of dds (each dds)
  where
    each : (dds : List DdText) → AllByRecursion (λ dd. has_few_volumes (dd_of dd) ≡ true) dds
    each [] = tt
    each (dd ∷ rest) = (few_at dd, each rest)

-- ---- PARM

read_in_range : (kind : Kind) (text : List ℕ) (read : Result Parm ParmError) → read_parm_text kind text ≡ read → IsInRange (parm_or_none read)
read_in_range kind text (Ok parm) is = read_parm_ranges kind text parm is
read_in_range kind text (Err error) is = record { sum = omega arith; key = omega arith }

parm_in_range : (kind : Kind) (text : List ℕ) → IsInRange (parm_of kind text)
unfolding parm_of
parm_in_range kind text = read_in_range kind text (read_parm_text kind text) refl

-- ---- a deck

step_within : (step : StepText) → length step.dds ≤ 16 → OfStep IsWithinLimits step
unfolding step_with
step_within step few kind is = record {
  few_dds = subst (λ (n : ℕ). n ≤ 16) (sym (length-map step.dds dd_of)) few;
  few_volumes = few_volumes step.dds;
  parm = parm_in_range kind step.parm.items;
}

within : (job : Job) → IsReadFrom job → AllByRecursion IsWithinLimits job.steps
unfolding job_of
within job read =
    subst (λ (j : Job). AllByRecursion IsWithinLimits j.steps) (sym read.is)
    (steps_hold IsWithinLimits read.text.steps
    (each-implies (λ step. length step.dds ≤ 16) (OfStep IsWithinLimits) read.text.steps step_within (are_few read.cards read.text read.faultless.limits).dds))

pub steps_within : (cards : List ℕ) (job : Job) → stored_deck cards ≡ Ok job → AllByRecursion IsWithinLimits job.steps
steps_within cards job accepted = within job (read_from cards job accepted)

few_in : (job : Job) → IsReadFrom job → length job.steps ≤ 64
unfolding job_of
few_in job read =
    subst (λ (j : Job). length j.steps ≤ 64) (sym read.is)
    (let steps : length read.text.steps ≤ 64 = (are_few read.cards read.text read.faultless.limits).few in
    let chosen = few_chosen read.text.steps in
    omega arith)

pub few_steps : (cards : List ℕ) (job : Job) → stored_deck cards ≡ Ok job → length job.steps ≤ 64
few_steps cards job accepted = few_in job (read_from cards job accepted)
