-- How many turns a run may still need up to the end of its stint, by its place and its running step, and how many these are by what lies ahead of it.
use Rattle.std.proofs.Common.{◌≡◌, ◌≤◌, ◌<◌, ◌+◌, ◌-◌, ◌*◌, ℕ, zero, suc, Bool, true, false, cond, ◌||◌, List, [], ◌∷◌, length, slice_get, find, refl, ap, sym, ◌∙◌, subst, Option, Some, None, arith}
use Rattle.std.specs.Prelude.{◌==◌, nat_le}
use Rattle.std.specs.List.{cons_option, filter_map, list_any, range_with_len, sum_by}
use Rattle.std.specs.Option.{is_some, option_map, option_map_or}
use Rattle.std.proofs.lemmas.List.Sums.{sum_by-cons}
use Rattle.ckr_base.proofs.Options.{option-cases}
use Rattle.ckr_base.proofs.Numbers.{nat_le-false, nat_le-true, suc-is-plus}
use Rattle.ckr_base.proofs.Sequences.{get-inside}
use Rattle.ckr_meaning.specs.EffectiveJob.{OwnedStep}
use Rattle.ckr_meaning.specs.JobRun.{start_at, start_in, walk_before}
use Rattle.ckr_meaning.specs.StepRun.{StepStart}
use Rattle.ckr_meaning.specs.declared.place.Place.{Place}
use Rattle.ckr_meaning.specs.declared.place.Place.TheVariants.{Before, Opened, Within}
use Rattle.ckr_points.specs.Follows.{is_within}
use Rattle.ckr_points.specs.Office.{Leg}
use Rattle.ckr_points.specs.Restart.{place_of, step_in}
use Rattle.ckr_points.specs.Rows.{RunRow}
use Rattle.ckr_desk_turn.specs.declared.failed_run.FailedRun.{FailedRun}
use Rattle.ckr_desk_turn.specs.Desk.{DeskModel, DeskStep}
use Rattle.ckr_desk_turn.specs.Stints.{checkpoints_behind, records_behind, steps_from}
use Rattle.ckr_desk_turn.proofs.Stints.Steps.{most-left, step_left, turns_of}

-- ---- the steps from a number on

none-there : (leg : Leg) (number : ℕ) → length leg.job.steps < number → start_at leg.job leg.start number ≡ None
unfolding start_at
none-there leg zero beyond = absurd (omega arith)
none-there leg (suc place) beyond =
    option-cases (slice_get leg.job.steps place)
    (λ none. ap (λ (o : Option OwnedStep). option_map (λ owned. start_in leg.job.root (suc place) owned (walk_before leg.job leg.start (suc place))) o) none)
    (λ owned some. absurd (let inside : place < length leg.job.steps = get-inside owned leg.job.steps place some in omega (arith, inside, beyond)))

-- the first one, where there is one, and those behind it
pub steps-next : (leg : Leg) (number : ℕ) → steps_from leg number ≡ cons_option (start_at leg.job leg.start number) (steps_from leg (suc number))
steps-next leg number = by (nat_le number (length leg.job.steps)) refl
  where
    by : (inside : Bool) → nat_le number (length leg.job.steps) ≡ inside → steps_from leg number ≡ cons_option (start_at leg.job leg.start number) (steps_from leg (suc number))
    by true is =
        let within : number ≤ length leg.job.steps = nat_le-true number (length leg.job.steps) is in
        ap (λ n. filter_map (start_at leg.job leg.start) (range_with_len number n)) (let e : suc (length leg.job.steps) - number ≡ suc (suc (length leg.job.steps) - suc number) = omega (arith, within) in e)
        ∙ ap (λ n. cons_option (start_at leg.job leg.start number) (filter_map (start_at leg.job leg.start) (range_with_len n (suc (length leg.job.steps) - suc number)))) (sym (suc-is-plus number))
    by false isnt =
        let beyond : length leg.job.steps < number = nat_le-false number (length leg.job.steps) isnt in
        ap (λ n. filter_map (start_at leg.job leg.start) (range_with_len number n)) (let e : suc (length leg.job.steps) - number ≡ 0 = omega (arith, beyond) in e)
        ∙ sym (ap (λ n. filter_map (start_at leg.job leg.start) (range_with_len (suc number) n)) (let e : suc (length leg.job.steps) - suc number ≡ 0 = omega (arith, beyond) in e))
        ∙ ap (λ o. cons_option o (steps_from leg (suc number))) (sym (none-there leg number beyond))

pub sum-option : (f : StepStart → ℕ) (first : Option StepStart) (rest : List StepStart) → sum_by f (cons_option first rest) ≡ option_map_or f first 0 + sum_by f rest
sum-option f None rest = omega arith
sum-option f (Some start) rest = sum_by-cons f start rest

-- what all of them may need
sum-turns : (steps : List StepStart) → sum_by turns_of steps ≡ 4 * length steps + (sum_by (records_behind 0) steps + sum_by (checkpoints_behind 0) steps)
sum-turns [] = refl
sum-turns (start ∷ steps) =
    let rest : sum_by turns_of steps ≡ 4 * length steps + (sum_by (records_behind 0) steps + sum_by (checkpoints_behind 0) steps) = sum-turns steps in
    let all : sum_by turns_of (start ∷ steps) ≡ turns_of start + sum_by turns_of steps = sum_by-cons turns_of start steps in
    let records : sum_by (records_behind 0) (start ∷ steps) ≡ records_behind 0 start + sum_by (records_behind 0) steps = sum_by-cons (records_behind 0) start steps in
    let checks : sum_by (checkpoints_behind 0) (start ∷ steps) ≡ checkpoints_behind 0 start + sum_by (checkpoints_behind 0) steps = sum_by-cons (checkpoints_behind 0) start steps in
    omega (arith, rest, all, records, checks)

-- ---- up to the end of the stint

abbrev pub running_of : DeskModel → ℕ → Option DeskStep
running_of desk run = find (λ (step : DeskStep). step.run == run) desk.running

abbrev pub has_mark : DeskModel → ℕ → Bool
has_mark desk run = list_any (λ (one : FailedRun). one.run == run) desk.failed

-- the steps from a number on, and the end
abbrev pub steps_left : Leg → ℕ → ℕ
steps_left leg number = suc (sum_by turns_of (steps_from leg number))

abbrev pub running_left : Leg → ℕ → Option DeskStep → ℕ
running_left leg number None = 1
running_left leg number (Some on) = option_map_or (λ start. step_left start on.progress) (start_at leg.job leg.start number) 0 + steps_left leg (suc number)

abbrev pub placed_left : Leg → Option DeskStep → Place → ℕ
placed_left leg on (Before number) = steps_left leg number
placed_left leg on (Opened number) = steps_left leg number
placed_left leg on (Within number writes) = running_left leg number on

-- a run that was running when the system failed, or waits with a code, needs one
abbrev pub has_code : Bool → Option DeskStep → Bool
has_code marked on = marked || option_map_or (λ (step : DeskStep). is_some step.code) on false

abbrev pub turns_left : Leg → Bool → Option DeskStep → Place → ℕ
turns_left leg marked on place = cond (has_code marked on) 1 (placed_left leg on place)

abbrev pub desk_left : DeskModel → Leg → RunRow → ℕ
desk_left desk leg row = turns_left leg (has_mark desk row.number) (running_of desk row.number) (place_of row)

-- it is no more than that of its place
pub left-most : (leg : Leg) (marked : Bool) (on : Option DeskStep) (place : Place) (most : ℕ) → 1 ≤ most → placed_left leg on place ≤ most → turns_left leg marked on place ≤ most
left-most leg marked on place most some within = by (has_code marked on)
  where
    by : (b : Bool) → cond b 1 (placed_left leg on place) ≤ most
    by true = some
    by false = within

pub placed-some : (leg : Leg) (on : Option DeskStep) (place : Place) → 1 ≤ placed_left leg on place
placed-some leg on (Before number) = omega arith
placed-some leg on (Opened number) = omega arith
placed-some leg None (Within number writes) = omega arith
placed-some leg (Some on) (Within number writes) = omega arith

pub left-some : (leg : Leg) (marked : Bool) (on : Option DeskStep) (place : Place) → 1 ≤ turns_left leg marked on place
left-some leg marked on place = by (has_code marked on) (placed-some leg on place)
  where
    by : (b : Bool) → 1 ≤ placed_left leg on place → 1 ≤ cond b 1 (placed_left leg on place)
    by true some = omega arith
    by false some = some

-- a step of the run starts, with the later ones behind it
pub steps-split : (leg : Leg) (number : ℕ) (start : StepStart) → start_at leg.job leg.start number ≡ Some start → steps_left leg number ≡ turns_of start + steps_left leg (suc number)
steps-split leg number start at =
    let all : sum_by turns_of (steps_from leg number) ≡ turns_of start + sum_by turns_of (steps_from leg (suc number)) =
    ap (sum_by turns_of) (steps-next leg number) ∙ sum-option turns_of (start_at leg.job leg.start number) (steps_from leg (suc number))
    ∙ ap (λ o. option_map_or turns_of o 0 + sum_by turns_of (steps_from leg (suc number))) at in
    omega (arith, all)

-- ---- by what lies ahead

bound-by : (taken : ℕ) (left : StepStart → ℕ) → ((start : StepStart) → left start ≤ 4 + (records_behind taken start + checkpoints_behind taken start)) → (first : Option StepStart) (rest : List StepStart)
    → option_map_or left first 0 + suc (sum_by turns_of rest)
    ≤ (option_map_or (records_behind taken) first 0 + sum_by (records_behind 0) rest) + (option_map_or (checkpoints_behind taken) first 0 + sum_by (checkpoints_behind 0) rest) + 4 * length (cons_option first rest) + 1
bound-by taken left within None rest =
    let later : sum_by turns_of rest ≡ 4 * length rest + (sum_by (records_behind 0) rest + sum_by (checkpoints_behind 0) rest) = sum-turns rest in
    omega (arith, later)
bound-by taken left within (Some start) rest =
    let later : sum_by turns_of rest ≡ 4 * length rest + (sum_by (records_behind 0) rest + sum_by (checkpoints_behind 0) rest) = sum-turns rest in
    let here : left start ≤ 4 + (records_behind taken start + checkpoints_behind taken start) = within start in
    omega (arith, later, here)

abbrev taken_by : Option DeskStep → ℕ
taken_by on = option_map_or (λ (step : DeskStep). step.progress.taken) on 0

-- so many records, checkpoints and steps, where a run that isn't within its step has no running one
module _ (leg : Leg) (number : ℕ) where
  abbrev first : Option StepStart
  first = start_at leg.job leg.start number

  abbrev rest : List StepStart
  rest = steps_from leg (suc number)

  abbrev bound : ℕ → ℕ
  bound taken = (option_map_or (records_behind taken) first 0 + sum_by (records_behind 0) rest) + (option_map_or (checkpoints_behind taken) first 0 + sum_by (checkpoints_behind 0) rest) + 4 * length (steps_from leg number) + 1

  bound-so : (taken : ℕ) (left : StepStart → ℕ) → ((start : StepStart) → left start ≤ 4 + (records_behind taken start + checkpoints_behind taken start)) → option_map_or left first 0 + steps_left leg (suc number) ≤ bound taken
  bound-so taken left within =
      subst (λ steps. option_map_or left first 0 + suc (sum_by turns_of rest) ≤ (option_map_or (records_behind taken) first 0 + sum_by (records_behind 0) rest) + (option_map_or (checkpoints_behind taken) first 0 + sum_by (checkpoints_behind 0) rest) + 4 * length steps + 1)
      (sym (steps-next leg number)) (bound-by taken left within first rest)

  start-bound : steps_left leg number ≤ bound 0
  start-bound =
      subst (λ n. suc n ≤ bound 0) (sym (ap (sum_by turns_of) (steps-next leg number) ∙ sum-option turns_of first rest))
      (let within : option_map_or turns_of first 0 + suc (sum_by turns_of rest) ≤ bound 0 = bound-so 0 turns_of (λ start. omega arith) in omega (arith, within))

  running-bound : (on : Option DeskStep) → running_left leg number on ≤ bound (taken_by on)
  running-bound None = omega arith
  running-bound (Some on) = bound-so on.progress.taken (λ start. step_left start on.progress) (λ start. most-left start on.progress)

pub left-bound : (leg : Leg) (marked : Bool) (on : Option DeskStep) (place : Place) → (is_within place ≡ false → on ≡ None) → turns_left leg marked on place ≤ bound leg (step_in place) (taken_by on)
left-bound leg marked on place out = left-most leg marked on place (bound leg (step_in place) (taken_by on)) (omega arith) (by place out)
  where
    by : (place : Place) → (is_within place ≡ false → on ≡ None) → placed_left leg on place ≤ bound leg (step_in place) (taken_by on)
    by (Before number) out = subst (λ o. steps_left leg number ≤ bound leg number (taken_by o)) (sym (out refl)) (start-bound leg number)
    by (Opened number) out = subst (λ o. steps_left leg number ≤ bound leg number (taken_by o)) (sym (out refl)) (start-bound leg number)
    by (Within number writes) out = running-bound leg number on
