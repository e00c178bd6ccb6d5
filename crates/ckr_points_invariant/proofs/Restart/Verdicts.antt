-- What the verdict of the rules says of the point to which a run goes back.
use Rattle.std.proofs.Common.{◌≡◌, ℕ, zero, suc, Bool, true, false, not, ◌&&◌, ◌||◌, if◌then◌else◌, List, [], ◌∷◌, refl, ap, sym, ◌∙◌, Option, Some, None, arith}
use Rattle.std.specs.Prelude.{nat_le, nat_lt}
use Rattle.std.specs.Option.{option_map_or, is_some}
use Rattle.std.proofs.lemmas.Bool.{false≢true}
use Rattle.ckr_base.specs.declared.code.Code.{Code}
use Rattle.ckr_base.proofs.Numbers.{nat_le-from}
use Rattle.ckr_base.proofs.Options.{is_some-true}
use Rattle.ckr_rules.specs.RuleTables.{automatic, first_line, forbids_restart, is_rnc}
use Rattle.ckr_rules.specs.declared.cases.AutoCase.{AutoCase}
use Rattle.ckr_rules.specs.declared.cases.Rule.TheVariants.{A1, A2, A3, A4, A5, A6}
use Rattle.ckr_rules.specs.declared.cases.Verdict.TheVariants.{Step, Checkpoint, Denied}
use Rattle.ckr_points.specs.Follows.{may_restart_again}
use Rattle.ckr_points.specs.Marks.{point_at}
use Rattle.ckr_points.specs.Payload.{is_verdict}
use Rattle.ckr_points.specs.RuleCases.{Since, auto_case, rd_in_effect, since_point, since_start}
use Rattle.ckr_points.specs.Rows.{EffectPoint, RunRow, StartPoint}
use Rattle.ckr_points_invariant.specs.Invariant.{step_now}

-- where the rules let a run restart, no record was rewritten since the point, there were fewer than three restarts at it, and which point it is
verdict-lines : (a b c d e f g checkpoint : Bool) → is_verdict checkpoint (first_line ((a, Denied A1) ∷ (b, Denied A2) ∷ (c, Denied A3) ∷ (d, Denied A4) ∷ (e, Denied A5) ∷ (f, Denied A6) ∷ (g, Step) ∷ []) Checkpoint) ≡ true → (d ≡ false) × (e ≡ false) × (g ≡ not checkpoint)
verdict-lines true b c d e f g checkpoint v = absurd (false≢true v)
verdict-lines false true c d e f g checkpoint v = absurd (false≢true v)
verdict-lines false false true d e f g checkpoint v = absurd (false≢true v)
verdict-lines false false false true e f g checkpoint v = absurd (false≢true v)
verdict-lines false false false false true f g checkpoint v = absurd (false≢true v)
verdict-lines false false false false false true g checkpoint v = absurd (false≢true v)
verdict-lines false false false false false false true true v = absurd (false≢true v)
verdict-lines false false false false false false true false v = (refl, refl, refl)
verdict-lines false false false false false false false true v = (refl, refl, refl)
verdict-lines false false false false false false false false v = absurd (false≢true v)

abbrev since_effect : EffectPoint → Since
since_effect effect = record { restarts = effect.restarts; rewritten = effect.rewritten }

abbrev since_by : Bool → Option EffectPoint → Since → Since
since_by rnc effect first = if rnc then first else option_map_or since_effect effect first

at_start : (rnc : Bool) (effect : Option EffectPoint) (first : Since) → (rnc || not (is_some effect)) ≡ true → since_by rnc effect first ≡ first
at_start true effect first e = refl
at_start false None first e = refl
at_start false (Some effect) first e = absurd (false≢true e)

at_check : (rnc : Bool) (effect : EffectPoint) (first : Since) → (rnc || false) ≡ false → since_by rnc (Some effect) first ≡ since_effect effect
at_check true effect first e = absurd (false≢true (sym e))
at_check false effect first e = refl

fewer-three : (restarts : ℕ) → nat_le 3 restarts ≡ false → nat_lt restarts 3 ≡ true
fewer-three zero e = refl
fewer-three (suc zero) e = refl
fewer-three (suc (suc zero)) e = refl
fewer-three (suc (suc (suc more))) e = absurd (false≢true (sym e ∙ nat_le-from 3 (suc (suc (suc more))) (omega arith)))

effect-there : (rnc : Bool) (effect : Option EffectPoint) → (rnc || not (is_some effect)) ≡ false → is_some effect ≡ true
effect-there true effect e = absurd (false≢true (sym e))
effect-there false None e = absurd (false≢true (sym e))
effect-there false (Some effect) e = refl

module _ (row : RunRow) (step : ℕ) (eligible : List Code) (code : Code) where
  judged : (checkpoint : Bool) → is_verdict checkpoint (automatic (auto_case row step eligible code false)) ≡ true
      → ((since_point row step).rewritten ≡ false) × (nat_le 3 (since_point row step).restarts ≡ false) × ((is_rnc (rd_in_effect row step) || not (is_some row.in_effect)) ≡ not checkpoint)
  judged checkpoint v =
      let case : AutoCase = auto_case row step eligible code false in
      verdict-lines (forbids_restart case.rd) (not (is_some case.rd) && not case.checkpoint) (not case.eligible) case.rewritten (nat_le 3 case.restarts) case.refused (is_rnc case.rd || not case.checkpoint) checkpoint v

  -- ---- at the start of the step

  start-since : (point : StartPoint) → point_at row.points step ≡ Some point → is_verdict false (automatic (auto_case row step eligible code false)) ≡ true → since_point row step ≡ record { restarts = point.restarts; rewritten = point.rewritten }
  start-since point got v =
      at_start (is_rnc (rd_in_effect row step)) row.in_effect (since_start row step) (judged false v).2
      ∙ ap (λ (o : Option StartPoint). let since : Since = option_map_or (λ (point : StartPoint). record { restarts = point.restarts; rewritten = point.rewritten }) o (record { restarts = 0; rewritten = false }) in since) got

  pub start-unwritten : (point : StartPoint) → point_at row.points step ≡ Some point → is_verdict false (automatic (auto_case row step eligible code false)) ≡ true → point.rewritten ≡ false
  start-unwritten point got v = sym (ap (λ (since : Since). since.rewritten) (start-since point got v)) ∙ (judged false v).0

  start-fewer : (point : StartPoint) → point_at row.points step ≡ Some point → is_verdict false (automatic (auto_case row step eligible code false)) ≡ true → nat_lt point.restarts 3 ≡ true
  start-fewer point got v = fewer-three point.restarts (sym (ap (λ (since : Since). nat_le 3 since.restarts) (start-since point got v)) ∙ (judged false v).1)

  -- ---- at the checkpoint in effect

  check-since : (effect : EffectPoint) → row.in_effect ≡ Some effect → is_verdict true (automatic (auto_case row step eligible code false)) ≡ true → since_point row step ≡ since_effect effect
  check-since effect got v =
      ap (λ (o : Option EffectPoint). since_by (is_rnc (rd_in_effect row step)) o (since_start row step)) got
      ∙ at_check (is_rnc (rd_in_effect row step)) effect (since_start row step) (sym (ap (λ (o : Option EffectPoint). is_rnc (rd_in_effect row step) || not (is_some o)) got) ∙ (judged true v).2)

  pub check-unwritten : (effect : EffectPoint) → row.in_effect ≡ Some effect → is_verdict true (automatic (auto_case row step eligible code false)) ≡ true → effect.rewritten ≡ false
  check-unwritten effect got v = sym (ap (λ (since : Since). since.rewritten) (check-since effect got v)) ∙ (judged true v).0

  check-fewer : (effect : EffectPoint) → row.in_effect ≡ Some effect → is_verdict true (automatic (auto_case row step eligible code false)) ≡ true → nat_lt effect.restarts 3 ≡ true
  check-fewer effect got v = fewer-three effect.restarts (sym (ap (λ (since : Since). nat_le 3 since.restarts) (check-since effect got v)) ∙ (judged true v).1)

  -- there is one
  pub check-there : is_verdict true (automatic (auto_case row step eligible code false)) ≡ true → is_some row.in_effect ≡ true
  check-there v = effect-there (is_rnc (rd_in_effect row step)) row.in_effect (judged true v).2

-- ---- fewer than three restarts

module _ (row : RunRow) (eligible : List Code) (code : Code) where
  -- a run that the rules restart may restart again, where its step has a point
  pub restarts-again : (checkpoint : Bool) → is_some (point_at row.points (step_now row)) ≡ true → is_verdict checkpoint (automatic (auto_case row (step_now row) eligible code false)) ≡ true → may_restart_again checkpoint row ≡ true
  restarts-again false begun v =
      is_some-true (point_at row.points (step_now row)) begun
      (λ point got. ap (λ (o : Option StartPoint). option_map_or (λ (point : StartPoint). nat_lt point.restarts 3) o false) got ∙ start-fewer row (step_now row) eligible code point got v)
  restarts-again true begun v =
      is_some-true row.in_effect (check-there row (step_now row) eligible code v)
      (λ effect got. ap (λ (o : Option EffectPoint). option_map_or (λ (effect : EffectPoint). nat_lt effect.restarts 3) o false) got ∙ check-fewer row (step_now row) eligible code effect got v)
