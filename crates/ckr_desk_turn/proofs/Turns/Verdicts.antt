-- The entry of a checkpoint in effect stands, and no verdict on a restart is the operator's own rule.
use Rattle.std.proofs.Common.{◌≡◌, Bool, true, false, not, ◌&&◌, ◌||◌, ◌∷◌, refl, ap, sym, ◌∙◌, Option, Some, None, []}
use Rattle.std.specs.Prelude.{◌==◌, nat_le}
use Rattle.std.specs.Option.{is_some, option_map_or}
use Rattle.ckr_base.specs.declared.code.Code.{Code}
use Rattle.ckr_base.proofs.Bools.{bool-cases}
use Rattle.ckr_base.proofs.Options.{is_some-true, some-not-none}
use Rattle.ckr_points.specs.Office.{is_holder}
use Rattle.ckr_points.specs.Restart.{kept_at, place_of, step_in}
use Rattle.ckr_points.specs.RuleCases.{auto_case}
use Rattle.ckr_points.specs.Follows.{is_within as is_within_step}
use Rattle.ckr_points.specs.Payload.{is_verdict}
use Rattle.ckr_points.specs.Rows.{EffectPoint, KeptEntry, RunRow, run_of}
use Rattle.ckr_points.specs.Soundness.{denying}
use Rattle.ckr_points_invariant.specs.Invariant.{step_now}
use Rattle.ckr_points_invariant.specs.Readiness.{IsCheck, IsReady}
use Rattle.ckr_points_invariant.proofs.Readiness.Runs.{kept-entry}
use Rattle.ckr_points_invariant.proofs.Restart.Verdicts.{check-there}
use Rattle.ckr_points_invariant.proofs.Steps.Events.{led-by}
use Rattle.ckr_rules.specs.RuleTables.{first_line, forbids_restart, is_rnc}
use Rattle.ckr_rules.specs.declared.cases.AutoCase.{AutoCase}
use Rattle.ckr_rules.specs.declared.cases.Rule.TheVariants.{A1, A2, A3, A4, A5, A6}
use Rattle.ckr_rules.specs.declared.cases.Verdict.TheVariants.{Step, Checkpoint, Denied}
use Rattle.ckr_volumes.specs.declared.layout.Layout.{Layout}
use Rattle.ckr_desk_turn.specs.Codes.{verdict_for}
use Rattle.ckr_desk_turn.specs.Desk.{DeskModel}
use Rattle.ckr_desk_turn.specs.Invariant.{IsDesk}
use Rattle.ckr_desk_turn.specs.Jobs.{effect_entry}

-- ---- the entry of a checkpoint in effect

-- where the rules restart a run at its checkpoint, a desk has the entry
pub entered : (desk : DeskModel) → IsDesk desk → (row : RunRow) → run_of desk.office.tables row.number ≡ Some row → is_holder row.state ≡ true → (code : Code) → verdict_for desk.layout row code ≡ Checkpoint → is_some (effect_entry desk.office.tables row) ≡ true
entered desk is row at holds code judged =
    led-by desk.layout desk.office row.number row is.kept.events at holds
    (λ leg holder.
    let ready : IsReady desk.office.tables.sets row leg = is.ready.runs row.number row leg holder in
    is_some-true row.in_effect (check-there row (step_now row) desk.layout.eligible.items code (ap (is_verdict true) judged))
    (λ effect got.
    bool-cases (is_within_step (place_of row))
    (λ within.
    let check : IsCheck desk.office.tables.sets row leg effect = ready.check effect within got in
    ap (λ (o : Option EffectPoint). is_some (option_map_or (λ effect. kept_at desk.office.tables.sets effect.set effect.kept.id) o None)) got
    ∙ ap (λ (o : Option KeptEntry). is_some o) (kept-entry desk.office.tables.sets effect.set effect.kept.id check.entry check.keeps))
    (λ out. absurd (some-not-none effect (sym got ∙ ready.none out)))))

-- the sixth rule denies no restart where he isn't asked
never-sixth : (a b c d e g : Bool) → (denying (first_line ((a, Denied A1) ∷ (b, Denied A2) ∷ (c, Denied A3) ∷ (d, Denied A4) ∷ (e, Denied A5) ∷ (false, Denied A6) ∷ (g, Step) ∷ []) Checkpoint) == 6) ≡ false
never-sixth true b c d e g = refl
never-sixth false true c d e g = refl
never-sixth false false true d e g = refl
never-sixth false false false true e g = refl
never-sixth false false false false true g = refl
never-sixth false false false false false true = refl
never-sixth false false false false false false = refl

pub not-sixth : (layout : Layout) (row : RunRow) (code : Code) → (denying (verdict_for layout row code) == 6) ≡ false
not-sixth layout row code =
    let case : AutoCase = auto_case row (step_in (place_of row)) layout.eligible.items code false in
    never-sixth (forbids_restart case.rd) (not (is_some case.rd) && not case.checkpoint) (not case.eligible) case.rewritten (nat_le 3 case.restarts) (is_rnc case.rd || not case.checkpoint)
