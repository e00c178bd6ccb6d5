-- A run with a code: the rules that may end it, the plan of its turn, and its initiator.
use Rattle.std.proofs.Common.{◌≡◌, ℕ, Bool, true, not, ◌||◌, refl, ap, sym, ◌∙◌, subst, Option, Some, None}
use Rattle.std.specs.Prelude.{◌==◌}
use Rattle.std.specs.Option.{is_some, option_map_or}
use Rattle.std.proofs.lemmas.Bool.{false≢true, or_right}
use Rattle.ckr_base.specs.declared.code.Code.{Code}
use Rattle.ckr_base.proofs.Numbers.{equal-itself}
use Rattle.ckr_base.proofs.Options.{option-cases}
use Rattle.ckr_points.specs.declared.run.RunState.{RunState}
use Rattle.ckr_points.specs.declared.run.RunState.TheVariants.{On}
use Rattle.ckr_points.specs.Rows.{KeptEntry, RunRow, TablesModel}
use Rattle.ckr_points.specs.Soundness.{denying}
use Rattle.ckr_rules.specs.RuleTables.{rule_number}
use Rattle.ckr_rules.specs.declared.cases.Rule.{Rule}
use Rattle.ckr_rules.specs.declared.cases.Rule.TheVariants.{A6}
use Rattle.ckr_rules.specs.declared.cases.Verdict.{Verdict}
use Rattle.ckr_rules.specs.declared.cases.Verdict.TheVariants.{Step, Checkpoint, Denied}
use Rattle.ckr_volumes.specs.declared.layout.Layout.{Layout}
use Rattle.ckr_desk_turn.specs.declared.plan.Plan.{Plan}
use Rattle.ckr_desk_turn.specs.Codes.{CodePlaceModel, code_plan, ended_by, initiator_of, asked_at_entry, asked_at_start, judged_plan, verdict_for}
use Rattle.ckr_desk_turn.specs.Invariant.{IsAdmitted, is_on_one}
use Rattle.ckr_desk_turn.specs.Jobs.{effect_entry}

-- a rule by which a run may end: the one that denies its restart, or that of the operator
abbrev pub may_end : Rule → Verdict → Bool
may_end rule verdict = rule_number rule == 6 || rule_number rule == denying verdict

-- what holds where the run ends by such a rule, and where the operator is asked whether it may be restarted, at the start of its step or at its
-- checkpoint in effect, holds of its plan
pub by-verdict : (P : Plan → Type 0) (layout : Layout) (tables : TablesModel) (row : RunRow) (initiator : ℕ) (lodged : Bool) (code : Code) (reached : CodePlaceModel)
    → ((rule : Rule) → may_end rule (verdict_for layout row code) ≡ true → P (ended_by row code rule reached)) → (verdict_for layout row code ≡ Step → P (asked_at_start row initiator lodged code reached))
    → ((entry : KeptEntry) → verdict_for layout row code ≡ Checkpoint → effect_entry tables row ≡ Some entry → P (asked_at_entry row initiator lodged code reached entry)) → P (code_plan layout tables row initiator lodged code reached)
by-verdict P layout tables row initiator lodged code reached ended asked asked_back =
    by (verdict_for layout row code) refl
  where
    by : (verdict : Verdict) → verdict_for layout row code ≡ verdict → P (judged_plan tables row initiator lodged code reached verdict)
    by (Denied rule) judged =
        ended rule (ap (may_end rule) judged ∙ or_right (rule_number rule == 6) _ (equal-itself (rule_number rule)))
    by Step judged = asked judged
    by Checkpoint judged =
        option-cases (effect_entry tables row)
        (λ none. subst (λ (o : Option KeptEntry). P (option_map_or (asked_at_entry row initiator lodged code reached) o (ended_by row code A6 reached))) (sym none) (ended A6 refl))
        (λ entry some. subst (λ (o : Option KeptEntry). P (option_map_or (asked_at_entry row initiator lodged code reached) o (ended_by row code A6 reached))) (sym some) (asked_back entry judged some))

-- a run on an initiator has it
pub initiator-its : (row : RunRow) → row.state ≡ On → IsAdmitted row → row.initiator ≡ Some (initiator_of row)
initiator-its row on admitted =
    by row.initiator (ap (λ (state : RunState). not (is_on_one state) || is_some row.initiator) (sym on) ∙ admitted.lodged)
  where
    by : (o : Option ℕ) → is_some o ≡ true → o ≡ Some (option_map_or (λ initiator. initiator) o 0)
    by None some = absurd (false≢true some)
    by (Some initiator) some = refl
