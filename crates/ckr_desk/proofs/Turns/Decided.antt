-- What is said of a plan is said of what the operator's answer makes of it.
use Rattle.std.proofs.Common.{◌≡◌, ℕ, Bool, true, false, if◌then◌else◌, List, refl, subst}
use Rattle.std.proofs.lemmas.Bool.{true≢false}
use Rattle.ckr_console.specs.declared.question.Answer.{Answer}
use Rattle.ckr_console.specs.declared.question.Answer.TheVariants.{Yes, No, Hold, Silent}
use Rattle.ckr_desk_refines.specs.Memory.OwnSteps.{PlanCommits, PlanFollows, PlanIsOf, PlanLeaves}
use Rattle.ckr_desk_refines.specs.Memory.Plans.{IsUnitPlan}
use Rattle.ckr_desk_refines.specs.Memory.View.{RunningStepView}
use Rattle.ckr_points.specs.Rows.{TablesModel}
use Rattle.ckr_desk_turn.specs.declared.failed_run.FailedRun.{FailedRun}
use Rattle.ckr_desk_turn.specs.declared.inquiry.Inquiry.{Inquiry}
use Rattle.ckr_desk_turn.specs.declared.plan.Plan.{Plan}
use Rattle.ckr_desk_turn.specs.declared.plan.Plan.TheVariants.{Rest, Tell, Work, Pass, Take, Ask, Wait}
use Rattle.ckr_points.specs.declared.reply.Reply.TheVariants.{AwaitingReply}
use Rattle.ckr_desk_turn.specs.Inquiries.{decide, decided, holds_it, is_ask, refuses, restarts}
use Rattle.ckr_volumes.specs.declared.layout.Layout.{Layout}

-- what holds of each answer's plan
pub by-answer : (P : Plan → Type 0) (answer : Answer) (inquiry : Inquiry) → P (restarts inquiry) → P (refuses inquiry) → P (holds_it inquiry) → P (Wait inquiry.job inquiry.code) → P (Rest AwaitingReply) → P (decided answer inquiry)
by-answer P Yes inquiry restart refusal hold wait rest = restart
by-answer P No inquiry restart refusal hold wait rest = refusal
by-answer P Hold inquiry restart refusal hold wait rest = hold
by-answer P Silent inquiry restart refusal hold wait rest = by inquiry.lodged
  where
    by : (lodged : Bool) → P (if lodged then Wait inquiry.job inquiry.code else Rest AwaitingReply)
    by true = wait
    by false = rest

-- a plan that asks comes to the answer's plan, and another one stays
pub by-decide : (P : Plan → Type 0) (answer : Answer) (plan : Plan) → ((inquiry : Inquiry) → plan ≡ Ask inquiry → P (decided answer inquiry)) → (is_ask plan ≡ false → P plan) → P (decide answer plan)
by-decide P answer (Ask inquiry) asks other = asks inquiry refl
by-decide P answer (Rest reply) asks other = other refl
by-decide P answer (Tell reply event) asks other = other refl
by-decide P answer (Work job) asks other = other refl
by-decide P answer (Pass job reply) asks other = other refl
by-decide P answer (Take job) asks other = other refl
by-decide P answer (Wait job code) asks other = other refl

pub decided-settled : (answer : Answer) (plan : Plan) → is_ask (decide answer plan) ≡ false
decided-settled answer plan =
    by-decide (λ its. is_ask its ≡ false) answer plan (λ inquiry is. by-answer (λ its. is_ask its ≡ false) answer inquiry refl refl refl refl refl) (λ other. other)

pub decided-unit : (answer : Answer) (plan : Plan) → IsUnitPlan plan → IsUnitPlan (decide answer plan)
decided-unit answer plan unit = by-decide IsUnitPlan answer plan (λ inquiry is. by-answer IsUnitPlan answer inquiry refl refl refl tt tt) (λ other. unit)

pub decided-of : (run : ℕ) (answer : Answer) (plan : Plan) → PlanIsOf run plan → PlanIsOf run (decide answer plan)
decided-of run answer plan of_run =
    by-decide (PlanIsOf run) answer plan (λ inquiry is. let its : inquiry.job ≡ run = subst (PlanIsOf run) is of_run in by-answer (PlanIsOf run) answer inquiry its its its its tt) (λ other. of_run)

pub decided-follows : (layout : Layout) (tables : TablesModel) (answer : Answer) (plan : Plan) → PlanFollows layout tables plan → PlanFollows layout tables (decide answer plan)
decided-follows layout tables answer plan follows =
    by-decide (PlanFollows layout tables) answer plan
    (λ inquiry is.
    let its : PlanFollows layout tables (Ask inquiry) = subst (PlanFollows layout tables) is follows in
    by-answer (PlanFollows layout tables) answer inquiry its.restart its.refusal its.hold tt tt)
    (λ other. follows)

pub decided-commits : (tables : TablesModel) (running : List RunningStepView) (answer : Answer) (plan : Plan) → PlanCommits tables running plan → PlanCommits tables running (decide answer plan)
decided-commits tables running answer plan commits =
    by-decide (PlanCommits tables running) answer plan (λ inquiry is. by-answer (PlanCommits tables running) answer inquiry tt tt tt tt tt) (λ other. commits)

pub decided-leaves : (failed : List FailedRun) (answer : Answer) (plan : Plan) → PlanLeaves failed plan → PlanLeaves failed (decide answer plan)
decided-leaves failed answer plan leaves = by-decide (PlanLeaves failed) answer plan (λ inquiry is. by-answer (PlanLeaves failed) answer inquiry tt tt tt tt tt) (λ other. leaves)

-- one that asks nobody stays as it is
pub not-ask : (plan : Plan) → ((inquiry : Inquiry) → plan ≡ Ask inquiry → ⊥) → is_ask plan ≡ false
not-ask (Ask inquiry) not = absurd (not inquiry refl)
not-ask _ not = refl

pub decided-same : (answer : Answer) (plan : Plan) → is_ask plan ≡ false → decide answer plan ≡ plan
decided-same answer (Ask inquiry) quiet = absurd (true≢false quiet)
decided-same answer _ quiet = refl
