-- Whether the event of a plan follows.
use Rattle.std.specs.Prelude.{◌≡◌, true, None}
use Rattle.ckr_desk_turn.specs.declared.inquiry.Inquiry.{Inquiry}
use Rattle.ckr_desk_turn.specs.declared.plan.Plan.{Plan}
use Rattle.ckr_desk_turn.specs.declared.plan.Plan.TheVariants.{Rest, Tell, Work, Pass, Take, Ask, Wait}
use Rattle.ckr_desk_turn.specs.Inquiries.{hold_event, refusal_event, restart_event}
use Rattle.ckr_points.specs.Follows.{follows}
use Rattle.ckr_points.specs.Rows.{TablesModel}
use Rattle.ckr_volumes.specs.declared.layout.Layout.{Layout}

-- the events of all answers to what the operator is asked follow
pub record AnswersFollow (layout : Layout) (tables : TablesModel) (inquiry : Inquiry) : Type 0 where
  pub restart : follows layout tables (restart_event inquiry) None ≡ true
  pub refusal : follows layout tables (refusal_event inquiry) None ≡ true
  pub hold : follows layout tables (hold_event inquiry) None ≡ true

-- the event of a plan, if it tells one, follows
abbrev pub PlanFollows : Layout → TablesModel → Plan → Type 0
PlanFollows layout tables (Rest reply) = Unit {0}
PlanFollows layout tables (Tell reply event) = follows layout tables event None ≡ true
PlanFollows layout tables (Work job) = Unit {0}
PlanFollows layout tables (Pass job reply) = Unit {0}
PlanFollows layout tables (Take job) = Unit {0}
PlanFollows layout tables (Ask inquiry) = AnswersFollow layout tables inquiry
PlanFollows layout tables (Wait job code) = Unit {0}
