-- What the operator is asked of a run with a code: where its restart and its end follow, so do the events of all his answers.
use Rattle.std.proofs.Common.{◌≡◌, ℕ, Bool, true, false, ap, Option, Some, None}
use Rattle.std.specs.Option.{is_some}
use Rattle.ckr_base.specs.declared.code.Code.{Code}
use Rattle.ckr_events.specs.declared.event.Ending.TheVariants.{Coded}
use Rattle.ckr_events.specs.declared.event.Event.TheVariants.{Ended, Restarted}
use Rattle.ckr_library.specs.NameMaps.{Name}
use Rattle.ckr_points.specs.Follows.{follows}
use Rattle.ckr_points.specs.Payload.{is_verdict}
use Rattle.ckr_points.specs.Rows.{RunRow, TablesModel}
use Rattle.ckr_rules.specs.RuleTables.{rule_number}
use Rattle.ckr_rules.specs.declared.cases.Rule.{Rule}
use Rattle.ckr_rules.specs.declared.cases.Rule.TheVariants.{A6}
use Rattle.ckr_volumes.specs.declared.layout.Layout.{Layout}
use Rattle.ckr_desk_turn.specs.Codes.{CodePlaceModel, code_plan, inquiry_of, verdict_for}
use Rattle.ckr_desk_turn.proofs.Codes.{by-verdict}
use Rattle.ckr_desk_memory.specs.OwnSteps.{AnswersFollow, PlanFollows}

module _ (layout : Layout) (tables : TablesModel) (row : RunRow) (initiator : ℕ) (lodged : Bool) (code : Code) (reached : CodePlaceModel)
    (restarts : (checkpoint : Bool) → is_verdict checkpoint (verdict_for layout row code) ≡ true → follows layout tables (Restarted row.number initiator code checkpoint) None ≡ true)
    (ends : (rule : Rule) → follows layout tables (Ended row.number (Coded code (rule_number rule) reached.writes (record { items = reached.lengths }))) None ≡ true) where
  -- a hold asks of it what its end by a code does
  answers-follow : (id : Option Name) (taken : ℕ) → is_verdict (is_some id) (verdict_for layout row code) ≡ true → AnswersFollow layout tables (inquiry_of row initiator lodged code reached id taken)
  answers-follow id taken judged = record { restart = restarts (is_some id) judged; refusal = ends A6; hold = ends A6 }

  pub coded-plan : PlanFollows layout tables (code_plan layout tables row initiator lodged code reached)
  coded-plan =
      by-verdict (PlanFollows layout tables) layout tables row initiator lodged code reached (λ rule first. ends rule) (λ judged. answers-follow None 0 (ap (is_verdict false) judged))
      (λ entry judged there. answers-follow (Some entry.kept.id) entry.point.taken (ap (is_verdict true) judged))
