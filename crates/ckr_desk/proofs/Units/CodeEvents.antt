-- The event of a unit that ends its step with a code: its run ends by a rule, or the operator decides.
use Rattle.std.proofs.Common.{◌≡◌, ℕ, Bool, List, true, ap, sym, ◌∙◌, subst, Option, Some, None}
use Rattle.std.specs.Option.{is_some}
use Rattle.std.proofs.lemmas.Option.{same_Some}
use Rattle.ckr_base.proofs.Options.{some-not-none}
use Rattle.arrayvec.specs.ArrayVec.{ArrayVec}
use Rattle.ckr_base.specs.declared.code.Code.{Code}
use Rattle.ckr_console.specs.declared.question.Answer.{Answer}
use Rattle.ckr_console.specs.declared.question.Answer.TheVariants.{Yes, No, Hold, Silent}
use Rattle.ckr_events.specs.declared.event.Ending.TheVariants.{Coded}
use Rattle.ckr_events.specs.declared.event.Event.{Event}
use Rattle.ckr_events.specs.declared.event.Event.TheVariants.{Ended, Held, Restarted}
use Rattle.ckr_desk_refines.specs.Memory.Plans.{told_by}
use Rattle.ckr_desk_refines.specs.Memory.View.{JobsView, RunningStepView, running_of}
use Rattle.ckr_library.specs.NameMaps.{Name}
use Rattle.ckr_points.specs.Office.{Office}
use Rattle.ckr_points.specs.Rows.{RunRow}
use Rattle.ckr_rules.specs.RuleTables.{rule_number}
use Rattle.ckr_rules.specs.declared.cases.Rule.{Rule}
use Rattle.ckr_rules.specs.declared.cases.Rule.TheVariants.{A6}
use Rattle.ckr_desk_refines.specs.Moves.{event_in}
use Rattle.ckr_steps.specs.declared.step_run.Worked.TheVariants.{Abend}
use Rattle.ckr_desk_turn.proofs.Codes.{by-verdict}
use Rattle.ckr_desk_turn.specs.Codes.{CodePlaceModel, initiator_of, inquiry_of, running_reached}
use Rattle.ckr_desk_turn.specs.Inquiries.{decide, decided}
use Rattle.ckr_desk_turn.specs.Turns.{MountedTurn}
use Rattle.ckr_desk_turn.specs.Desk.{DeskModel, work_of}
use Rattle.ckr_volumes.specs.declared.layout.Layout.{Layout}
use Rattle.ckr_desk_refines.proofs.Units.Replies.{plain_of}
use Rattle.ckr_desk_refines.specs.Unit.{IsPutBack, StandsBehindUnit}
use Rattle.ckr_desk_refines.proofs.Events.Commits.{stopped-writes}
use Rattle.ckr_desk.proofs.Units.Events.{Ensues, ended-ensues, held-ensues, restarted-ensues}

module _ (old : JobsView) (image after : List ℕ) (desk : DeskModel) (turn : MountedTurn) (run : ℕ) (on moved : RunningStepView) (code : Code)
    (done : StandsBehindUnit desk.layout old image after desk turn run on moved (Abend code)) (put : JobsView) (put-back : IsPutBack run moved old put)
    (answer : Answer) (row : RunRow) (number : row.number ≡ run) (event : Event) (then : (work_of answer run desk).event ≡ Some event) where
  abbrev layout : Layout
  layout = desk.layout

  abbrev office : Office
  office = desk.office

  abbrev lengths : ArrayVec ℕ
  lengths = record { items = (running_of office.tables moved).lengths }

  abbrev reached : CodePlaceModel
  reached = running_reached (running_of office.tables moved)

  writes-so : reached.writes ≡ moved.step.writes
  writes-so = stopped-writes moved.code (plain_of office.tables moved)

  end-ensues : (rule : Rule) → Some (Ended row.number (Coded code (rule_number rule) reached.writes lengths)) ≡ Some event → Ensues put after desk run answer event
  end-ensues rule tells =
      let told_is : Ended run (Coded code (rule_number rule) moved.step.writes lengths) ≡ event =
      ap (λ n. Ended run (Coded code (rule_number rule) n lengths)) (sym writes-so)
      ∙ ap (λ n. Ended n (Coded code (rule_number rule) reached.writes lengths)) (sym number) ∙ same_Some _ event tells in
      subst (Ensues put after desk run answer) told_is
      (ended-ensues old image after desk turn run on moved code done put put-back answer (rule_number rule) lengths (then ∙ ap Some (sym told_is)))

  hold-ensues : Some (Held row.number code reached.writes lengths) ≡ Some event → Ensues put after desk run answer event
  hold-ensues tells =
      let told_is : Held run code moved.step.writes lengths ≡ event =
      ap (λ n. Held run code n lengths) (sym writes-so) ∙ ap (λ n. Held n code reached.writes lengths) (sym number) ∙ same_Some _ event tells in
      subst (Ensues put after desk run answer) told_is
      (held-ensues old image after desk turn run on moved code done put put-back answer lengths (then ∙ ap Some (sym told_is)))

  restart-ensues : (checkpoint : Bool) → Some (Restarted row.number (initiator_of row) code checkpoint) ≡ Some event → Ensues put after desk run answer event
  restart-ensues checkpoint tells =
      let told_is : Restarted run (initiator_of row) code checkpoint ≡ event = ap (λ n. Restarted n (initiator_of row) code checkpoint) (sym number) ∙ same_Some _ event tells in
      subst (Ensues put after desk run answer) told_is
      (restarted-ensues old image after desk turn run on moved code done put put-back answer (initiator_of row) checkpoint (then ∙ ap Some (sym told_is)))

  answer-ensues : (its : Answer) (id : Option Name) (count : ℕ) → event_in (decided its (inquiry_of row (initiator_of row) true code reached id count)) ≡ Some event → Ensues put after desk run answer event
  answer-ensues Yes id count tells = restart-ensues (is_some id) tells
  answer-ensues No id count tells = end-ensues A6 tells
  answer-ensues Hold id count tells = hold-ensues tells
  answer-ensues Silent id count tells = absurd (some-not-none event (sym tells))

  pub code-ensues : event_in (decide answer (told_by layout office.tables row (running_of office.tables moved) (Abend code))) ≡ Some event → Ensues put after desk run answer event
  code-ensues =
      by-verdict (λ its. event_in (decide answer its) ≡ Some event → Ensues put after desk run answer event) layout office.tables row (initiator_of row) true code reached
      (λ rule ends tells. end-ensues rule tells)
      (λ judged tells. answer-ensues answer None 0 tells)
      (λ entry judged found tells. answer-ensues answer (Some entry.kept.id) entry.point.taken tells)
