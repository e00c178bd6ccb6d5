-- A run that is restarted at the start of its step: its row, and where it stands.
use Rattle.std.proofs.Common.{◌≡◌, ℕ, true, false, refl, ap, sym, ◌∙◌, subst, Some, None}
use Rattle.std.specs.Option.{is_some}
use Rattle.ckr_base.specs.declared.code.Code.{Code}
use Rattle.ckr_base.proofs.Options.{is_some-true}
use Rattle.ckr_library.specs.NameMaps.{Named}
use Rattle.ckr_meaning.specs.declared.place.Place.TheVariants.{Opened}
use Rattle.ckr_points.specs.Events.{IsNext}
use Rattle.ckr_points.specs.Follows.{is_running}
use Rattle.ckr_points.specs.Marks.{point_at}
use Rattle.ckr_points.specs.Office.{Leg, Office, leg_of, office_after}
use Rattle.ckr_points.specs.Rows.{RunRow, StartPoint, TableSet}
use Rattle.ckr_points_invariant.specs.Invariant.{step_now}
use Rattle.ckr_points_invariant.specs.Restorability.{AreStepsRestorable, StandsAt}
use Rattle.ckr_points_invariant.proofs.Holders.Rows.{run-other}
use Rattle.ckr_points_invariant.proofs.Readiness.Office.{steps-restorable}
use Rattle.ckr_points_invariant.proofs.Restart.Event.{RestartsNow, at-step, holder-start, restarts-now, row_then, sets_then, start-stands, to-start}
use Rattle.ckr_rules.specs.declared.cases.Verdict.TheVariants.{Step}
use Rattle.ckr_volumes.specs.declared.layout.Layout.{Layout}
use Rattle.ckr_desk_turn.specs.Invariant.{IsAdmitted, has_its_step, is_in_its_state}
use Rattle.ckr_desk_turn.specs.Restarts.{restart_of}
use Rattle.ckr_desk_turn.proofs.OtherRuns.{Changes}
use Rattle.ckr_desk_turn.proofs.Restart.Events.{MayRestart, begun, by-run, here, restart-comes}
use Rattle.ckr_points_invariant.specs.KeptEvents.{AreKept}

-- the row of the run changes to one of the same deck, which isn't within its step
pub record IsAtStart (office after : Office) (row : RunRow) : Type 0 where
  pub next : RunRow
  pub changes : Changes office after row.number next
  pub in_state : is_in_its_state next ≡ true
  pub admitted : IsAdmitted row → IsAdmitted next
  pub rests : is_running next ≡ false
  pub stepped : has_its_step next ≡ true

module _ (layout : Layout) (office : Office) (are : AreKept layout office) (row : RunRow) (initiator : ℕ) (code : Code) (its : MayRestart layout office row initiator code Step) where
  abbrev after : Office
  after = office_after (restart_of row initiator code false, None) office

  comes : IsNext layout office (restart_of row initiator code false, None)
  comes = restart-comes layout office are row initiator code Step its false refl

  can : AreStepsRestorable office
  can = steps-restorable office are.ready

  pub start-row : IsAtStart office after row
  start-row =
      by-run layout office are row initiator code Step its
      (λ leg owned running found same.
      is_some-true (point_at row.points (step_now row)) (begun layout office are row initiator code Step its)
      (λ point got.
      let now : RestartsNow layout office row.number initiator code None are.kept.events are.pointed row leg false = restarts-now layout office row.number initiator code None are.kept.events are.pointed false row leg running.holder comes.may comes.carried in
      let next : RunRow = row_then layout office row.number initiator code None are.kept.events are.pointed can row leg now owned found point got in
      let sets : Named TableSet = sets_then layout office row.number initiator code None are.kept.events are.pointed can row leg now owned found point got in
      at-step layout office row.number initiator code None are.kept.events are.pointed false (λ (later : Office). IsAtStart office later row) row its.on.held.row_at (Some owned) found
      (to-start layout office row.number initiator code None are.kept.events are.pointed can row leg now owned found point got (λ (later : Office). IsAtStart office later row)
      (record {
        next = next;
        changes = record {
          mine = (holder-start layout office row.number initiator code None are.kept.events are.pointed can row leg now owned found point got).row_at;
          others = λ other apart. run-other (record office.tables { sets = sets }) next other apart;
          legs = refl;
        };
        in_state = refl;
        admitted = λ was. record { cards = was.cards; accepted = was.accepted; steps = was.steps; named = was.named; lodged = refl };
        rests = refl;
        stepped = refl;
      }))))

  -- the point of its step
  pub step-begun : is_some (point_at row.points its.on.number) ≡ true
  step-begun = ap (λ step. is_some (point_at row.points step)) (sym (here layout office are row initiator code Step its)) ∙ begun layout office are row initiator code Step its

  pub step-stands : (leg : Leg) (point : StartPoint) → leg_of office row.number ≡ Some leg → point_at row.points its.on.number ≡ Some point → StandsAt after row.number leg (Opened its.on.number) point.count
  step-stands leg point led got =
      by-run layout office are row initiator code Step its
      (λ other owned running found same.
      subst (λ step. StandsAt after row.number leg (Opened step) point.count) (here layout office are row initiator code Step its)
      (start-stands layout office row.number initiator code None row leg owned point are.kept are.pointed can comes.may comes.carried
      (record { row_at = its.on.held.row_at; holds = its.on.held.holds; leg_at = led }) found (ap (point_at row.points) (here layout office are row initiator code Step its) ∙ got)))
