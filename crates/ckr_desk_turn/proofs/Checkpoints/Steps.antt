-- What the accepted deck of a running step gives to its checkpoints.
use Rattle.std.proofs.Common.{◌≡◌, ◌≤◌, suc, true, ◌&&◌, nat_le, ap, sym, ◌∙◌, Some, arith}
use Rattle.ckr_base.specs.Grammar.{is_check_id}
use Rattle.ckr_base.proofs.Bools.{and-first}
use Rattle.ckr_base.proofs.Numbers.{nat_le-true}
use Rattle.ckr_library.specs.declared.sets.Content.TheVariants.{Checkpoints}
use Rattle.ckr_library.specs.NameMaps.{Name, entry_at}
use Rattle.ckr_library.proofs.Named.{each-at}
use Rattle.ckr_points.specs.Rows.{TableSet}
use Rattle.ckr_desk_turn.specs.DeckLimits.{HasCheckParts}
use Rattle.ckr_desk_turn.specs.CheckSets.{HasCheckRecords, HaveCheckRecords}
use Rattle.ckr_desk_turn.specs.Checkpoints.{check_set, is_in_range, is_state_in_range, next_entry, next_id, step_entries}
use Rattle.ckr_desk_turn.specs.Desk.{DeskModel, DeskStep}
use Rattle.ckr_desk_turn.specs.Invariant.{IsDesk, IsGoing}
use Rattle.ckr_desk_turn.proofs.AdmittedSteps.{admitted-parts}
use Rattle.ckr_desk_turn.proofs.Checkpoints.Events.{content-now}
use Rattle.ckr_desk_turn.proofs.Checkpoints.Identifiers.{id-holds}
use Rattle.ckr_desk_turn.proofs.Checkpoints.Plans.{by-own}
use Rattle.ckr_desk_turn.proofs.NextEvents.WithinStep.{by-step}
use Rattle.ckr_desk_turn.proofs.RunningSteps.{going-within}

module _ (desk : DeskModel) (on : DeskStep) (going : IsGoing desk.office on) (is : IsDesk desk) where
  -- its step is one of an accepted deck
  has-parts : HasCheckParts going.start.owned.step
  has-parts = by-own desk on going is (λ own same found. admitted-parts going.number going.start.owned own)

  pub id-counted : going.row.count ≤ 9999998 → is_check_id (next_id going.row going.start) ≡ true
  id-counted few =
      let entries : step_entries going.row going.start.number ≤ going.row.count = omega arith in
      id-holds going.start.owned.step.parm.ids.items (suc going.row.count) (suc (step_entries going.row going.start.number)) has-parts.ids (omega (arith, entries, few))

  pub id-ranged : is_in_range (next_entry desk.office.tables.sets going.row going.start on.progress) ≡ true → is_check_id (next_id going.row going.start) ≡ true
  id-ranged ranged =
      let entry = next_entry desk.office.tables.sets going.row going.start on.progress in
      let most : suc going.row.count ≤ 9999999 =
      nat_le-true (suc going.row.count) 9999999
      (and-first (nat_le (suc going.row.count) 9999999) (nat_le entry.writes 3000000)
      (and-first (nat_le (suc going.row.count) 9999999 && nat_le entry.writes 3000000) (is_state_in_range entry.state) ranged)) in
      id-counted (omega (arith, most))

  -- its data set for checkpoints is one
  pub check-content : (set : Name) (table : TableSet) → check_set going.start ≡ Some set → entry_at desk.office.tables.sets set ≡ Some table → table.set.content ≡ Checkpoints
  check-content set table named found =
      by-step desk is on.run going.row going.number going.committed going.start (going-within desk.office on going)
      (λ leg owned running same spaced. content-now desk.layout desk.office on.run going.row leg owned going.number going.committed is.kept running set table (ap check_set (sym same) ∙ named) found)

  pub check-length : HaveCheckRecords desk.office.tables.sets → (set : Name) (table : TableSet) → check_set going.start ≡ Some set → entry_at desk.office.tables.sets set ≡ Some table → table.set.lrecl ≡ 256
  check-length each set table named found = each-at HasCheckRecords desk.office.tables.sets each set table found (check-content set table named found)
