-- The turns that a stint takes, one after the other with those of other initiators.
use Rattle.std.proofs.Common.{◌≡◌, ◌≤◌, ◌+◌, ◌*◌, ℕ, Bool, true, false, cond, inl, inr, not, List, [], ◌∷◌, filter, length, ap, sym, ◌∙◌, subst, Some, None, arith}
use Rattle.std.specs.Prelude.{◌==◌, if◌then◌else◌}
use Rattle.std.specs.List.{AllByRecursion}
use Rattle.std.proofs.lemmas.Bool.{false≢true}
use Rattle.ckr_base.proofs.Bools.{bool-cases}
use Rattle.ckr_base.proofs.Numbers.{equal-itself, equal-true}
use Rattle.ckr_base.proofs.Options.{option-cases, some-one}
use Rattle.ckr_base.proofs.Sequences.{find-holds, find-passes}
use Rattle.ckr_points.specs.Follows.{is_within}
use Rattle.ckr_points.specs.Office.{Leg, is_holder, leg_of}
use Rattle.ckr_points.specs.Restart.{place_of}
use Rattle.ckr_points.specs.Rows.{RunRow, run_of}
use Rattle.ckr_points.specs.declared.reply.Reply.{Reply}
use Rattle.ckr_points_invariant.proofs.Steps.Events.{led-by}
use Rattle.ckr_desk_turn.specs.Desk.{DeskModel, DeskStep, TurnDone}
use Rattle.ckr_desk_turn.specs.Invariant.{IsDesk, IsGoing}
use Rattle.ckr_desk_turn.specs.Stints.{GivesNoCode, checkpoints_ahead, ends_stint, is_wait, stint_turns, records_ahead, replies_to, steps_ahead, through_end}
use Rattle.ckr_desk_turn.specs.Select.{is_on, run_on_initiator}
use Rattle.ckr_desk_turn.specs.Turns.{AnsweredTurn, IsAnsweredTurnOf, turn_of}
use Rattle.ckr_desk_turn.proofs.NextEvents.BetweenSteps.{row_of_found, state_on}
use Rattle.ckr_desk_turn.proofs.RunningSteps.{going-within}
use Rattle.ckr_desk_turn.proofs.Turns.Initiator.{turn-keeps}
use Rattle.ckr_desk_turn.proofs.Turns.Outcomes.{turns-led}
use Rattle.ckr_desk_turn.proofs.Turns.Series.{turn-layout}
use Rattle.ckr_desk_turn.proofs.Stints.Bounds.{desk_left, has_mark, left-bound, left-some, running_of, turns_left}
use Rattle.ckr_desk_turn.proofs.Stints.Codes.{IsLegTurn, cost, cost_by}
use Rattle.ckr_desk_turn.proofs.Stints.OtherTurns.{IsLeft, other-left}
use Rattle.ckr_desk_turn.proofs.Stints.OwnTurns.{own-turn}

-- the turns among these replies that aren't waits
abbrev works : List Reply → ℕ
works replies = length (filter (λ reply. not (is_wait reply)) replies)

works-first : (reply : Reply) (rest : List Reply) → works (reply ∷ rest) ≡ cost reply + works rest
works-first reply rest = by (is_wait reply)
  where
    by : (b : Bool) → length (cond (not b) (reply ∷ filter (λ reply. not (is_wait reply)) rest) (filter (λ reply. not (is_wait reply)) rest)) ≡ cost_by b + works rest
    by true = omega arith
    by false = omega arith

-- where the stint ends with a reply, none come behind it
works-end : (reply : Reply) (rest : List Reply) → ends_stint reply ≡ true → works (through_end (reply ∷ rest)) ≤ 1
works-end reply rest ends =
    let its : works (through_end (reply ∷ rest)) ≡ cost reply + 0 = ap (λ b. works (if b then reply ∷ [] else reply ∷ through_end rest)) ends ∙ works-first reply [] in
    let most : cost reply ≤ 1 = by (is_wait reply) in
    omega (arith, its, most)
  where
    by : (b : Bool) → cost_by b ≤ 1
    by true = omega arith
    by false = omega arith

works-on : (reply : Reply) (rest : List Reply) → works (through_end (reply ∷ rest)) ≤ cost reply + works (through_end rest)
works-on reply rest = by (ends_stint reply)
  where
    by : (b : Bool) → works (if b then reply ∷ [] else reply ∷ through_end rest) ≤ cost reply + works (through_end rest)
    by true = let its : works (reply ∷ []) ≡ cost reply + 0 = works-first reply [] in omega (arith, its)
    by false = let its : works (reply ∷ through_end rest) ≡ cost reply + works (through_end rest) = works-first reply (through_end rest) in omega (arith, its)

module _ (i : ℕ) where
  abbrev replies_by : Bool → Reply → List Reply → List Reply
  replies_by mine reply later = if mine then reply ∷ later else later

  -- no more than may be left
  pub turns-most : (turns : List AnsweredTurn) (desk : DeskModel) → IsDesk desk → AllByRecursion (IsAnsweredTurnOf desk.layout) turns → AllByRecursion (GivesNoCode i) turns → (row : RunRow) (leg : Leg) → run_on_initiator desk.office.tables i ≡ Some row → leg_of desk.office row.number ≡ Some leg
      → stint_turns i turns desk ≤ desk_left desk leg row
  turns-most [] desk is each none row leg on led = omega arith
  turns-most (one ∷ rest) desk is each none row leg on led =
      bool-cases (one.turn.turn.initiator == i)
      (λ mine.
      let same : one.turn.turn.initiator ≡ i = equal-true one.turn.turn.initiator i mine in
      subst (λ b. works (through_end (replies_by b done.reply later)) ≤ most) (sym mine)
      (own (λ next at. turns-most rest done.desk kept each_then none.1 next leg at) (own-turn desk is i row on leg led one.answer one.turn same (none.0 same))))
      (λ isnt.
      let left : IsLeft desk done.desk i row = other-left desk is i row on one.turn one.answer (turned isnt) in
      subst (λ b. works (through_end (replies_by b done.reply later)) ≤ most) (sym isnt)
      (subst (λ n. stint_turns i rest done.desk ≤ n)
      (ap (λ b. turns_left leg b (running_of done.desk row.number) (place_of row)) left.mark ∙ ap (λ o. turns_left leg (has_mark desk row.number) o (place_of row)) left.running)
      (turns-most rest done.desk kept each_then none.1 row leg left.on led_then)))
    where
      done : TurnDone
      done = turn_of desk one.turn one.answer

      later : List Reply
      later = replies_to i rest done.desk

      most : ℕ
      most = desk_left desk leg row

      kept : IsDesk done.desk
      kept = (turn-keeps desk one.turn one.answer is each.0.above each.0.below).kept

      each_then : AllByRecursion (IsAnsweredTurnOf done.desk.layout) rest
      each_then = subst (λ layout. AllByRecursion (IsAnsweredTurnOf layout) rest) (sym (turn-layout desk one.turn one.answer)) each.1

      led_then : leg_of done.desk.office row.number ≡ Some leg
      led_then = turns-led row.number leg (one ∷ []) desk is (each.0, tt) led

      turned : (one.turn.turn.initiator == i) ≡ false → (i == one.turn.turn.initiator) ≡ false
      turned isnt =
          bool-cases (i == one.turn.turn.initiator)
          (λ same. absurd (false≢true (sym isnt ∙ ap (λ n. one.turn.turn.initiator == n) (equal-true i one.turn.turn.initiator same) ∙ equal-itself one.turn.turn.initiator)))
          (λ away. away)

      own : ((next : RunRow) → run_on_initiator done.desk.office.tables i ≡ Some next → leg_of done.desk.office next.number ≡ Some leg → stint_turns i rest done.desk ≤ desk_left done.desk leg next) → IsLegTurn i row.number leg most done → works (through_end (done.reply ∷ later)) ≤ most
      own behind (inl ends) =
          let one_most : works (through_end (done.reply ∷ later)) ≤ 1 = works-end done.reply later ends in
          let some : 1 ≤ most = left-some leg (has_mark desk row.number) (running_of desk row.number) (place_of row) in
          omega (arith, one_most, some)
      own behind (inr goes) =
          let here : works (through_end (done.reply ∷ later)) ≤ cost done.reply + works (through_end later) = works-on done.reply later in
          let fewer : cost done.reply + turns_left leg (has_mark done.desk row.number) (running_of done.desk row.number) (place_of goes.next) ≤ most = goes.left in
          let next_most : stint_turns i rest done.desk ≤ turns_left leg (has_mark done.desk row.number) (running_of done.desk row.number) (place_of goes.next) =
          subst (λ n. stint_turns i rest done.desk ≤ turns_left leg (has_mark done.desk n) (running_of done.desk n) (place_of goes.next)) goes.same
          (behind goes.next goes.on (ap (leg_of done.desk.office) goes.same ∙ led_then)) in
          omega (arith, here, fewer, next_most)

-- ---- by what lies ahead

-- a run that isn't within a step has no running one
none-running : (desk : DeskModel) → IsDesk desk → (row : RunRow) → run_of desk.office.tables row.number ≡ Some row → is_within (place_of row) ≡ false → running_of desk row.number ≡ None
none-running desk is row at out =
    option-cases (running_of desk row.number)
    (λ none. none)
    (λ on found.
    let its : IsGoing desk.office on = find-holds (IsGoing desk.office) (λ (step : DeskStep). step.run == row.number) desk.running on is.going found in
    let same : on.run ≡ row.number = equal-true on.run row.number (find-passes (λ (step : DeskStep). step.run == row.number) desk.running on found) in
    let mine : its.row ≡ row = some-one its.row row (run_of desk.office.tables row.number) (ap (run_of desk.office.tables) (sym same) ∙ its.row_at) at in
    absurd (false≢true (sym out ∙ ap (λ (r : RunRow). is_within (place_of r)) (sym mine) ∙ ap is_within (going-within desk.office on its).place)))

pub turns-ahead : (i : ℕ) (turns : List AnsweredTurn) (desk : DeskModel) → IsDesk desk → AllByRecursion (IsAnsweredTurnOf desk.layout) turns → AllByRecursion (GivesNoCode i) turns → (row : RunRow) (leg : Leg) → run_on_initiator desk.office.tables i ≡ Some row → leg_of desk.office row.number ≡ Some leg
    → stint_turns i turns desk ≤ records_ahead desk leg row + checkpoints_ahead desk leg row + 4 * steps_ahead desk leg row + 1
turns-ahead i turns desk is each none row leg on led =
    let at : run_of desk.office.tables row.number ≡ Some row = row_of_found desk.layout desk.office (λ other. is_on i other.initiator) row is.kept on in
    let left : stint_turns i turns desk ≤ desk_left desk leg row = turns-most i turns desk is each none row leg on led in
    let bound : desk_left desk leg row ≤ records_ahead desk leg row + checkpoints_ahead desk leg row + 4 * steps_ahead desk leg row + 1 =
    left-bound leg (has_mark desk row.number) (running_of desk row.number) (place_of row) (none-running desk is row at) in
    omega (arith, left, bound)

-- a run on an initiator has a leg
pub on-led : (desk : DeskModel) → IsDesk desk → (i : ℕ) (row : RunRow) → run_on_initiator desk.office.tables i ≡ Some row → (leg : Leg) × (leg_of desk.office row.number ≡ Some leg)
on-led desk is i row on =
    led-by desk.layout desk.office row.number row is.kept.events (row_of_found desk.layout desk.office (λ other. is_on i other.initiator) row is.kept on) (ap is_holder (state_on desk i row is on))
    (λ leg holder. (leg, holder.leg_at))
