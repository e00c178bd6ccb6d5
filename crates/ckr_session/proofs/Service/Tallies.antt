-- What is counted of replies.
use Rattle.std.proofs.Common.{◌≡◌, ℕ, suc, Bool, true, false, cond, List, [], ◌∷◌, ◌++◌, Option, None, Some, refl, sym, ap, ◌∙◌}
use Rattle.ckr_console.specs.Answering.{Answering}
use Rattle.ckr_desk.specs.Model.Reply.{Reply}
use Rattle.ckr_desk.specs.Model.Turn.{Turn}
use Rattle.ckr_session.specs.declared.orders.JobChange.{JobChange}
use Rattle.ckr_session.specs.declared.tally.Tally.{Tally}
use Rattle.ckr_session.specs.Calls.{Answer, change_answer, is_rest, list_answer, shift_answer, turns}
use Rattle.ckr_session.specs.Staff.{AttendedDesk, attended_fits, attended_reply, behind_attended}
use Rattle.ckr_session.specs.Tallies.{with_answer, with_answers, with_replies, with_reply}

-- ---- turns

module _ (turn : Turn) (k m : ℕ) (s : AttendedDesk) (reply : Reply) (tally now : Tally) (less : k ≡ suc m) (fits : attended_fits s turn ≡ true) (is : reply ≡ attended_reply s turn)
    (counts : now ≡ with_reply tally reply) where
  next_turns : turns turn (suc m) s ≡ attended_reply s turn ∷ cond (is_rest (attended_reply s turn)) [] (turns turn m (behind_attended s turn))
  next_turns = ap (λ b. cond b (attended_reply s turn ∷ cond (is_rest (attended_reply s turn)) [] (turns turn m (behind_attended s turn))) []) fits

  -- the next reply, and those behind it
  next_counted : with_replies now (cond (is_rest reply) [] (turns turn m (behind_attended s turn))) ≡ with_replies tally (turns turn k s)
  next_counted =
      ap (λ (t : Tally). with_replies t (cond (is_rest reply) [] (turns turn m (behind_attended s turn)))) counts
      ∙ ap (λ (r : Reply). with_replies (with_reply tally r) (cond (is_rest r) [] (turns turn m (behind_attended s turn)))) is
      ∙ sym (ap (with_replies tally) (ap (λ (j : ℕ). turns turn j s) less ∙ next_turns))

  pub counted_last : is_rest reply ≡ true → now ≡ with_replies tally (turns turn k s)
  counted_last rests = sym (ap (λ (b : Bool). with_replies now (cond b [] (turns turn m (behind_attended s turn)))) rests) ∙ next_counted

  pub counted_on : is_rest reply ≡ false → with_replies now (turns turn m (behind_attended s turn)) ≡ with_replies tally (turns turn k s)
  counted_on busy = sym (ap (λ (b : Bool). with_replies now (cond b [] (turns turn m (behind_attended s turn)))) busy) ∙ next_counted

pub counted_more : (turn : Turn) (k m : ℕ) (s s' : AttendedDesk) (reply : Reply) (tally now : Tally) → k ≡ suc m → attended_fits s turn ≡ true → reply ≡ attended_reply s turn → s' ≡ behind_attended s turn
    → is_rest reply ≡ false → now ≡ with_reply tally reply → with_replies now (turns turn m s') ≡ with_replies tally (turns turn k s)
counted_more turn k m s s' reply tally now less fits is behind busy counts = ap (λ (w : AttendedDesk). with_replies now (turns turn m w)) behind ∙ counted_on turn k m s reply tally now less fits is counts busy

-- ---- answers

pub with_answers-append : (tally : Tally) (xs ys : List Answer) → with_answers tally (xs ++ ys) ≡ with_answers (with_answers tally xs) ys
with_answers-append tally [] ys = refl
with_answers-append tally (x ∷ xs) ys = with_answers-append (with_answer tally x) xs ys

-- nothing is counted of what is listed, changed or refused

pub list-uncounted : (tally : Tally) (number : ℕ) (records : Option (List (List ℕ))) → with_answer tally (list_answer number records) ≡ tally
list-uncounted tally number None = refl
list-uncounted tally number (Some records) = refl

pub change-uncounted : (tally : Tally) (change : JobChange) (number job : ℕ) (may : Bool) → with_answer tally (change_answer change number job may) ≡ tally
change-uncounted tally change number job true = refl
change-uncounted tally change number job false = refl

pub shift-uncounted : (tally : Tally) (number place : ℕ) (later : List Answering) → with_answer tally (shift_answer number place later) ≡ tally
shift-uncounted tally number place [] = refl
shift-uncounted tally number place (next ∷ later) = refl
