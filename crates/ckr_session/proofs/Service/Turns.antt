-- Runs of replies, and turns.
use Rattle.std.proofs.Common.{◌≡◌, ◌+◌, ◌==◌, ◌&&◌, ℕ, length, suc, zero, Bool, true, false, cond, List, [], ◌∷◌, ◌++◌, Option, None, Some, Result, Ok, Err, IfOk, bytes_eq, refl, sym, ap, subst, ◌∙◌, append_assoc, append-nil, arith}
use Rattle.std.specs.List.{flat_map}
use Rattle.std.proofs.lemmas.Bool.{false≢true}
use Rattle.std.proofs.lemmas.Bool.Decides.{Decides-eqb}
use Rattle.std.proofs.lemmas.Grind.{flat_map-append}
use Rattle.std.proofs.lemmas.Slice.Eq.{bytes_eq-Decides}
use Rattle.ckr_base.proofs.Bools.{and-first, and-second}
use Rattle.ckr_desk.specs.Model.Reply.{Reply}
use Rattle.ckr_desk.specs.Model.Reply.TheVariants.{AwaitingReply, Idle, WaitingUnits, Worked}
use Rattle.ckr_desk.specs.Model.Turn.{Turn}
use Rattle.ckr_desk.specs.Model.Layout.{Layout}
use Rattle.ckr_report.specs.Replies.{reply_text}
use Rattle.ckr_session.specs.Texts.{goes_on, is_same_work, is_work, work_in, before_runs, run_text, runs_of, with_waiting, told_runs, answer_text}
use Rattle.ckr_session.specs.Calls.{Turned, BrokenOff, turns, after_turns, turns_fit, is_rest}
use Rattle.ckr_session.specs.declared.stop.Halt.{Halt}
use Rattle.ckr_session.specs.declared.stop.Halt.TheVariants as Halts
use Rattle.ckr_session.specs.Events.{behind_turns, turns_events}
use Rattle.ckr_session.specs.Service.{ComesTo}
use Rattle.ckr_session.specs.Staff.{AttendedDesk, attended_event, attended_fits, attended_reply, behind_attended}
use Rattle.ckr_session.proofs.Service.Events.{behind_turns-more, comes_all, length-more, turns_events-front, turns_events-more}
use Rattle.ckr_session.specs.Turns.{Adds, IsToldWaiting, Turns, FirstTurns, TurnHalt, TurnsHalt, turns_text}

abbrev Waiting : Type 0
Waiting = Option (Reply × ℕ)

-- what goes on work goes on by the same work
same_with : (one two three : Option (ℕ × List ℕ)) → is_same_work two three ≡ true → is_same_work one two ≡ is_same_work one three
same_with None two three same = refl
same_with (Some one) None three same = absurd (false≢true same)
same_with (Some one) (Some two) None same = absurd (false≢true same)
same_with (Some one) (Some two) (Some three) same =
    let job : two.0 ≡ three.0 = (Decides-eqb two.0 three.0).0 (and-first (two.0 == three.0) (bytes_eq two.1 three.1) same) in
    let step : two.1 ≡ three.1 = (bytes_eq-Decides two.1 three.1).0 (and-second (two.0 == three.0) (bytes_eq two.1 three.1) same) in
    ap (λ (n : ℕ). one.0 == n && bytes_eq one.1 two.1) job ∙ ap (λ (l : List ℕ). one.0 == three.0 && bytes_eq one.1 l) step

-- before_runs on the tests' answers
joined : (p : Bool) (q : Bool) (a : Reply) (b : Reply) (k : ℕ) (next : Reply × ℕ) (runs : List (Reply × ℕ)) → goes_on a b ≡ p → goes_on b next.0 ≡ q
    → before_runs a k (before_runs b 1 (next ∷ runs)) ≡ cond p (before_runs b (k + 1) (next ∷ runs)) ((a, k) ∷ before_runs b 1 (next ∷ runs))
joined p true a b k next runs ep eq =
    let through : goes_on a next.0 ≡ p = sym (same_with (work_in a) (work_in b) (work_in next.0) eq) ∙ ep in
    by_first p through
  where
    both : (n : ℕ) → before_runs b n (next ∷ runs) ≡ (next.0, n + next.1) ∷ runs
    both n = ap (λ t. cond t ((next.0, n + next.1) ∷ runs) ((b, n) ∷ next ∷ runs)) eq

    by_first : (p : Bool) → goes_on a next.0 ≡ p → before_runs a k (before_runs b 1 (next ∷ runs)) ≡ cond p (before_runs b (k + 1) (next ∷ runs)) ((a, k) ∷ before_runs b 1 (next ∷ runs))
    by_first true through =
        ap (before_runs a k) (both 1)
        ∙ ap (λ t. cond t ((next.0, k + (1 + next.1)) ∷ runs) ((a, k) ∷ (next.0, 1 + next.1) ∷ runs)) through
        ∙ ap (λ n. (next.0, n) ∷ runs) (omega arith)
        ∙ sym (both (k + 1))
    by_first false through =
        ap (before_runs a k) (both 1)
        ∙ ap (λ t. cond t ((next.0, k + (1 + next.1)) ∷ runs) ((a, k) ∷ (next.0, 1 + next.1) ∷ runs)) through
        ∙ ap (λ l. (a, k) ∷ l) (sym (both 1))
joined p false a b k next runs ep eq =
    ap (before_runs a k) (alone 1)
    ∙ ap (λ t. cond t ((b, k + 1) ∷ next ∷ runs) ((a, k) ∷ (b, 1) ∷ next ∷ runs)) ep
    ∙ by_first p
  where
    alone : (n : ℕ) → before_runs b n (next ∷ runs) ≡ (b, n) ∷ next ∷ runs
    alone n = ap (λ t. cond t ((next.0, n + next.1) ∷ runs) ((b, n) ∷ next ∷ runs)) eq

    by_first : (p : Bool) → cond p ((b, k + 1) ∷ next ∷ runs) ((a, k) ∷ (b, 1) ∷ next ∷ runs) ≡ cond p (before_runs b (k + 1) (next ∷ runs)) ((a, k) ∷ before_runs b 1 (next ∷ runs))
    by_first true = sym (alone (k + 1))
    by_first false = ap (λ l. (a, k) ∷ l) (sym (alone 1))

before_runs-before_runs : (a : Reply) (b : Reply) (k : ℕ) (runs : List (Reply × ℕ))
    → before_runs a k (before_runs b 1 runs) ≡ cond (goes_on a b) (before_runs b (k + 1) runs) ((a, k) ∷ before_runs b 1 runs)
before_runs-before_runs a b k [] = refl
before_runs-before_runs a b k (next ∷ runs) = joined (goes_on a b) (goes_on b next.0) a b k next runs refl refl

-- ---- what is told of replies that were broken off

told_runs-behind : (ended runs : List (Reply × ℕ)) → (runs ≡ [] → ⊥) → told_runs (ended ++ runs) ≡ ended ++ told_runs runs
told_runs-behind [] runs some = refl
told_runs-behind (x ∷ []) [] some = absurd (some refl)
told_runs-behind (x ∷ []) (y ∷ ys) some = refl
told_runs-behind (x ∷ y ∷ xs) runs some = ap (λ l. x ∷ l) (told_runs-behind (y ∷ xs) runs some)

told_behind : (ended : List (Reply × ℕ)) (waiting : Waiting) → (waiting ≡ None → told_runs ended ≡ ended) → told_runs (ended ++ with_waiting waiting []) ≡ ended ++ told_runs (with_waiting waiting [])
told_behind ended None none = ap told_runs (append-nil ended) ∙ none refl ∙ sym (append-nil ended)
told_behind ended (Some run) none = told_runs-behind ended ((run.0, run.1) ∷ []) (λ empty. cc)

-- those that have ended are told, whatever others come
told_front : (ended runs : List (Reply × ℕ)) → (runs ≡ [] → told_runs ended ≡ ended) → (more : List (Reply × ℕ)) × (told_runs (ended ++ runs) ≡ ended ++ more)
told_front ended [] none = ([], ap told_runs (append-nil ended) ∙ none refl ∙ sym (append-nil ended))
told_front ended (run ∷ runs) none = (told_runs (run ∷ runs), told_runs-behind ended (run ∷ runs) (λ empty. cc))

before_runs-some : (r : Reply) (n : ℕ) (runs : List (Reply × ℕ)) → before_runs r n runs ≡ [] → ⊥
before_runs-some r n [] empty = cc
before_runs-some r n (next ∷ runs) empty = by_first (goes_on r next.0) empty
  where
    by_first : (b : Bool) → cond b ((next.0, n + next.1) ∷ runs) ((r, n) ∷ next ∷ runs) ≡ [] → ⊥
    by_first true empty = cc
    by_first false empty = cc

told_without : (waiting : Waiting) (ended runs : List (Reply × ℕ)) → (waiting ≡ None → told_runs ended ≡ ended) → with_waiting waiting runs ≡ [] → told_runs ended ≡ ended
told_without None ended runs none empty = none refl
told_without (Some run) ended runs none empty = absurd (before_runs-some run.0 run.1 runs empty)

-- work that isn't known to have ended isn't told
untold : (waiting : Waiting) → IsToldWaiting waiting → told_runs (with_waiting waiting []) ≡ []
untold None waits = refl
untold (Some run) waits = ap (λ b. cond b [] ((run.0, run.1) ∷ [])) waits.0

-- ---- which replies go on others

same_work-none : (one : Option (ℕ × List ℕ)) → is_same_work one None ≡ false
same_work-none None = refl
same_work-none (Some one) = refl

pub goes_on-work : (last reply : Reply) → goes_on last reply ≡ true → is_work reply ≡ true
goes_on-work last (Worked job step taken) both = refl
goes_on-work last _ both = absurd (false≢true (sym (same_work-none (work_in last)) ∙ both))

pub rest-no_work : (reply : Reply) → is_rest reply ≡ true → is_work reply ≡ false
rest-no_work Idle rests = refl
rest-no_work (WaitingUnits need free) rests = refl
rest-no_work AwaitingReply rests = refl
rest-no_work _ rests = absurd (false≢true rests)

no_work-goes_on : (reply next : Reply) → is_work reply ≡ false → goes_on reply next ≡ false
no_work-goes_on (Worked job step taken) next other = absurd (false≢true (sym other))
no_work-goes_on _ next other = refl

before_runs-no_work : (reply : Reply) (n : ℕ) (runs : List (Reply × ℕ)) → is_work reply ≡ false → before_runs reply n runs ≡ (reply, n) ∷ runs
before_runs-no_work reply n [] other = refl
before_runs-no_work reply n (next ∷ runs) other = ap (λ b. cond b ((next.0, n + next.1) ∷ runs) ((reply, n) ∷ next ∷ runs)) (no_work-goes_on reply next.0 other)

module _ (layout : Layout) (initiator : ℕ) where
  -- ---- a reply comes

  -- work waits
  pub adds_first : (reply : Reply) (text : List ℕ) → Adds layout initiator None reply (Some (reply, 1)) text text
  adds_first reply text = record { ended = []; written = sym (append-nil text); joins = λ runs. refl; some = λ none empty. cc; none = λ none. cc }

  -- another reply is told
  pub adds_told : (reply : Reply) (before now : List ℕ) → is_work reply ≡ false → now ≡ before ++ reply_text layout initiator reply 1 → Adds layout initiator None reply None before now
  adds_told reply before now other written = record {
    ended = (reply, 1) ∷ [];
    written = written ∙ ap (λ t. before ++ t) (sym (append-nil (reply_text layout initiator reply 1)));
    joins = λ runs. before_runs-no_work reply 1 runs other;
    some = λ none empty. cc;
    none = λ none. ap (λ b. cond b [] ((reply, 1) ∷ [])) other;
  }

  pub adds_work : (last reply : Reply) (times : ℕ) (text : List ℕ) → goes_on last reply ≡ true → Adds layout initiator (Some (last, times)) reply (Some (reply, times + 1)) text text
  adds_work last reply times text both = record {
    ended = [];
    written = sym (append-nil text);
    joins = λ runs.
        before_runs-before_runs last reply times runs
        ∙ ap (λ b. cond b (before_runs reply (times + 1) runs) ((last, times) ∷ before_runs reply 1 runs)) both;
    some = λ none empty. cc;
    none = λ none. cc;
  }

  -- the line of those that wait comes first
  pub adds_other : (last reply : Reply) (times : ℕ) (waiting' : Waiting) (before mid now : List ℕ) → goes_on last reply ≡ false → mid ≡ before ++ reply_text layout initiator last times
      → Adds layout initiator None reply waiting' mid now → Adds layout initiator (Some (last, times)) reply waiting' before now
  adds_other last reply times waiting' before mid now not_both written adds = record {
    ended = (last, times) ∷ adds.ended;
    written = adds.written ∙ ap (λ t. t ++ flat_map (run_text layout initiator) adds.ended) written
        ∙ append_assoc before (reply_text layout initiator last times) (flat_map (run_text layout initiator) adds.ended);
    joins = λ runs.
        before_runs-before_runs last reply times runs
        ∙ ap (λ b. cond b (before_runs reply (times + 1) runs) ((last, times) ∷ before_runs reply 1 runs)) not_both
        ∙ ap (λ l. (last, times) ∷ l) (adds.joins runs);
    some = λ none empty. cc;
    none = λ none. told_runs-behind ((last, times) ∷ []) adds.ended (adds.some none) ∙ ap (λ l. (last, times) ∷ l) (adds.none none);
  }

  -- behind any other text
  pub adds_behind_text : (waiting : Waiting) (reply : Reply) (waiting' : Waiting) (before now text : List ℕ) → (adds : Adds layout initiator waiting reply waiting' before now)
      → Adds layout initiator waiting reply waiting' text (text ++ flat_map (run_text layout initiator) adds.ended)
  adds_behind_text waiting reply waiting' before now text adds = record { ended = adds.ended; written = refl; joins = adds.joins; some = adds.some; none = adds.none }

  pub adds_behind : (waiting : Waiting) (last : Reply) (times : ℕ) (reply : Reply) (waiting' : Waiting) (before now : List ℕ) → waiting ≡ Some (last, times)
      → Adds layout initiator (Some (last, times)) reply waiting' before now → Adds layout initiator waiting reply waiting' before now
  adds_behind waiting last times reply waiting' before now is adds = subst (λ (w : Waiting). Adds layout initiator w reply waiting' before now) (sym is) adds

  -- of a call's result
  pub adds_other_on : {E : Type 0} (r : Result Waiting E) (waiting : Waiting) (last reply : Reply) (times : ℕ) (before mid now : List ℕ) → waiting ≡ Some (last, times) → goes_on last reply ≡ false
      → mid ≡ before ++ reply_text layout initiator last times → IfOk r (λ waiting'. Adds layout initiator None reply waiting' mid now) → IfOk r (λ waiting'. Adds layout initiator waiting reply waiting' before now)
  adds_other_on (Ok waiting') waiting last reply times before mid now is not_both written adds =
      adds_behind waiting last times reply waiting' before now is (adds_other last reply times waiting' before mid now not_both written adds)
  adds_other_on (Err e) waiting last reply times before mid now is not_both written adds = tt

module _ (layout : Layout) (turn : Turn) where
  -- ---- turns

  pub turns_begun : (n : ℕ) (s : AttendedDesk) (text : List ℕ) (had : List (List ℕ)) → Turns layout turn n n s s None text text had had
  turns_begun n s text had = record {
    made = [];
    ended = [];
    replies = refl;
    after = refl;
    fit = refl;
    joins = λ rest. refl;
    written = sym (append-nil text);
    none = λ is. refl;
    behind = refl;
    events = sym (append-nil had);
  }

  -- the events of one turn more
  events_more : (made : List Reply) (reply : Reply) (first s : AttendedDesk) (had mid have : List (List ℕ)) → s ≡ behind_turns turn (length made) first
      → mid ≡ had ++ turns_events turn (length made) first → have ≡ mid ++ attended_event s turn → have ≡ had ++ turns_events turn (length (made ++ reply ∷ [])) first
  events_more made reply first s had mid have behind before came =
      came
      ∙ ap (λ e. e ++ attended_event s turn) before
      ∙ append_assoc had (turns_events turn (length made) first) (attended_event s turn)
      ∙ ap (λ st. had ++ (turns_events turn (length made) first ++ attended_event st turn)) behind
      ∙ ap (λ e. had ++ e) (sym (turns_events-more turn (length made) first))
      ∙ ap (λ n. had ++ turns_events turn n first) (sym (length-more turn made reply))

  one_more : (made rest : List Reply) (reply : Reply) → made ++ (reply ∷ rest) ≡ (made ++ reply ∷ []) ++ rest
  one_more made rest reply = sym (append_assoc made (reply ∷ []) rest)

  joined_behind : (made : List Reply) (ended ended' : List (Reply × ℕ)) (waiting waiting' : Waiting) (reply : Reply)
      → ((rest : List Reply) → runs_of (made ++ rest) ≡ ended ++ with_waiting waiting (runs_of rest))
      → ((runs : List (Reply × ℕ)) → with_waiting waiting (before_runs reply 1 runs) ≡ ended' ++ with_waiting waiting' runs)
      → (rest : List Reply) → runs_of ((made ++ reply ∷ []) ++ rest) ≡ (ended ++ ended') ++ with_waiting waiting' (runs_of rest)
  joined_behind made ended ended' waiting waiting' reply joins joins' rest =
      ap runs_of (sym (one_more made rest reply))
      ∙ joins (reply ∷ rest)
      ∙ ap (λ l. ended ++ l) (joins' (runs_of rest))
      ∙ sym (append_assoc ended ended' (with_waiting waiting' (runs_of rest)))

  written_behind : (ended ended' : List (Reply × ℕ)) (before mid now : List ℕ) → mid ≡ before ++ flat_map (run_text layout turn.initiator) ended → now ≡ mid ++ flat_map (run_text layout turn.initiator) ended'
      → now ≡ before ++ flat_map (run_text layout turn.initiator) (ended ++ ended')
  written_behind ended ended' before mid now written written' =
      written' ∙ ap (λ t. t ++ flat_map (run_text layout turn.initiator) ended') written
      ∙ append_assoc before (flat_map (run_text layout turn.initiator) ended) (flat_map (run_text layout turn.initiator) ended')
      ∙ ap (λ t. before ++ t) (sym (flat_map-append (run_text layout turn.initiator) ended ended'))

  -- what the next of so many turns brings
  module _ (s : AttendedDesk) (m : ℕ) where
    turns-next : attended_fits s turn ≡ true → turns turn (suc m) s ≡ attended_reply s turn ∷ cond (is_rest (attended_reply s turn)) [] (turns turn m (behind_attended s turn))
    turns-next fits = ap (λ b. cond b (attended_reply s turn ∷ cond (is_rest (attended_reply s turn)) [] (turns turn m (behind_attended s turn))) []) fits

    after-next : attended_fits s turn ≡ true → after_turns turn (suc m) s ≡ cond (is_rest (attended_reply s turn)) (behind_attended s turn) (after_turns turn m (behind_attended s turn))
    after-next fits = ap (λ b. cond b (cond (is_rest (attended_reply s turn)) (behind_attended s turn) (after_turns turn m (behind_attended s turn))) s) fits

    fit-next : attended_fits s turn ≡ true → turns_fit turn (suc m) s ≡ cond (is_rest (attended_reply s turn)) true (turns_fit turn m (behind_attended s turn))
    fit-next fits = ap (λ b. cond b (cond (is_rest (attended_reply s turn)) true (turns_fit turn m (behind_attended s turn))) false) fits

    turns-none : attended_fits s turn ≡ false → turns turn (suc m) s ≡ []
    turns-none full = ap (λ b. cond b (attended_reply s turn ∷ cond (is_rest (attended_reply s turn)) [] (turns turn m (behind_attended s turn))) []) full

    fit-none : attended_fits s turn ≡ false → turns_fit turn (suc m) s ≡ false
    fit-none full = ap (λ b. cond b (cond (is_rest (attended_reply s turn)) true (turns_fit turn m (behind_attended s turn))) false) full

  -- one turn more, which isn't idle
  pub turn_made : (n k m : ℕ) (first s s' : AttendedDesk) (reply : Reply) (waiting waiting' : Waiting) (before mid now : List ℕ) (had between have : List (List ℕ)) → k ≡ suc m
      → attended_fits s turn ≡ true → reply ≡ attended_reply s turn → s' ≡ behind_attended s turn → is_rest reply ≡ false
      → have ≡ between ++ attended_event s turn
      → Turns layout turn n k first s waiting before mid had between → Adds layout turn.initiator waiting reply waiting' mid now → Turns layout turn n m first s' waiting' before now had have
  turn_made n k m first s s' reply waiting waiting' before mid now had between have less fits is behind busy came h adds =
      let idle : is_rest (attended_reply s turn) ≡ false = ap is_rest (sym is) ∙ busy in
      record {
        made = h.made ++ reply ∷ [];
        ended = h.ended ++ adds.ended;
        replies = h.replies
            ∙ ap (λ j. h.made ++ turns turn j s) less
            ∙ ap (λ l. h.made ++ l) (turns-next s m fits
            ∙ ap (λ b. attended_reply s turn ∷ cond b [] (turns turn m (behind_attended s turn))) idle
            ∙ ap (λ r. r ∷ turns turn m (behind_attended s turn)) (sym is)
            ∙ ap (λ st. reply ∷ turns turn m st) (sym behind))
            ∙ one_more h.made (turns turn m s') reply;
        after = h.after ∙ ap (λ j. after_turns turn j s) less ∙ after-next s m fits
            ∙ ap (λ b. cond b (behind_attended s turn) (after_turns turn m (behind_attended s turn))) idle ∙ ap (after_turns turn m) (sym behind);
        fit = h.fit ∙ ap (λ j. turns_fit turn j s) less ∙ fit-next s m fits
            ∙ ap (λ b. cond b true (turns_fit turn m (behind_attended s turn))) idle ∙ ap (turns_fit turn m) (sym behind);
        joins = joined_behind h.made h.ended adds.ended waiting waiting' reply h.joins adds.joins;
        written = written_behind h.ended adds.ended before mid now h.written adds.written;
        none = λ none. told_runs-behind h.ended adds.ended (adds.some none) ∙ ap (λ l. h.ended ++ l) (adds.none none);
        behind = behind ∙ ap (λ st. behind_attended st turn) h.behind ∙ sym (behind_turns-more turn (length h.made) first)
            ∙ ap (λ j. behind_turns turn j first) (sym (length-more turn h.made reply));
        events = events_more h.made reply first s had between have h.behind h.events came;
      }

  -- the events up to one turn more, where its text isn't told
  pub turn_counted : (n k m : ℕ) (first s : AttendedDesk) (reply : Reply) (waiting : Waiting) (before mid : List ℕ) (had between have : List (List ℕ)) → k ≡ suc m
      → attended_fits s turn ≡ true → have ≡ between ++ attended_event s turn → Turns layout turn n k first s waiting before mid had between
      → (came : List (List ℕ)) × (have ≡ had ++ came) × ComesTo (turns_events turn (length (turns turn n first)) first) came came
  turn_counted n k m first s reply waiting before mid had between have less fits came h =
      let next = attended_reply s turn in
      let rest = cond (is_rest next) [] (turns turn m (behind_attended s turn)) in
      let replies : turns turn n first ≡ (h.made ++ next ∷ []) ++ rest =
      h.replies ∙ ap (λ j. h.made ++ turns turn j s) less ∙ ap (λ l. h.made ++ l) (turns-next s m fits) ∙ one_more h.made rest next in (
        turns_events turn (length (h.made ++ next ∷ [])) first,
        events_more h.made next first s had between have h.behind h.events came,
        comes_all _ _ _ (turns_events-front turn n first (h.made ++ next ∷ []) rest replies),
      )

  -- the events so far
  pub turns_counted : (n k : ℕ) (first s : AttendedDesk) (waiting : Waiting) (before mid : List ℕ) (had between : List (List ℕ)) → (h : Turns layout turn n k first s waiting before mid had between)
      → ComesTo (turns_events turn (length (turns turn n first)) first) (turns_events turn (length h.made) first) (turns_events turn (length h.made) first)
  turns_counted n k first s waiting before mid had between h = comes_all _ _ _ (turns_events-front turn n first h.made (turns turn k s) h.replies)

  -- all turns are made whose replies are these
  pub record AllMade (n : ℕ) (first s : AttendedDesk) (before now : List ℕ) (had have : List (List ℕ)) : Type 0 where
    pub fits : turns_fit turn n first ≡ true
    pub text : now ≡ before ++ answer_text (Turned layout turn.initiator (turns turn n first))
    pub after : s ≡ after_turns turn n first
    pub events : have ≡ had ++ turns_events turn (length (turns turn n first)) first

  text_of_all : (made : List Reply) (ended : List (Reply × ℕ)) (waiting : Waiting) (before now final : List ℕ)
      → ((rest : List Reply) → runs_of (made ++ rest) ≡ ended ++ with_waiting waiting (runs_of rest)) → now ≡ before ++ flat_map (run_text layout turn.initiator) ended
      → final ≡ now ++ flat_map (run_text layout turn.initiator) (with_waiting waiting []) → final ≡ before ++ flat_map (run_text layout turn.initiator) (runs_of made)
  text_of_all made ended waiting before now final joins written last =
      written_behind ended (with_waiting waiting []) before now final written last
      ∙ ap (λ rs. before ++ flat_map (run_text layout turn.initiator) rs) (sym (joins []) ∙ ap runs_of (append-nil made))

  -- the last one, which is idle
  pub turn_rests : (n k m : ℕ) (first s s' : AttendedDesk) (reply : Reply) (waiting waiting' : Waiting) (before mid now final : List ℕ) (had between have : List (List ℕ)) → k ≡ suc m
      → attended_fits s turn ≡ true → reply ≡ attended_reply s turn → s' ≡ behind_attended s turn → is_rest reply ≡ true
      → have ≡ between ++ attended_event s turn
      → Turns layout turn n k first s waiting before mid had between → Adds layout turn.initiator waiting reply waiting' mid now → final ≡ now ++ flat_map (run_text layout turn.initiator) (with_waiting waiting' [])
      → AllMade n first s' before final had have
  turn_rests n k m first s s' reply waiting waiting' before mid now final had between have less fits is behind rests came h adds last =
      let idle : is_rest (attended_reply s turn) ≡ true = ap is_rest (sym is) ∙ rests in
      let replies : turns turn n first ≡ h.made ++ reply ∷ [] =
      h.replies
      ∙ ap (λ j. h.made ++ turns turn j s) less
      ∙ ap (λ l. h.made ++ l) (turns-next s m fits
      ∙ ap (λ b. attended_reply s turn ∷ cond b [] (turns turn m (behind_attended s turn))) idle
      ∙ ap (λ r. r ∷ []) (sym is)) in
      record {
        fits = h.fit ∙ ap (λ j. turns_fit turn j s) less ∙ fit-next s m fits ∙ ap (λ b. cond b true (turns_fit turn m (behind_attended s turn))) idle;
        text = text_of_all (h.made ++ reply ∷ []) (h.ended ++ adds.ended) waiting' before now final
            (joined_behind h.made h.ended adds.ended waiting waiting' reply h.joins adds.joins) (written_behind h.ended adds.ended before mid now h.written adds.written) last
            ∙ ap (λ rs. before ++ flat_map (run_text layout turn.initiator) (runs_of rs)) (sym replies);
        after = behind ∙ sym (h.after ∙ ap (λ j. after_turns turn j s) less ∙ after-next s m fits ∙ ap (λ b. cond b (behind_attended s turn) (after_turns turn m (behind_attended s turn))) idle);
        events = events_more h.made reply first s had between have h.behind h.events came ∙ ap (λ (rs : List Reply). had ++ turns_events turn (length rs) first) (sym replies);
      }

  -- as many as were asked for
  pub turns_made : (n k : ℕ) (first s : AttendedDesk) (waiting : Waiting) (before now final : List ℕ) (had have : List (List ℕ)) → k ≡ zero
      → Turns layout turn n k first s waiting before now had have → final ≡ now ++ flat_map (run_text layout turn.initiator) (with_waiting waiting []) → AllMade n first s before final had have
  turns_made n k first s waiting before now final had have none h last =
      let replies : turns turn n first ≡ h.made = h.replies ∙ ap (λ j. h.made ++ turns turn j s) none ∙ append-nil h.made in
      record {
        fits = h.fit ∙ ap (λ j. turns_fit turn j s) none;
        text = text_of_all h.made h.ended waiting before now final h.joins h.written last ∙ ap (λ rs. before ++ flat_map (run_text layout turn.initiator) (runs_of rs)) (sym replies);
        after = sym (h.after ∙ ap (λ j. after_turns turn j s) none);
        events = h.events ∙ ap (λ (rs : List Reply). had ++ turns_events turn (length rs) first) (sym replies);
      }

  broken_text : (made : List Reply) (ended : List (Reply × ℕ)) (waiting : Waiting) (before now final : List ℕ)
      → ((rest : List Reply) → runs_of (made ++ rest) ≡ ended ++ with_waiting waiting (runs_of rest)) → (waiting ≡ None → told_runs ended ≡ ended) → now ≡ before ++ flat_map (run_text layout turn.initiator) ended
      → final ≡ now ++ flat_map (run_text layout turn.initiator) (told_runs (with_waiting waiting [])) → final ≡ before ++ answer_text (BrokenOff layout turn.initiator made)
  broken_text made ended waiting before now final joins none written last =
      written_behind ended (told_runs (with_waiting waiting [])) before now final written last
      ∙ ap (λ rs. before ++ flat_map (run_text layout turn.initiator) rs) (sym (told_behind ended waiting none) ∙ ap told_runs (sym (joins []) ∙ ap runs_of (append-nil made)))

  -- the book has no room for the next one
  turns_full : (n k m : ℕ) (first s : AttendedDesk) (waiting : Waiting) (before now final : List ℕ) (had have came kept : List (List ℕ)) → k ≡ suc m → attended_fits s turn ≡ false
      → came ≡ [] → kept ≡ [] → (h : Turns layout turn n k first s waiting before now had have) → final ≡ now ++ flat_map (run_text layout turn.initiator) (told_runs (with_waiting waiting []))
      → TurnsHalt layout turn Halts.Book n first before final (turns_events turn (length h.made) first ++ came) (turns_events turn (length h.made) first ++ kept)
  turns_full n k m first s waiting before now final had have came kept less full came_none kept_none h last =
      let replies : turns turn n first ≡ h.made = h.replies ∙ ap (λ j. h.made ++ turns turn j s) less ∙ ap (λ l. h.made ++ l) (turns-none s m full) ∙ append-nil h.made in
      let events = turns_events turn (length h.made) first in (
        h.fit ∙ ap (λ j. turns_fit turn j s) less ∙ fit-none s m full,
        broken_text h.made h.ended waiting before now final h.joins h.none h.written last ∙ ap (λ rs. before ++ answer_text (BrokenOff layout turn.initiator rs)) (sym replies),
        ap (λ c. events ++ c) came_none ∙ append-nil events ∙ ap (λ (rs : List Reply). turns_events turn (length rs) first) (sym replies),
        ap (λ c. events ++ c) (kept_none ∙ sym came_none),
      )

  -- the disk failed
  turns_broken : (n k : ℕ) (first s : AttendedDesk) (waiting : Waiting) (before now final : List ℕ) (had have came kept : List (List ℕ))
      → came ≡ attended_event s turn → kept ≡ []
      → (h : Turns layout turn n k first s waiting before now had have) → final ≡ now ++ flat_map (run_text layout turn.initiator) (told_runs (with_waiting waiting []))
      → FirstTurns layout turn n first before final (turns_events turn (length h.made) first ++ came) (turns_events turn (length h.made) first ++ kept)
  turns_broken n k first s waiting before now final had have came kept came_is kept_is h last =
      let events = turns_events turn (length h.made) first in
      record {
        replies = h.made;
        later = turns turn k s;
        given = h.replies;
        told = broken_text h.made h.ended waiting before now final h.joins h.none h.written last;
        came_is = ap (λ c. events ++ c) came_is ∙ ap (λ st. events ++ attended_event st turn) h.behind;
        kept_is = ap (λ c. events ++ c) kept_is ∙ append-nil events;
      }

  -- memory ran out
  turns_unsaid : (n k : ℕ) (first s : AttendedDesk) (waiting : Waiting) (before now : List ℕ) (had have came kept : List (List ℕ)) → came ≡ [] → kept ≡ []
      → (h : Turns layout turn n k first s waiting before now had have)
      → ComesTo (turns_events turn (length (turns turn n first)) first) (turns_events turn (length h.made) first ++ came) (turns_events turn (length h.made) first ++ kept)
  turns_unsaid n k first s waiting before now had have came kept came_none kept_none h =
      let events = turns_events turn (length h.made) first in
      record {
        more = turns_events turn (length (turns turn k s)) (behind_turns turn (length h.made) first);
        front = turns_events-front turn n first h.made (turns turn k s) h.replies
            ∙ ap (λ l. l ++ turns_events turn (length (turns turn k s)) (behind_turns turn (length h.made) first)) (sym (ap (λ c. events ++ c) came_none ∙ append-nil events));
        kept_is = ap (λ c. events ++ c) (kept_none ∙ sym came_none);
      }

  -- why not all turns were made
  pub turns_halted : (halt : Halt) (n k m : ℕ) (first s : AttendedDesk) (waiting : Waiting) (before now final : List ℕ) (had have came kept : List (List ℕ)) → k ≡ suc m
      → TurnHalt halt turn s came kept → (h : Turns layout turn n k first s waiting before now had have) → final ≡ now ++ flat_map (run_text layout turn.initiator) (told_runs (with_waiting waiting []))
      → TurnsHalt layout turn halt n first before final (turns_events turn (length h.made) first ++ came) (turns_events turn (length h.made) first ++ kept)
  turns_halted Halts.Memory n k m first s waiting before now final had have came kept less why h last =
      turns_unsaid n k first s waiting before now had have came kept why.0 why.1 h
  turns_halted Halts.Book n k m first s waiting before now final had have came kept less why h last = turns_full n k m first s waiting before now final had have came kept less why.0 why.1 why.2 h last
  turns_halted Halts.Disk n k m first s waiting before now final had have came kept less why h last = turns_broken n k first s waiting before now final had have came kept why.0 why.1 h last

  -- no more is told of those that wait
  pub no_more : (waiting : Waiting) (now : List ℕ) → IsToldWaiting waiting → now ≡ now ++ flat_map (run_text layout turn.initiator) (told_runs (with_waiting waiting []))
  no_more waiting now waits = sym (ap (λ (rs : List (Reply × ℕ)). now ++ flat_map (run_text layout turn.initiator) rs) (untold waiting waits) ∙ append-nil now)

  -- what is told so far is a front of what is told of all turns
  pub turns_front : (n k : ℕ) (first s : AttendedDesk) (waiting : Waiting) (before now : List ℕ) (had have : List (List ℕ)) → Turns layout turn n k first s waiting before now had have
      → (more : List ℕ) × (before ++ turns_text layout turn n first ≡ now ++ more)
  turns_front n k first s waiting before now had have h = by_fit (turns_fit turn n first) refl
    where
      later : List (Reply × ℕ)
      later = with_waiting waiting (runs_of (turns turn k s))

      runs : runs_of (turns turn n first) ≡ h.ended ++ later
      runs = ap runs_of h.replies ∙ h.joins (turns turn k s)

      behind : (all more : List (Reply × ℕ)) → all ≡ h.ended ++ more → before ++ flat_map (run_text layout turn.initiator) all ≡ now ++ flat_map (run_text layout turn.initiator) more
      behind all more is =
          ap (λ (rs : List (Reply × ℕ)). before ++ flat_map (run_text layout turn.initiator) rs) is
          ∙ ap (λ t. before ++ t) (flat_map-append (run_text layout turn.initiator) h.ended more)
          ∙ sym (append_assoc before (flat_map (run_text layout turn.initiator) h.ended) (flat_map (run_text layout turn.initiator) more))
          ∙ ap (λ t. t ++ flat_map (run_text layout turn.initiator) more) (sym h.written)

      text_by : Bool → List ℕ
      text_by b = before ++ answer_text (cond b (Turned layout turn.initiator (turns turn n first)) (BrokenOff layout turn.initiator (turns turn n first)))

      by_fit : (b : Bool) → turns_fit turn n first ≡ b → (more : List ℕ) × (before ++ turns_text layout turn n first ≡ now ++ more)
      by_fit true fit = (flat_map (run_text layout turn.initiator) later, ap text_by fit ∙ behind (runs_of (turns turn n first)) later runs)
      by_fit false full =
          let told = told_front h.ended later (told_without waiting h.ended (runs_of (turns turn k s)) h.none) in
          (flat_map (run_text layout turn.initiator) told.0, ap text_by full ∙ behind (told_runs (runs_of (turns turn n first))) told.0 (ap told_runs runs ∙ told.1))
