-- Requests that aren't served to their end.
use Rattle.std.proofs.Common.{◌≡◌, ◌≤◌, ℕ, Bool, true, false, ◌&&◌, List, [], ◌∷◌, ◌++◌, Option, length, inl, inr, refl, sym, ap, subst, ◌∙◌, append_assoc, append-nil, arith}
use Rattle.std.specs.Io.KnownBytes.{Appends}
use Rattle.ckr_base.proofs.KnownBytes.{Appends-trans}
use Rattle.ckr_outside.specs.Faults.{Rose}
use Rattle.ckr_outside.specs.Front.{AppendsFront}
use Rattle.ckr_cards.specs.Session.{Handed}
use Rattle.ckr_session.specs.Staff.{StaffedDesk}
use Rattle.ckr_session.specs.declared.stop.Halt.{Halt}
use Rattle.ckr_session.specs.declared.stop.Halt.TheVariants as Halts
use Rattle.ckr_session.specs.declared.stop.Stop.{Stop}
use Rattle.ckr_session.specs.declared.stop.Stop.TheVariants as Stops
use Rattle.ckr_session.specs.Calls.{after_all, all_fit, replies_of, broken_off}
use Rattle.ckr_session.specs.Events.{events_told, events_before, event_at}
use Rattle.ckr_session.specs.Texts.{answer_text}
use Rattle.ckr_session.specs.Service.{View, Serves, BreaksOff, HaltsSo, WritesSo, StopsWithin, Caused, RestWritten, stop_of, text_to}
use Rattle.ckr_session.proofs.Service.Order.{all_fit-append, after_all-append, text_to-append, text_to-full}
use Rattle.ckr_session.proofs.Service.Events.{events_told-append, events_told-full, comes_behind, comes_before}

-- ---- behind requests that were served, and before others

pub breaks_off_behind : (s s' : StaffedDesk) (xs ys : List Handed) (text : List ℕ) (came kept : List (List ℕ)) → all_fit s xs ≡ true → s' ≡ after_all s xs → BreaksOff s' ys text came kept
    → BreaksOff s (xs ++ ys) (text_to s xs ++ text) (events_told s xs ++ came) (events_told s xs ++ kept)
breaks_off_behind s s' xs ys text came kept fit is off = record {
  served = xs ++ off.served;
  broken = off.broken;
  more = off.more;
  split = ap (λ l. xs ++ l) off.split ∙ sym (append_assoc xs off.served (off.broken ∷ off.more));
  fits = all_fit-append s xs off.served ∙ ap (λ r. r && all_fit (after_all s xs) off.served) fit ∙ ap (λ st. all_fit st off.served) (sym is) ∙ off.fits;
  replies = off.replies;
  later = off.later;
  given = ap (λ st. replies_of st off.broken) (after_all-append s xs off.served ∙ ap (λ st. after_all st off.served) (sym is)) ∙ off.given;
  told = ap (λ t. text_to s xs ++ t) off.told
      ∙ ap (λ st. text_to s xs ++ (text_to st off.served ++ answer_text (broken_off (after_all st off.served) off.broken off.replies))) is
      ∙ sym (append_assoc (text_to s xs) (text_to (after_all s xs) off.served) (answer_text (broken_off (after_all (after_all s xs) off.served) off.broken off.replies)))
      ∙ ap (λ t. t ++ answer_text (broken_off (after_all (after_all s xs) off.served) off.broken off.replies)) (sym (text_to-append s xs off.served fit))
      ∙ ap (λ st. text_to s (xs ++ off.served) ++ answer_text (broken_off st off.broken off.replies)) (sym (after_all-append s xs off.served));
  came_is = ap (λ c. events_told s xs ++ c) off.came_is
      ∙ ap (λ st. events_told s xs ++ ((events_told s' off.served ++ events_before st off.broken given) ++ event_at st off.broken given)) behind
      ∙ sym (append_assoc (events_told s xs) (events_told s' off.served ++ events_before end off.broken given) (event_at end off.broken given))
      ∙ ap (λ l. l ++ event_at end off.broken given) before;
  kept_is = ap (λ c. events_told s xs ++ c) off.kept_is ∙ ap (λ st. events_told s xs ++ (events_told s' off.served ++ events_before st off.broken given)) behind ∙ before;
}
  where
    given : ℕ
    given = length off.replies

    end : StaffedDesk
    end = after_all s (xs ++ off.served)

    behind : after_all s' off.served ≡ end
    behind = ap (λ st. after_all st off.served) is ∙ sym (after_all-append s xs off.served)

    before : events_told s xs ++ (events_told s' off.served ++ events_before end off.broken given) ≡ events_told s (xs ++ off.served) ++ events_before end off.broken given
    before =
        sym (append_assoc (events_told s xs) (events_told s' off.served) (events_before end off.broken given))
        ∙ ap (λ l. l ++ events_before end off.broken given) (ap (λ st. events_told s xs ++ events_told st off.served) is ∙ sym (events_told-append s xs off.served fit))

pub breaks_off_before : (s : StaffedDesk) (xs ys : List Handed) (text : List ℕ) (came kept : List (List ℕ)) → BreaksOff s xs text came kept → BreaksOff s (xs ++ ys) text came kept
breaks_off_before s xs ys text came kept off = record {
  served = off.served;
  broken = off.broken;
  more = off.more ++ ys;
  split = ap (λ l. l ++ ys) off.split ∙ append_assoc off.served (off.broken ∷ off.more) ys;
  fits = off.fits;
  replies = off.replies;
  later = off.later;
  given = off.given;
  told = off.told;
  came_is = off.came_is;
  kept_is = off.kept_is;
}

full_behind : (s s' : StaffedDesk) (xs ys : List Handed) → all_fit s xs ≡ true → s' ≡ after_all s xs → all_fit s' ys ≡ false → all_fit s (xs ++ ys) ≡ false
full_behind s s' xs ys fit is full =
    all_fit-append s xs ys ∙ ap (λ r. r && all_fit (after_all s xs) ys) fit ∙ ap (λ st. all_fit st ys) (sym is) ∙ full

full_before : (s : StaffedDesk) (xs ys : List Handed) → all_fit s xs ≡ false → all_fit s (xs ++ ys) ≡ false
full_before s xs ys full = all_fit-append s xs ys ∙ ap (λ r. r && all_fit (after_all s xs) ys) full

-- the events behind others that came
came_behind : (s s' : StaffedDesk) (xs ys : List Handed) (came : List (List ℕ)) → all_fit s xs ≡ true → s' ≡ after_all s xs → came ≡ events_told s' ys → events_told s xs ++ came ≡ events_told s (xs ++ ys)
came_behind s s' xs ys came fit is came_is =
    ap (λ l. events_told s xs ++ l) came_is ∙ ap (λ st. events_told s xs ++ events_told st ys) is ∙ sym (events_told-append s xs ys fit)

pub halts_behind : (halt : Halt) (a b : View) (xs ys : List Handed) (t u v : List ℕ) (came kept : List (List ℕ)) → Serves a b xs t u → HaltsSo halt b.state ys u v came kept
    → HaltsSo halt a.state (xs ++ ys) t v (events_told a.state xs ++ came) (events_told a.state xs ++ kept)
halts_behind Halts.Memory a b xs ys t u v came kept first so = comes_behind a.state b.state xs ys came kept first.fits first.state so
halts_behind Halts.Book a b xs ys t u v came kept first so = (
  full_behind a.state b.state xs ys first.fits first.state so.0,
  so.1 ∙ ap (λ w. w ++ text_to b.state ys) first.text
      ∙ append_assoc t (text_to a.state xs) (text_to b.state ys)
      ∙ ap (λ st. t ++ (text_to a.state xs ++ text_to st ys)) first.state
      ∙ ap (λ w. t ++ w) (sym (text_to-append a.state xs ys first.fits)),
  came_behind a.state b.state xs ys came first.fits first.state so.2,
  ap (λ l. events_told a.state xs ++ l) so.3,
)
halts_behind Halts.Disk a b xs ys t u v came kept first so = (
  text_to a.state xs ++ so.0,
  so.1 ∙ ap (λ w. w ++ so.0) first.text ∙ append_assoc t (text_to a.state xs) so.0,
  breaks_off_behind a.state b.state xs ys so.0 came kept first.fits first.state so.2,
)

pub halts_before : (halt : Halt) (s : StaffedDesk) (xs ys : List Handed) (t v : List ℕ) (came kept : List (List ℕ)) → HaltsSo halt s xs t v came kept → HaltsSo halt s (xs ++ ys) t v came kept
halts_before Halts.Memory s xs ys t v came kept so = comes_before s xs ys came kept so
halts_before Halts.Book s xs ys t v came kept so = (
  full_before s xs ys so.0,
  so.1 ∙ ap (λ w. t ++ w) (sym (text_to-full s xs ys so.0)),
  so.2 ∙ sym (events_told-full s xs ys so.0),
  so.3,
)
halts_before Halts.Disk s xs ys t v came kept so = (so.0, so.1, breaks_off_before s xs ys so.0 came kept so.2)

-- ---- what is written

pub AppendsFront-behind : (start old new : Option (List ℕ)) (t u more whole : List ℕ) → Appends start old t → AppendsFront old new u → whole ≡ (t ++ u) ++ more → AppendsFront start new whole
AppendsFront-behind start old new t u more whole first front e = (
  t ++ front.0,
  front.1 ++ more,
  e ∙ ap (λ v. (t ++ v) ++ more) front.2
      ∙ ap (λ v. v ++ more) (sym (append_assoc t front.0 front.1))
      ∙ append_assoc (t ++ front.0) front.1 more,
  Appends-trans start old new t front.0 first front.3,
)

pub rose_earlier : (before between now : ℕ) → before ≤ between → Rose between now → Rose before now
rose_earlier before between now later rose = elim rose [ inl less ↦ inl (omega arith) | inr top ↦ inr top ]

writes_behind : (before between now : ℕ) (start old new : Option (List ℕ)) (t u : List ℕ) → before ≤ between → Appends start old t → WritesSo between now old new u → WritesSo before now start new (t ++ u)
writes_behind before between now start old new t u later first so = elim so [
  | inl whole ↦ inl (Appends-trans start old new t u first whole)
  | inr part ↦ inr (rose_earlier before between now later part.0, AppendsFront-behind start old new t u [] (t ++ u) first part.1 (sym (append-nil (t ++ u))))
]

writes_earlier : (before between now : ℕ) (old new : Option (List ℕ)) (u : List ℕ) → before ≤ between → WritesSo between now old new u → WritesSo before now old new u
writes_earlier before between now old new u later so = elim so [
  | inl whole ↦ inl whole
  | inr part ↦ inr (rose_earlier before between now later part.0, part.1)
]

-- the sink's faults are counted from an earlier moment on
pub stops_earlier : (stop : Stop) (before between now : ℕ) (s : StaffedDesk) (xs : List Handed) (old new : Option (List ℕ)) (came kept : List (List ℕ)) → before ≤ between
    → StopsWithin stop between now s xs old new came kept → StopsWithin stop before now s xs old new came kept
stops_earlier Stops.Source before between now s xs old new came kept later so = so
stops_earlier Stops.Limit before between now s xs old new came kept later so = so
stops_earlier Stops.Sink before between now s xs old new came kept later so = so
stops_earlier Stops.Memory before between now s xs old new came kept later so = so
stops_earlier Stops.Book before between now s xs old new came kept later so = (so.0, writes_earlier before between now old new (text_to s xs) later so.1, so.2, so.3)
stops_earlier Stops.Disk before between now s xs old new came kept later so = (so.0, so.1, writes_earlier before between now old new so.0 later so.2)

-- counted from an earlier moment on, and of a disk that is trusted where this one is
pub cause_earlier : (trusted trusted' : Type 0) (stop : Stop) (before between now before' between' now' : ℕ) → before ≤ between → before' ≤ between' → (trusted' → trusted)
    → Caused trusted stop between now between' now' → Caused trusted' stop before now before' now'
cause_earlier trusted trusted' Stops.Source before between now before' between' now' later later' holds so = so
cause_earlier trusted trusted' Stops.Limit before between now before' between' now' later later' holds so = so
cause_earlier trusted trusted' Stops.Sink before between now before' between' now' later later' holds so = rose_earlier before between now later so
cause_earlier trusted trusted' Stops.Memory before between now before' between' now' later later' holds so = tt
cause_earlier trusted trusted' Stops.Book before between now before' between' now' later later' holds so = tt
cause_earlier trusted trusted' Stops.Disk before between now before' between' now' later later' holds so = rose_earlier before' between' now' later' so

-- The text of the whole is that of what was served, of what was asked then, and of more.
stops_front : (s s' : StaffedDesk) (xs ys more : List Handed) (start old new : Option (List ℕ)) → all_fit s xs ≡ true → s' ≡ after_all s xs
    → Appends start old (text_to s xs) → AppendsFront old new (text_to s' ys) → AppendsFront start new (text_to s ((xs ++ ys) ++ more))
stops_front s s' xs ys more start old new fit is first front = by_rest (all_fit s' ys) refl
  where
    whole : text_to s (xs ++ ys) ≡ text_to s xs ++ text_to s' ys
    whole = text_to-append s xs ys fit ∙ ap (λ st. text_to s xs ++ text_to st ys) (sym is)

    by_rest : (b : Bool) → all_fit s' ys ≡ b → AppendsFront start new (text_to s ((xs ++ ys) ++ more))
    by_rest true rest =
        AppendsFront-behind start old new (text_to s xs) (text_to s' ys) (text_to (after_all s (xs ++ ys)) more) _ first front
        (text_to-append s (xs ++ ys) more (all_fit-append s xs ys ∙ ap (λ r. r && all_fit (after_all s xs) ys) fit ∙ ap (λ st. all_fit st ys) (sym is) ∙ rest)
        ∙ ap (λ w. w ++ text_to (after_all s (xs ++ ys)) more) whole)
    by_rest false rest =
        AppendsFront-behind start old new (text_to s xs) (text_to s' ys) [] _ first front
        (text_to-full s (xs ++ ys) more (full_behind s s' xs ys fit is rest) ∙ whole ∙ sym (append-nil (text_to s xs ++ text_to s' ys)))

pub stops_behind : (stop : Stop) (before between now : ℕ) (a b : View) (xs ys more : List Handed) (t : List ℕ) (start old new : Option (List ℕ)) (came kept : List (List ℕ)) → before ≤ between
    → Serves a b xs [] t → Appends start old t → StopsWithin stop between now b.state ys old new came kept
    → StopsWithin stop before now a.state ((xs ++ ys) ++ more) start new (events_told a.state xs ++ came) (events_told a.state xs ++ kept)
stops_behind Stops.Source before between now a b xs ys more t start old new came kept later first written so = so
stops_behind Stops.Limit before between now a b xs ys more t start old new came kept later first written so = so
stops_behind Stops.Sink before between now a b xs ys more t start old new came kept later first written so = record {
  served = xs ++ so.served;
  more = so.more ++ more;
  split = ap (λ l. (xs ++ l) ++ more) so.split ∙ ap (λ l. l ++ more) (sym (append_assoc xs so.served so.more)) ∙ append_assoc (xs ++ so.served) so.more more;
  fits = all_fit-append a.state xs so.served ∙ ap (λ r. r && all_fit (after_all a.state xs) so.served) first.fits ∙ ap (λ st. all_fit st so.served) (sym first.state) ∙ so.fits;
  written = AppendsFront-behind start old new (text_to a.state xs) (text_to b.state so.served) [] _ (subst (Appends start old) first.text written) so.written
      (text_to-append a.state xs so.served first.fits ∙ ap (λ st. text_to a.state xs ++ text_to st so.served) (sym first.state) ∙ sym (append-nil (text_to a.state xs ++ text_to b.state so.served)));
  came_is = came_behind a.state b.state xs so.served came first.fits first.state so.came_is;
  kept_is = ap (λ l. events_told a.state xs ++ l) so.kept_is;
}
stops_behind Stops.Memory before between now a b xs ys more t start old new came kept later first written so = (
  stops_front a.state b.state xs ys more start old new first.fits first.state (subst (Appends start old) first.text written) so.0,
  comes_before a.state (xs ++ ys) more (events_told a.state xs ++ came) (events_told a.state xs ++ kept) (comes_behind a.state b.state xs ys came kept first.fits first.state so.1),
)
stops_behind Stops.Book before between now a b xs ys more t start old new came kept later first written so =
    let full : all_fit a.state (xs ++ ys) ≡ false = full_behind a.state b.state xs ys first.fits first.state so.0 in
    let text : t ++ text_to b.state ys ≡ text_to a.state ((xs ++ ys) ++ more) =
    ap (λ w. w ++ text_to b.state ys) first.text
    ∙ ap (λ st. text_to a.state xs ++ text_to st ys) first.state
    ∙ sym (text_to-append a.state xs ys first.fits) ∙ sym (text_to-full a.state (xs ++ ys) more full) in (
      full_before a.state (xs ++ ys) more full,
      subst (WritesSo before now start new) text (writes_behind before between now start old new t (text_to b.state ys) later written so.1),
      came_behind a.state b.state xs ys came first.fits first.state so.2 ∙ sym (events_told-full a.state (xs ++ ys) more full),
      ap (λ l. events_told a.state xs ++ l) so.3,
    )
stops_behind Stops.Disk before between now a b xs ys more t start old new came kept later first written so = (
  t ++ so.0,
  breaks_off_before a.state (xs ++ ys) more (t ++ so.0) (events_told a.state xs ++ came) (events_told a.state xs ++ kept)
      (subst (λ (w : List ℕ). BreaksOff a.state (xs ++ ys) (w ++ so.0) (events_told a.state xs ++ came) (events_told a.state xs ++ kept)) (sym first.text)
      (breaks_off_behind a.state b.state xs ys so.0 came kept first.fits first.state so.1)),
  writes_behind before between now start old new t so.0 later written so.2,
)

-- ---- what is left of a text is written

pub rest_written : (halt : Halt) (stop : Stop) (before now : ℕ) (s : StaffedDesk) (xs : List Handed) (out : List ℕ) (old new : Option (List ℕ)) (came kept : List (List ℕ))
    → HaltsSo halt s xs [] out came kept → stop ≡ stop_of halt → RestWritten halt before now old new (text_to s xs) out → StopsWithin stop before now s xs old new came kept
rest_written Halts.Memory stop before now s xs out old new came kept so is rest = subst (λ (w : Stop). StopsWithin w before now s xs old new came kept) (sym is) (rest, so)
rest_written Halts.Book stop before now s xs out old new came kept so is rest =
    subst (λ (w : Stop). StopsWithin w before now s xs old new came kept) (sym is) (so.0, subst (WritesSo before now old new) so.1 rest, so.2, so.3)
rest_written Halts.Disk stop before now s xs out old new came kept so is rest =
    subst (λ (w : Stop). StopsWithin w before now s xs old new came kept) (sym is) (so.0, so.2, subst (WritesSo before now old new) so.1 rest)
