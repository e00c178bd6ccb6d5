-- What is told of a stream at each moment of its serving.
use Rattle.std.proofs.Common.{◌≡◌, ◌≤◌, ℕ, List, [], ◌∷◌, ◌++◌, map, Option, Result, Ok, Err, OnOk, refl, sym, ap, subst, ◌∙◌, append_assoc, append-nil, arith}
use Rattle.std.specs.List.{slice_split}
use Rattle.std.specs.Str.Lines.{lines, lines_of_parts, strip_carriage_return}
use Rattle.std.specs.Io.KnownBytes.{Appends}
use Rattle.std.proofs.lemmas.List.{append_cancel_left}
use Rattle.std.proofs.lemmas.List.Splits.{slice_split_none}
use Rattle.ckr_base.proofs.KnownBytes.{Appends-nil}
use Rattle.ckr_session.specs.Model.Session.{Handed, first_session, handed_by, session_behind_all, handed_with, handed_within}
use Rattle.ckr_session.proofs.Sessions.{handed_by-append}
use Rattle.ckr_service.specs.declared.flow.Flow.{Flow}
use Rattle.ckr_session.specs.declared.stop.Stop.{Stop}
use Rattle.ckr_session.specs.declared.stop.Stop.TheVariants as Stops
use Rattle.ckr_session.specs.Calls.{all_fit}
use Rattle.ckr_session.specs.Events.{events_told}
use Rattle.ckr_session.specs.Service.{View, StopsWithin, seen, text_to}
use Rattle.ckr_service.specs.Stream.{is_line_end, requests_of, ended_parts, ended_requests}
use Rattle.ckr_service.specs.Feeds.{HasServed}
use Rattle.ckr_service.specs.Flows.{StreamProgress, EndsLine, Carries, Breaks, line_requests, told_so_far}
use Rattle.ckr_service.proofs.Streams.Requests.{requests_of-lines}
use Rattle.ckr_session.proofs.Service.Events.{comes_all}
use Rattle.ckr_session.proofs.Service.Halts.{stops_behind, stops_earlier}
use Rattle.ckr_service.proofs.Streams.Pieces.{lines_behind, ended_parts-push}
use Rattle.ckr_service.proofs.Streams.Steps.{pushed_requests, split_at_end, line_served}

module _ {D O : Type 0} (content : D → List ℕ) where
  -- what the whole stream asks: what was asked so far, and what the rest does
  pub asked_behind : (first : View) (taken : List ℕ) (f : Flow D O) (start now : Option (List ℕ)) (p : StreamProgress content first taken f start now) → (rest : List ℕ)
      → requests_of (taken ++ rest) ≡ handed_within first_session (map strip_carriage_return p.parts)
      ++ handed_by (session_behind_all first_session (map strip_carriage_return p.parts)) (lines (f.partial.items ++ rest))
  asked_behind first taken f start now p rest =
      requests_of-lines (taken ++ rest)
      ∙ ap (handed_by first_session) (ap lines_of_parts (p.split rest) ∙ lines_behind p.parts (f.partial.items ++ rest))
      ∙ handed_by-append first_session (map strip_carriage_return p.parts) (lines (f.partial.items ++ rest))

  -- what is asked with the line that waits, once it ends
  asked_with : (first : View) (taken : List ℕ) (f : Flow D O) (start now : Option (List ℕ)) (p : StreamProgress content first taken f start now) → (rest : List ℕ)
      → requests_of (taken ++ 10 ∷ rest) ≡ (handed_within first_session (map strip_carriage_return p.parts) ++ line_requests f)
      ++ handed_by (session_behind_all first_session (map strip_carriage_return (p.parts ++ f.partial.items ∷ []))) (lines rest)
  asked_with first taken f start now p rest =
      let xs = map strip_carriage_return (p.parts ++ f.partial.items ∷ []) in
      let line = strip_carriage_return f.partial.items in
      requests_of-lines (taken ++ 10 ∷ rest)
      ∙ ap (handed_by first_session) (ap lines_of_parts (split_at_end content first taken f start now p rest) ∙ lines_behind (p.parts ++ f.partial.items ∷ []) rest)
      ∙ handed_by-append first_session xs (lines rest)
      ∙ ap (λ l. l ++ handed_by (session_behind_all first_session xs) (lines rest))
      (pushed_requests p.parts f.partial.items ∙ ap (λ s. handed_within first_session (map strip_carriage_return p.parts) ++ handed_with s line) (sym p.standing))

  -- the serving stops within the line
  line_broken : (stop : Stop) (before between now : ℕ) (f : Flow D O) (old new : Option (List ℕ)) (came kept : List (List ℕ)) → before ≤ between
      → StopsWithin stop between now (seen content f.session.clerk).state (line_requests f) old new came kept → Breaks content stop before now f (10 ∷ []) old new came kept
  line_broken stop before between now f old new came kept later so first taken start p rest =
      let bytes : taken ++ 10 ∷ rest ≡ (taken ++ 10 ∷ []) ++ rest = sym (append_assoc taken (10 ∷ []) rest) in
      subst (λ (requests : List Handed). StopsWithin stop before now first.state requests start new (told_so_far content p ++ came) (told_so_far content p ++ kept))
      (sym (asked_with first taken f start old p rest) ∙ ap requests_of bytes)
      (stops_behind stop before between now first (seen content f.session.clerk) (handed_within first_session (map strip_carriage_return p.parts)) (line_requests f)
      (handed_by (session_behind_all first_session (map strip_carriage_return (p.parts ++ f.partial.items ∷ []))) (lines rest))
      p.text start old new came kept later p.serves p.written so)

  -- memory ran out, and nothing more is written
  pub nothing_broken : (before now : ℕ) (f : Flow D O) (piece : List ℕ) (here : Option (List ℕ)) → before ≤ now → Breaks content Stops.Memory before now f piece here here [] []
  nothing_broken before now f piece here later first taken start p rest =
      let xs = handed_within first_session (map strip_carriage_return p.parts) in
      let more = handed_by (session_behind_all first_session (map strip_carriage_return p.parts)) (lines (f.partial.items ++ (piece ++ rest))) in
      let bytes : taken ++ (piece ++ rest) ≡ (taken ++ piece) ++ rest = sym (append_assoc taken piece rest) in
      subst (λ (requests : List Handed). StopsWithin Stops.Memory before now first.state requests start here (told_so_far content p ++ []) (told_so_far content p ++ []))
      (ap (λ l. l ++ more) (append-nil xs) ∙ sym (asked_behind first taken f start here p (piece ++ rest)) ∙ ap requests_of bytes)
      (stops_behind Stops.Memory before now now first (seen content f.session.clerk) xs [] more p.text start here here [] [] later p.serves p.written
      (([], [], refl, Appends-nil here), comes_all [] [] [] refl))

  -- what is written is the text of the items that ended, and their events came
  pub ended_told : (first : View) (taken : List ℕ) (f : Flow D O) (start now : Option (List ℕ)) → (p : StreamProgress content first taken f start now)
      → HasServed first.state taken start now (told_so_far content p) (told_so_far content p)
  ended_told first taken f start now p =
      let whole : slice_split is_line_end taken ≡ p.parts ++ f.partial.items ∷ [] =
      ap (slice_split is_line_end) (sym (append-nil taken)) ∙ p.split []
      ∙ ap (λ l. p.parts ++ slice_split is_line_end l) (append-nil f.partial.items)
      ∙ ap (λ l. p.parts ++ l) (slice_split_none is_line_end f.partial.items p.waits) in
      let ended : ended_requests taken ≡ handed_within first_session (map strip_carriage_return p.parts) =
      ap (handed_within first_session) (ap ended_parts whole ∙ ended_parts-push p.parts f.partial.items) in
      record {
        fits = ap (all_fit first.state) ended ∙ p.serves.fits;
        written = subst (Appends start now) (p.serves.text ∙ ap (text_to first.state) (sym ended)) p.written;
        came_is = ap (events_told first.state) (sym ended);
        kept_is = refl;
      }

  -- the same of a call's result
  pub line_served_on : {E : Type 0} (r : Result (Unit {0}) E) (f g : Flow D O) (old new : Option (List ℕ)) (b : ℕ) → b ≡ 10 → OnOk r (EndsLine content f g old new) → OnOk r (Carries content f g (b ∷ []) old new)
  line_served_on (Ok x) f g old new b e served = λ first taken start p. subst (λ (c : ℕ). StreamProgress content first (taken ++ c ∷ []) g start new) (sym e) (line_served content first taken f g start old new served p)
  line_served_on (Err x) f g old new b e served = tt

  pub line_broken_at : (before now : ℕ) (f : Flow D O) (old new : Option (List ℕ)) (b : ℕ) → b ≡ 10 → (stop : Stop) (came kept : List (List ℕ))
      → StopsWithin stop before now (seen content f.session.clerk).state (line_requests f) old new came kept → Breaks content stop before now f (b ∷ []) old new came kept
  line_broken_at before now f old new b e stop came kept so =
      subst (λ (c : ℕ). Breaks content stop before now f (c ∷ []) old new came kept) (sym e) (line_broken stop before before now f old new came kept (omega arith) so)

  pub nothing_yet : (f : Flow D O) (now : Option (List ℕ)) → Carries content f f [] now now
  nothing_yet f now first taken start p = subst (λ (t : List ℕ). StreamProgress content first t f start now) (sym (append-nil taken)) p

  pub Carries-trans : (f g h : Flow D O) (xs ys : List ℕ) (old mid new : Option (List ℕ)) → Carries content f g xs old mid → Carries content g h ys mid new → Carries content f h (xs ++ ys) old new
  Carries-trans f g h xs ys old mid new front behind first taken start p =
      subst (λ (t : List ℕ). StreamProgress content first t h start new) (append_assoc taken xs ys) (behind first (taken ++ xs) start (front first taken start p))

  pub Carries-Breaks : (stop : Stop) (before between now : ℕ) (f g : Flow D O) (xs ys more whole : List ℕ) (old mid new : Option (List ℕ)) (between_came came kept : List (List ℕ)) → before ≤ between
      → (seen content g.session.clerk).events ≡ (seen content f.session.clerk).events ++ between_came
      → Carries content f g xs old mid → Breaks content stop between now g ys mid new came kept → whole ≡ (xs ++ ys) ++ more → Breaks content stop before now f whole old new (between_came ++ came) (between_came ++ kept)
  Carries-Breaks stop before between now f g xs ys more whole old mid new between_came came kept later events front behind e first taken start p rest =
      let at : (taken ++ xs) ++ ys ++ (more ++ rest) ≡ taken ++ whole ++ rest =
      sym (append_assoc ((taken ++ xs) ++ ys) more rest)
      ∙ ap (λ t. (t ++ more) ++ rest) (append_assoc taken xs ys)
      ∙ ap (λ t. t ++ rest) (append_assoc taken (xs ++ ys) more ∙ ap (λ w. taken ++ w) (sym e)) in
      let q : StreamProgress content first (taken ++ xs) g start mid = front first taken start p in
      let told : told_so_far content q ≡ told_so_far content p ++ between_came =
      append_cancel_left first.events (told_so_far content q) (told_so_far content p ++ between_came)
      (sym q.serves.events ∙ events ∙ ap (λ l. l ++ between_came) p.serves.events ∙ append_assoc first.events (told_so_far content p) between_came) in
      let all : (its : List (List ℕ)) → told_so_far content q ++ its ≡ told_so_far content p ++ (between_came ++ its) =
      λ its. ap (λ l. l ++ its) told ∙ append_assoc (told_so_far content p) between_came its in
      subst (λ (l : List (List ℕ)). StopsWithin stop before now first.state (requests_of (taken ++ whole ++ rest)) start new l (told_so_far content p ++ (between_came ++ kept))) (all came)
      (subst (λ (l : List (List ℕ)). StopsWithin stop before now first.state (requests_of (taken ++ whole ++ rest)) start new (told_so_far content q ++ came) l) (all kept)
      (stops_earlier stop before between now first.state _ start new (told_so_far content q ++ came) (told_so_far content q ++ kept) later
      (subst (λ (bytes : List ℕ). StopsWithin stop between now first.state (requests_of bytes) start new (told_so_far content q ++ came) (told_so_far content q ++ kept)) at
      (behind first (taken ++ xs) start q (more ++ rest)))))
