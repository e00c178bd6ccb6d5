-- The steps of a stream that is served piece by piece.
use Rattle.std.proofs.Common.{◌≡◌, ℕ, false, List, [], ◌∷◌, ◌++◌, map, Option, refl, sym, ap, subst, ◌∙◌, append_assoc, append-nil}
use Rattle.std.specs.List.{slice_split, All}
use Rattle.std.specs.Str.Lines.{strip_carriage_return}
use Rattle.std.proofs.lemmas.List.{map-append}
use Rattle.std.proofs.lemmas.List.Elements.{All-nil}
use Rattle.std.proofs.lemmas.List.Splits.{slice_split_at}
use Rattle.ckr_base.proofs.KnownBytes.{Appends-trans}
use Rattle.ckr_session.specs.Model.Session.{Handed, SessionModel as Standing, first_session, session_behind, session_behind_all, handed_with, handed_within}
use Rattle.ckr_session.proofs.Sessions.{handed_within-append}
use Rattle.ckr_service.specs.declared.flow.Flow.{Flow}
use Rattle.ckr_session.specs.Service.{View, Serves, seen}
use Rattle.ckr_service.specs.Stream.{is_line_end}
use Rattle.ckr_service.specs.Flows.{EndsLine, StreamProgress}
use Rattle.ckr_session.proofs.Service.Order.{Serves-from}
use Rattle.ckr_service.proofs.Streams.Pieces.{session_behind_all-append}

-- the parts, one more ended
pushed_lines : (parts : List (List ℕ)) (line : List ℕ) → map strip_carriage_return (parts ++ line ∷ []) ≡ map strip_carriage_return parts ++ strip_carriage_return line ∷ []
pushed_lines parts line = map-append strip_carriage_return parts (line ∷ [])

pub pushed_requests : (parts : List (List ℕ)) (line : List ℕ) → handed_within first_session (map strip_carriage_return (parts ++ line ∷ []))
    ≡ handed_within first_session (map strip_carriage_return parts) ++ handed_with (session_behind_all first_session (map strip_carriage_return parts)) (strip_carriage_return line)
pushed_requests parts line =
    ap (handed_within first_session) (pushed_lines parts line)
    ∙ handed_within-append first_session (map strip_carriage_return parts) (strip_carriage_return line ∷ [])
    ∙ ap (λ l. handed_within first_session (map strip_carriage_return parts) ++ l) (append-nil (handed_with (session_behind_all first_session (map strip_carriage_return parts)) (strip_carriage_return line)))

pushed_standing : (parts : List (List ℕ)) (line : List ℕ) → session_behind_all first_session (map strip_carriage_return (parts ++ line ∷ []))
    ≡ session_behind (session_behind_all first_session (map strip_carriage_return parts)) (strip_carriage_return line)
pushed_standing parts line =
    ap (session_behind_all first_session) (pushed_lines parts line)
    ∙ session_behind_all-append first_session (map strip_carriage_return parts) (strip_carriage_return line ∷ [])

module _ {D O : Type 0} (content : D → List ℕ) where
  -- the parts behind a line's end
  pub split_at_end : (first : View) (taken : List ℕ) (f : Flow D O) (start now : Option (List ℕ)) (p : StreamProgress content first taken f start now) → (rest : List ℕ)
      → slice_split is_line_end (taken ++ 10 ∷ rest) ≡ (p.parts ++ f.partial.items ∷ []) ++ slice_split is_line_end rest
  split_at_end first taken f start now p rest =
      p.split (10 ∷ rest)
      ∙ ap (λ l. p.parts ++ l) (slice_split_at is_line_end f.partial.items 10 rest p.waits refl)
      ∙ sym (append_assoc p.parts (f.partial.items ∷ []) (slice_split is_line_end rest))

  -- a line's end comes, and the line is served
  pub line_served : (first : View) (taken : List ℕ) (f g : Flow D O) (start old new : Option (List ℕ)) → EndsLine content f g old new
      → StreamProgress content first taken f start old → StreamProgress content first (taken ++ 10 ∷ []) g start new
  line_served first taken f g start old new e p = record {
    parts = p.parts ++ f.partial.items ∷ [];
    split = λ rest.
        ap (slice_split is_line_end) (append_assoc taken (10 ∷ []) rest)
        ∙ split_at_end first taken f start old p rest
        ∙ ap (λ l. (p.parts ++ f.partial.items ∷ []) ++ slice_split is_line_end (l ++ rest)) (sym e.cuts.partial);
    waits = subst (All (λ x. is_line_end x ≡ false)) (sym e.cuts.partial) (All-nil (λ x. is_line_end x ≡ false));
    standing = e.cuts.standing ∙ ap (λ s. session_behind s (strip_carriage_return f.partial.items)) p.standing ∙ sym (pushed_standing p.parts f.partial.items);
    text = p.text ++ e.text;
    serves =
        (let more = subst (λ (s : Standing). Serves (seen content f.session.clerk) (seen content g.session.clerk) (handed_with s (strip_carriage_return f.partial.items)) [] e.text) p.standing e.serves in
        subst (λ (xs : List Handed). Serves first (seen content g.session.clerk) xs [] (p.text ++ e.text)) (sym (pushed_requests p.parts f.partial.items))
        (Serves-from first (seen content f.session.clerk) (seen content g.session.clerk) _ _ p.text e.text p.serves more));
    written = Appends-trans start old new p.text e.text p.written e.written;
  }
