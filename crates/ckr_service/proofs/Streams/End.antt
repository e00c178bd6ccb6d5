-- The end of a stream.
use Rattle.std.proofs.Common.{◌≡◌, ◌==◌, ℕ, true, false, ◌||◌, if◌then◌else◌, List, [], ◌∷◌, ◌++◌, length, map, Option, sym, ap, subst, ◌∙◌, append-nil, arith}
use Rattle.std.specs.List.{list_any}
use Rattle.std.specs.Str.Lines.{lines, lines_of_parts, strip_carriage_return}
use Rattle.std.specs.Io.KnownBytes.{Appends}
use Rattle.std.proofs.lemmas.List.Splits.{slice_split_none}
use Rattle.ckr_base.proofs.KnownBytes.{Appends-trans}
use Rattle.ckr_session.specs.Model.Session.{Handed, first_session, handed_by, session_behind, handed_with, handed_within, handed_deck}
use Rattle.ckr_session.proofs.Sessions.{handed_by-append}
use Rattle.ckr_service.specs.declared.flow.Flow.{Flow}
use Rattle.ckr_session.specs.declared.stop.Stop.{Stop}
use Rattle.ckr_session.specs.Calls.{calls, is_refusal}
use Rattle.ckr_session.specs.Service.{View, Serves, StopsWithin, seen}
use Rattle.ckr_session.specs.Sessions.{standing_of}
use Rattle.ckr_service.specs.Stream.{is_line_end, requests_of}
use Rattle.ckr_service.specs.Flows.{StreamProgress, Finishes, FinishBreaks, last_lines, end_requests, told_so_far}
use Rattle.ckr_service.proofs.Streams.Requests.{requests_of-lines}
use Rattle.ckr_session.proofs.Service.Halts.{stops_behind}
use Rattle.ckr_session.proofs.Service.Order.{Serves-from}
use Rattle.ckr_service.proofs.Streams.Pieces.{lines_behind}

module _ {D O : Type 0} (content : D → List ℕ) where
  lines_waiting : (first : View) (all : List ℕ) (f : Flow D O) (start now : Option (List ℕ)) (p : StreamProgress content first all f start now) → lines all ≡ map strip_carriage_return p.parts ++ last_lines f.partial.items
  lines_waiting first all f start now p =
      ap lines (sym (append-nil all)) ∙ ap lines_of_parts (p.split []) ∙ lines_behind p.parts (f.partial.items ++ [])
      ∙ ap (λ w. map strip_carriage_return p.parts ++ lines w) (append-nil f.partial.items)
      ∙ ap (λ w. map strip_carriage_return p.parts ++ lines_of_parts w) (slice_split_none is_line_end f.partial.items p.waits)

  requests_of_all : (first : View) (all : List ℕ) (f : Flow D O) (start now : Option (List ℕ)) (p : StreamProgress content first all f start now)
      → handed_within first_session (map strip_carriage_return p.parts) ++ end_requests f ≡ requests_of all
  requests_of_all first all f start now p =
      ap (λ s. handed_within first_session (map strip_carriage_return p.parts) ++ handed_by s (last_lines f.partial.items)) p.standing
      ∙ sym (handed_by-append first_session (map strip_carriage_return p.parts) (last_lines f.partial.items))
      ∙ ap (handed_by first_session) (sym (lines_waiting first all f start now p))
      ∙ sym (requests_of-lines all)

  -- all of the text is written, and all events came
  pub finished : (f : Flow D O) (g : View) (old new : Option (List ℕ)) (from text : List ℕ) → Serves (seen content f.session.clerk) g (end_requests f) from text → from ≡ [] → Appends old new text
      → Finishes content f g g.refused old new
  finished f g old new from text s e w first all start clean p =
      let serves : Serves first g (requests_of all) [] (p.text ++ text) =
      subst (λ (items : List Handed). Serves first g items [] (p.text ++ text)) (requests_of_all first all f start old p)
      (Serves-from first (seen content f.session.clerk) g (handed_within first_session (map strip_carriage_return p.parts)) (end_requests f) p.text text p.serves
      (subst (λ (t : List ℕ). Serves (seen content f.session.clerk) g (end_requests f) t text) e s)) in (
        serves.fits,
        subst (Appends start new) serves.text (Appends-trans start old new p.text text p.written w),
        serves.refused ∙ ap (λ r. r || list_any is_refusal (calls first.state (requests_of all))) clean,
        serves.events,
        serves.state,
        serves.tally,
      )

  -- the serving stops within the last requests
  pub finish_broken : (before now : ℕ) (f : Flow D O) (old new : Option (List ℕ)) (stop : Stop) (came kept : List (List ℕ))
      → StopsWithin stop before now (seen content f.session.clerk).state (end_requests f) old new came kept → FinishBreaks content stop before now f old new came kept
  finish_broken before now f old new stop came kept so first all start p =
      let xs = handed_within first_session (map strip_carriage_return p.parts) in
      subst (λ (items : List Handed). StopsWithin stop before now first.state items start new (told_so_far content p ++ came) (told_so_far content p ++ kept))
      (append-nil (xs ++ end_requests f) ∙ requests_of_all first all f start old p)
      (stops_behind stop before before now first (seen content f.session.clerk) xs (end_requests f) [] p.text start old new came kept (omega arith) p.serves p.written so)

  -- what is asked at the end, where a line waits: it, and then the deck that is open
  pub end_requests_of : (f : Flow D O) (line cards : List ℕ) → line ≡ f.partial.items → (length f.partial.items == 0) ≡ false
      → cards ≡ (session_behind (standing_of f.session) line).cards → handed_with (standing_of f.session) line ++ handed_deck cards ≡ end_requests f
  end_requests_of f line cards is some left =
      let s = standing_of f.session in
      ap (λ c. handed_with s line ++ handed_deck c) left
      ∙ ap (λ l. handed_with s l ++ handed_by (session_behind s l) []) is
      ∙ sym (ap (λ b. handed_by s (if b then [] else (f.partial.items ∷ []))) some)

  -- where no line waits, it is the deck that is open
  pub end_requests_without : (f : Flow D O) → (length f.partial.items == 0) ≡ true → handed_deck f.session.deck ≡ end_requests f
  end_requests_without f none = sym (ap (λ b. handed_by (standing_of f.session) (if b then [] else (f.partial.items ∷ []))) none)
