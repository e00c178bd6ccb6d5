-- A stream that is served piece by piece.
use Rattle.std.specs.Prelude.{◌≡◌, ℕ, Bool, true, false, ◌==◌, if◌then◌else◌, List, [], ◌∷◌, ◌++◌, length, map, Option, All}
use Rattle.std.specs.List.{slice_split}
use Rattle.std.specs.Str.Lines.{strip_carriage_return}
use Rattle.std.specs.Io.KnownBytes.{Appends}
use Rattle.ckr_session.specs.Model.Session.{Handed, first_session, handed_by, session_behind, session_behind_all, handed_with, handed_within}
use Rattle.ckr_service.specs.declared.flow.Flow.{Flow}
use Rattle.ckr_session.specs.declared.stop.Stop.{Stop}
use Rattle.ckr_session.specs.Calls.{after_all, all_fit, calls}
use Rattle.ckr_session.specs.Events.{events_told}
use Rattle.ckr_session.specs.Service.{View, Serves, StopsWithin, seen}
use Rattle.ckr_session.specs.Sessions.{standing_of, HasFewCards}
use Rattle.ckr_session.specs.Tallies.{no_tally, with_answers}
use Rattle.ckr_service.specs.Stream.{is_line_end, requests_of, text_of, has_refusal}

-- the lines of bytes that no line's end stands in
abbrev pub last_lines : List ℕ → List (List ℕ)
last_lines bytes = if length bytes == 0 then [] else bytes ∷ []

module _ {D O : Type 0} where
  -- nothing has come yet
  pub record IsBegun (f : Flow D O) : Type 0 where
    pub standing : standing_of f.session ≡ first_session
    pub refused : f.session.clerk.refused ≡ false
    pub tally : f.session.clerk.tally ≡ no_tally
    pub partial : f.partial.items ≡ []
    pub cards : HasFewCards f.session

  -- what the line asks that waits, once it ends
  abbrev pub line_requests : Flow D O → List Handed
  line_requests f = handed_with (standing_of f.session) (strip_carriage_return f.partial.items)

  -- the line is cut whose bytes waited
  pub record CutsLine (f g : Flow D O) : Type 0 where
    pub standing : standing_of g.session ≡ session_behind (standing_of f.session) (strip_carriage_return f.partial.items)
    pub partial : g.partial.items ≡ []

  -- what is asked at the end of the stream
  abbrev pub end_requests : Flow D O → List Handed
  end_requests f = handed_by (standing_of f.session) (last_lines f.partial.items)

module _ {D O : Type 0} (content : D → List ℕ) where
  -- the line is served whose bytes waited
  pub record EndsLine (f g : Flow D O) (old new : Option (List ℕ)) : Type 0 where
    pub cuts : CutsLine f g
    pub text : List ℕ
    pub serves : Serves (seen content f.session.clerk) (seen content g.session.clerk) (line_requests f) [] text
    pub written : Appends old new text

  -- From the first view the bytes taken were served up to the line that waits, and what is written grew from start to now.
  pub record StreamProgress (first : View) (taken : List ℕ) (f : Flow D O) (start now : Option (List ℕ)) : Type 0 where
    -- the lines that have ended, each as it stands before its end
    pub parts : List (List ℕ)
    -- however the stream goes on, it has these lines, and then those that begin with the bytes that wait
    pub split : (rest : List ℕ) → slice_split is_line_end (taken ++ rest) ≡ parts ++ slice_split is_line_end (f.partial.items ++ rest)
    pub waits : All (λ b. is_line_end b ≡ false) f.partial.items
    pub standing : standing_of f.session ≡ session_behind_all first_session (map strip_carriage_return parts)
    pub text : List ℕ
    pub serves : Serves first (seen content f.session.clerk) (handed_within first_session (map strip_carriage_return parts)) [] text
    pub written : Appends start now text

  -- the events that came meanwhile
  abbrev pub told_so_far : {first : View} {taken : List ℕ} {f : Flow D O} {start now : Option (List ℕ)} → StreamProgress first taken f start now → List (List ℕ)
  told_so_far {first} p = events_told first.state (handed_within first_session (map strip_carriage_return p.parts))

  -- the piece is served, whatever was served before
  abbrev pub Carries : Flow D O → Flow D O → List ℕ → Option (List ℕ) → Option (List ℕ) → Type 0
  Carries f g piece old new = (first : View) (taken : List ℕ) (start : Option (List ℕ)) → StreamProgress first taken f start old → StreamProgress first (taken ++ piece) g start new

  -- the serving stops within the piece, however the stream goes on behind it
  abbrev pub Breaks : Stop → ℕ → ℕ → Flow D O → List ℕ → Option (List ℕ) → Option (List ℕ) → List (List ℕ) → List (List ℕ) → Type 0
  Breaks stop before now f piece old new came kept = (first : View) (taken : List ℕ) (start : Option (List ℕ)) → (p : StreamProgress first taken f start old)
      → (rest : List ℕ) → StopsWithin stop before now first.state (requests_of (taken ++ piece ++ rest)) start new (told_so_far p ++ came) (told_so_far p ++ kept)

  -- the stream ends here: all of its text is written, its events came, it is known whether a line or a deck was refused, and its replies are counted
  abbrev pub Finishes : Flow D O → View → Bool → Option (List ℕ) → Option (List ℕ) → Type 0
  Finishes f end refused old new = (first : View) (all : List ℕ) (start : Option (List ℕ)) → first.refused ≡ false → StreamProgress first all f start old
      → (all_fit first.state (requests_of all) ≡ true) × Appends start new (text_of first.state all) × (refused ≡ has_refusal first.state all)
      × (end.events ≡ first.events ++ events_told first.state (requests_of all))
      × (end.state ≡ after_all first.state (requests_of all)) × (end.tally ≡ with_answers first.tally (calls first.state (requests_of all)))

  -- the stream ends here, and the serving stops within its last requests
  abbrev pub FinishBreaks : Stop → ℕ → ℕ → Flow D O → Option (List ℕ) → Option (List ℕ) → List (List ℕ) → List (List ℕ) → Type 0
  FinishBreaks stop before now f old new came kept = (first : View) (all : List ℕ) (start : Option (List ℕ)) → (p : StreamProgress first all f start old)
      → StopsWithin stop before now first.state (requests_of all) start new (told_so_far p ++ came) (told_so_far p ++ kept)
