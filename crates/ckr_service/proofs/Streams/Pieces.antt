-- Streams that are served piece by piece.
use Rattle.std.proofs.Common.{◌≡◌, ℕ, Bool, true, false, if◌then◌else◌, List, [], ◌∷◌, ◌++◌, map, refl, sym, ap, ◌∙◌}
use Rattle.std.specs.List.{slice_split, onto_first}
use Rattle.std.specs.Str.Lines.{lines, lines_of_parts, strip_carriage_return}
use Rattle.ckr_session.specs.Model.Session.{SessionModel as Standing, session_behind, session_behind_all}
use Rattle.ckr_service.specs.Stream.{is_line_end, ended_parts}

-- ---- lines

pub session_behind_all-append : (s : Standing) (xs ys : List (List ℕ)) → session_behind_all s (xs ++ ys) ≡ session_behind_all (session_behind_all s xs) ys
session_behind_all-append s [] ys = refl
session_behind_all-append s (x ∷ xs) ys = session_behind_all-append (session_behind s x) xs ys

pub lines_of_parts-append : (xs : List (List ℕ)) (y : List ℕ) (ys : List (List ℕ)) → lines_of_parts (xs ++ y ∷ ys) ≡ map strip_carriage_return xs ++ lines_of_parts (y ∷ ys)
lines_of_parts-append [] y ys = refl
lines_of_parts-append (x ∷ []) y ys = refl
lines_of_parts-append (x ∷ z ∷ xs) y ys = ap (λ l. strip_carriage_return x ∷ l) (lines_of_parts-append (z ∷ xs) y ys)

pub ended_parts-push : (xs : List (List ℕ)) (y : List ℕ) → ended_parts (xs ++ y ∷ []) ≡ map strip_carriage_return xs
ended_parts-push [] y = refl
ended_parts-push (x ∷ []) y = refl
ended_parts-push (x ∷ z ∷ xs) y = ap (λ l. strip_carriage_return x ∷ l) (ended_parts-push (z ∷ xs) y)

-- parts of a text are never none
pub record IsCons (parts : List (List ℕ)) : Type 0 where
  pub head : List ℕ
  pub tail : List (List ℕ)
  pub is : parts ≡ head ∷ tail

split_cons : (x : ℕ) (b : Bool) (parts : List (List ℕ)) → IsCons parts → IsCons (if b then ([] ∷ parts) else onto_first x parts)
split_cons x true parts h = record { head = []; tail = parts; is = refl }
split_cons x false parts h = record { head = x ∷ h.head; tail = h.tail; is = ap (onto_first x) h.is }

pub slice_split_is_cons : (bs : List ℕ) → IsCons (slice_split is_line_end bs)
slice_split_is_cons [] = record { head = []; tail = []; is = refl }
slice_split_is_cons (b ∷ bs) = split_cons b (is_line_end b) (slice_split is_line_end bs) (slice_split_is_cons bs)

-- the lines of parts that go on as some text does
pub lines_behind : (xs : List (List ℕ)) (bs : List ℕ) → lines_of_parts (xs ++ slice_split is_line_end bs) ≡ map strip_carriage_return xs ++ lines bs
lines_behind xs bs =
    let c = slice_split_is_cons bs in
    ap (λ p. lines_of_parts (xs ++ p)) c.is ∙ lines_of_parts-append xs c.head c.tail ∙ ap (λ p. map strip_carriage_return xs ++ lines_of_parts p) (sym c.is)
