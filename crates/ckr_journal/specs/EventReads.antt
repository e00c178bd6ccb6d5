-- How a book is read event by event.
use Rattle.std.specs.Prelude.{◌≡◌, ◌+◌, ℕ, false, List, [], ◌∷◌, ◌++◌, length, drop, map, sum_by, refl}
use Rattle.std.proofs.Common.{sym, ◌∙◌, ap, arith, append_assoc}
use Rattle.std.proofs.lemmas.List.{drop-drop, map-append, append-nil}
use Rattle.std.proofs.lemmas.List.Sums.{sum_by-append}
use Rattle.ckr_book.specs.Records.{records_from, end_from}
use Rattle.ckr_book.specs.Next.{NoneAt, LeadsWith}
use Rattle.ckr_events.specs.declared.event.Event.{Event}
use Rattle.ckr_events.specs.Event.{spelling}

-- how many bytes an event takes of the book: its gate, its length and its bytes
abbrev pub bytes_taken : Event → ℕ
bytes_taken event = length (spelling event) + 5

-- these events stand one after another from the book's first gate up to the gate at this place
pub record ReadUpTo (events : List Event) (place : ℕ) (book : List ℕ) : Type 0 where
  pub records : records_from 0 book ≡ map spelling events ++ records_from 0 (drop place book)
  pub end : end_from 0 book ≡ place + end_from 0 (drop place book)
  pub places : place ≡ sum_by bytes_taken events

-- at the first gate
pub nothing_read : (book : List ℕ) → ReadUpTo [] 0 book
nothing_read book = record { records = refl; end = omega arith; places = refl }

-- one event further
pub one_more_read : (events : List Event) (place : ℕ) (book : List ℕ) (event : Event) (next : ℕ) → ReadUpTo events place book
    → LeadsWith (spelling event) (drop place book) → next ≡ place + (length (spelling event) + 5) → ReadUpTo (events ++ event ∷ []) next book
one_more_read events place book event next read leads is =
    let later : drop next book ≡ drop (length (spelling event) + 5) (drop place book) =
    ap (λ (k : ℕ). drop k book) is ∙ sym (drop-drop (length (spelling event) + 5) place book) in
    record {
      records = read.records
          ∙ ap (λ (l : List (List ℕ)). map spelling events ++ l) (leads.records ∙ ap (λ (l : List ℕ). spelling event ∷ records_from 0 l) (sym later))
          ∙ sym (append_assoc (map spelling events) (spelling event ∷ []) (records_from 0 (drop next book)))
          ∙ ap (λ (l : List (List ℕ)). l ++ records_from 0 (drop next book)) (sym (map-append spelling events (event ∷ [])));
      end = omega (arith, read.end, leads.end, ap (λ (l : List ℕ). end_from 0 l) later);
      places = omega (arith, read.places, sum_by-append bytes_taken events (event ∷ []));
    }

-- where no record begins, they are all, and the book ends there
pub all_read : (events : List Event) (place : ℕ) (book : List ℕ) → ReadUpTo events place book → NoneAt (drop place book) false
    → (records_from 0 book ≡ map spelling events) × (end_from 0 book ≡ place)
all_read events place book read none = (
  read.records ∙ ap (λ (l : List (List ℕ)). map spelling events ++ l) none.records ∙ append-nil (map spelling events),
  omega (arith, read.end, none.end),
)
