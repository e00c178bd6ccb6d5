-- An event adds no more data sets and rewrites than its record has bytes, whatever these are, and that of a deck has those of a card.
use Rattle.std.proofs.Common.{◌≡◌, ◌≤◌, ◌<◌, ◌+◌, ◌*◌, ◌==◌, ℕ, zero, suc, Bool, true, false, cond, List, [], ◌∷◌, length, take, drop, refl, sym, ap, ◌∙◌, subst, w32, Result, Ok, Err, arith}
use Rattle.std.proofs.lemmas.Bool.{false≢true}
use Rattle.std.proofs.lemmas.Bool.Decides.{nat_tests}
use Rattle.std.proofs.lemmas.List.{length-drop, length-take}
use Rattle.std.specs.Int.{Width, byte_len, from_be_bytes}
use Rattle.std.specs.Prelude.{nat_lt}
use Rattle.arrayvec.specs.ArrayVec.{ArrayVec}
use Rattle.ckr_events.specs.declared.event.Event.{Event}
use Rattle.ckr_events.specs.declared.event.Event.TheVariants.{Cancelled, Checkpointed, Denied, Ended, Held, Purged, Released, Restarted, Rewritten, Selected, Started, StepEnded, Submitted}
use Rattle.ckr_events.specs.declared.event.Made.{Made}
use Rattle.ckr_events.specs.Event.{cancelled_at, checkpointed_at, denied_at, ended_at, event_of, fields_at, held_at, purged_at, released_at, restarted_at, rewritten_at, selected_at, started_at, step_ended_at, submitted_at, whole_at}
use Rattle.ckr_events.specs.Format.{all_made, checkpointed, denied, ended, from_one, held, job, made_at, made_list_at, made_parts, piece_at, piece_list, piece_parts, pieces_at, restarted, rewritten, selected, started, step_ended, submitted}
use Rattle.ckr_fields.specs.Fields.{between, both_at, byte, blocks_at, byte_at, bytes_at, four_bytes, items_at, judged, judged_at, number_at, seen_at, times_at}
use Rattle.ckr_fields.specs.Readers.{Reading, ◌>>=◌, at_offset}
use Rattle.ckr_fields.proofs.Steps.{bind_ok, guard_ok, ok_is, test_ok}
use Rattle.ckr_desk_refines.specs.Counts.{added_by}

-- ---- what is left of bytes behind a field

-- the field has at least so many of them
abbrev Leaves : {A : Type 0} → ℕ → (List ℕ → Reading A) → Type 0
Leaves {A = A} least read = (bytes : List ℕ) (x : A) (rest : List ℕ) → read bytes ≡ Ok (x, rest) → least + length rest ≤ length bytes

byte-leaves : Leaves 1 byte_at
unfolding byte_at
byte-leaves [] x rest e = absurd cc
byte-leaves (first ∷ bytes) x rest e =
    let same : length bytes ≡ length rest = ap (λ (p : ℕ × List ℕ). length p.1) (ok_is (first, bytes) (x, rest) e) in
    omega (arith, same)

number-leaves : (w : Width) → Leaves 0 (number_at w)
unfolding number_at
number-leaves w bytes x rest e =
    let fits = guard_ok (nat_lt (length bytes) (byte_len w)) 0 (Ok (from_be_bytes w (take (byte_len w) bytes), drop (byte_len w) bytes)) (x, rest) e in
    let same : length (drop (byte_len w) bytes) ≡ length rest = ap (λ (p : ℕ × List ℕ). length p.1) (ok_is (from_be_bytes w (take (byte_len w) bytes), drop (byte_len w) bytes) (x, rest) fits.1) in
    omega (arith, same, length-drop (byte_len w) bytes)

judged-leaves : {A : Type 0} (test : A → Bool) (least : ℕ) (read : List ℕ → Reading A) → Leaves least read → Leaves least (judged_at test read)
unfolding judged_at
judged-leaves test least read leaves bytes x rest e =
    let first = bind_ok (read bytes) (λ y. cond (test y.0) (Ok y) (Err (length bytes))) (x, rest) e in
    let passes = test_ok (test first.0.0) (length bytes) first.0 (x, rest) first.2 in
    leaves bytes x rest (first.1 ∙ ap Ok passes.1)

both-leaves : {A B : Type 0} (least more : ℕ) (first : List ℕ → Reading A) (second : A → List ℕ → Reading B) → Leaves least first → ((a : A) → Leaves more (second a)) → Leaves (least + more) (both_at first second)
both-leaves {A = A} {B = B} least more first second leaves others bytes x rest e =
    let a = bind_ok (first bytes) (λ a. second a.0 a.1 >>= λ b. Ok ((a.0, b.0), b.1)) (x, rest) e in
    let b = bind_ok (second a.0.0 a.0.1) (λ b. Ok ((a.0.0, b.0), b.1)) (x, rest) a.2 in
    let same : length b.0.1 ≡ length rest = ap (λ (p : (A × B) × List ℕ). length p.1) (ok_is ((a.0.0, b.0.0), b.0.1) (x, rest) b.2) in
    let front : least + length a.0.1 ≤ length bytes = leaves bytes a.0.0 a.0.1 a.1 in
    let behind : more + length b.0.1 ≤ length a.0.1 = others a.0.0 a.0.1 b.0.0 b.0.1 b.1 in
    omega (arith, same, front, behind)

seen-leaves : {A B : Type 0} (make : A → B) (least : ℕ) (read : List ℕ → Reading A) → Leaves least read → Leaves least (seen_at make read)
seen-leaves {B = B} make least read leaves bytes x rest e =
    let a = bind_ok (read bytes) (λ y. Ok (make y.0, y.1)) (x, rest) e in
    let same : length a.0.1 ≡ length rest = ap (λ (p : B × List ℕ). length p.1) (ok_is (make a.0.0, a.0.1) (x, rest) a.2) in
    let front : least + length a.0.1 ≤ length bytes = leaves bytes a.0.0 a.0.1 a.1 in
    omega (arith, same, front)

-- items that have at least so many bytes each
times-leave : {A : Type 0} (least : ℕ) (read : List ℕ → Reading A) → Leaves least read → (count : ℕ) → Leaves 0 (times_at read count)
unfolding times_at
times-leave {A = A} least read leaves zero bytes xs rest e =
    let same : length bytes ≡ length rest = ap (λ (p : List A × List ℕ). length p.1) (ok_is ([], bytes) (xs, rest) e) in
    omega (arith, same)
times-leave {A = A} least read leaves (suc count) bytes xs rest e =
    let a = bind_ok (read bytes) (λ first. times_at read count first.1 >>= λ others. Ok (first.0 ∷ others.0, others.1)) (xs, rest) e in
    let b = bind_ok (times_at read count a.0.1) (λ others. Ok (a.0.0 ∷ others.0, others.1)) (xs, rest) a.2 in
    let same : length b.0.1 ≡ length rest = ap (λ (p : List A × List ℕ). length p.1) (ok_is (a.0.0 ∷ b.0.0, b.0.1) (xs, rest) b.2) in
    let front : least + length a.0.1 ≤ length bytes = leaves bytes a.0.0 a.0.1 a.1 in
    let behind : 0 + length b.0.1 ≤ length a.0.1 = times-leave least read leaves count a.0.1 b.0.0 b.0.1 b.1 in
    omega (arith, same, front, behind)

-- items of a byte or more are no more than the bytes
times-count : {A : Type 0} (read : List ℕ → Reading A) → Leaves 1 read → (count : ℕ) (bytes : List ℕ) (xs : List A) (rest : List ℕ) → times_at read count bytes ≡ Ok (xs, rest) → length xs + length rest ≤ length bytes
unfolding times_at
times-count {A = A} read leaves zero bytes xs rest e =
    let none : length xs ≡ 0 = sym (ap (λ (p : List A × List ℕ). length p.0) (ok_is ([], bytes) (xs, rest) e)) in
    let same : length bytes ≡ length rest = ap (λ (p : List A × List ℕ). length p.1) (ok_is ([], bytes) (xs, rest) e) in
    omega (arith, none, same)
times-count {A = A} read leaves (suc count) bytes xs rest e =
    let a = bind_ok (read bytes) (λ first. times_at read count first.1 >>= λ others. Ok (first.0 ∷ others.0, others.1)) (xs, rest) e in
    let b = bind_ok (times_at read count a.0.1) (λ others. Ok (a.0.0 ∷ others.0, others.1)) (xs, rest) a.2 in
    let many : suc (length b.0.0) ≡ length xs = ap (λ (p : List A × List ℕ). length p.0) (ok_is (a.0.0 ∷ b.0.0, b.0.1) (xs, rest) b.2) in
    let same : length b.0.1 ≡ length rest = ap (λ (p : List A × List ℕ). length p.1) (ok_is (a.0.0 ∷ b.0.0, b.0.1) (xs, rest) b.2) in
    let front : 1 + length a.0.1 ≤ length bytes = leaves bytes a.0.0 a.0.1 a.1 in
    let behind : length b.0.0 + length b.0.1 ≤ length a.0.1 = times-count read leaves count a.0.1 b.0.0 b.0.1 b.1 in
    omega (arith, many, same, front, behind)

items-leave : {A : Type 0} (count : List ℕ → Reading ℕ) (read : List ℕ → Reading A) → Leaves 1 count → Leaves 0 read → Leaves 1 (items_at count read)
items-leave count read counts leaves bytes xs rest e =
    let a = bind_ok (count bytes) (λ n. times_at read n.0 n.1) (xs, rest) e in
    let front : 1 + length a.0.1 ≤ length bytes = counts bytes a.0.0 a.0.1 a.1 in
    let behind : 0 + length rest ≤ length a.0.1 = times-leave 0 read leaves a.0.0 a.0.1 xs rest a.2 in
    omega (arith, front, behind)

-- ---- what a step made

from_one-leaves : Leaves 1 from_one.read
from_one-leaves = judged-leaves (between 1 255) 1 byte_at byte-leaves

piece-leaves : Leaves 0 piece_at
unfolding piece_at
piece-leaves = seen-leaves (λ x. record { start = x.0; records = x.1 }) 0 piece_parts.read (both-leaves 0 0 four_bytes.read (λ _. four_bytes.read) (number-leaves _) (λ _. number-leaves _))

pieces-leave : Leaves 1 pieces_at
unfolding pieces_at
pieces-leave = seen-leaves (λ xs. record { items = xs }) 1 piece_list.read (items-leave (judged (between 0 5) byte).read piece_at (judged-leaves (between 0 5) 1 byte_at byte-leaves) piece-leaves)

made-leaves : Leaves 1 made_at
unfolding made_at
made-leaves =
    seen-leaves _ 1 made_parts.read
    (λ bytes x rest e. let more : 3 + length rest ≤ length bytes = both-leaves 1 2 from_one.read _ from_one-leaves (λ _. both-leaves 1 1 byte_at _ byte-leaves (λ _. pieces-leave)) bytes x rest e in omega (arith, more))

-- a step makes no more than there are bytes
made_list-count : (bytes : List ℕ) (items : ArrayVec Made) (rest : List ℕ) → made_list_at bytes ≡ Ok (items, rest) → length items.items ≤ length bytes
unfolding made_list_at
made_list-count bytes items rest e =
    let a = bind_ok (all_made.read bytes) (λ x. Ok (record { items = x.0 }, x.1)) (items, rest) e in
    let b = bind_ok ((judged (between 0 80) byte).read bytes) (λ n. times_at made_at n.0 n.1) a.0 a.1 in
    let same : length a.0.0 ≡ length items.items = ap (λ (p : ArrayVec Made × List ℕ). length p.0.items) (ok_is (record { items = a.0.0 }, a.0.1) (items, rest) a.2) in
    let front : 1 + length b.0.1 ≤ length bytes = judged-leaves (between 0 80) 1 byte_at byte-leaves bytes b.0.0 b.0.1 b.1 in
    let behind : length a.0.0 + length a.0.1 ≤ length b.0.1 = times-count made_at made-leaves b.0.0 b.0.1 a.0.0 a.0.1 b.2 in
    omega (arith, same, front, behind)

step-count : (bytes : List ℕ) (step : ℕ) (items : ArrayVec Made) (rest : List ℕ) → both_at from_one.read (λ _. made_list_at) bytes ≡ Ok ((step, items), rest) → length items.items ≤ length bytes
step-count bytes step items rest e =
    let a = bind_ok (from_one.read bytes) (λ a. made_list_at a.1 >>= λ b. Ok ((a.0, b.0), b.1)) ((step, items), rest) e in
    let b = bind_ok (made_list_at a.0.1) (λ b. Ok ((a.0.0, b.0), b.1)) ((step, items), rest) a.2 in
    let same : length b.0.0.items ≡ length items.items = ap (λ (p : (ℕ × ArrayVec Made) × List ℕ). length p.0.1.items) (ok_is ((a.0.0, b.0.0), b.0.1) ((step, items), rest) b.2) in
    let front : 1 + length a.0.1 ≤ length bytes = from_one-leaves bytes a.0.0 a.0.1 a.1 in
    let behind : length b.0.0.items ≤ length a.0.1 = made_list-count a.0.1 b.0.0 b.0.1 b.1 in
    omega (arith, same, front, behind)

started-count : (bytes : List ℕ) (run step : ℕ) (items : ArrayVec Made) (rest : List ℕ) → started.read bytes ≡ Ok ((run, (step, items)), rest) → length items.items ≤ length bytes
started-count bytes run step items rest e =
    let a = bind_ok (job.read bytes) (λ a. both_at from_one.read (λ _. made_list_at) a.1 >>= λ b. Ok ((a.0, b.0), b.1)) ((run, (step, items)), rest) e in
    let b = bind_ok (both_at from_one.read (λ _. made_list_at) a.0.1) (λ b. Ok ((a.0.0, b.0), b.1)) ((run, (step, items)), rest) a.2 in
    let same : length b.0.0.1.items ≡ length items.items = ap (λ (p : (ℕ × (ℕ × ArrayVec Made)) × List ℕ). length p.0.1.1.items) (ok_is ((a.0.0, b.0.0), b.0.1) ((run, (step, items)), rest) b.2) in
    let front : 0 + length a.0.1 ≤ length bytes = number-leaves _ bytes a.0.0 a.0.1 a.1 in
    let behind : length b.0.0.1.items ≤ length a.0.1 = step-count a.0.1 b.0.0.0 b.0.0.1 b.0.1 b.1 in
    omega (arith, same, front, behind)

-- ---- the cards of a deck

bytes-long : (count : ℕ) (bytes x rest : List ℕ) → bytes_at count bytes ≡ Ok (x, rest) → (length x ≡ count) × (count ≤ length bytes)
unfolding bytes_at
bytes-long count bytes x rest e =
    let fits = guard_ok (nat_lt (length bytes) count) 0 (Ok (take count bytes, drop count bytes)) (x, rest) e in
    let enough : count ≤ length bytes = grind (arith, nat_tests, fits.0) in
    let same : length (take count bytes) ≡ length x = ap (λ (p : List ℕ × List ℕ). length p.0) (ok_is (take count bytes, drop count bytes) (x, rest) fits.1) in
    (omega (arith, same, enough, length-take count bytes), enough)

-- a card has 80 bytes
cards-long : (bytes cards rest : List ℕ) → blocks_at 80 bytes ≡ Ok (cards, rest) → 0 < length cards → 80 ≤ length bytes
cards-long bytes cards rest e some =
    let a = bind_ok (number_at w32 bytes) (λ n. bytes_at (80 * n.0) n.1) (cards, rest) e in
    let long = bytes-long (80 * a.0.0) a.0.1 cards rest a.2 in
    let count : length cards ≡ 80 * a.0.0 = long.0 in
    let enough : 80 * a.0.0 ≤ length a.0.1 = long.1 in
    let front : 0 + length a.0.1 ≤ length bytes = number-leaves w32 bytes a.0.0 a.0.1 a.1 in
    omega (arith, count, enough, front, some)

submitted-long : (bytes : List ℕ) (run : ℕ) (cards rest : List ℕ) → submitted.read bytes ≡ Ok ((run, cards), rest) → 0 < length cards → 80 ≤ length bytes
submitted-long bytes run cards rest e some =
    let a = bind_ok (job.read bytes) (λ a. blocks_at 80 a.1 >>= λ b. Ok ((a.0, b.0), b.1)) ((run, cards), rest) e in
    let b = bind_ok (blocks_at 80 a.0.1) (λ b. Ok ((a.0.0, b.0), b.1)) ((run, cards), rest) a.2 in
    let same : length b.0.0 ≡ length cards = ap (λ (p : (ℕ × List ℕ) × List ℕ). length p.0.1) (ok_is ((a.0.0, b.0.0), b.0.1) ((run, cards), rest) b.2) in
    let front : 0 + length a.0.1 ≤ length bytes = number-leaves _ bytes a.0.0 a.0.1 a.1 in
    let behind : 80 ≤ length a.0.1 = cards-long a.0.1 b.0.0 b.0.1 b.1 (omega (arith, same, some)) in
    omega (arith, front, behind)

-- ---- an event

-- what holds of the event that is read
abbrev Gives : (Event → Type 0) → Reading Event → Type 0
Gives P reading = (event : Event) (rest : List ℕ) → reading ≡ Ok (event, rest) → P event

if-gives : (P : Event → Type 0) (b : Bool) (here other : Reading Event) → Gives P here → Gives P other → Gives P (cond b here other)
if-gives P true here other one or = one
if-gives P false here other one or = or

one-gives : {A : Type 0} (P : Event → Type 0) (bytes : List ℕ) (make : A → Event) (read : List ℕ → Reading A) → ((x : A) (rest : List ℕ) → read bytes ≡ Ok (x, rest) → P (make x)) → Gives P (seen_at make read bytes)
one-gives P bytes make read each event rest e =
    let a = bind_ok (read bytes) (λ x. Ok (make x.0, x.1)) (event, rest) e in
    subst P (ap (λ (p : Event × List ℕ). p.0) (ok_is (make a.0.0, a.0.1) (event, rest) a.2)) (each a.0.0 a.0.1 a.1)

none-gives : (P : Event → Type 0) (left : ℕ) → Gives P (Err left)
none-gives P left event rest e = absurd cc

-- neither a deck nor the start of a step
abbrev is_other : Event → Bool
is_other (Submitted run cards) = false
is_other (Started run step items) = false
is_other _ = true

fields-give : (P : Event → Type 0) (kind left : ℕ) (bytes : List ℕ) → Gives P (submitted_at bytes) → Gives P (started_at bytes) → ((event : Event) → is_other event ≡ true → P event) → Gives P (fields_at kind left bytes)
unfolding fields_at selected_at denied_at rewritten_at checkpointed_at cancelled_at step_ended_at restarted_at held_at released_at ended_at purged_at
fields-give P kind left bytes decks starts others =
    if-gives P (kind == 1) _ _ decks
    (if-gives P (kind == 2) _ _ (one-gives P bytes (λ x. Selected x.0 x.1.0 x.1.1.0 x.1.1.1.0 x.1.1.1.1) selected.read (λ x rest e. others _ refl))
    (if-gives P (kind == 3) _ _ (one-gives P bytes (λ x. Denied x.0 x.1.0 x.1.1) denied.read (λ x rest e. others _ refl))
    (if-gives P (kind == 4) _ _ starts
    (if-gives P (kind == 5) _ _ (one-gives P bytes (λ x. Rewritten x.0 x.1.0 x.1.1.0 x.1.1.1.0 x.1.1.1.1.0 x.1.1.1.1.1) rewritten.read (λ x rest e. others _ refl))
    (if-gives P (kind == 6) _ _ (one-gives P bytes (λ x. Checkpointed x.0 x.1.0 x.1.1.0 x.1.1.1.0 x.1.1.1.1.0 x.1.1.1.1.1.0 x.1.1.1.1.1.1) checkpointed.read (λ x rest e. others _ refl))
    (if-gives P (kind == 7) _ _ (one-gives P bytes (λ x. Cancelled x) job.read (λ x rest e. others _ refl))
    (if-gives P (kind == 8) _ _ (one-gives P bytes (λ x. StepEnded x.0 x.1.0 x.1.1.0 x.1.1.1.0 x.1.1.1.1) step_ended.read (λ x rest e. others _ refl))
    (if-gives P (kind == 9) _ _ (one-gives P bytes (λ x. Restarted x.0 x.1.0 x.1.1.0 x.1.1.1) restarted.read (λ x rest e. others _ refl))
    (if-gives P (kind == 10) _ _ (one-gives P bytes (λ x. Held x.0 x.1.0 x.1.1.0 x.1.1.1) held.read (λ x rest e. others _ refl))
    (if-gives P (kind == 11) _ _ (one-gives P bytes (λ x. Released x) job.read (λ x rest e. others _ refl))
    (if-gives P (kind == 12) _ _ (one-gives P bytes (λ x. Ended x.0 x.1) ended.read (λ x rest e. others _ refl))
    (if-gives P (kind == 13) _ _ (one-gives P bytes (λ x. Purged x) job.read (λ x rest e. others _ refl)) (none-gives P left)))))))))))))

-- Of the bytes behind its kind it holds what its fields give.
abbrev EachGives : (ℕ → Event → Type 0) → Type 0
EachGives P = (kind left : ℕ) (bytes : List ℕ) → Gives (P (length bytes)) (fields_at kind left bytes)

record IsRead (P : ℕ → Event → Type 0) (bytes : List ℕ) (event : Event) : Type 0 where
  pub behind : List ℕ
  pub shorter : 1 + length behind ≤ length bytes
  pub so : P (length behind) event

whole-read : (P : ℕ → Event → Type 0) → EachGives P → (bytes : List ℕ) (event : Event) → whole_at bytes ≡ Ok event → IsRead P bytes event
unfolding whole_at
whole-read P gives bytes event e =
    let ending = λ (x : Event × List ℕ). cond (length x.1 == 0) (Ok x.0) (Err (length x.1)) in
    let a = bind_ok (byte_at bytes) (λ kind. fields_at kind.0 (length bytes) kind.1 >>= λ x. ending x) event e in
    let b = bind_ok (fields_at a.0.0 (length bytes) a.0.1) ending event a.2 in
    record {
      behind = a.0.1;
      shorter = byte-leaves bytes a.0.0 a.0.1 a.1;
      so = subst (P (length a.0.1)) (test_ok (length b.0.1 == 0) (length b.0.1) b.0.0 event b.2).1 (gives a.0.0 (length bytes) a.0.1 b.0.0 b.0.1 b.1);
    }

event-read : (P : ℕ → Event → Type 0) → EachGives P → (bytes : List ℕ) (event : Event) → event_of bytes ≡ Ok event → IsRead P bytes event
event-read P gives bytes event e = by (whole_at bytes) refl e
  where
    by : (read : Result Event ℕ) → whole_at bytes ≡ read → at_offset (length bytes) read ≡ Ok event → IsRead P bytes event
    by (Ok one) is e = whole-read P gives bytes event (is ∙ e)
    by (Err left) is e = absurd cc

-- ---- what an event adds

abbrev Adds : ℕ → Event → Type 0
Adds most event = added_by event ≤ suc most

fields-add : EachGives Adds
unfolding submitted_at started_at
fields-add kind left bytes =
    fields-give (Adds (length bytes)) kind left bytes
    (one-gives (Adds (length bytes)) bytes (λ x. Submitted x.0 x.1) submitted.read (λ x rest e. omega arith))
    (one-gives (Adds (length bytes)) bytes (λ x. Started x.0 x.1.0 x.1.1) started.read (λ x rest e. let few = started-count bytes x.0 x.1.0 x.1.1 rest e in omega (arith, few)))
    others
  where
    others : (event : Event) → is_other event ≡ true → Adds (length bytes) event
    others (Submitted run cards) is = absurd (false≢true is)
    others (Started run step items) is = absurd (false≢true is)
    others event is = omega arith

pub event-adds : (bytes : List ℕ) (event : Event) → event_of bytes ≡ Ok event → added_by event ≤ length bytes
event-adds bytes event e =
    let its = event-read Adds fields-add bytes event e in
    let few : added_by event ≤ suc (length its.behind) = its.so in
    omega (arith, its.shorter, few)

-- ---- the bytes of a deck

abbrev HasCards : ℕ → Event → Type 0
HasCards most (Submitted run cards) = 0 < length cards → 80 ≤ most
HasCards most _ = Unit {0}

fields-long : EachGives HasCards
unfolding submitted_at started_at
fields-long kind left bytes =
    fields-give (HasCards (length bytes)) kind left bytes
    (one-gives (HasCards (length bytes)) bytes (λ x. Submitted x.0 x.1) submitted.read (λ x rest e some. submitted-long bytes x.0 x.1 rest e some))
    (one-gives (HasCards (length bytes)) bytes (λ x. Started x.0 x.1.0 x.1.1) started.read (λ x rest e. tt))
    others
  where
    others : (event : Event) → is_other event ≡ true → HasCards (length bytes) event
    others (Submitted run cards) is = absurd (false≢true is)
    others event is = tt

pub deck-long : (bytes : List ℕ) (run : ℕ) (cards : List ℕ) → event_of bytes ≡ Ok (Submitted run cards) → 0 < length cards → 80 < length bytes
deck-long bytes run cards e some =
    let its = event-read HasCards fields-long bytes (Submitted run cards) e in
    let long : 80 ≤ length its.behind = its.so some in
    omega (arith, its.shorter, long)
