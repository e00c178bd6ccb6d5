-- How many bytes an event has at most.
use Rattle.std.proofs.Common.{◌≡◌, ◌≤◌, ◌+◌, ◌*◌, ◌==◌, ℕ, zero, suc, Bool, true, false, cond, List, [], ◌∷◌, length, take, drop, refl, ap, ◌∙◌, subst, w16, w32, Option, Some, None, Result, Ok, Err, arith}
use Rattle.std.proofs.lemmas.Bool.Decides.{nat_tests}
use Rattle.std.proofs.lemmas.List.{length-drop, length-take}
use Rattle.std.proofs.lemmas.Nat.{mul-le}
use Rattle.std.specs.Int.{Width, byte_len, from_be_bytes}
use Rattle.std.specs.Prelude.{nat_lt}
use Rattle.ckr_base.specs.Grammar.{is_ds_name, is_check_id}
use Rattle.ckr_base.specs.declared.code.Code.TheVariants.{System, User}
use Rattle.ckr_fields.specs.Fields.{Field, between, both_at, byte, blocks_at, byte_at, bytes_at, check_id, code_at, flag_at, four_bytes, items_at, judged, judged_at, number_at, optional_at, record_bytes, seen_at, short_text, starts_with_zero, text_at, times_at, two_bytes}
use Rattle.ckr_fields.specs.Readers.{Reading, ◌>>=◌, at_offset}
use Rattle.ckr_fields.proofs.Steps.{bind_ok, guard_ok, ok_is, test_ok}
use Rattle.ckr_events.specs.declared.event.Event.{Event}
use Rattle.ckr_events.specs.declared.event.Event.TheVariants.{Cancelled, Checkpointed, Denied, Ended, Held, Purged, Released, Restarted, Rewritten, Selected, Started, StepEnded, Submitted}
use Rattle.ckr_events.specs.declared.event.Ending.TheVariants.{Completed, Coded, Allocation}
use Rattle.ckr_events.specs.Event.{cancelled_at, checkpointed_at, denied_at, ended_at, event_of, fields_at, held_at, most_bytes, purged_at, released_at, restarted_at, rewritten_at, selected_at, started_at, step_ended_at, submitted_at, whole_at}
use Rattle.ckr_events.specs.Format.{all_made, allocation, allocation_at, checkpointed, coded, coded_at, denied, ended, ending_at, from_one, held, job, length_list, lengths_at, made_at, made_list_at, made_parts, number_if_at, piece_at, piece_list, piece_parts, pieces_at, restarted, rewritten, selected, started, step_ended, submitted}

-- ---- the bytes of a field

-- the field takes at most so many of them
abbrev Takes : {A : Type 0} → ℕ → (List ℕ → Reading A) → Type 0
Takes {A = A} most read = (bytes : List ℕ) (x : A) (rest : List ℕ) → read bytes ≡ Ok (x, rest) → length bytes ≤ length rest + most

wider : {A : Type 0} (few most : ℕ) (read : List ℕ → Reading A) → few ≤ most → Takes few read → Takes most read
wider few most read le takes bytes x rest e = let some : length bytes ≤ length rest + few = takes bytes x rest e in omega (arith, some, le)

byte-takes : Takes 1 byte_at
unfolding byte_at
byte-takes [] x rest e = absurd cc
byte-takes (first ∷ bytes) x rest e =
    let same : length bytes ≡ length rest = ap (λ (p : ℕ × List ℕ). length p.1) (ok_is (first, bytes) (x, rest) e) in
    omega (arith, same)

number-takes : (w : Width) → Takes (byte_len w) (number_at w)
unfolding number_at
number-takes w bytes x rest e =
    let fits = guard_ok (nat_lt (length bytes) (byte_len w)) 0 (Ok (from_be_bytes w (take (byte_len w) bytes), drop (byte_len w) bytes)) (x, rest) e in
    let same : length (drop (byte_len w) bytes) ≡ length rest = ap (λ (p : ℕ × List ℕ). length p.1) (ok_is (from_be_bytes w (take (byte_len w) bytes), drop (byte_len w) bytes) (x, rest) fits.1) in
    omega (arith, same, length-drop (byte_len w) bytes)

-- a value that is judged has passed the test
judged-passes : {A : Type 0} (test : A → Bool) (read : List ℕ → Reading A) (bytes : List ℕ) (x : A) (rest : List ℕ) → judged_at test read bytes ≡ Ok (x, rest) → (read bytes ≡ Ok (x, rest)) × (test x ≡ true)
unfolding judged_at
judged-passes {A = A} test read bytes x rest e =
    let first = bind_ok (read bytes) (λ y. cond (test y.0) (Ok y) (Err (length bytes))) (x, rest) e in
    let passes = test_ok (test first.0.0) (length bytes) first.0 (x, rest) first.2 in
    (first.1 ∙ ap Ok passes.1, subst (λ (p : A × List ℕ). test p.0 ≡ true) passes.1 passes.0)

judged-takes : {A : Type 0} (test : A → Bool) (most : ℕ) (read : List ℕ → Reading A) → Takes most read → Takes most (judged_at test read)
judged-takes test most read takes bytes x rest e = takes bytes x rest (judged-passes test read bytes x rest e).0

both-takes : {A B : Type 0} (most more : ℕ) (first : List ℕ → Reading A) (second : A → List ℕ → Reading B) → Takes most first → ((a : A) → Takes more (second a)) → Takes (most + more) (both_at first second)
both-takes {A = A} {B = B} most more first second takes others bytes x rest e =
    let a = bind_ok (first bytes) (λ a. second a.0 a.1 >>= λ b. Ok ((a.0, b.0), b.1)) (x, rest) e in
    let b = bind_ok (second a.0.0 a.0.1) (λ b. Ok ((a.0.0, b.0), b.1)) (x, rest) a.2 in
    let same : length b.0.1 ≡ length rest = ap (λ (p : (A × B) × List ℕ). length p.1) (ok_is ((a.0.0, b.0.0), b.0.1) (x, rest) b.2) in
    let front : length bytes ≤ length a.0.1 + most = takes bytes a.0.0 a.0.1 a.1 in
    let behind : length a.0.1 ≤ length b.0.1 + more = others a.0.0 a.0.1 b.0.0 b.0.1 b.1 in
    omega (arith, same, front, behind)

seen-takes : {A B : Type 0} (make : A → B) (most : ℕ) (read : List ℕ → Reading A) → Takes most read → Takes most (seen_at make read)
seen-takes {B = B} make most read takes bytes x rest e =
    let a = bind_ok (read bytes) (λ y. Ok (make y.0, y.1)) (x, rest) e in
    let same : length a.0.1 ≡ length rest = ap (λ (p : B × List ℕ). length p.1) (ok_is (make a.0.0, a.0.1) (x, rest) a.2) in
    let front : length bytes ≤ length a.0.1 + most = takes bytes a.0.0 a.0.1 a.1 in
    omega (arith, same, front)

-- so many bytes
bytes-take : (count : ℕ) (bytes x rest : List ℕ) → bytes_at count bytes ≡ Ok (x, rest) → (length x ≡ count) × (length bytes ≡ length rest + count)
unfolding bytes_at
bytes-take count bytes x rest e =
    let fits = guard_ok (nat_lt (length bytes) count) 0 (Ok (take count bytes, drop count bytes)) (x, rest) e in
    let enough : count ≤ length bytes = grind (arith, nat_tests, fits.0) in
    let front : length (take count bytes) ≡ length x = ap (λ (p : List ℕ × List ℕ). length p.0) (ok_is (take count bytes, drop count bytes) (x, rest) fits.1) in
    let behind : length (drop count bytes) ≡ length rest = ap (λ (p : List ℕ × List ℕ). length p.1) (ok_is (take count bytes, drop count bytes) (x, rest) fits.1) in
    (omega (arith, front, enough, length-take count bytes), omega (arith, behind, enough, length-drop count bytes))

-- a count of at most so many
count-below : (most : ℕ) (count : Field ℕ) (bytes : List ℕ) (n : ℕ) (rest : List ℕ) → (judged (between 0 most) count).read bytes ≡ Ok (n, rest) → n ≤ most
count-below most count bytes n rest e =
    let passes : between 0 most n ≡ true = (judged-passes (between 0 most) count.read bytes n rest e).1 in
    grind (arith, nat_tests, passes)

size-below : (most : ℕ) (bytes : List ℕ) (n : ℕ) (rest : List ℕ) → (judged (between 1 most) byte).read bytes ≡ Ok (n, rest) → n ≤ most
size-below most bytes n rest e =
    let passes : between 1 most n ≡ true = (judged-passes (between 1 most) byte_at bytes n rest e).1 in
    grind (arith, nat_tests, passes)

text-takes : (size : List ℕ → Reading ℕ) (is_text : List ℕ → Bool) (head most : ℕ) → Takes head size → ((bytes : List ℕ) (n : ℕ) (rest : List ℕ) → size bytes ≡ Ok (n, rest) → n ≤ most) → Takes (head + most) (text_at size is_text)
unfolding text_at
text-takes size is_text head most takes below bytes x rest e =
    let ending = λ (t : List ℕ × List ℕ). cond (is_text t.0) (Ok t) (Err (length bytes)) in
    let a = bind_ok (size bytes) (λ n. bytes_at n.0 n.1 >>= λ t. ending t) (x, rest) e in
    let b = bind_ok (bytes_at a.0.0 a.0.1) ending (x, rest) a.2 in
    let same = (test_ok (is_text b.0.0) (length bytes) b.0 (x, rest) b.2).1 in
    let few : a.0.0 ≤ most = below bytes a.0.0 a.0.1 a.1 in
    let front : length bytes ≤ length a.0.1 + head = takes bytes a.0.0 a.0.1 a.1 in
    let behind : length a.0.1 ≡ length b.0.1 + a.0.0 = (bytes-take a.0.0 a.0.1 b.0.0 b.0.1 b.1).1 in
    omega (arith, few, front, behind, ap (λ (p : List ℕ × List ℕ). length p.1) same)

short-takes : (most : ℕ) (is_text : List ℕ → Bool) → Takes (1 + most) (short_text most is_text).read
short-takes most is_text = text-takes (judged (between 1 most) byte).read is_text 1 most (judged-takes (between 1 most) 1 byte_at byte-takes) (size-below most)

optional-takes : (most : ℕ) (read : List ℕ → Reading (List ℕ)) → Takes (1 + most) read → Takes (1 + most) (optional_at read)
unfolding optional_at
optional-takes most read takes bytes x rest e = by (starts_with_zero bytes) e
  where
    by : (zero-first : Bool) → cond {A = Reading (Option (List ℕ))} zero-first (Ok (None, drop 1 bytes)) (read bytes >>= λ y. Ok (Some y.0, y.1)) ≡ Ok (x, rest) → length bytes ≤ length rest + (1 + most)
    by true e =
        let same : length (drop 1 bytes) ≡ length rest = ap (λ (p : Option (List ℕ) × List ℕ). length p.1) (ok_is (None, drop 1 bytes) (x, rest) e) in
        omega (arith, same, length-drop 1 bytes)
    by false e =
        let a = bind_ok (read bytes) (λ y. Ok (Some y.0, y.1)) (x, rest) e in
        let same : length a.0.1 ≡ length rest = ap (λ (p : Option (List ℕ) × List ℕ). length p.1) (ok_is (Some a.0.0, a.0.1) (x, rest) a.2) in
        let front : length bytes ≤ length a.0.1 + (1 + most) = takes bytes a.0.0 a.0.1 a.1 in
        omega (arith, same, front)

-- one of two readings, of which a wrong one is none
abbrev Leaves : {A : Type 0} → ℕ → ℕ → Reading A → Type 0
Leaves {A = A} size most reading = (x : A) (rest : List ℕ) → reading ≡ Ok (x, rest) → size ≤ length rest + most

if-leaves : {A : Type 0} (size most : ℕ) (b : Bool) (here other : Reading A) → Leaves size most here → Leaves size most other → Leaves size most (cond b here other)
if-leaves size most true here other one or = one
if-leaves size most false here other one or = or

none-leaves : {A : Type 0} (size most left : ℕ) → Leaves {A = A} size most (Err left)
none-leaves size most left x rest e = absurd cc

ok-leaves : {A : Type 0} (size most : ℕ) (x : A) (behind : List ℕ) → size ≤ length behind + most → Leaves size most (Ok (x, behind))
ok-leaves {A = A} size most x behind le y rest e =
    let same : length behind ≡ length rest = ap (λ (p : A × List ℕ). length p.1) (ok_is (x, behind) (y, rest) e) in
    omega (arith, same, le)

flag-takes : Takes 1 flag_at
unfolding flag_at
flag-takes bytes x rest e =
    let a = bind_ok (byte_at bytes) (λ y. cond (y.0 == 0) (Ok (false, y.1)) (cond (y.0 == 1) (Ok (true, y.1)) (Err (length bytes)))) (x, rest) e in
    let front : length bytes ≤ length a.0.1 + 1 = byte-takes bytes a.0.0 a.0.1 a.1 in
    if-leaves (length bytes) 1 (a.0.0 == 0) (Ok (false, a.0.1)) (cond (a.0.0 == 1) (Ok (true, a.0.1)) (Err (length bytes)))
    (ok-leaves (length bytes) 1 false a.0.1 front)
    (if-leaves (length bytes) 1 (a.0.0 == 1) (Ok (true, a.0.1)) (Err (length bytes)) (ok-leaves (length bytes) 1 true a.0.1 front) (none-leaves (length bytes) 1 (length bytes)))
    x rest a.2

code-takes : Takes 3 code_at
unfolding code_at
code-takes bytes x rest e =
    let size = length bytes in
    let ending = λ (letter : ℕ) (n : ℕ × List ℕ). cond (nat_lt 4095 n.0) (Err size) (cond (letter == 83) (Ok (System n.0, n.1)) (cond (letter == 85) (Ok (User n.0, n.1)) (Err size))) in
    let a = bind_ok (byte_at bytes) (λ letter. number_at w16 letter.1 >>= λ n. ending letter.0 n) (x, rest) e in
    let b = bind_ok (number_at w16 a.0.1) (ending a.0.0) (x, rest) a.2 in
    let front : length bytes ≤ length a.0.1 + 1 = byte-takes bytes a.0.0 a.0.1 a.1 in
    let behind : length a.0.1 ≤ length b.0.1 + 2 = number-takes w16 a.0.1 b.0.0 b.0.1 b.1 in
    let le : size ≤ length b.0.1 + 3 = omega (arith, front, behind) in
    if-leaves size 3 (nat_lt 4095 b.0.0) (Err size) _ (none-leaves size 3 size)
    (if-leaves size 3 (a.0.0 == 83) (Ok (System b.0.0, b.0.1)) _ (ok-leaves size 3 (System b.0.0) b.0.1 le)
    (if-leaves size 3 (a.0.0 == 85) (Ok (User b.0.0, b.0.1)) (Err size) (ok-leaves size 3 (User b.0.0) b.0.1 le) (none-leaves size 3 size)))
    x rest b.2

more-times : (n each : ℕ) → suc n * each ≡ each + n * each
more-times n each = grind arith

-- items of at most so many bytes each
times-take : {A : Type 0} (each : ℕ) (read : List ℕ → Reading A) → Takes each read → (count : ℕ) → Takes (count * each) (times_at read count)
unfolding times_at
times-take {A = A} each read takes zero bytes xs rest e =
    let same : length bytes ≡ length rest = ap (λ (p : List A × List ℕ). length p.1) (ok_is ([], bytes) (xs, rest) e) in
    omega (arith, same)
times-take {A = A} each read takes (suc count) bytes xs rest e =
    let a = bind_ok (read bytes) (λ first. times_at read count first.1 >>= λ others. Ok (first.0 ∷ others.0, others.1)) (xs, rest) e in
    let b = bind_ok (times_at read count a.0.1) (λ others. Ok (a.0.0 ∷ others.0, others.1)) (xs, rest) a.2 in
    let same : length b.0.1 ≡ length rest = ap (λ (p : List A × List ℕ). length p.1) (ok_is (a.0.0 ∷ b.0.0, b.0.1) (xs, rest) b.2) in
    let front : length bytes ≤ length a.0.1 + each = takes bytes a.0.0 a.0.1 a.1 in
    let behind : length a.0.1 ≤ length b.0.1 + count * each = times-take each read takes count a.0.1 b.0.0 b.0.1 b.1 in
    let sum : suc count * each ≡ each + count * each = more-times count each in
    omega (arith, same, front, behind, sum)

-- at most so many of them
items-take : {A : Type 0} (most each : ℕ) (read : List ℕ → Reading A) → Takes each read → Takes (1 + most * each) (items_at (judged (between 0 most) byte).read read)
items-take most each read takes bytes xs rest e =
    let a = bind_ok ((judged (between 0 most) byte).read bytes) (λ n. times_at read n.0 n.1) (xs, rest) e in
    let few : a.0.0 ≤ most = count-below most byte bytes a.0.0 a.0.1 a.1 in
    let front : length bytes ≤ length a.0.1 + 1 = judged-takes (between 0 most) 1 byte_at byte-takes bytes a.0.0 a.0.1 a.1 in
    let behind : length a.0.1 ≤ length rest + a.0.0 * each = times-take each read takes a.0.0 a.0.1 xs rest a.2 in
    let more : a.0.0 * each ≤ most * each = mul-le a.0.0 each most each few (omega arith) in
    omega (arith, front, behind, more)

-- ---- lengths, what a step made, and how a run ended

four-takes : Takes 4 four_bytes.read
four-takes = number-takes w32

lengths-take : Takes 65 lengths_at
unfolding lengths_at
lengths-take = seen-takes (λ xs. record { items = xs }) 65 length_list.read (items-take 16 4 four_bytes.read four-takes)

from_one-takes : Takes 1 from_one.read
from_one-takes = judged-takes (between 1 255) 1 byte_at byte-takes

piece-takes : Takes 8 piece_at
unfolding piece_at
piece-takes = seen-takes (λ x. record { start = x.0; records = x.1 }) 8 piece_parts.read (both-takes 4 4 four_bytes.read (λ _. four_bytes.read) four-takes (λ _. four-takes))

pieces-take : Takes 41 pieces_at
unfolding pieces_at
pieces-take = seen-takes (λ xs. record { items = xs }) 41 piece_list.read (items-take 5 8 piece_at piece-takes)

made-takes : Takes 43 made_at
unfolding made_at
made-takes = seen-takes _ 43 made_parts.read (both-takes 1 42 from_one.read _ from_one-takes (λ _. both-takes 1 41 byte_at _ byte-takes (λ _. pieces-take)))

made_list-takes : Takes 3441 made_list_at
unfolding made_list_at
made_list-takes = seen-takes (λ xs. record { items = xs }) 3441 all_made.read (items-take 80 43 made_at made-takes)

number_if-takes : (has : Bool) → Takes 4 (number_if_at has)
unfolding number_if_at
number_if-takes has = judged-takes _ 4 four_bytes.read four-takes

allocation-takes : Takes 10 allocation_at
unfolding allocation_at
allocation-takes =
    seen-takes (λ x. Allocation x.0.0 x.0.1 x.1.0 x.1.1) 10 allocation.read
    (both-takes 2 8 (both_at byte_at (λ _. (judged (between 1 8) byte).read)) _ (both-takes 1 1 byte_at _ byte-takes (λ _. judged-takes (between 1 8) 1 byte_at byte-takes))
    (λ x. both-takes 4 4 (number_if_at (between 6 8 x.1)) _ (number_if-takes (between 6 8 x.1)) (λ _. number_if-takes (between 6 7 x.1))))

coded-takes : Takes 73 coded_at
unfolding coded_at
coded-takes =
    seen-takes (λ x. Coded x.0 x.1.0 x.1.1.0 x.1.1.1) 73 coded.read
    (both-takes 3 70 code_at _ code-takes (λ _. both-takes 1 69 (judged (between 1 6) byte).read _ (judged-takes (between 1 6) 1 byte_at byte-takes) (λ _. both-takes 4 65 four_bytes.read _ four-takes (λ _. lengths-take))))

ending-takes : Takes 74 ending_at
unfolding ending_at
ending-takes bytes x rest e =
    let size = length bytes in
    let ending = λ (tag : ℕ × List ℕ). cond (tag.0 == 0) (Ok (Completed, tag.1)) (cond (tag.0 == 1) (coded_at tag.1) (cond (tag.0 == 2) (allocation_at tag.1) (Err size))) in
    let a = bind_ok (byte_at bytes) ending (x, rest) e in
    let front : size ≤ length a.0.1 + 1 = byte-takes bytes a.0.0 a.0.1 a.1 in
    if-leaves size 74 (a.0.0 == 0) (Ok (Completed, a.0.1)) _ (ok-leaves size 74 Completed a.0.1 (omega (arith, front)))
    (if-leaves size 74 (a.0.0 == 1) (coded_at a.0.1) _ (λ y left is. let some : length a.0.1 ≤ length left + 73 = coded-takes a.0.1 y left is in omega (arith, front, some))
    (if-leaves size 74 (a.0.0 == 2) (allocation_at a.0.1) (Err size) (λ y left is. let some : length a.0.1 ≤ length left + 10 = allocation-takes a.0.1 y left is in omega (arith, front, some)) (none-leaves size 74 size)))
    x rest a.2

-- ---- an event

-- behind its kind
abbrev Has : ℕ → Reading Event → Type 0
Has size reading = (event : Event) (rest : List ℕ) → reading ≡ Ok (event, rest) → size + 1 ≤ length rest + most_bytes event

if-has : (size : ℕ) (b : Bool) (here other : Reading Event) → Has size here → Has size other → Has size (cond b here other)
if-has size true here other one or = one
if-has size false here other one or = or

none-has : (size left : ℕ) → Has size (Err left)
none-has size left event rest e = absurd cc

-- an event whose fields take few bytes
few-has : {A : Type 0} (few : ℕ) (make : A → Event) (read : List ℕ → Reading A) (bytes : List ℕ) → ((x : A) → few + 1 ≤ most_bytes (make x)) → Takes few read → Has (length bytes) (seen_at make read bytes)
few-has few make read bytes below takes event rest e =
    let a = bind_ok (read bytes) (λ x. Ok (make x.0, x.1)) (event, rest) e in
    let its = ok_is (make a.0.0, a.0.1) (event, rest) a.2 in
    let some : length bytes ≤ length a.0.1 + few = takes bytes a.0.0 a.0.1 a.1 in
    let below-this : few + 1 ≤ most_bytes (make a.0.0) = below a.0.0 in
    subst (λ (p : Event × List ℕ). length bytes + 1 ≤ length p.1 + most_bytes p.0) its (omega (arith, some, below-this))

-- a deck has its cards
submitted-has : (bytes : List ℕ) → Has (length bytes) (submitted_at bytes)
unfolding submitted_at
submitted-has bytes event rest e =
    let made = bind_ok (submitted.read bytes) (λ x. Ok (Submitted x.0.0 x.0.1, x.1)) (event, rest) e in
    let a = bind_ok (job.read bytes) (λ a. blocks_at 80 a.1 >>= λ b. Ok ((a.0, b.0), b.1)) made.0 made.1 in
    let b = bind_ok (blocks_at 80 a.0.1) (λ b. Ok ((a.0.0, b.0), b.1)) made.0 a.2 in
    let c = bind_ok (number_at w32 a.0.1) (λ n. bytes_at (80 * n.0) n.1) b.0 b.1 in
    let long = bytes-take (80 * c.0.0) c.0.1 b.0.0 b.0.1 c.2 in
    let cards : length b.0.0 ≡ length made.0.0.1 = ap (λ (p : (ℕ × List ℕ) × List ℕ). length p.0.1) (ok_is ((a.0.0, b.0.0), b.0.1) made.0 b.2) in
    let behind : length b.0.1 ≡ length made.0.1 = ap (λ (p : (ℕ × List ℕ) × List ℕ). length p.1) (ok_is ((a.0.0, b.0.0), b.0.1) made.0 b.2) in
    let front : length bytes ≤ length a.0.1 + 4 = four-takes bytes a.0.0 a.0.1 a.1 in
    let count : length a.0.1 ≤ length c.0.1 + 4 = number-takes w32 a.0.1 c.0.0 c.0.1 c.1 in
    let some : length c.0.1 ≡ length b.0.1 + length b.0.0 = omega (arith, long.0, long.1) in
    subst (λ (p : Event × List ℕ). length bytes + 1 ≤ length p.1 + most_bytes p.0) (ok_is (Submitted made.0.0.0 made.0.0.1, made.0.1) (event, rest) made.2)
    (omega (arith, cards, behind, front, count, some))

fields-has : (kind left : ℕ) (bytes : List ℕ) → Has (length bytes) (fields_at kind left bytes)
unfolding fields_at selected_at denied_at started_at rewritten_at checkpointed_at cancelled_at step_ended_at restarted_at held_at released_at ended_at purged_at
fields-has kind left bytes =
    let size = length bytes in
    if-has size (kind == 1) _ _ (submitted-has bytes)
    (if-has size (kind == 2) _ _ (few-has 27 (λ x. Selected x.0 x.1.0 x.1.1.0 x.1.1.1.0 x.1.1.1.1) selected.read bytes (λ x. omega arith)
    (both-takes 4 23 four_bytes.read _ four-takes (λ _. both-takes 1 22 byte_at _ byte-takes (λ _. both-takes 4 18 four_bytes.read _ four-takes (λ _. both-takes 1 17 byte_at _ byte-takes (λ _. optional-takes 16 _ (short-takes 16 is_check_id)))))))
    (if-has size (kind == 3) _ _ (few-has 50 (λ x. Denied x.0 x.1.0 x.1.1) denied.read bytes (λ x. omega arith)
    (both-takes 4 46 four_bytes.read _ four-takes (λ _. both-takes 1 45 (judged (between 17 26) byte).read _ (judged-takes (between 17 26) 1 byte_at byte-takes) (λ _. optional-takes 44 _ (short-takes 44 is_ds_name)))))
    (if-has size (kind == 4) _ _ (few-has 3446 (λ x. Started x.0 x.1.0 x.1.1) started.read bytes (λ x. omega arith)
    (both-takes 4 3442 four_bytes.read _ four-takes (λ _. both-takes 1 3441 from_one.read _ from_one-takes (λ _. made_list-takes))))
    (if-has size (kind == 5) _ _ (few-has 339 (λ x. Rewritten x.0 x.1.0 x.1.1.0 x.1.1.1.0 x.1.1.1.1.0 x.1.1.1.1.1) rewritten.read bytes (λ x. omega arith)
    (both-takes 4 335 four_bytes.read _ four-takes (λ _. both-takes 4 331 four_bytes.read _ four-takes (λ _. both-takes 4 327 four_bytes.read _ four-takes (λ _. both-takes 65 262 lengths_at _ lengths-take
    (λ _. both-takes 4 258 four_bytes.read _ four-takes (λ _. record-takes)))))))
    (if-has size (kind == 6) _ _ (few-has 102 (λ x. Checkpointed x.0 x.1.0 x.1.1.0 x.1.1.1.0 x.1.1.1.1.0 x.1.1.1.1.1.0 x.1.1.1.1.1.1) checkpointed.read bytes (λ x. omega arith)
    (both-takes 4 98 four_bytes.read _ four-takes (λ _. both-takes 17 81 check_id.read _ (short-takes 16 is_check_id) (λ _. both-takes 4 77 four_bytes.read _ four-takes (λ _. both-takes 4 73 four_bytes.read _ four-takes
    (λ _. both-takes 65 8 lengths_at _ lengths-take (λ _. both-takes 4 4 four_bytes.read _ four-takes (λ _. four-takes))))))))
    (if-has size (kind == 7) _ _ (few-has 4 (λ x. Cancelled x) job.read bytes (λ x. omega arith) four-takes)
    (if-has size (kind == 8) _ _ (few-has 76 (λ x. StepEnded x.0 x.1.0 x.1.1.0 x.1.1.1.0 x.1.1.1.1) step_ended.read bytes (λ x. omega arith)
    (both-takes 4 72 four_bytes.read _ four-takes (λ _. both-takes 1 71 from_one.read _ from_one-takes (λ _. both-takes 2 69 two_bytes.read _ (number-takes w16) (λ _. both-takes 4 65 four_bytes.read _ four-takes (λ _. lengths-take))))))
    (if-has size (kind == 9) _ _ (few-has 9 (λ x. Restarted x.0 x.1.0 x.1.1.0 x.1.1.1) restarted.read bytes (λ x. omega arith)
    (both-takes 4 5 four_bytes.read _ four-takes (λ _. both-takes 1 4 byte_at _ byte-takes (λ _. both-takes 3 1 code_at _ code-takes (λ _. flag-takes)))))
    (if-has size (kind == 10) _ _ (few-has 76 (λ x. Held x.0 x.1.0 x.1.1.0 x.1.1.1) held.read bytes (λ x. omega arith)
    (both-takes 4 72 four_bytes.read _ four-takes (λ _. both-takes 3 69 code_at _ code-takes (λ _. both-takes 4 65 four_bytes.read _ four-takes (λ _. lengths-take)))))
    (if-has size (kind == 11) _ _ (few-has 4 (λ x. Released x) job.read bytes (λ x. omega arith) four-takes)
    (if-has size (kind == 12) _ _ (few-has 78 (λ x. Ended x.0 x.1) ended.read bytes (λ x. omega arith) (both-takes 4 74 four_bytes.read _ four-takes (λ _. ending-takes)))
    (if-has size (kind == 13) _ _ (few-has 4 (λ x. Purged x) job.read bytes (λ x. omega arith) four-takes) (none-has size left)))))))))))))
  where
    record-takes : Takes 258 record_bytes.read
    record-takes = text-takes (judged (between 0 256) two_bytes).read (λ _. true) 2 256 (judged-takes (between 0 256) 2 two_bytes.read (number-takes w16)) (count-below 256 two_bytes)

whole-has : (bytes : List ℕ) (event : Event) → whole_at bytes ≡ Ok event → length bytes ≤ most_bytes event
unfolding whole_at
whole-has bytes event e =
    let ending = λ (x : Event × List ℕ). cond (length x.1 == 0) (Ok x.0) (Err (length x.1)) in
    let a = bind_ok (byte_at bytes) (λ kind. fields_at kind.0 (length bytes) kind.1 >>= λ x. ending x) event e in
    let b = bind_ok (fields_at a.0.0 (length bytes) a.0.1) ending event a.2 in
    let end = test_ok (length b.0.1 == 0) (length b.0.1) b.0.0 event b.2 in
    let kind : length bytes ≤ length a.0.1 + 1 = byte-takes bytes a.0.0 a.0.1 a.1 in
    let fields : length a.0.1 + 1 ≤ length b.0.1 + most_bytes b.0.0 = fields-has a.0.0 (length bytes) a.0.1 b.0.0 b.0.1 b.1 in
    let none : length b.0.1 ≡ 0 = grind (arith, nat_tests, end.0) in
    subst (λ (last : Event). length bytes ≤ most_bytes last) end.1 (omega (arith, kind, fields, none))

pub short_events : (bytes : List ℕ) (event : Event) → event_of bytes ≡ Ok event → length bytes ≤ most_bytes event
short_events bytes event e = by (whole_at bytes) refl e
  where
    by : (read : Result Event ℕ) → whole_at bytes ≡ read → at_offset (length bytes) read ≡ Ok event → length bytes ≤ most_bytes event
    by (Ok one) is e = whole-has bytes event (is ∙ e)
    by (Err left) is e = absurd cc
