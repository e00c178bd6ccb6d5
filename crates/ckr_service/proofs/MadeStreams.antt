-- The stream that is made: how it grows, and that it is short.
use Rattle.std.proofs.Common.{◌≡◌, ◌≤◌, ◌+◌, ◌*◌, ◌%◌, ◌==◌, ℕ, zero, suc, Bool, true, false, cond, List, [], ◌∷◌, ◌++◌, length, codes, Result, Ok, Err, OnOk, refl, sym, ap, subst, ◌∙◌, append_assoc, arith}
use Rattle.std.proofs.lemmas.List.{length-append}
use Rattle.ckr_service.specs.MadeStream.{line, made_commands, made_deck, made_head, made_records, made_stream, made_tail, numbered}

-- one text behind another
pub pushed_behind : (out mid new a b : List ℕ) → mid ≡ out ++ a → new ≡ mid ++ b → new ≡ out ++ (a ++ b)
pushed_behind out mid new a b first second = second ∙ ap (λ (t : List ℕ). t ++ b) first ∙ append_assoc out a b

-- and of a call's result
pub pushed_last : {E : Type 0} (r : Result (Unit {0}) E) (out mid new a b : List ℕ) → mid ≡ out ++ a → OnOk r (new ≡ mid ++ b) → OnOk r (new ≡ out ++ (a ++ b))
pushed_last (Ok x) out mid new a b first second = pushed_behind out mid new a b first second
pushed_last (Err e) out mid new a b first second = tt

pub records_more : (job n m : ℕ) (out mid new : List ℕ) → m ≡ suc n → mid ≡ out ++ made_records job n → new ≡ mid ++ numbered [] job (45 ∷ (49 + n) ∷ []) → new ≡ out ++ made_records job m
records_more job n m out mid new more before is =
    let digit : 49 + n ≡ 48 + suc n = omega arith in
    pushed_behind out mid new (made_records job n) (numbered [] job (45 ∷ (48 + suc n) ∷ [])) before (is ∙ ap (λ (d : ℕ). mid ++ numbered [] job (45 ∷ d ∷ [])) digit)
    ∙ ap (λ (k : ℕ). out ++ made_records job k) (sym more)

pub stream_more : (n m : ℕ) (text mid new : List ℕ) → m ≡ suc n → text ≡ made_stream n → mid ≡ text ++ made_deck m → new ≡ mid ++ made_commands m → new ≡ made_stream m
stream_more n m text mid new more before deck commands =
    pushed_behind text mid new (made_deck m) (made_commands m) deck commands
    ∙ ap (λ (t : List ℕ). t ++ (made_deck m ++ made_commands m)) before
    ∙ subst (λ (k : ℕ). made_stream n ++ (made_deck k ++ made_commands k) ≡ made_stream k) (sym more) refl

-- ---- its length

-- a job has at most seven records of 8 bytes each
records_short : (job count : ℕ) → length (made_records job count) ≤ 8 * count
records_short job zero = omega arith
records_short job (suc count) =
    (let one : length (numbered [] job (45 ∷ (48 + suc count) ∷ [])) ≡ 8 = refl in
    let both = length-append (made_records job count) (numbered [] job (45 ∷ (48 + suc count) ∷ [])) in
    omega (arith, records_short job count, one, both))

deck_short : (job : ℕ) → length (made_deck job) ≤ 300
deck_short job =
    (let records = made_records job (1 + job % 7) in
    let front = length-append (made_head job) records in
    let whole = length-append (made_head job ++ records) (made_tail job) in
    let first : length (made_head job) ≡ 64 = refl in
    let last : length (made_tail job) ≡ 98 = refl in
    omega (arith, whole, front, first, last, records_short job (1 + job % 7)))

commands_short : (job : ℕ) → length (made_commands job) ≤ 40
commands_short job = by_fifth (job % 5 == 0)
  where
    by_fifth : (b : Bool) → length (line (codes "$T 1 4") ++ cond b (line (codes "$F 1 S001")) [] ++ line (codes "$T 1 99")) ≤ 40
    by_fifth true = omega arith
    by_fifth false = omega arith

pub stream_short : (jobs : ℕ) → length (made_stream jobs) ≤ 340 * jobs
stream_short zero = omega arith
stream_short (suc jobs) =
    (let whole = length-append (made_stream jobs) (made_deck (suc jobs) ++ made_commands (suc jobs)) in
    let job = length-append (made_deck (suc jobs)) (made_commands (suc jobs)) in
    omega (arith, whole, job, stream_short jobs, deck_short (suc jobs), commands_short (suc jobs)))
