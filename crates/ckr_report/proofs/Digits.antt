-- The digits of a number, with zeros before them.
use Rattle.std.proofs.Common.{◌≡◌, ◌≤◌, ◌<◌, ◌+◌, ◌-◌, ◌/◌, ◌%◌, ◌^◌, ℕ, List, [], ◌∷◌, ◌++◌, length, replicate, sym, ap, ◌∙◌, append_assoc, length-append, arith, lit<}
use Rattle.std.specs.Fmt.{decimal}
use Rattle.std.proofs.lemmas.Fmt.{decimal_step, decimal_digit, length-decimal-le}
use Rattle.std.proofs.lemmas.List.{length-replicate, replicate_more}
use Rattle.ckr_report.specs.Numbers.{padded}

-- without a width they are the digits alone
pub padded-zero : (n : ℕ) → padded 0 n ≡ decimal n
padded-zero n = let none : 0 - length (decimal n) ≡ 0 = omega arith in ap (λ k. replicate k 48 ++ decimal n) none

-- of more than one digit, the last one stands behind the others
padded-long : (width rest n : ℕ) (front all : List ℕ) → rest ≡ width - 1 → all ≡ front ++ (48 + n % 10) ∷ []
    → replicate (width - length all) 48 ++ all ≡ (replicate (rest - length front) 48 ++ front) ++ (48 + n % 10) ∷ []
padded-long width rest n front all less parts =
    let size : width - length all ≡ rest - length front = omega (arith, ap length parts, length-append front ((48 + n % 10) ∷ [])) in
    ap (λ k. replicate k 48 ++ all) size ∙ ap (λ l. replicate (rest - length front) 48 ++ l) parts ∙ sym (append_assoc (replicate (rest - length front) 48) front ((48 + n % 10) ∷ []))

pub padded-many : (width rest n : ℕ) → 9 < n → n < 2 ^ 64 → rest ≡ width - 1 → padded width n ≡ padded rest (n / 10) ++ (48 + n % 10) ∷ []
padded-many width rest n long fits less = padded-long width rest n (decimal (n / 10)) (decimal n) less (decimal_step n (omega arith) fits)

-- a digit alone stands behind zeros
pub padded-digit : (width n : ℕ) → n < 10 → padded width n ≡ replicate (width - 1) 48 ++ (48 + n) ∷ []
padded-digit width n digit = ap (λ l. replicate (width - length l) 48 ++ l) (decimal_digit n digit)

zeros-padded : (k rest : ℕ) → k ≡ (rest - 1) + 1 → replicate k 48 ≡ padded rest 0
zeros-padded k rest size = ap (λ j. replicate {A = ℕ} j 48) size ∙ sym (replicate_more (rest - 1) 48) ∙ sym (padded-digit rest 0 (lit< tt))

same-front : (zeros front : List ℕ) (n m : ℕ) → zeros ≡ front → n ≡ m → zeros ++ (48 + n) ∷ [] ≡ front ++ (48 + m) ∷ []
same-front zeros front n m same is = cc

-- and of one, where it stands behind zeros
pub padded-one : (width rest n : ℕ) → n < 10 → 1 < width → rest ≡ width - 1 → padded width n ≡ padded rest 0 ++ (48 + n % 10) ∷ []
padded-one width rest n digit wide less =
    padded-digit width n digit ∙ same-front (replicate (width - 1) 48) (padded rest 0) n (n % 10) (zeros-padded (width - 1) rest (omega arith)) (omega arith)

-- where a digit stands behind others, there is room for these and for it
pub room-more : (len : ℕ) (all front : List ℕ) (digit : ℕ) → all ≡ front ++ digit ∷ [] → len + length all ≤ 400 → len + length front + 1 ≤ 400
room-more len all front digit parts room = omega (arith, ap length parts, length-append front (digit ∷ []))

pub room-behind : (old mid all front : List ℕ) (digit : ℕ) → all ≡ front ++ digit ∷ [] → mid ≡ old ++ front → length old + length all ≤ 400 → length mid + 1 ≤ 400
room-behind old mid all front digit parts behind room = omega (arith, ap length parts, ap length behind, length-append old front, length-append front (digit ∷ []))

pub text-behind : (old mid new all front : List ℕ) (digit : ℕ) → all ≡ front ++ digit ∷ [] → mid ≡ old ++ front → new ≡ mid ++ digit ∷ [] → new ≡ old ++ all
text-behind old mid new all front digit parts behind last =
    last ∙ ap (λ l. l ++ digit ∷ []) behind ∙ append_assoc old front (digit ∷ []) ∙ ap (λ l. old ++ l) (sym parts)

-- a digit without zeros
pub padded-alone : (width n : ℕ) → n < 10 → width ≤ 1 → padded width n ≡ (48 + n % 10) ∷ []
padded-alone width n digit narrow =
    let none : width - 1 ≡ 0 = omega arith in
    let all : n ≡ n % 10 = omega arith in
    padded-digit width n digit ∙ ap (λ k. replicate k 48 ++ (48 + n) ∷ []) none ∙ ap (λ k. (48 + k) ∷ []) all

pub length-padded : (k width n : ℕ) → 0 < k → n < 10 ^ k → n < 2 ^ 64 → length (padded width n) ≤ width + k
length-padded k width n some small fits =
    omega (arith, length-append (replicate (width - length (decimal n)) 48) (decimal n), length-replicate {A = ℕ} (width - length (decimal n)) 48, length-decimal-le k n some small fits)

-- there is room for a number, and for one with zeros before it
pub room-padded : (len most k width n : ℕ) → len + most ≤ 400 → width + k ≤ most → 0 < k → n < 10 ^ k → n < 2 ^ 64 → len + length (padded width n) ≤ 400
room-padded len most k width n room wide some small fits = omega (arith, length-padded k width n some small fits)

-- and so many bytes at most are put
pub few-padded : (old new : List ℕ) (most k width n : ℕ) → new ≡ old ++ padded width n → width + k ≤ most → 0 < k → n < 10 ^ k → n < 2 ^ 64 → length new ≤ length old + most
few-padded old new most k width n text wide some small fits = omega (arith, ap length text, length-append old (padded width n), length-padded k width n some small fits)
