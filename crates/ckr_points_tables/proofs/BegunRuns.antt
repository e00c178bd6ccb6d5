-- The runs, from the first one on, that have ended, and the last ones, that wait.
use Rattle.std.proofs.Common.{◌≡◌, ℕ, zero, suc, ◌≤◌, ◌<◌, ◌-◌, Bool, true, ◌&&◌, List, [], ◌∷◌, ◌++◌, drop, take, length, max, min, slice_index_or, slice_set, refl, ap, sym, subst, ◌∙◌, arith}
use Rattle.std.specs.List.{list_all}
use Rattle.ckr_points.specs.declared.run.Run.{Run}
use Rattle.ckr_points.specs.declared.run.RunState.TheVariants.{Queued}
use Rattle.ckr_points_tables.specs.BegunRuns.{AreEnded, AreWaiting, is_over}

pub ended-length : (count : ℕ) (lines : List Run) → AreEnded count lines → count ≤ length lines
ended-length zero lines are = omega arith
ended-length (suc count) [] are = absurd are
ended-length (suc count) (line ∷ lines) are = omega (arith, ended-length count lines are.1)

ended-fewer : (count fewer : ℕ) (lines : List Run) → fewer ≤ count → AreEnded count lines → AreEnded fewer lines
ended-fewer count zero lines few are = tt
ended-fewer zero (suc fewer) lines few are = absurd (omega (arith, few))
ended-fewer (suc count) (suc fewer) [] few are = absurd are
ended-fewer (suc count) (suc fewer) (line ∷ lines) few are = (are.0, ended-fewer count fewer lines (omega (arith, few)) are.1)

ended-before : (count place : ℕ) (lines : List Run) (new : Run) → count ≤ place → AreEnded count lines → AreEnded count (slice_set lines place new)
ended-before zero place lines new before are = tt
ended-before (suc count) place [] new before are = absurd are
ended-before (suc count) zero (line ∷ lines) new before are = absurd (omega (arith, before))
ended-before (suc count) (suc place) (line ∷ lines) new before are = (are.0, ended-before count place lines new (omega (arith, before)) are.1)

-- those that stand before a line that has changed
pub ended-set : (count place : ℕ) (lines : List Run) (new : Run) (least : ℕ) → least ≡ min count place → AreEnded count lines → AreEnded least (slice_set lines place new)
ended-set count place lines new least is are =
    let few : least ≤ count = omega (arith, is) in
    let before : least ≤ place = omega (arith, is) in
    ended-before least place lines new before (ended-fewer count least lines few are)

-- with further lines behind them
pub ended-append : (count : ℕ) (lines more : List Run) → AreEnded count lines → AreEnded count (lines ++ more)
ended-append zero lines more are = tt
ended-append (suc count) [] more are = absurd are
ended-append (suc count) (line ∷ lines) more are = (are.0, ended-append count lines more are.1)

-- with the next one, where that has ended too
pub ended-next : (count : ℕ) (lines : List Run) (other : Run) → count < length lines → is_over (slice_index_or lines count other).state ≡ true → AreEnded count lines → AreEnded (suc count) lines
ended-next zero [] other inside ended are = absurd (omega (arith, inside))
ended-next zero (line ∷ lines) other inside ended are = (ended, tt)
ended-next (suc count) [] other inside ended are = absurd are
ended-next (suc count) (line ∷ lines) other inside ended are = (are.0, ended-next count lines other (omega (arith, inside)) ended are.1)

-- a test that each ended run passes is passed by all where those behind pass it
pub ended-drop : (count : ℕ) (lines : List Run) → AreEnded count lines → (test : Run → Bool) → ((line : Run) → is_over line.state ≡ true → test line ≡ true) → list_all test (drop count lines) ≡ list_all test lines
ended-drop zero lines are test passes = refl
ended-drop (suc count) [] are test passes = absurd are
ended-drop (suc count) (line ∷ lines) are test passes = ended-drop count lines are.1 test passes ∙ ap (λ passed. passed && list_all test lines) (sym (passes line are.0))

-- ---- the runs behind so many, which wait

waiting-later : (count later : ℕ) (lines : List Run) → count ≤ later → AreWaiting count lines → AreWaiting later lines
waiting-later count later [] less are = tt
waiting-later zero zero (line ∷ lines) less are = are
waiting-later zero (suc later) (line ∷ lines) less are = waiting-later zero later lines (omega arith) are.1
waiting-later (suc count) zero (line ∷ lines) less are = absurd (omega (arith, less))
waiting-later (suc count) (suc later) (line ∷ lines) less are = waiting-later count later lines (omega (arith, less)) are

waiting-before : (count place : ℕ) (lines : List Run) (new : Run) → place < count → AreWaiting count lines → AreWaiting count (slice_set lines place new)
waiting-before count place [] new before are = tt
waiting-before zero place (line ∷ lines) new before are = absurd (omega (arith, before))
waiting-before (suc count) zero (line ∷ lines) new before are = are
waiting-before (suc count) (suc place) (line ∷ lines) new before are = waiting-before count place lines new (omega (arith, before)) are

-- those behind the line of a run that has changed, too
pub waiting-set : (count number : ℕ) (lines : List Run) (new : Run) (most : ℕ) → 1 ≤ number → most ≡ max count number → AreWaiting count lines → AreWaiting most (slice_set lines (number - 1) new)
waiting-set count number lines new most some is are =
    let more : count ≤ most = omega (arith, is) in
    let behind : number - 1 < most = omega (arith, is, some) in
    waiting-before most (number - 1) lines new behind (waiting-later count most lines more are)

-- with one more that waits
pub waiting-append : (count : ℕ) (lines : List Run) (line : Run) → line.state ≡ Queued → AreWaiting count lines → AreWaiting count (lines ++ line ∷ [])
waiting-append zero [] line waits are = (waits, tt)
waiting-append (suc count) [] line waits are = tt
waiting-append zero (first ∷ lines) line waits are = (are.0, waiting-append zero lines line waits are.1)
waiting-append (suc count) (first ∷ lines) line waits are = waiting-append count lines line waits are

-- without the first ones
waiting-drop : (from count left : ℕ) (lines : List Run) → left ≡ count - from → AreWaiting count lines → AreWaiting left (drop from lines)
waiting-drop zero count left lines is are = (let same : count ≡ left = omega (arith, is) in subst (λ n. AreWaiting n lines) same are)
waiting-drop (suc from) count left [] is are = tt
waiting-drop (suc from) zero left (line ∷ lines) is are = waiting-drop from zero left lines (omega (arith, is)) are.1
waiting-drop (suc from) (suc count) left (line ∷ lines) is are = waiting-drop from count left lines (omega (arith, is)) are

waiting-take : (count : ℕ) (lines : List Run) → AreWaiting count lines → (test : Run → Bool) → ((line : Run) → line.state ≡ Queued → test line ≡ true) → list_all test (take count lines) ≡ list_all test lines
waiting-take zero [] are test passes = refl
waiting-take (suc count) [] are test passes = refl
waiting-take zero (line ∷ lines) are test passes = waiting-take zero lines are.1 test passes ∙ ap (λ passed. passed && list_all test lines) (sym (passes line are.0))
waiting-take (suc count) (line ∷ lines) are test passes = ap (λ passed. test line && passed) (waiting-take count lines are test passes)

-- a test that each ended run passes and each that waits is passed by all where those between pass it
pub between-all : (ended changed : ℕ) (lines : List Run) → AreEnded ended lines → AreWaiting changed lines → (test : Run → Bool) → ((line : Run) → is_over line.state ≡ true → test line ≡ true) → ((line : Run) → line.state ≡ Queued → test line ≡ true)
    → list_all test (take (changed - ended) (drop ended lines)) ≡ list_all test lines
between-all ended changed lines are wait test passes passes_too =
    waiting-take (changed - ended) (drop ended lines) (waiting-drop ended changed (changed - ended) lines refl wait) test passes_too
    ∙ ended-drop ended lines are test passes
