-- The name of a job by the place of its line.
use Rattle.std.proofs.Common.{◌≡◌, ◌≢◌, ℕ, zero, suc, ◌+◌, ◌-◌, ◌==◌, false, List, [], ◌∷◌, Option, Some, None, if◌then◌else◌, refl, sym, ap, ◌∙◌, arith}
use Rattle.std.specs.Prelude.{slice_get, unwrap_or}
use Rattle.std.specs.Option.{option_map}
use Rattle.std.proofs.lemmas.Bool.Decides.{nat_tests}
use Rattle.ckr_base.proofs.Numbers.{equal-from}
use Rattle.ckr_desk.specs.Model.Lines.{AreNumberedLines}
use Rattle.ckr_desk.specs.Model.Run.{Run}
use Rattle.ckr_session.specs.Calls.{name_in}

abbrev named : Option Run → List ℕ
named found = unwrap_or (option_map (λ (line : Run). line.name) found) []

abbrev name_at : List Run → ℕ → List ℕ
name_at lines place = named (slice_get lines place)

-- each line has the number of its place, counted from one on
abbrev AreFrom : ℕ → List Run → Type 0
AreFrom first lines = (place : ℕ) (line : Run) → slice_get lines place ≡ Some line → line.number ≡ place + first

name-from : (first place : ℕ) (lines : List Run) → AreFrom first lines → name_in (place + first) lines ≡ name_at lines place
name-from first place [] are = refl
name-from first zero (line ∷ rest) are =
    ap (λ test. if test then line.name else name_in (zero + first) rest) (equal-from line.number (zero + first) (are 0 line refl))
name-from first (suc place) (line ∷ rest) are =
    ap (λ test. if test then line.name else name_in (suc place + first) rest) (other line.number first place (are 0 line refl))
    ∙ (ap (λ number. name_in number rest) (moved place first) ∙ name-from (suc first) place rest (λ at one is. are (suc at) one is ∙ moved at first))
  where
    other : (number first place : ℕ) → number ≡ 0 + first → (number == suc place + first) ≡ false
    other number first place is = grind (arith, nat_tests)

    moved : (place first : ℕ) → suc place + first ≡ place + suc first
    moved place first = omega arith

none-first : (first : ℕ) (lines : List Run) → AreFrom (suc first) lines → name_in 0 lines ≡ []
none-first first [] are = refl
none-first first (line ∷ rest) are =
    ap (λ test. if test then line.name else name_in 0 rest) (other line.number first (are 0 line refl))
    ∙ none-first (suc first) rest (λ at one is. are (suc at) one is ∙ moved at first)
  where
    other : (number first : ℕ) → number ≡ 0 + suc first → (number == 0) ≡ false
    other number first is = grind (arith, nat_tests)

    moved : (place first : ℕ) → suc place + suc first ≡ place + suc (suc first)
    moved place first = omega arith

-- the run of a number stands at its place
placed : (lines : List Run) (number : ℕ) → AreNumberedLines lines → number ≢ 0 → name_at lines (number - 1) ≡ name_in number lines
placed lines number are some =
    sym (name-from 1 (number - 1) lines (λ place one is. are place one is ∙ next place)) ∙ ap (λ n. name_in n lines) (before number some)
  where
    next : (place : ℕ) → suc place ≡ place + 1
    next place = omega arith

    before : (number : ℕ) → number ≢ 0 → number - 1 + 1 ≡ number
    before number some = omega (arith, some)

pub name_there : (lines : List Run) (number : ℕ) (line : Run) → AreNumberedLines lines → number ≢ 0 → slice_get lines (number - 1) ≡ Some line → line.name ≡ name_in number lines
name_there lines number line are some at = ap named (sym at) ∙ placed lines number are some

pub name_missing : (lines : List Run) (number : ℕ) → AreNumberedLines lines → number ≢ 0 → slice_get lines (number - 1) ≡ None → [] ≡ name_in number lines
name_missing lines number are some at = ap named (sym at) ∙ placed lines number are some

-- no run has number 0
pub name_of_none : (lines : List Run) → AreNumberedLines lines → [] ≡ name_in 0 lines
name_of_none lines are = sym (none-first 0 lines (λ place one is. are place one is ∙ next place))
  where
    next : (place : ℕ) → suc place ≡ place + suc 0
    next place = omega arith
