-- Which calls of a fake in memory fail.
use Rattle.std.specs.Prelude.{◌≤◌, ◌⊎◌, ℕ, List, Option, Contains, IsSomeAnd}
use Rattle.ckr_outside.specs.declared.plan.ListedCalls.{ListedCalls}
use Rattle.ckr_outside.specs.declared.plan.ListedCalls.TheVariants.{Narrow, Wide}
use Rattle.ckr_outside.specs.declared.plan.FailurePlan.{FailurePlan}

-- the numbers of the calls
abbrev pub listed_calls : ListedCalls → List ℕ
listed_calls (Narrow calls) = calls.items
listed_calls (Wide calls) = calls.items

-- these calls fail, and none was made
abbrev pub planned : ListedCalls → FailurePlan
planned failing = record { failing = failing; next = 0; faults = 0; lacks = 0 }

-- the next call fails
abbrev pub next_is_listed : FailurePlan → Type 0
next_is_listed plan = Contains (listed_calls plan.failing) plan.next

-- the next call fails, where all do from the stop on
abbrev pub next_is_due : FailurePlan → Option ℕ → Type 0
next_is_due plan stop_at = next_is_listed plan ⊎ IsSomeAnd stop_at (λ first. first ≤ plan.next)
