-- A unit takes at most one record.
use Rattle.std.proofs.Common.{◌≡◌, ◌⊎◌, inl, inr, ◌+◌, ℕ, Bool, true, false, cond, List, refl, Option, None, Some, arith}
use Rattle.ckr_base.specs.declared.programs.Heads.{Heads}
use Rattle.ckr_entry.specs.declared.point.State.{State}
use Rattle.ckr_entry.specs.declared.point.State.TheVariants.{Plain, Matched}
use Rattle.ckr_jcl.specs.declared.deck.Parm.{Parm}
use Rattle.ckr_match.specs.Images.{keys_of}
use Rattle.ckr_match.specs.Steps as matched_steps
use Rattle.ckr_match.specs.InputOrder.{Taken, chosen}
use Rattle.ckr_programs.specs.Records.{can_take}
use Rattle.ckr_programs.specs.Steps as plain_steps
use Rattle.ckr_programs.specs.declared.state.ProgState.{ProgState}
use Rattle.ckr_steps.specs.Units.{state_of, taken_of}

-- as many as before, or one more
abbrev pub TakesAtMostOne : State → State → Type 0
TakesAtMostOne old new = (taken_of new ≡ taken_of old) ⊎ (taken_of new ≡ taken_of old + 1)

pub takes-at-most-one : (parm : Parm) (state : State) (heads : Heads) → TakesAtMostOne state (state_of parm state heads)
unfolding state_of plain_steps.state_of matched_steps.state_of
takes-at-most-one parm (Plain state) heads = by heads.first
  where
    by_take : (can : Bool) (next : ProgState) → next.first ≡ state.first + 1 → next.second ≡ state.second → TakesAtMostOne (Plain state) (Plain (cond can next state))
    by_take true next more same = inr (omega (arith, more, same))
    by_take false next more same = inl refl

    by : (head : Option (List ℕ)) → TakesAtMostOne (Plain state) (Plain (plain_steps.state_of parm state head))
    by None = inl refl
    by (Some bytes) = by_take (can_take state.kind parm bytes) _ refl refl
takes-at-most-one parm (Matched state) heads = by (chosen (keys_of state.kind parm) heads.first heads.second)
  where
    by_next : (is second : Bool) (key : List ℕ) (next : Taken) → TakesAtMostOne (Matched state) (Matched (cond is (matched_steps.counted second key (matched_steps.step_of state.kind parm state next.second next.bytes) state) state))
    by_next true true key next = inr (omega arith)
    by_next true false key next = inr (omega arith)
    by_next false second key next = inl refl

    by : (next : Option Taken) → TakesAtMostOne (Matched state) (Matched (matched_steps.state_behind parm state next))
    by None = inl refl
    by (Some next) = by_next (matched_steps.is_next state next.second (matched_steps.key_at parm state next.second next.bytes)) next.second (matched_steps.key_at parm state next.second next.bytes) next
