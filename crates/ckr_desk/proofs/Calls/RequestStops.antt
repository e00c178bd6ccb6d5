-- What a stop leaves of a call that is one event with its deck, or none, where nothing was done.
use Rattle.std.proofs.Common.{◌≡◌, ℕ, List, Option, Some, None, Result, Ok, Err, OnOk}
use Rattle.ckr_outside.specs.Disk.{EachSince}
use Rattle.ckr_outside.specs.Moments.{started}
use Rattle.ckr_points.specs.Restart.{Decked}
use Rattle.ckr_desk_store.specs.State.{IsSound}
use Rattle.ckr_desk.proofs.Calls.Stops.{nothing-left}
use Rattle.ckr_desk.specs.State.{DeskView}
use Rattle.ckr_desk.specs.Calls.{IsLeftByCall}

-- what holds whatever was answered
pub on-ok-now : {T E : Type 0} {P : Type 0} (result : Result T E) → P → OnOk result P
on-ok-now (Ok x) is = is
on-ok-now (Err error) is = tt

module _ {D : Type 0} (told : Type 0) (content : D → List ℕ) (may_leave : D → List ℕ → Type 0) (moment : D → ℕ) (left_since : D → ℕ → List ℕ → Type 0) (size : D → ℕ) where
  pub call-left : (call : Option Decked) (old : DeskView D) → IsSound content may_leave size old.store → old.store.fault ≡ None → ((image : List ℕ) → left_since old.store.disk (moment old.store.disk) image → may_leave old.store.disk image)
      → EachSince moment left_since old.store.disk old.store.disk (IsLeftByCall content may_leave size call old)
  call-left None old sound is_open only = started moment left_since old.store.disk (may_leave old.store.disk) only
  call-left (Some call) old sound is_open only = nothing-left told content may_leave moment left_since size call.0 call.1 old sound is_open only
