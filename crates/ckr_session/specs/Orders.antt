-- The commands.
use Rattle.std.specs.Prelude.{ℕ, ◌≤◌, ◌&&◌, Bool, nat_lt, nat_le, if◌then◌else◌, List, codes, bytes_eq, Option, None, Some}
use Rattle.std.specs.List.{before_first, after_first}
use Rattle.ckr_base.specs.CodeText.{code_of}
use Rattle.ckr_base.specs.Grammar.{is_ds_name}
use Rattle.ckr_base.specs.declared.code.Code.{Code}
use Rattle.ckr_desk.specs.Model.Plans.{IsAnyCode}
use Rattle.ckr_base.specs.Words.{is_blank, trimmed, plain_number}
use Rattle.ckr_session.specs.declared.orders.Order.{Order}
use Rattle.ckr_session.specs.declared.orders.JobChange.{JobChange}
use Rattle.ckr_session.specs.declared.orders.JobChange.TheVariants.{Purge, Release}
use Rattle.ckr_session.specs.declared.orders.Order.TheVariants.{Turns, ListOf, Sets, Jobs, Change, Shift, Unknown}

-- an initiator is one of so many, from 1
abbrev pub is_one_of : ℕ → ℕ → Bool
is_one_of initiators initiator = nat_lt 0 initiator && nat_le initiator initiators

-- a count of turns is from 1 to 1,000,000
abbrev pub turns_of : ℕ → Option ℕ → Option ℕ → Order
turns_of initiators None count = Unknown
turns_of initiators (Some initiator) None = Unknown
turns_of initiators (Some initiator) (Some n) =
    if is_one_of initiators initiator && (nat_lt 0 n && nat_le n 1_000_000) then Turns (record { initiator = initiator; fail = None }) n else Unknown

-- an initiator and a count, parted by a blank
abbrev pub turns_in : ℕ → List ℕ → Order
turns_in initiators text = turns_of initiators (plain_number (before_first is_blank text)) (plain_number (after_first is_blank text))

-- one turn with a code with which the running step is to fail
abbrev pub failure_of : ℕ → Option ℕ → Option Code → Order
failure_of initiators None code = Unknown
failure_of initiators (Some initiator) None = Unknown
failure_of initiators (Some initiator) (Some code) =
    if is_one_of initiators initiator then Turns (record { initiator = initiator; fail = Some code }) 1 else Unknown

-- an initiator and a code, parted by a blank
abbrev pub failure_in : ℕ → List ℕ → Order
failure_in initiators text = failure_of initiators (plain_number (before_first is_blank text)) (code_of (after_first is_blank text))

abbrev pub list_of : List ℕ → Order
list_of name = if is_ds_name name then ListOf name else Unknown

abbrev pub change_of : JobChange → Option ℕ → Order
change_of change None = Unknown
change_of change (Some job) = Change change job

-- a command without words behind it
abbrev pub order_alone : List ℕ → Order
order_alone text =
    if bytes_eq text (codes "$O") then Sets
    else if bytes_eq text (codes "$Q") then Jobs
    else if bytes_eq text (codes "$S") then Shift
    else Unknown

-- `$T i n`, `$F i code`, `$R name`, `$D n`, `$L n`, `$O`, `$Q`, `$S`, each word parted from the next by one blank; blanks behind it say nothing
abbrev pub order_by_words : ℕ → List ℕ → Order
order_by_words initiators text =
    if bytes_eq (before_first is_blank text) (codes "$T") then turns_in initiators (after_first is_blank text)
    else if bytes_eq (before_first is_blank text) (codes "$F") then failure_in initiators (after_first is_blank text)
    else if bytes_eq (before_first is_blank text) (codes "$R") then list_of (after_first is_blank text)
    else if bytes_eq (before_first is_blank text) (codes "$D") then change_of Purge (plain_number (after_first is_blank text))
    else if bytes_eq (before_first is_blank text) (codes "$L") then change_of Release (plain_number (after_first is_blank text))
    else order_alone text

abbrev pub order_of : ℕ → List ℕ → Order
order_of initiators line = order_by_words initiators (trimmed line)

-- what is known of an order besides: its initiator, its turns and its code are within their limits
abbrev pub HasFewTurns : ℕ → Order → Type 0
HasFewTurns initiators (Turns turn n) = (1 ≤ turn.initiator) × (turn.initiator ≤ initiators) × IsAnyCode turn.fail × (n ≤ 1_000_000)
HasFewTurns initiators _ = Unit {0}
