-- The queue of jobs: the runs that have neither ended nor been purged, in the order of their numbers.
use Rattle.std.specs.Prelude.{◌≡◌, ℕ, ◌==◌, ◌&&◌, nat_lt, Bool, true, false, not, if◌then◌else◌, List, [], ◌∷◌, find, Option, None, Some, IfSome, IsTrue}
use Rattle.std.specs.List.{list_any, list_all}
use Rattle.std.specs.Option.{option_map}
use Rattle.ckr_library.specs.declared.uses.Use.{Use}
use Rattle.ckr_uses.specs.Uses.{holds}
use Rattle.ckr_queue.specs.declared.entry.QueueEntry.{QueueEntry}
use Rattle.ckr_queue.specs.declared.entry.QueueState.{QueueState}
use Rattle.ckr_queue.specs.declared.entry.QueueState.TheVariants.{Queued, Selected, Held, Released}
use Rattle.ckr_queue.specs.declared.entry.Selection.{Selection}
use Rattle.ckr_queue.specs.declared.entry.Selection.TheVariants.{Job, Idle}

-- the runs in the order of their numbers, and how many more fit with no memory taken
pub record RoomyQueue : Type 0 where
  pub entries : List QueueEntry
  pub room : ℕ

-- ---- the entries

abbrev pub is_of : ℕ → QueueEntry → Bool
is_of number entry = entry.number == number

abbrev pub is_above : ℕ → QueueEntry → Bool
is_above number entry = nat_lt number entry.number

abbrev pub is_below : ℕ → QueueEntry → Bool
is_below number entry = nat_lt entry.number number

-- whether the numbers ascend, each standing once
abbrev pub rises : List QueueEntry → Bool
rises [] = true
rises (entry ∷ entries) = list_all (is_above entry.number) entries && rises entries

-- the state of the run of this number, if it is there
abbrev pub state_of : ℕ → List QueueEntry → Option QueueState
state_of number entries = option_map (λ (entry : QueueEntry). entry.state) (find (is_of number) entries)

abbrev pub queued : ℕ → List Use → QueueEntry
queued number uses = record { number = number; state = Queued; uses = uses }

-- the entries with this one at its place
abbrev pub with_entry : QueueEntry → List QueueEntry → List QueueEntry
with_entry entry [] = entry ∷ []
with_entry entry (first ∷ rest) = if is_below entry.number first then first ∷ with_entry entry rest else entry ∷ first ∷ rest

-- the entries with the run of this number in this state
abbrev pub with_state : ℕ → QueueState → List QueueEntry → List QueueEntry
with_state number state [] = []
with_state number state (first ∷ rest) = if is_of number first then record first { state = state } ∷ rest else first ∷ with_state number state rest

-- the entries without the run of this number
abbrev pub without : ℕ → List QueueEntry → List QueueEntry
without number [] = []
without number (first ∷ rest) = if is_of number first then rest else first ∷ without number rest

-- ---- selection

-- a run has its names from its selection to its end, while the operator holds it too
abbrev pub has_names : QueueState → Bool
has_names Queued = false
has_names Selected = true
has_names Held = true
has_names Released = true

-- whether a run is kept waiting by another one
abbrev pub keeps_out : QueueEntry → QueueEntry → Bool
keeps_out entry other = has_names other.state && holds entry.uses other.uses

-- a released run has its names; a queued one waits until none that it needs is held against it
abbrev pub may_start_as : QueueState → Bool → Bool
may_start_as Queued kept_out = not kept_out
may_start_as Selected kept_out = false
may_start_as Held kept_out = false
may_start_as Released kept_out = true

abbrev pub may_start : List QueueEntry → QueueEntry → Bool
may_start entries entry = may_start_as entry.state (list_any (keeps_out entry) entries)

abbrev pub selection_with : Option QueueEntry → Selection
selection_with None = Idle
selection_with (Some entry) = Job entry.number

-- the first that may start, and so the lowest
unfoldable pub selection_of : List QueueEntry → Selection
selection_of entries = selection_with (find (may_start entries) entries)

-- a queue as it is kept: in the order of the numbers, with the run that is next where that is known
pub record IsQueue (entries : List QueueEntry) (next : Option Selection) : Type 0 where
  pub rise : IsTrue (rises entries)
  pub next_is : IfSome next (λ known. known ≡ selection_of entries)

-- ---- what a call asks of a run

abbrev pub is_held : QueueState → Bool
is_held Queued = false
is_held Selected = false
is_held Held = true
is_held Released = false

abbrev pub is_queued : QueueState → Bool
is_queued Queued = true
is_queued Selected = false
is_queued Held = false
is_queued Released = false

abbrev pub passes : (QueueState → Bool) → Option QueueState → Bool
passes test None = false
passes test (Some state) = test state

-- whether the run of this number is there, in a state that passes the test
abbrev pub is_in : (QueueState → Bool) → ℕ → List QueueEntry → Bool
is_in test number entries = passes test (state_of number entries)

abbrev pub starts : List QueueEntry → Option QueueEntry → Bool
starts entries None = false
starts entries (Some entry) = may_start entries entry

-- whether the run of this number is there and may start
abbrev pub may_take : ℕ → List QueueEntry → Bool
may_take number entries = starts entries (find (is_of number) entries)

abbrev pub MayTake : List QueueEntry → Selection → Type 0
MayTake entries Idle = Unit {0}
MayTake entries (Job number) = IsTrue (may_take number entries)

-- whether a run may not start, or has no lower number
abbrev pub is_no_lower : List QueueEntry → ℕ → QueueEntry → Bool
is_no_lower entries number entry = not (nat_lt entry.number number && may_start entries entry)

-- the run is there and may start, and none of a lower number may
pub record IsLowest (entries : List QueueEntry) (number : ℕ) : Type 0 where
  pub may : IsTrue (may_take number entries)
  pub lowest : IsTrue (list_all (is_no_lower entries number) entries)
