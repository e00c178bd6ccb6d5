-- How many data sets, rewrites and runs events can have added.
use Rattle.std.specs.Prelude.{◌≤◌, ◌<◌, ℕ, suc, List, length, sum_by}
use Rattle.std.specs.List.{AllByRecursion}
use Rattle.ckr_events.specs.declared.event.Event.{Event}
use Rattle.ckr_events.specs.declared.event.Event.TheVariants.{Started, Submitted}
use Rattle.ckr_points.specs.Restart.{Decked}
use Rattle.ckr_points.specs.Rows.{TableSet}

-- an event adds at most so many data sets, and as many rewrites to each: one for each item that a step made, and one more
abbrev pub added_by : Event → ℕ
added_by (Started job step items) = suc (length items.items)
added_by _ = 1

abbrev pub added_by_all : List Decked → ℕ
added_by_all events = sum_by (λ event. added_by event.0) events

-- only a deck that is submitted adds a run
abbrev pub decks_of : Event → ℕ
decks_of (Submitted job cards) = 1
decks_of _ = 0

abbrev pub decks_in : List Decked → ℕ
decks_in events = sum_by (λ event. decks_of event.0) events

-- the event of a deck that is submitted keeps a card
abbrev pub KeepsCards : Event → Type 0
KeepsCards (Submitted job cards) = 0 < length cards
KeepsCards _ = Unit {0}

abbrev pub KeepCards : List Decked → Type 0
KeepCards events = AllByRecursion (λ (one : Decked). KeepsCards one.0) events

-- the stamp of a data set tells at most so many rewrites
abbrev pub HasRewrites : ℕ → TableSet → Type 0
HasRewrites most table = table.set.stamp.rewrites ≤ most
