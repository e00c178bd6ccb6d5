-- The runs of the tables as the queue has them.
use Rattle.std.specs.Prelude.{◌≡◌, ℕ, suc, List, [], ◌∷◌, Option, None, Some}
use Rattle.std.specs.Option.{option_map}
use Rattle.std.specs.List.{filter_map}
use Rattle.ckr_uses.specs.Uses.{uses_of}
use Rattle.ckr_events.specs.declared.event.Event.{Event}
use Rattle.ckr_events.specs.declared.event.Event.TheVariants.{Submitted, Selected, Denied as DeniedEvent, Restarted, Held as HeldEvent, Released as ReleasedEvent, Ended as EndedEvent, Purged as PurgedEvent}
use Rattle.ckr_jcl.specs.declared.deck.Job.{Job as Deck}
use Rattle.ckr_queue.specs.declared.entry.QueueEntry.{QueueEntry}
use Rattle.ckr_queue.specs.declared.entry.QueueState.{QueueState}
use Rattle.ckr_queue.specs.declared.entry.QueueState.TheVariants as InQueue
use Rattle.ckr_queue.specs.declared.entry.Selection.{Selection}
use Rattle.ckr_queue.specs.declared.entry.Selection.TheVariants.{Job, Idle}
use Rattle.ckr_queue.specs.Queue.{queued, with_entry, with_state, without}
use Rattle.ckr_points.specs.declared.run.RunState.{RunState}
use Rattle.ckr_points.specs.declared.run.RunState.TheVariants.{Queued, On, Held, Released, Ended, Denied, Purged}
use Rattle.ckr_points.specs.Rows.{RunRow, TablesModel}

-- a run that has ended, was denied or was purged isn't in the queue
abbrev pub queue_state : RunState → Option QueueState
queue_state Queued = Some InQueue.Queued
queue_state On = Some InQueue.Selected
queue_state Held = Some InQueue.Held
queue_state Released = Some InQueue.Released
queue_state Ended = None
queue_state Denied = None
queue_state Purged = None

abbrev pub entry_with : RunRow → QueueState → QueueEntry
entry_with row state = record { number = row.number; state = state; uses = uses_of row.number row.deck }

abbrev pub entry_of : RunRow → Option QueueEntry
entry_of row = option_map (entry_with row) (queue_state row.state)

-- the queue that the tables stand for
abbrev pub queue_of : TablesModel → List QueueEntry
queue_of tables = filter_map entry_of tables.runs

-- what is selected where this run comes next, or none
abbrev pub selection_for : Option RunRow → Selection
selection_for None = Idle
selection_for (Some row) = Job row.number

-- the runs are numbered in their order, from this number on
abbrev pub AreNumbered : ℕ → List RunRow → Type 0
AreNumbered number [] = Unit {0}
AreNumbered number (row ∷ rows) = (row.number ≡ number) × AreNumbered (suc number) rows

-- the queue behind an event; the deck is given for one that is submitted
abbrev pub queue_behind : Event → Option Deck → List QueueEntry → List QueueEntry
queue_behind (Submitted job cards) (Some deck) queue = with_entry (queued job (uses_of job deck)) queue
queue_behind (Submitted job cards) None queue = queue
queue_behind (Selected job initiator earlier step id) deck queue = with_state job InQueue.Selected queue
queue_behind (DeniedEvent job rule name) deck queue = without job queue
queue_behind (Restarted job initiator code checkpoint) deck queue = with_state job InQueue.Selected queue
queue_behind (HeldEvent job code writes lengths) deck queue = with_state job InQueue.Held queue
queue_behind (ReleasedEvent job) deck queue = with_state job InQueue.Released queue
queue_behind (EndedEvent job ending) deck queue = without job queue
queue_behind (PurgedEvent job) deck queue = without job queue
queue_behind _ deck queue = queue
