-- What becomes of a deck that is submitted, and of a run that is to be purged or released.
use Rattle.std.specs.Prelude.{ℕ, suc, Bool, nat_le, if◌then◌else◌, List, length, Option, None, Some}
use Rattle.ckr_events.specs.declared.event.Event.TheVariants.{Submitted as SubmittedEvent, Purged as PurgedEvent, Released as ReleasedEvent}
use Rattle.ckr_jcl.specs.declared.deck.Job.{Job as JobOfDeck}
use Rattle.ckr_points.specs.declared.run.RunState.TheVariants.{Held, Queued}
use Rattle.ckr_points.specs.Follows.{is_in_state, of_run}
use Rattle.ckr_points.specs.Restart.{Decked}
use Rattle.ckr_points.specs.Rows.{TablesModel}
use Rattle.ckr_desk_turn.specs.Cards.{kept_of_stored}
use Rattle.ckr_desk_turn.specs.Submissions.{submission_of}
use Rattle.ckr_desk_turn.specs.declared.submit.Submission.{Submission}
use Rattle.ckr_desk_turn.specs.declared.submit.Submission.TheVariants as Decks
use Rattle.ckr_desk_turn.specs.declared.reply.Submitted.{Submitted}
use Rattle.ckr_desk_turn.specs.declared.reply.Submitted.TheVariants.{Job, Refused}

abbrev pub next_number : TablesModel → ℕ
next_number tables = suc (length tables.runs)

-- the number that the job of an accepted deck gets: the next one, if it has at most seven digits
unfoldable pub job_number : TablesModel → Option ℕ
job_number tables = if nat_le (next_number tables) 9999999 then Some (next_number tables) else None

abbrev pub answer_by : Option ℕ → Submitted
answer_by None = Refused 0 1
answer_by (Some number) = Job number

-- the job's number, unless its deck is refused or it gets none
abbrev pub answer_to : TablesModel → Submission → Submitted
answer_to tables (Decks.Refused number card) = Refused number card
answer_to tables (Decks.Accepted deck) = answer_by (job_number tables)

-- the event of an accepted deck, whose job gets this number
abbrev pub entered : List ℕ → JobOfDeck → Option ℕ → Option Decked
entered cards deck None = None
entered cards deck (Some number) = Some (SubmittedEvent number (kept_of_stored cards), Some deck)

-- the event of a deck that becomes a job
abbrev pub call_by : TablesModel → List ℕ → Submission → Option Decked
call_by tables cards (Decks.Refused number card) = None
call_by tables cards (Decks.Accepted deck) = entered cards deck (job_number tables)

unfoldable pub submit_answer : TablesModel → List ℕ → Submitted
submit_answer tables cards = answer_to tables (submission_of cards)

unfoldable pub submit_call : TablesModel → List ℕ → Option Decked
submit_call tables cards = call_by tables cards (submission_of cards)

-- ---- purged

-- whether a run waits in the queue, so that it can be taken out
abbrev pub is_queued : TablesModel → ℕ → Bool
is_queued tables job = of_run tables job (is_in_state Queued)

abbrev pub purge_call : TablesModel → ℕ → Option Decked
purge_call tables job = if is_queued tables job then Some (PurgedEvent job, None) else None

-- ---- released

-- whether the operator holds a run, so that it can be released
abbrev pub is_held_run : TablesModel → ℕ → Bool
is_held_run tables job = of_run tables job (is_in_state Held)

abbrev pub release_call : TablesModel → ℕ → Option Decked
release_call tables job = if is_held_run tables job then Some (ReleasedEvent job, None) else None
