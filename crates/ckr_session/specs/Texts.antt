-- The text of the answers.
use Rattle.std.specs.Prelude.{ℕ, ◌+◌, ◌==◌, Bool, true, false, ◌&&◌, if◌then◌else◌, List, [], ◌∷◌, bytes_eq, Option, None, Some}
use Rattle.std.specs.List.{flat_map}
use Rattle.ckr_report.specs.Listings.{record_text}
use Rattle.ckr_report.specs.Notices.{accepted_text, deck_refused_text, line_refused_text, operator_text, purged_text, released_text}
use Rattle.ckr_report.specs.Replies.{reply_text}
use Rattle.ckr_desk.specs.Model.Reply.{Reply}
use Rattle.ckr_desk.specs.Model.Reply.TheVariants.{Worked}
use Rattle.ckr_desk.specs.Model.Layout.{Layout}
use Rattle.ckr_session.specs.declared.orders.JobChange.{JobChange}
use Rattle.ckr_session.specs.declared.orders.JobChange.TheVariants.{Purge, Release}
use Rattle.ckr_session.specs.Calls.{Answer, Accepted, DeckRefused, LineRefused, Turned, Listed, SetsListed, JobsListed, Changed, Shifted, BrokenOff}
use Rattle.ckr_session.specs.Listings.{sets_text, jobs_text}

-- ---- runs of replies

abbrev pub is_work : Reply → Bool
is_work (Worked job step taken) = true
is_work _ = false

-- the job and the step that a reply tells work of
abbrev pub work_in : Reply → Option (ℕ × List ℕ)
work_in (Worked job step taken) = Some (job, step)
work_in _ = None

abbrev pub is_same_work : Option (ℕ × List ℕ) → Option (ℕ × List ℕ) → Bool
is_same_work None other = false
is_same_work (Some one) None = false
is_same_work (Some one) (Some other) = one.0 == other.0 && bytes_eq one.1 other.1

-- whether one line tells both: they are work of one step of one job
abbrev pub goes_on : Reply → Reply → Bool
goes_on last reply = is_same_work (work_in last) (work_in reply)

-- a run of replies, the last of them and how many, before other runs
abbrev pub before_runs : Reply → ℕ → List (Reply × ℕ) → List (Reply × ℕ)
before_runs r n [] = (r, n) ∷ []
before_runs r n (next ∷ runs) = if goes_on r next.0 then (next.0, n + next.1) ∷ runs else (r, n) ∷ next ∷ runs

-- replies of work of one step in a row are one run, which ends with the last of them
abbrev pub runs_of : List Reply → List (Reply × ℕ)
runs_of [] = []
runs_of (r ∷ replies) = before_runs r 1 (runs_of replies)

-- the line for a run of replies of an initiator
abbrev pub run_text : Layout → ℕ → Reply × ℕ → List ℕ
run_text layout initiator run = reply_text layout initiator run.0 run.1

-- what is told of replies that more were to follow: the last one's line, where it may go on, isn't written
abbrev pub told_runs : List (Reply × ℕ) → List (Reply × ℕ)
told_runs [] = []
told_runs (run ∷ []) = if is_work run.0 then [] else run ∷ []
told_runs (run ∷ next ∷ runs) = run ∷ told_runs (next ∷ runs)

-- ---- answers

abbrev pub changed_text : JobChange → ℕ → List ℕ
changed_text Purge job = purged_text job
changed_text Release job = released_text job

abbrev pub answer_text : Answer → List ℕ
answer_text (Accepted number name) = accepted_text number name
answer_text (DeckRefused number card) = deck_refused_text number card
answer_text (LineRefused number) = line_refused_text number
answer_text (Turned layout initiator replies) = flat_map (run_text layout initiator) (runs_of replies)
answer_text (Listed records) = flat_map record_text records
answer_text (SetsListed layout sets) = sets_text layout sets
answer_text (JobsListed runs) = jobs_text runs
answer_text (Changed change job) = changed_text change job
answer_text (Shifted place) = operator_text place
answer_text (BrokenOff layout initiator replies) = flat_map (run_text layout initiator) (told_runs (runs_of replies))

-- the replies that wait to be told in one line, and how many they are
abbrev pub with_waiting : Option (Reply × ℕ) → List (Reply × ℕ) → List (Reply × ℕ)
with_waiting None runs = runs
with_waiting (Some run) runs = before_runs run.0 run.1 runs

abbrev pub waiting_count : Option (Reply × ℕ) → ℕ
waiting_count None = 0
waiting_count (Some run) = run.1
