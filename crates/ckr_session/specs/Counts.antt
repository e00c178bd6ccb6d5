-- What a stream comes to in numbers.
use Rattle.std.specs.Prelude.{ℕ, ◌+◌, ◌-◌, ◌^◌, min, List, [], ◌∷◌}
use Rattle.ckr_cards.specs.Session.{Handed}
use Rattle.ckr_library.specs.declared.sets.Content.{Content}
use Rattle.ckr_library.specs.declared.sets.Content.TheVariants.{Plain, Checkpoints}
use Rattle.ckr_library.specs.declared.sets.DataSet.{DataSet}
use Rattle.ckr_library.specs.NameMaps.{Name}
use Rattle.ckr_report.specs.Notices.{totals_text}
use Rattle.ckr_desk.specs.Model.Listing.{listed}
use Rattle.ckr_desk.specs.State.{RoomyDesk}
use Rattle.ckr_session.specs.declared.counts.Counts.{Counts}
use Rattle.ckr_session.specs.declared.tally.Tally.{Tally}
use Rattle.ckr_session.specs.Calls.{after_all, calls}
use Rattle.ckr_session.specs.Staff.{StaffedDesk}
use Rattle.ckr_session.specs.Tallies.{no_tally, with_answers}

-- so many records more, up to the greatest `u64`, where they are records of programs
abbrev pub with_length : Content → ℕ → ℕ → ℕ
with_length Plain count records = min (count + records) (2 ^ 64 - 1)
with_length Checkpoints count records = count

abbrev pub with_set : ℕ → DataSet → ℕ
with_set count set = with_length set.content count set.length

-- and those of these data sets
abbrev pub records_behind : ℕ → List (Name × DataSet) → ℕ
records_behind count [] = count
records_behind count (line ∷ rest) = records_behind (with_set count line.1) rest

abbrev pub counts_of : Tally → RoomyDesk → Counts
counts_of tally state = record { jobs = tally.completed; records = records_behind 0 (listed state.desk); restarts = tally.restarts }

-- what requests come to that are served from a state of the desk: what is counted of the answers, and the records of the library behind them
abbrev pub counts_behind : StaffedDesk → List Handed → Counts
counts_behind state requests = counts_of (with_answers no_tally (calls state requests)) (after_all state requests).attended.state

-- the line that tells it
abbrev pub made_text : Counts → List ℕ
made_text counts = totals_text counts.jobs counts.records counts.restarts
