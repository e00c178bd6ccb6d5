-- The lines of data sets, of jobs and of records.
use Rattle.std.specs.Prelude.{ℕ, Bool, true, false, ◌&&◌, nat_le, if◌then◌else◌, List, [], ◌∷◌, ◌++◌, map, codes, Option, None, Some}
use Rattle.std.specs.Fmt.{decimal}
use Rattle.ckr_base.specs.Words.{trimmed}
use Rattle.ckr_library.specs.NameMaps.{Name}
use Rattle.ckr_library.specs.declared.sets.DataSet.{DataSet}
use Rattle.ckr_volumes.specs.declared.layout.Layout.{Layout}
use Rattle.ckr_points.specs.declared.run.Run.{Run}
use Rattle.ckr_points.specs.declared.run.RunState.{RunState}
use Rattle.ckr_points.specs.declared.run.RunState.TheVariants.{Queued, On, Held, Released, Ended, Denied, Purged}
use Rattle.ckr_report.specs.Numbers.{initiator_text, job_text, stamp_text}
use Rattle.ckr_report.specs.Serials.{serial_of_parts}

-- ---- data sets

abbrev pub catalog_mark : Bool → ℕ
catalog_mark true = 67
catalog_mark false = 45

-- the name, the serial, and whether it is cataloged
abbrev pub head_text : Layout → Name → DataSet → List ℕ
head_text layout name set = name ++ codes " " ++ serial_of_parts layout set.parts.items ++ 32 ∷ catalog_mark set.cataloged ∷ 32 ∷ []

-- the bytes of a record, and how many records it has and has room for
abbrev pub size_text : DataSet → List ℕ
size_text set = decimal set.lrecl ++ codes " " ++ decimal set.length ++ codes "/" ++ decimal set.space

abbrev pub set_text : Layout → Name × DataSet → List ℕ
set_text layout line = head_text layout line.0 line.1 ++ size_text line.1 ++ codes " " ++ stamp_text line.1.stamp ++ 10 ∷ []

-- there are none
abbrev pub empty_library_text : List ℕ
empty_library_text = codes "LIBRARY EMPTY" ++ 10 ∷ []

-- ---- jobs

abbrev pub on_text : Option ℕ → List ℕ
on_text None = []
on_text (Some initiator) = 32 ∷ initiator_text initiator

abbrev pub state_text : RunState → Option ℕ → List ℕ
state_text Queued initiator = codes " QUEUED"
state_text On initiator = codes " ON" ++ on_text initiator
state_text Held initiator = codes " HELD"
state_text Released initiator = codes " RELEASED"
state_text Ended initiator = codes " ENDED"
state_text Denied initiator = codes " DENIED"
state_text Purged initiator = codes " PURGED"

abbrev pub job_line : Run → List ℕ
job_line run = job_text run.number ++ 32 ∷ (run.name ++ state_text run.state run.initiator ++ 10 ∷ [])

-- there are none
abbrev pub no_jobs_text : List ℕ
no_jobs_text = codes "NO JOBS" ++ 10 ∷ []

-- ---- records

-- a byte that isn't printed is shown as a question mark
abbrev pub shown : ℕ → ℕ
shown b = if nat_le 32 b && nat_le b 126 then b else 63

abbrev pub record_text : List ℕ → List ℕ
record_text bytes = 61 ∷ (map shown (trimmed bytes) ++ 10 ∷ [])
