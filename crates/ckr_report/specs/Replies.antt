-- The lines for the replies of an initiator.
use Rattle.std.specs.Prelude.{ℕ, List, [], ◌∷◌, ◌++◌, codes, Option, None, Some}
use Rattle.std.specs.Fmt.{decimal}
use Rattle.ckr_base.specs.CodeText.{code_text}
use Rattle.ckr_volumes.specs.declared.layout.Layout.{Layout}
use Rattle.ckr_rules.specs.declared.cases.Rule.{Rule}
use Rattle.ckr_rules.specs.declared.cases.Rule.TheVariants.{A1, A2, A3, A4, A5, A6, D1, D2, D3, D4, D5, D6, D7, D8, D9, D10}
use Rattle.ckr_points_library.specs.declared.cause.Cause.{Cause}
use Rattle.ckr_points_library.specs.declared.cause.Cause.TheVariants.{Missing, Exists, WrongKind, WrongVolume, NoVolume, NoSpace, Units, MountRefused}
use Rattle.ckr_points.specs.declared.denial.Denial.{Denial}
use Rattle.ckr_points.specs.declared.denial.Seen.{Seen}
use Rattle.ckr_points.specs.declared.reply.Chkpt.{Chkpt}
use Rattle.ckr_points.specs.declared.reply.Chkpt.TheVariants.{Done, NotWritten, Suppressed}
use Rattle.ckr_points.specs.declared.reply.How.{How}
use Rattle.ckr_points.specs.declared.reply.How.TheVariants.{Completed, Abended, Allocation}
use Rattle.ckr_points.specs.declared.reply.Reply.{Reply}
use Rattle.ckr_points.specs.declared.reply.Reply.TheVariants.{Idle, NothingToFail, AwaitingReply, WaitingUnits, Selected, DeniedRestart, Started, Worked, Checkpointed, Cancelled, StepEnded, Restarted, JobHeld, JobEnded}
use Rattle.ckr_report.specs.Numbers.{initiator_text, job_text, stamp_text}
use Rattle.ckr_report.specs.Serials.{serial_of}

abbrev pub rule_text : Rule → List ℕ
rule_text A1 = codes "A1"
rule_text A2 = codes "A2"
rule_text A3 = codes "A3"
rule_text A4 = codes "A4"
rule_text A5 = codes "A5"
rule_text A6 = codes "A6"
rule_text D1 = codes "D1"
rule_text D2 = codes "D2"
rule_text D3 = codes "D3"
rule_text D4 = codes "D4"
rule_text D5 = codes "D5"
rule_text D6 = codes "D6"
rule_text D7 = codes "D7"
rule_text D8 = codes "D8"
rule_text D9 = codes "D9"
rule_text D10 = codes "D10"

abbrev pub cause_text : Layout → Cause → List ℕ
cause_text layout Missing = codes " MISSING"
cause_text layout Exists = codes " EXISTS"
cause_text layout WrongKind = codes " WRONG KIND"
cause_text layout WrongVolume = codes " WRONG VOLUME"
cause_text layout NoVolume = codes " NO VOLUME"
cause_text layout (NoSpace need free) = codes " NO SPACE NEED " ++ decimal need ++ codes " FREE " ++ decimal free
cause_text layout (Units need units) = codes " UNITS NEED " ++ decimal need ++ codes " HAVE " ++ decimal units
cause_text layout (MountRefused volume) = codes " MOUNT REFUSED " ++ serial_of layout volume

-- what stands behind `ENDED`
abbrev pub end_text : Layout → How → List ℕ
end_text layout Completed = []
end_text layout (Abended code rule) = 32 ∷ (code_text code ++ 32 ∷ rule_text rule)
end_text layout (Allocation step dd cause) = 32 ∷ (step ++ 32 ∷ (dd ++ cause_text layout cause))

-- a blank and a name, where there is one
abbrev pub name_text : Option (List ℕ) → List ℕ
name_text None = []
name_text (Some name) = 32 ∷ name

-- what was seen of a data set, where anything was
abbrev pub seen_text : List ℕ → Option Seen → List ℕ
seen_text word None = []
seen_text word (Some seen) = word ++ stamp_text seen.stamp ++ 47 ∷ decimal seen.length

-- the rule, and for some rules the name that meets it and what was seen of it
abbrev pub denial_text : Denial → List ℕ
denial_text denial = rule_text denial.rule ++ name_text denial.name ++ seen_text (codes " HAD ") denial.had ++ seen_text (codes " NOW ") denial.now

abbrev pub chkpt_code : Chkpt → List ℕ
chkpt_code Done = codes "00"
chkpt_code NotWritten = codes "08"
chkpt_code Suppressed = codes "00"

abbrev pub entry_text : Option (List ℕ) → List ℕ
entry_text None = codes " SUPPRESSED"
entry_text (Some id) = 32 ∷ id

-- where a job goes on
abbrev pub restart_text : Option (List ℕ) → ℕ → List ℕ
restart_text None taken = codes "STEP"
restart_text (Some id) taken = id ++ codes " TAKEN " ++ decimal taken ++ codes " CHKPT 04"

abbrev pub job_part : ℕ → List ℕ
job_part job = 32 ∷ job_text job

abbrev pub step_part : ℕ → List ℕ → List ℕ
step_part job step = 32 ∷ (job_text job ++ 32 ∷ step)

-- what stands behind the initiator
abbrev pub reply_part : Layout → Reply → ℕ → List ℕ
reply_part layout Idle n = codes " IDLE" ++ 10 ∷ []
reply_part layout NothingToFail n = codes " NOTHING TO FAIL" ++ 10 ∷ []
reply_part layout AwaitingReply n = codes " AWAITING REPLY" ++ 10 ∷ []
reply_part layout (WaitingUnits need free) n = codes " WAITING UNITS NEED " ++ decimal need ++ codes " FREE " ++ decimal free ++ 10 ∷ []
reply_part layout (Selected job) n = job_part job ++ codes " SELECTED" ++ 10 ∷ []
reply_part layout (DeniedRestart job denial) n = job_part job ++ codes " RESTART DENIED " ++ denial_text denial ++ 10 ∷ []
reply_part layout (Started job step) n = step_part job step ++ codes " STARTED" ++ 10 ∷ []
reply_part layout (Worked job step taken) n = step_part job step ++ codes " WORKED " ++ decimal n ++ codes " TAKEN " ++ decimal taken ++ 10 ∷ []
reply_part layout (Checkpointed job step code id) n = step_part job step ++ codes " CHKPT " ++ chkpt_code code ++ entry_text id ++ 10 ∷ []
reply_part layout (Cancelled job step) n = step_part job step ++ codes " CHKPT CANCEL" ++ 10 ∷ []
reply_part layout (StepEnded job step rc) n = step_part job step ++ codes " ENDED RC " ++ decimal rc ++ 10 ∷ []
reply_part layout (Restarted job step id taken) n = step_part job step ++ codes " RESTARTED AT " ++ restart_text id taken ++ 10 ∷ []
reply_part layout (JobHeld job) n = job_part job ++ codes " HELD" ++ 10 ∷ []
reply_part layout (JobEnded job how) n = job_part job ++ codes " ENDED" ++ end_text layout how ++ 10 ∷ []

-- the line for so many replies of an initiator in a row, of which this is the last
abbrev pub reply_text : Layout → ℕ → Reply → ℕ → List ℕ
reply_text layout initiator reply n = initiator_text initiator ++ reply_part layout reply n
