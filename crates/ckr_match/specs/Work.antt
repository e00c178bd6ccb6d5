-- What a program takes of its inputs, what it writes for it, and how it ends.
use Rattle.std.specs.Prelude.{ℕ, ◌==◌, Bool, true, false, not, if◌then◌else◌, List, [], map, filter, take, drop, length, Option, None, Some}
use Rattle.std.specs.List.{position_from}
use Rattle.ckr_base.specs.declared.code.Code.TheVariants.{User}
use Rattle.ckr_base.specs.declared.programs.Finish.{Finish}
use Rattle.ckr_base.specs.declared.programs.Finish.TheVariants.{Returned, Abend}
use Rattle.ckr_base.specs.declared.programs.Output.{Output}
use Rattle.ckr_base.specs.declared.programs.Output.TheVariants.{Main, Rejects, InPlace}
use Rattle.ckr_base.specs.declared.programs.Write.{Write}
use Rattle.ckr_jcl.specs.declared.deck.Kind.{Kind}
use Rattle.ckr_jcl.specs.declared.deck.Kind.TheVariants.{Merge, Master, Update}
use Rattle.ckr_jcl.specs.declared.deck.Parm.{Parm}
use Rattle.ckr_programs.specs.Work.{Work}
use Rattle.ckr_match.specs.InputOrder.{Taken, Keys, taken_from, is_cut, of_first, of_second}
use Rattle.ckr_match.specs.Images.{keys_of, same_key, code_of}
use Rattle.ckr_match.specs.State.{return_code}
use Rattle.ckr_match.specs.Master.{write_to, groups_of, master_writes}

-- a program with its PARM and its inputs
pub record MatchCase : Type 0 where
  pub program : Kind
  pub parm : Parm
  pub first : List (List ℕ)
  pub second : List (List ℕ)

abbrev pub case_keys : MatchCase → Keys
case_keys case = keys_of case.program case.parm

-- the records that the program takes, in order
abbrev pub taken_records : MatchCase → List Taken
taken_records case = taken_from (case_keys case) case.first case.second

-- whether no record out of order ends it
abbrev pub is_whole : MatchCase → Bool
is_whole case = not (is_cut (taken_records case))

-- the rewrite of a master's place with the image, or a reject
abbrev pub write_at : Option ℕ → List ℕ → Write
write_at None bytes = write_to Rejects bytes
write_at (Some place) bytes = write_to (InPlace place) (drop 1 bytes)

-- C (67) with the key of a master rewrites that master's place, anything else is a reject
abbrev pub update_write : Keys → List Taken → Taken → Write
update_write keys masters taken =
    write_at (if code_of taken.bytes == 67 then position_from (same_key keys taken) 0 masters else None) taken.bytes

-- what the program writes for the records taken, and where it is closed behind them
unfoldable pub match_writes : Kind → Keys → List Taken → Bool → List Write
match_writes Merge keys taken closed = map (λ one. write_to Main one.bytes) taken
match_writes Master keys taken closed = master_writes closed (groups_of keys taken)
match_writes Update keys taken closed = map (update_write keys (of_first taken)) (of_second taken)
match_writes _ keys taken closed = []

abbrev pub is_reject : Output → Bool
is_reject Rejects = true
is_reject _ = false

abbrev pub rejects_in : List Write → ℕ
rejects_in writes = length (filter (λ write. is_reject write.output) writes)

-- U0101 where a record is out of order
abbrev pub match_finish : Bool → ℕ → Finish
match_finish true rejects = Returned (return_code rejects)
match_finish false rejects = Abend (User 101)

abbrev pub work_writes : MatchCase → List Write
work_writes case = match_writes case.program (case_keys case) (taken_records case) (is_whole case)

-- the work of the program
abbrev pub work : MatchCase → Work
work case = record { writes = work_writes case; finish = match_finish (is_whole case) (rejects_in (work_writes case)) }

-- the writes for the first records taken
abbrev pub upto : MatchCase → ℕ → List Write
upto case count = match_writes case.program (case_keys case) (take count (taken_records case)) false

-- the work without the writes for the first records taken
abbrev pub rest : MatchCase → ℕ → List Write
rest case count = drop (length (upto case count)) (work_writes case)
