-- A step that runs without a stop: what it opens, makes and writes, how it ends, and what its dispositions leave.
use Rattle.std.specs.Prelude.{ℕ, ◌+◌, ◌-◌, ◌==◌, Bool, false, ◌&&◌, not, if◌then◌else◌, List, [], ◌∷◌, ◌++◌, take, length, filter, find, slice_get, slice_set, codes, Option, None, Some, option_and_then}
use Rattle.std.specs.Option.{option_map_or}
use Rattle.ckr_base.specs.declared.programs.Finish.{Finish}
use Rattle.ckr_base.specs.declared.programs.Output.{Output}
use Rattle.ckr_base.specs.declared.programs.Output.TheVariants.{Main, Rejects, InPlace}
use Rattle.ckr_base.specs.declared.programs.Write.{Write}
use Rattle.ckr_base.specs.Columns.{fitted}
use Rattle.ckr_jcl.specs.declared.deck.Dd.{Dd}
use Rattle.ckr_jcl.specs.declared.deck.Kind.{Kind}
use Rattle.ckr_jcl.specs.declared.deck.Origin.{Origin}
use Rattle.ckr_jcl.specs.declared.deck.Origin.TheVariants.{InStream}
use Rattle.ckr_jcl.specs.Programs.{names_read, names_written, names_updated}
use Rattle.ckr_library.specs.declared.sets.Stamp.{Stamp}
use Rattle.ckr_library.specs.NameMaps.{Name, same_name, entry_at, with_entry, with_changed}
use Rattle.ckr_programs.specs.Work.{Work}
use Rattle.ckr_meaning.specs.LibrarySet.{LibrarySet, Library, record_ways}
use Rattle.ckr_meaning.specs.Dispositions.{Stock, disposed_all}
use Rattle.ckr_meaning.specs.Allotments.{AllotmentModel, found, made, refused, FlawModel, DdAllotment, opened_all, content_for, space_for}
use Rattle.ckr_meaning.specs.EffectiveJob.{OwnedStep, stamp_of, name_of, placed_in, disposals_of, flaws_in}
use Rattle.ckr_meaning.specs.Program.{ProgramCase, OutputRoom, work, work_within}

-- a step as it is about to start: the root of its run, the step with its number, the library with the passed list, and the names
-- that earlier steps of the job made
pub record StepStart : Type 0 where
  pub root : ℕ
  pub owned : OwnedStep
  pub number : ℕ
  pub standing : Stock LibrarySet
  pub earlier : List Name

-- what allocation says of the step's DDs
unfoldable pub placed_at : StepStart → List DdAllotment
placed_at start = placed_in record_ways start.standing start.root start.owned

abbrev pub stamp_at : StepStart → Stamp
stamp_at start = stamp_of start.owned start.number

-- the library with the step's outputs opened
unfoldable pub opened_at : StepStart → Library
opened_at start = opened_all record_ways (stamp_at start) (placed_at start) start.standing.sets

-- a data set as a DD makes it
abbrev pub fresh_set : Stamp → Dd → LibrarySet
fresh_set stamp dd = record {
  cataloged = false;
  lrecl = dd.lrecl;
  space = space_for dd;
  content = content_for dd.role;
  stamp = stamp;
  records = [];
}

abbrev pub made_one : Stamp → DdAllotment → AllotmentModel → Library → Library
made_one stamp placed found library = library
made_one stamp placed made library = with_entry placed.name (fresh_set stamp placed.dd) library
made_one stamp placed (refused flaw) library = library

abbrev pub made_all : Stamp → List DdAllotment → Library → Library
made_all stamp [] library = library
made_all stamp (placed ∷ rest) library = made_all stamp rest (made_one stamp placed placed.allotment library)

-- the library with the step's new data sets made
unfoldable pub made_at : StepStart → Library
made_at start = made_all (stamp_at start) (placed_at start) (opened_at start)

-- ---- the program's data sets

-- the DD of that name in a step
abbrev pub dd_named : OwnedStep → Name → Option Dd
dd_named owned name = find (λ dd. same_name name dd.name) owned.step.dds

-- the data set of a DD, by the DD's name
abbrev pub set_name : StepStart → Name → Option Name
set_name start name = option_and_then (name_of start.root start.owned) (dd_named start.owned name)

abbrev pub set_records : LibrarySet → List (List ℕ)
set_records set = set.records

-- the records in a DD: those in the deck, or those of its data set
abbrev pub records_of_origin : Library → Origin → Option Name → List (List ℕ)
records_of_origin library (InStream cards) name = cards
records_of_origin library _ name = option_map_or set_records (option_and_then (entry_at library) name) []

abbrev pub records_in : StepStart → Library → Dd → List (List ℕ)
records_in start library dd = records_of_origin library dd.origin (name_of start.root start.owned dd)

-- the DDs of a program's inputs; what it updates comes first
abbrev pub input_names : Kind → List Name
input_names program = names_updated program ++ names_read program

abbrev pub input_at : StepStart → Library → ℕ → List (List ℕ)
input_at start library place =
    option_map_or (records_in start library) (option_and_then (dd_named start.owned) (slice_get (input_names start.owned.step.program) place)) []

-- the program with its inputs as they stand when the step's data sets are made
unfoldable pub case_at : StepStart → ProgramCase
case_at start =
    let library = made_at start in
    record {
      program = start.owned.step.program;
      parm = start.owned.step.parm;
      first = input_at start library 0;
      second = input_at start library 1;
    }

abbrev pub rejects_dd : Name
rejects_dd = codes "REJECTS"

-- the DDs of a program's output: those that it writes, REJECTS apart
abbrev pub main_names : Kind → List Name
main_names program = filter (λ name. not (same_name rejects_dd name)) (names_written program)

-- the DD to which a program's write goes
abbrev pub output_dd : Kind → Output → Option Name
output_dd program Main = slice_get (main_names program) 0
output_dd program Rejects = Some rejects_dd
output_dd program (InPlace place) = slice_get (names_updated program) 0

-- the data set to which a write goes
unfoldable pub output_name : StepStart → Output → Option Name
output_name start output = option_and_then (set_name start) (output_dd start.owned.step.program output)

abbrev pub room_of : LibrarySet → ℕ
room_of set = set.space - length set.records

abbrev pub room_in : Library → Option Name → ℕ
room_in library name = option_map_or room_of (option_and_then (entry_at library) name) 0

-- the room of the outputs when the step's data sets are made
unfoldable pub room_at : StepStart → OutputRoom
room_at start = let library = made_at start in
    record { main = room_in library (output_name start Main); rejects = room_in library (output_name start Rejects) }

-- what the step writes in the room of its outputs, and how its program ends
unfoldable pub work_at : StepStart → Work
work_at start = work_within (room_at start) (work (case_at start))

-- ---- the writes

-- a data set with a record behind its last one, cut or filled to the record length
abbrev pub extended : List ℕ → LibrarySet → LibrarySet
extended image set = record set { records = set.records ++ fitted set.lrecl image ∷ [] }

-- after a rewrite by step `step` of run `owner`: one rewrite more of this step, or its first
abbrev pub rewritten_stamp : ℕ → ℕ → Stamp → Stamp
rewritten_stamp owner step stamp =
    if stamp.run == owner && stamp.step == step
    then record stamp { rewrites = stamp.rewrites + 1 }
    else record { run = owner; step = step; rewrites = 1 }

-- a data set with a record rewritten in place
abbrev pub rewritten : ℕ → ℕ → ℕ → List ℕ → LibrarySet → LibrarySet
rewritten owner step place image set = record set {
  records = slice_set set.records place (fitted set.lrecl image);
  stamp = rewritten_stamp owner step set.stamp;
}

-- what a write makes of its data set
abbrev pub written_set : StepStart → Output → List ℕ → LibrarySet → LibrarySet
written_set start Main image set = extended image set
written_set start Rejects image set = extended image set
written_set start (InPlace place) image set = rewritten start.owned.owner start.number place image set

abbrev pub changed_in : Option Name → (LibrarySet → LibrarySet) → Library → Library
changed_in None change library = library
changed_in (Some name) change library = with_changed name change library

-- the library with a write of the step done
unfoldable pub written_one : StepStart → Write → Library → Library
written_one start write library = changed_in (output_name start write.output) (written_set start write.output write.image) library

-- the library with these writes done, in order
abbrev pub written_all : StepStart → List Write → Library → Library
written_all start [] library = library
written_all start (write ∷ writes) library = written_all start writes (written_one start write library)

-- the library after the first writes of the step's work
unfoldable pub within_at : StepStart → ℕ → Library
within_at start writes = written_all start (take writes (work_at start).writes) (made_at start)

-- ---- the end

-- the library and the passed list after the step's dispositions, of a normal or an abnormal end
unfoldable pub disposed_at : StepStart → Bool → Library → Stock LibrarySet
disposed_at start abnormal library =
    disposed_all record_ways (disposals_of start.earlier abnormal (placed_at start)) (record { sets = library; passed = start.standing.passed })

-- how a step ends: it isn't started, for a cause at the DD of this number, or its program ends
pub data StepEnd : Type 0 where
  not_started : ℕ × FlawModel → StepEnd
  ended : Finish → StepEnd

abbrev pub end_by : List (ℕ × FlawModel) → Finish → StepEnd
end_by [] finish = ended finish
end_by (first ∷ others) finish = not_started first

unfoldable pub end_at : StepStart → StepEnd
end_at start = end_by (flaws_in (placed_at start)) (work_at start).finish
