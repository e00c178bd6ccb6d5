-- How a DD comes to its data set: it is found, made, or refused for a cause that needs no space.
use Rattle.std.specs.Prelude.{ℕ, ◌*◌, Bool, true, false, ◌||◌, if◌then◌else◌, List, [], ◌∷◌, Option, None, Some, unwrap_or, length}
use Rattle.std.specs.Option.{is_some}
use Rattle.std.specs.List.{list_any}
use Rattle.ckr_jcl.specs.declared.deck.Dd.{Dd}
use Rattle.ckr_jcl.specs.declared.deck.Role.{Role}
use Rattle.ckr_jcl.specs.declared.deck.Role.TheVariants.{Reads, Writes, Updates, Checkpoints, Unused}
use Rattle.ckr_jcl.specs.declared.deck.Status.{Status}
use Rattle.ckr_jcl.specs.declared.deck.Status.TheVariants.{New, Old, Shr, Mod}
use Rattle.ckr_library.specs.declared.sets.Content.{Content}
use Rattle.ckr_library.specs.declared.sets.Content.TheVariants.{Plain, Checkpoints as CheckpointSet}
use Rattle.ckr_library.specs.declared.sets.Stamp.{Stamp}
use Rattle.ckr_library.specs.NameMaps.{Name, Named, same_name, with_changed}
use Rattle.ckr_entry.specs.declared.point.Passed.{Passed}
use Rattle.ckr_meaning.specs.LibrarySet.{Known, SetWays}

-- the causes that need no space
pub data FlawModel : Type 0 where
  missing : FlawModel
  exists : FlawModel
  wrong_kind : FlawModel

-- what allocation says of a DD
pub data AllotmentModel : Type 0 where
  found : AllotmentModel
  made : AllotmentModel
  refused : FlawModel → AllotmentModel

abbrev pub is_passed : List Passed → Name → Bool
is_passed passed name = list_any (λ one. same_name name one.name) passed

abbrev pub is_volume_given : List Name → Bool
is_volume_given [] = false
is_volume_given (serial ∷ serials) = true

-- whether a data set is found: it is in the library, and it was passed to the run, is cataloged, or is named with its volume
abbrev pub is_found : Dd → Bool → Option Known → Bool
is_found dd passed None = false
is_found dd passed (Some known) = passed || known.cataloged || is_volume_given dd.volumes.items

-- by the status: whether the library has the name, whether it is found, whether SPACE is given
abbrev pub allotment_by : Status → Bool → Bool → Bool → AllotmentModel
allotment_by New there here space = if there then refused exists else made
allotment_by Old there here space = if here then found else refused missing
allotment_by Shr there here space = if here then found else refused missing
allotment_by Mod there here space =
    if here then found else (if there then refused exists else (if space then made else refused missing))

-- a program's records and checkpoint entries don't stand in one data set
abbrev pub is_wrong_kind : Role → Content → Bool
is_wrong_kind Reads Plain = false
is_wrong_kind Reads CheckpointSet = true
is_wrong_kind Writes Plain = false
is_wrong_kind Writes CheckpointSet = true
is_wrong_kind Updates Plain = false
is_wrong_kind Updates CheckpointSet = true
is_wrong_kind Checkpoints Plain = true
is_wrong_kind Checkpoints CheckpointSet = false
is_wrong_kind Unused content = false

-- what is found has the kind that the role asks for
abbrev pub with_kind : Role → Option Known → AllotmentModel → AllotmentModel
with_kind role (Some known) found = if is_wrong_kind role known.content then refused wrong_kind else found
with_kind role None found = found
with_kind role known made = made
with_kind role known (refused flaw) = refused flaw

-- what allocation says of a DD, by whether its name was passed to the run and by what the library has under it
abbrev pub allotment_of : Dd → Bool → Option Known → AllotmentModel
allotment_of dd passed known =
    with_kind dd.role known (allotment_by dd.disp.status (is_some known) (is_found dd passed known) (is_some dd.space))

-- a DD that has a data set: its number in the step, its name, and what allocation says of it
pub record DdAllotment : Type 0 where
  pub dd : Dd
  pub number : ℕ
  pub name : Name
  pub allotment : AllotmentModel

abbrev pub is_made : AllotmentModel → Bool
is_made found = false
is_made made = true
is_made (refused flaw) = false

-- whether a step puts records into the data set: its outputs and its checkpoint data set
abbrev pub is_output : Role → Bool
is_output Reads = false
is_output Writes = true
is_output Updates = false
is_output Checkpoints = true
is_output Unused = false

abbrev pub content_for : Role → Content
content_for Reads = Plain
content_for Writes = Plain
content_for Updates = Plain
content_for Checkpoints = CheckpointSet
content_for Unused = Plain

-- a data set has a part for each serial, and one where VOL isn't given
abbrev pub parts_for : List Name → ℕ
parts_for [] = 1
parts_for (serial ∷ serials) = length (serial ∷ serials)

-- the whole space that a DD asks for: SPACE is the quantity of each part
abbrev pub space_for : Dd → ℕ
space_for dd = unwrap_or dd.space 0 * parts_for dd.volumes.items

-- an output that is found, as the step opens it: with OLD it is emptied, with MOD it stays, and each gets the stamp
abbrev pub opened_by : {X : Type 0} → SetWays X → Stamp → Status → X → X
opened_by ways stamp New set = ways.stamped stamp set
opened_by ways stamp Old set = ways.stamped stamp (ways.emptied set)
opened_by ways stamp Shr set = ways.stamped stamp set
opened_by ways stamp Mod set = ways.stamped stamp set

abbrev pub opened_one : {X : Type 0} → SetWays X → Stamp → DdAllotment → AllotmentModel → Bool → Named X → Named X
opened_one ways stamp placed found true sets = with_changed placed.name (opened_by ways stamp placed.dd.disp.status) sets
opened_one ways stamp placed found false sets = sets
opened_one ways stamp placed made output sets = sets
opened_one ways stamp placed (refused flaw) output sets = sets

-- the data sets as a step opens them for output
abbrev pub opened_all : {X : Type 0} → SetWays X → Stamp → List DdAllotment → Named X → Named X
opened_all ways stamp [] sets = sets
opened_all ways stamp (placed ∷ rest) sets =
    opened_all ways stamp rest (opened_one ways stamp placed placed.allotment (is_output placed.dd.role) sets)
