-- Records are cut or filled to the record length of their data set, whatever writes them.
use Rattle.std.proofs.Common.{◌≡◌, ℕ, Bool, true, false, List, [], ◌∷◌, take, length, Option, Some, None}
use Rattle.std.proofs.lemmas.List.Elements.{All-nil, All-push, All-set}
use Rattle.ckr_base.specs.declared.programs.Output.{Output}
use Rattle.ckr_base.specs.declared.programs.Output.TheVariants.{Main, Rejects, InPlace}
use Rattle.ckr_base.specs.declared.programs.Write.{Write}
use Rattle.ckr_base.proofs.Sequences.{length-fitted}
use Rattle.ckr_base.specs.Columns.{fitted}
use Rattle.ckr_jcl.specs.declared.deck.After.{After}
use Rattle.ckr_jcl.specs.declared.deck.After.TheVariants.{Delete, Keep, Pass, Catlg, Uncatlg}
use Rattle.ckr_jcl.specs.declared.deck.Status.{Status}
use Rattle.ckr_jcl.specs.declared.deck.Status.TheVariants.{New, Old, Shr, Mod}
use Rattle.ckr_library.specs.declared.sets.Stamp.{Stamp}
use Rattle.ckr_library.specs.NameMaps.{Name}
use Rattle.ckr_library.proofs.Named.{each-with_changed, each-with_entry, each-without_entry}
use Rattle.ckr_meaning.specs.declared.place.Place.{Place}
use Rattle.ckr_meaning.specs.LibrarySet.{LibrarySet, Library, HasRecordLength, HasRecordLengths, record_ways}
use Rattle.ckr_meaning.specs.Allotments.{AllotmentModel, found, made, refused, DdAllotment, opened_by, opened_one, opened_all, is_output}
use Rattle.ckr_meaning.specs.Dispositions.{Disposal, Stock, sets_after, disposed_one, disposed_all}
use Rattle.ckr_meaning.specs.EffectiveJob.{OwnedStep, Effective, disposals_of}
use Rattle.ckr_meaning.specs.StepRun.{StepStart, placed_at, stamp_at, opened_at, fresh_set, made_one, made_all, made_at, output_name, extended, written_set, changed_in, written_one, written_all, work_at, within_at, disposed_at}
use Rattle.ckr_meaning.specs.JobRun.{at, job_run}
use Rattle.ckr_meaning.proofs.SetProperties.{EachFine, at_holds, job_run_holds}

abbrev lengths : LibrarySet → Type 0
lengths set = HasRecordLength set

opened_by-lengths : (stamp : Stamp) (status : Status) (set : LibrarySet) → lengths set → lengths (opened_by record_ways stamp status set)
opened_by-lengths stamp New set whole = whole
opened_by-lengths stamp Old set whole = All-nil (λ image. length image ≡ set.lrecl)
opened_by-lengths stamp Shr set whole = whole
opened_by-lengths stamp Mod set whole = whole

opened_one-lengths : (stamp : Stamp) (placed : DdAllotment) (allotment : AllotmentModel) (output : Bool) (library : Library) → HasRecordLengths library → HasRecordLengths (opened_one record_ways stamp placed allotment output library)
opened_one-lengths stamp placed found true library whole =
    each-with_changed HasRecordLength placed.name (opened_by record_ways stamp placed.dd.disp.status) library (opened_by-lengths stamp placed.dd.disp.status) whole
opened_one-lengths stamp placed found false library whole = whole
opened_one-lengths stamp placed made output library whole = whole
opened_one-lengths stamp placed (refused flaw) output library whole = whole

opened_all-lengths : (stamp : Stamp) (all : List DdAllotment) (library : Library) → HasRecordLengths library → HasRecordLengths (opened_all record_ways stamp all library)
opened_all-lengths stamp [] library whole = whole
opened_all-lengths stamp (placed ∷ rest) library whole =
    opened_all-lengths stamp rest _ (opened_one-lengths stamp placed placed.allotment (is_output placed.dd.role) library whole)

made_one-lengths : (stamp : Stamp) (placed : DdAllotment) (allotment : AllotmentModel) (library : Library) → HasRecordLengths library → HasRecordLengths (made_one stamp placed allotment library)
made_one-lengths stamp placed found library whole = whole
made_one-lengths stamp placed made library whole =
    each-with_entry HasRecordLength placed.name (fresh_set stamp placed.dd) library (All-nil (λ image. length image ≡ placed.dd.lrecl)) whole
made_one-lengths stamp placed (refused flaw) library whole = whole

made_all-lengths : (stamp : Stamp) (all : List DdAllotment) (library : Library) → HasRecordLengths library → HasRecordLengths (made_all stamp all library)
made_all-lengths stamp [] library whole = whole
made_all-lengths stamp (placed ∷ rest) library whole =
    made_all-lengths stamp rest _ (made_one-lengths stamp placed placed.allotment library whole)

opened_at-lengths : (start : StepStart) → HasRecordLengths start.standing.sets → HasRecordLengths (opened_at start)
unfolding opened_at
opened_at-lengths start whole = opened_all-lengths (stamp_at start) (placed_at start) start.standing.sets whole

made_at-lengths : (start : StepStart) → HasRecordLengths start.standing.sets → HasRecordLengths (made_at start)
unfolding made_at
made_at-lengths start whole = made_all-lengths (stamp_at start) (placed_at start) (opened_at start) (opened_at-lengths start whole)

extended-lengths : (image : List ℕ) (set : LibrarySet) → lengths set → lengths (extended image set)
extended-lengths image set whole =
    All-push (λ one. length one ≡ set.lrecl) set.records (fitted set.lrecl image) whole (length-fitted image set.lrecl)

-- a write keeps what holds of lengths, since its record is cut or filled
pub written_set-lengths : (start : StepStart) (output : Output) (image : List ℕ) (set : LibrarySet) → HasRecordLength set → HasRecordLength (written_set start output image set)
written_set-lengths start Main image set whole = extended-lengths image set whole
written_set-lengths start Rejects image set whole = extended-lengths image set whole
written_set-lengths start (InPlace place) image set whole =
    All-set (λ one. length one ≡ set.lrecl) set.records place (fitted set.lrecl image) (length-fitted image set.lrecl) whole

changed_in-lengths : (name : Option Name) (change : LibrarySet → LibrarySet) (library : Library) → ((set : LibrarySet) → lengths set → lengths (change set)) → HasRecordLengths library → HasRecordLengths (changed_in name change library)
changed_in-lengths None change library keeps whole = whole
changed_in-lengths (Some name) change library keeps whole = each-with_changed HasRecordLength name change library keeps whole

written_one-lengths : (start : StepStart) (write : Write) (library : Library) → HasRecordLengths library → HasRecordLengths (written_one start write library)
unfolding written_one
written_one-lengths start write library whole =
    changed_in-lengths (output_name start write.output) (written_set start write.output write.image) library (written_set-lengths start write.output write.image) whole

written_all-lengths : (start : StepStart) (writes : List Write) (library : Library) → HasRecordLengths library → HasRecordLengths (written_all start writes library)
written_all-lengths start [] library whole = whole
written_all-lengths start (write ∷ writes) library whole =
    written_all-lengths start writes (written_one start write library) (written_one-lengths start write library whole)

pub within_at-lengths : (start : StepStart) (writes : ℕ) → HasRecordLengths start.standing.sets → HasRecordLengths (within_at start writes)
unfolding within_at
within_at-lengths start writes whole =
    written_all-lengths start (take writes (work_at start).writes) (made_at start) (made_at-lengths start whole)

sets_after-lengths : (after : After) (name : Name) (library : Library) → HasRecordLengths library → HasRecordLengths (sets_after record_ways after name library)
sets_after-lengths Delete name library whole = each-without_entry HasRecordLength name library whole
sets_after-lengths Keep name library whole = whole
sets_after-lengths Pass name library whole = whole
sets_after-lengths Catlg name library whole =
    each-with_changed HasRecordLength name (record_ways.marked true) library (λ set whole. whole) whole
sets_after-lengths Uncatlg name library whole =
    each-with_changed HasRecordLength name (record_ways.marked false) library (λ set whole. whole) whole

disposed_all-lengths : (disposals : List Disposal) (standing : Stock LibrarySet) → HasRecordLengths standing.sets → HasRecordLengths (disposed_all record_ways disposals standing).sets
disposed_all-lengths [] standing whole = whole
disposed_all-lengths (disposal ∷ rest) standing whole =
    disposed_all-lengths rest (disposed_one record_ways disposal standing) (sets_after-lengths disposal.after disposal.name standing.sets whole)

pub disposed_at-lengths : (start : StepStart) (abnormal : Bool) (library : Library) → HasRecordLengths library → HasRecordLengths (disposed_at start abnormal library).sets
unfolding disposed_at
disposed_at-lengths start abnormal library whole =
    disposed_all-lengths (disposals_of start.earlier abnormal (placed_at start)) (record { sets = library; passed = start.standing.passed }) whole

-- every step will do
abbrev Any : ℕ → OwnedStep → Type 0
Any root owned = Unit {0}

each_any : (root : ℕ) (steps : List OwnedStep) → EachFine HasRecordLength Any (λ start fine. opened_at-lengths start) (λ start fine. within_at-lengths start) disposed_at-lengths root steps
each_any root [] = tt
each_any root (owned ∷ rest) = (tt, each_any root rest)

pub at-lengths : (job : Effective) (library : Library) (place : Place) → HasRecordLengths library → HasRecordLengths (at job library place).sets
at-lengths job library place whole =
    at_holds HasRecordLength Any (λ start fine. opened_at-lengths start) (λ start fine. within_at-lengths start) disposed_at-lengths job library (each_any job.root job.steps) whole place

pub job_run-lengths : (job : Effective) (library : Library) (cut : Option Place) → HasRecordLengths library → HasRecordLengths (job_run job library cut)
job_run-lengths job library cut whole =
    job_run_holds HasRecordLength Any (λ start fine. opened_at-lengths start) (λ start fine. within_at-lengths start) disposed_at-lengths job library (each_any job.root job.steps) whole cut
