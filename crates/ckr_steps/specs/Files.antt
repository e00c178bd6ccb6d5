-- Where a step's program finds its records, and where its records go.
use Rattle.std.specs.Prelude.{ℕ, find, slice_get, Option, None, Some, option_and_then}
use Rattle.std.specs.Option.{option_map_or}
use Rattle.ckr_jcl.specs.declared.deck.Dd.{Dd}
use Rattle.ckr_jcl.specs.declared.deck.Origin.{Origin}
use Rattle.ckr_jcl.specs.declared.deck.Origin.TheVariants.{InStream}
use Rattle.ckr_jcl.specs.declared.deck.Step.{Step}
use Rattle.ckr_jcl.specs.Programs.{names_written}
use Rattle.ckr_uses.specs.SetNames.{library_name}
use Rattle.ckr_library.specs.NameMaps.{Name, same_name}
use Rattle.ckr_meaning.specs.StepRun.{input_names, main_names, rejects_dd}
use Rattle.ckr_steps.specs.declared.files.Files.{Files}
use Rattle.ckr_steps.specs.declared.files.RecordSource.{RecordSource}
use Rattle.ckr_steps.specs.declared.files.RecordSource.TheVariants.{Nowhere, InDeck, InSet}

-- the DD of that name in a step
abbrev pub dd_in : Step → Name → Option Dd
dd_in step name = find (λ dd. same_name name dd.name) step.dds

-- the DD of an input, by the input's place
abbrev pub input_dd : Step → ℕ → Option Dd
input_dd step place = option_and_then (dd_in step) (slice_get (input_names step.program) place)

-- the DD of the output
abbrev pub main_dd : Step → Option Dd
main_dd step = option_and_then (dd_in step) (slice_get (main_names step.program) 0)

-- the DD of the rejects, of a program that has some
abbrev pub dd_of_rejects : Step → Option Dd
dd_of_rejects step = option_and_then (dd_in step) (find (same_name rejects_dd) (names_written step.program))

abbrev pub source_by : Origin → Option Name → RecordSource
source_by (InStream cards) name = InDeck cards
source_by _ None = Nowhere
source_by _ (Some name) = InSet name

-- where the records in a DD are, of a step with these qualifiers
abbrev pub source_in : ℕ → ℕ → Step → Option Dd → RecordSource
source_in root owner step dd = option_map_or (λ (one : Dd). source_by one.origin (library_name one root owner step.name)) dd Nowhere

-- the data set of a DD
abbrev pub set_in : ℕ → ℕ → Step → Option Dd → Option Name
set_in root owner step dd = option_and_then (λ (one : Dd). library_name one root owner step.name) dd

-- the inputs and the outputs of a step's program, by the numbers of the run's root and of the step's owner
unfoldable pub files_of : ℕ → ℕ → Step → Files
files_of root owner step = record {
  first = source_in root owner step (input_dd step 0);
  second = source_in root owner step (input_dd step 1);
  main = set_in root owner step (main_dd step);
  rejects = set_in root owner step (dd_of_rejects step);
}

-- the data set of an input, if it has one
abbrev pub set_of_source : RecordSource → Option Name
set_of_source Nowhere = None
set_of_source (InDeck cards) = None
set_of_source (InSet name) = Some name
