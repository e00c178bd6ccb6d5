-- Which names a run holds: those of its submitted deck, SYSCHK's included, by the root of its job and the owners of its steps.
use Rattle.std.specs.Prelude.{Bool, false, ◌&&◌, List, ◌++◌, map}
use Rattle.std.specs.List.{zip}
use Rattle.std.specs.Option.{option_and_then, option_map_or, option_to_list}
use Rattle.ckr_jcl.specs.declared.deck.Dd.{Dd}
use Rattle.ckr_jcl.specs.declared.deck.Job.{Job}
use Rattle.ckr_jcl.specs.declared.deck.Step.{Step}
use Rattle.ckr_library.specs.NameMaps.{Name}
use Rattle.ckr_meaning.specs.EffectiveJob.{Effective, OwnedStep, is_among, names_of_job}
use Rattle.ckr_points.specs.declared.run.Run.{Run}
use Rattle.ckr_points.specs.Office.{is_holder}
use Rattle.ckr_points.specs.Rows.{RunRow, TablesModel, run_of}
use Rattle.ckr_uses.specs.Uses.{written_name}

-- steps of a job with the statements that a deck has for them, one for each
abbrev pub said_by : List Step → List OwnedStep → List OwnedStep
said_by steps owned = map (λ both. record both.1 { step = both.0 }) (zip steps owned)

-- A job as the run's own deck says it: the statements are the deck's, the root and the owners those of the job. Where the run continues another
-- one, the deck's steps up to that may have other statements than the job's, which are the earlier run's.
abbrev pub as_submitted : Job → Effective → Effective
as_submitted deck job = record job { steps = said_by deck.steps job.steps }

-- the name of SYSCHK's data set, where the deck has one
abbrev pub syschk_names : Job → List Name
syschk_names deck = option_to_list (option_and_then (λ (dd : Dd). written_name dd.origin) deck.syschk)

abbrev pub names_held : Job → Effective → List Name
names_held deck job = names_of_job (as_submitted deck job) ++ syschk_names deck

-- the names that a run holds from its selection to its end
abbrev pub held_names : RunRow → List Name
held_names row = names_held row.deck row.job

-- whether a run holds a name: it is selected and not ended, and its deck has the name
abbrev pub is_held_by : Name → RunRow → Bool
is_held_by name row = is_holder row.state && is_among (held_names row) name

-- so it is with the run of a line
abbrev pub is_held_in : TablesModel → Name → Run → Bool
is_held_in tables name line = option_map_or (λ (row : RunRow). is_held_by name (record row { state = line.state })) (run_of tables line.number) false
