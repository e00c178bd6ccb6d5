-- The cases of the rules, as they are read off the tables.
use Rattle.std.specs.Prelude.{ℕ, suc, pred, ◌+◌, ◌==◌, Bool, true, false, ◌&&◌, not, if◌then◌else◌, List, [], ◌∷◌, drop, filter, position, slice_get, Option, None, Some}
use Rattle.std.specs.Option.{option_map, option_map_or, option_or, is_some}
use Rattle.std.specs.List.{list_all, list_any, last_or}
use Rattle.std.specs.Cmp.Lexicographic.{pointwise}
use Rattle.ckr_base.specs.CodeText.{same_code}
use Rattle.ckr_base.specs.declared.code.Code.{Code}
use Rattle.ckr_jcl.specs.declared.deck.Dd.{Dd}
use Rattle.ckr_jcl.specs.declared.deck.Rd.{Rd}
use Rattle.ckr_jcl.specs.declared.deck.Restart.{Restart}
use Rattle.ckr_jcl.specs.declared.deck.Step.{Step}
use Rattle.ckr_library.specs.declared.sets.Content.{Content}
use Rattle.ckr_library.specs.declared.sets.Content.TheVariants.{Plain, Checkpoints}
use Rattle.ckr_library.specs.declared.sets.Part.{Part}
use Rattle.ckr_library.specs.NameMaps.{Name, Named, same_name, entry_at}
use Rattle.ckr_meaning.specs.Allotments.{is_found}
use Rattle.ckr_meaning.specs.EffectiveJob.{OwnedStep, names_of, step_at}
use Rattle.ckr_rules.specs.RuleTables.{is_rnc}
use Rattle.ckr_rules.specs.declared.cases.AutoCase.{AutoCase}
use Rattle.ckr_rules.specs.declared.cases.DeferredCase.{DeferredCase}
use Rattle.ckr_points.specs.declared.denial.Denial.{Denial}
use Rattle.ckr_points.specs.declared.run.RunState.{RunState}
use Rattle.ckr_points.specs.declared.run.RunState.TheVariants.{Queued, On, Held, Released, Ended, Denied, Purged}
use Rattle.ckr_points.specs.Rows.{EntryPoint, KeptEntry, TableSet, RunRow, TablesModel, run_of, table_ways}
use Rattle.ckr_points.specs.Marks.{present_at, point_at, sysout_names}
use Rattle.ckr_points.specs.Restart.{kept_at, spliced, needed_names, without_names, syschk_name}
use Rattle.ckr_points.specs.Freshness.{fresh}
use Rattle.ckr_points.specs.Statements.{same_statements}

-- the RD in effect: that of the JOB of the run's own deck, else that of the step in that deck
abbrev pub rd_in_effect : RunRow → ℕ → Option Rd
rd_in_effect row step =
    option_or row.deck.rd (option_map_or (λ own. own.rd) (slice_get row.deck.steps (pred step)) None)

-- the restarts at the point to which an automatic restart would go back, and whether a record was rewritten since
pub record Since : Type 0 where
  pub restarts : ℕ
  pub rewritten : Bool

abbrev pub since_start : RunRow → ℕ → Since
since_start row step =
    option_map_or (λ point. record { restarts = point.restarts; rewritten = point.rewritten }) (point_at row.points step)
    (record { restarts = 0; rewritten = false })

-- the point is the checkpoint in effect, if there is one and RD isn't RNC, else the start of the step
abbrev pub since_point : RunRow → ℕ → Since
since_point row step =
    if is_rnc (rd_in_effect row step) then since_start row step
    else option_map_or (λ effect. record { restarts = effect.restarts; rewritten = effect.rewritten }) row.in_effect (since_start row step)

-- the case of an automatic restart: the installation's codes, the code, the operator's refusal
abbrev pub auto_case : RunRow → ℕ → List Code → Code → Bool → AutoCase
auto_case row step eligible code refused =
    let since = since_point row step in
    record {
      rd = rd_in_effect row step;
      checkpoint = is_some row.in_effect;
      eligible = list_any (same_code code) eligible;
      rewritten = since.rewritten;
      restarts = since.restarts;
      refused = refused;
    }

abbrev pub is_plain : Content → Bool
is_plain Plain = true
is_plain Checkpoints = false

-- the serials of the volumes, by their numbers
abbrev pub serial_at : List Name → ℕ → Name
serial_at serials volume = option_map_or (λ serial. serial) (slice_get serials volume) []

-- whether VOL, where it is given, has the serials of the parts in order
abbrev pub is_on_volumes : List Name → List Name → List Part → Bool
is_on_volumes serials [] parts = true
is_on_volumes serials (serial ∷ rest) parts =
    pointwise (λ name part. same_name name (serial_at serials part.volume)) (serial ∷ rest) parts

-- SYSCHK's data set, where the rule D2 doesn't hold
abbrev pub syschk_found : List Name → Dd → TableSet → Bool
syschk_found serials dd table =
    is_found dd false (Some (table_ways.known table)) && is_on_volumes serials dd.volumes.items table.set.parts.items && not (is_plain table.set.content)

abbrev pub is_syschk_found : List Name → RunRow → Named TableSet → Bool
is_syschk_found serials row sets =
    option_map_or (λ dd. option_map_or (syschk_found serials dd) (entry_at sets (syschk_name row.deck)) false) row.deck.syschk false

abbrev pub was_selected : RunRow → Bool
was_selected row = is_some row.place

-- the runs of a job name that were ever selected
abbrev pub selected_runs : Name → List RunRow → List RunRow
selected_runs name runs = filter (λ row. was_selected row && same_name row.deck.name name) runs

-- the earlier run of a step restart: the one with the greatest number
abbrev pub latest_run : Name → TablesModel → Option RunRow
latest_run name tables = last_or None (selected_runs name tables.runs)

-- the earlier run of a run with RESTART
abbrev pub earlier_run : RunRow → TablesModel → Option KeptEntry → Bool → Option RunRow
earlier_run row tables entry false = latest_run row.deck.name tables
earlier_run row tables None true = latest_run row.deck.name tables
earlier_run row tables (Some entry) true = run_of tables entry.kept.run

abbrev pub is_ended : RunState → Bool
is_ended Queued = false
is_ended On = false
is_ended Held = false
is_ended Released = false
is_ended Ended = true
is_ended Denied = false
is_ended Purged = false

-- the number of the step of that name among those that a run executed itself, from its restart step on; or 0
abbrev pub number_named : RunRow → Name → ℕ
number_named row name =
    let before = pred row.earlier_step in
    option_map_or (λ place. suc (before + place)) (position (λ owned. same_name owned.step.name name) (drop before row.job.steps)) 0

-- a deferred restart as it is judged: the deck's step, the earlier run with its step and its point, the entry
pub record Wanted : Type 0 where
  pub number : ℕ
  pub checkpoint : Bool
  pub entry : Option KeptEntry
  pub earlier : Option RunRow
  pub step : Option Step

abbrev pub wanted_of : RunRow → TablesModel → Restart → Wanted
wanted_of row tables restart =
    let entry = option_map_or (λ id. kept_at tables.sets (syschk_name row.deck) id) restart.id None in
    record {
      number = restart.step;
      checkpoint = is_some restart.id;
      entry = entry;
      earlier = earlier_run row tables entry (is_some restart.id);
      step = slice_get row.deck.steps (pred restart.step);
    }

abbrev pub start_denial : RunRow → RunRow → ℕ → OwnedStep → TablesModel → Option Denial
start_denial row earlier number owned tables =
    option_map_or
    (λ point.
    let job = spliced earlier.job number row.number row.deck in
    fresh job.root owned point.marks (without_names (sysout_names job.root owned) (needed_names job number point.marks)) tables.sets)
    (point_at earlier.points number) None

abbrev pub entry_denial : RunRow → RunRow → ℕ → OwnedStep → EntryPoint → TablesModel → Option Denial
entry_denial row earlier number owned point tables =
    let job = spliced earlier.job number row.number row.deck in
    fresh job.root owned point.marks (needed_names job number point.marks) tables.sets

-- the denial by D8 to D10
abbrev pub stale_denial : RunRow → Wanted → TablesModel → Option Denial
stale_denial row wanted tables =
    option_map_or
    (λ earlier.
    option_map_or
    (λ owned.
    if wanted.checkpoint
    then option_map_or (λ entry. entry_denial row earlier wanted.number owned entry.point tables) wanted.entry None
    else start_denial row earlier wanted.number owned tables)
    (step_at earlier.job wanted.number) None)
    wanted.earlier None

-- whether a point has a present mark for each name of the step
abbrev pub has_present_marks : RunRow → OwnedStep → EntryPoint → Bool
has_present_marks earlier owned point = list_all (λ name. is_some (present_at point.marks name)) (names_of earlier.job.root owned)

abbrev pub is_same_step : RunRow → Wanted → Step → Bool
is_same_step earlier wanted step =
    number_named earlier step.name == wanted.number
    && option_map_or
    (λ owned. same_statements owned.step step && option_map_or (λ entry. has_present_marks earlier owned entry.point) wanted.entry (not wanted.checkpoint))
    (step_at earlier.job wanted.number) false

abbrev pub is_of_step : RunRow → Wanted → EntryPoint → Bool
is_of_step row wanted point =
    same_name point.job row.deck.name && option_map_or (λ step. same_name point.step_name step.name) wanted.step false

-- whether the run of an entry is known; an entry that isn't found says nothing
abbrev pub is_entry_known : Wanted → Bool
is_entry_known wanted = option_map_or (λ entry. is_some wanted.earlier) wanted.entry true

-- the case of a deferred restart
abbrev pub deferred_case : List Name → RunRow → Wanted → TablesModel → DeferredCase
deferred_case serials row wanted tables = record {
  checkpoint = wanted.checkpoint;
  known = is_some (latest_run row.deck.name tables) && is_entry_known wanted;
  found_set = is_syschk_found serials row tables.sets;
  found_entry = is_some wanted.entry;
  same_job_step = option_map_or (λ entry. is_of_step row wanted entry.point) wanted.entry false;
  ended = option_map_or (λ earlier. is_ended earlier.state) wanted.earlier false;
  reached = option_map_or (λ earlier. option_map_or (λ step. is_some (point_at earlier.points (number_named earlier step.name))) wanted.step false) wanted.earlier false;
  same_statements = option_map_or (λ earlier. option_map_or (is_same_step earlier wanted) wanted.step false) wanted.earlier false;
  stale = option_map (λ denial. denial.rule) (stale_denial row wanted tables);
}
