-- The step that wants its volumes in a turn, as the jobs in memory have it, and its data sets by the library.
use Rattle.std.specs.Prelude.{◌≡◌, ◌≤◌, ◌||◌, ℕ, Bool, false, List, filter, length, Option, None, Some}
use Rattle.std.specs.List.{list_any, range_with_len}
use Rattle.std.specs.Option.{is_some, option_map, option_map_or}
use Rattle.ckr_desk_turn.specs.declared.plan.Plan.{Plan}
use Rattle.ckr_desk_turn.specs.Mounts.{Wanting, first_dd, is_made_there, is_sought, wanting_in, wants}
use Rattle.ckr_jcl.specs.declared.deck.Dd.{Dd}
use Rattle.ckr_library.specs.Catalog.{Holding}
use Rattle.ckr_library.specs.NameMaps.{Name, Named, entry_at}
use Rattle.ckr_library.specs.declared.sets.DataSet.{DataSet}
use Rattle.ckr_library.specs.declared.sets.Part.{Part}
use Rattle.ckr_meaning.specs.EffectiveJob.{name_of}
use Rattle.ckr_points.specs.Follows.{own_step}
use Rattle.ckr_points.specs.Restart.{place_of, step_in}
use Rattle.ckr_points.specs.Rows.{TablesModel, run_of}
use Rattle.ckr_points_tables.specs.RunJobs.{own_of}
use Rattle.ckr_desk_memory.specs.declared.mounts.WantingStep.{WantingStep}

-- a data set has a part on the volume that is looked for
abbrev pub lies_on : Option ℕ → DataSet → Bool
lies_on sought set = list_any (λ (part : Part). is_sought sought part.volume) set.parts.items

-- the library has the data set of a name, with such a part
abbrev pub stands_on : Named Holding → Option ℕ → Option Name → Bool
stands_on sets sought None = false
stands_on sets sought (Some name) = option_map_or (lies_on sought) (option_map (λ (held : Holding). held.set) (entry_at sets name)) false

-- the DD of a number makes its data set there, or has it there
abbrev pub is_dd_on : Named Holding → WantingStep → Option ℕ → ℕ → Dd → Bool
is_dd_on sets step sought number dd = is_made_there step.made.now sought number || stands_on sets sought (name_of step.root (own_of step.own) dd)

-- the number of the first DD of the step that is so, from a number on
abbrev pub dd_from : Named Holding → WantingStep → Option ℕ → ℕ → List Dd → Option ℕ
dd_from sets step sought number dds = first_dd (is_dd_on sets step sought) number dds

abbrev pub is_volume_of : Named Holding → WantingStep → ℕ → Bool
is_volume_of sets step volume = is_some (dd_from sets step (Some volume) 1 step.own.step.now.dds)

-- those of so many volumes, from a number on, on which data sets of the step are
abbrev pub volumes_from : Named Holding → WantingStep → ℕ → ℕ → List ℕ
volumes_from sets step volume count = filter (is_volume_of sets step) (range_with_len volume count)

-- a step has at most 16 DDs, and the numbers that its names are made of have at most seven digits
pub record IsNamedStep (step : WantingStep) : Type 0 where
  pub root : step.root ≤ 9999999
  pub owner : step.own.owner ≤ 9999999
  pub dds : length step.own.step.now.dds ≤ 16

-- it is the step that a run is before or in, with these parts
pub record IsWantingIn (tables : TablesModel) (step : WantingStep) : Type 0 where
  pub wanting : Wanting
  pub is : wanting_in tables (step.run, step.made.now) ≡ Some wanting
  pub found : run_of tables step.run ≡ Some wanting.row
  pub there : own_step wanting.row ≡ Some wanting.owned
  pub items : wanting.items ≡ step.made.now
  pub sets : wanting.sets ≡ tables.sets
  pub number : wanting.row.number ≡ step.run
  pub place : step_in (place_of wanting.row) ≡ step.number
  pub root : wanting.row.job.root ≡ step.root
  pub own : wanting.owned ≡ own_of step.own
  pub named : IsNamedStep step

-- it is the step that wants its volumes in a turn that comes to this plan
pub record IsWantingStep (tables : TablesModel) (plan : Plan) (step : WantingStep) : Type 0 where
  pub wants : wants plan ≡ Some (step.run, step.made.now)
  pub is : IsWantingIn tables step
