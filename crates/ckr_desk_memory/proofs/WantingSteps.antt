-- The step that wants its volumes, as the jobs in memory have it.
use Rattle.std.proofs.Common.{◌≡◌, ℕ, List, refl, ap, sym, ◌∙◌, IfNone, option_and_then, Option, None, Some, arith}
use Rattle.std.proofs.lemmas.Option.{same_Some}
use Rattle.std.specs.Option.{option_map, option_map_or}
use Rattle.ckr_base.proofs.Options.{some-not-none}
use Rattle.ckr_desk_turn.specs.declared.plan.Plan.{Plan}
use Rattle.ckr_desk_turn.specs.Mounts.{Wanting, dd_on, ended_at, wanting, wanting_in, wants}
use Rattle.ckr_desk_turn.specs.Plans.{allocation_ended}
use Rattle.ckr_events.specs.declared.event.Made.{Made}
use Rattle.ckr_library.specs.Catalog.{Holding}
use Rattle.ckr_library.specs.NameMaps.{Named}
use Rattle.ckr_meaning.specs.EffectiveJob.{OwnedStep}
use Rattle.ckr_points.specs.Follows.{own_step}
use Rattle.ckr_points.specs.Rows.{RunRow, TablesModel, holding_of, run_of, step_of_run}
use Rattle.ckr_desk_plans.specs.Model.Cause.{Cause}
use Rattle.ckr_points_tables.proofs.RunJobs.{fits-at}
use Rattle.ckr_points_tables.specs.RunJobs.{IsFittingStep, effective, own_of}
use Rattle.ckr_points_tables.specs.View.{seen_by}
use Rattle.ckr_points_tables.specs.Model.RunTable.{RunTable}
use Rattle.ckr_desk_memory.specs.declared.mounts.WantingStep.{WantingStep}
use Rattle.ckr_desk_memory.specs.Mounts.{IsWantingIn, IsWantingStep, dd_from}
use Rattle.ckr_desk_memory.specs.Plans.{HasDd, IsKnown}
use Rattle.ckr_desk_memory.proofs.Plans.{numbered-there}
use Rattle.ckr_desk_memory.proofs.Starts.Steps.{IsNumberOf, IsStepAt, number-in, root-is, step-is}
use Rattle.ckr_desk_memory.proofs.WantedVolumes.{dd-is, first-within}

pub any-none : {A : Type 0} (o : Option A) (P : Type 0) → P → IfNone o P
any-none None P p = p
any-none (Some x) P p = tt

-- ---- how it is found

abbrev with_owned : TablesModel → List Made → RunRow → Option OwnedStep → Option Wanting
with_owned tables made row found = option_map_or (λ owned. Some (record { sets = tables.sets; row = row; owned = owned; items = made })) found None

abbrev with_row : TablesModel → List Made → Option RunRow → Option Wanting
with_row tables made found = option_map_or (λ (row : RunRow). with_owned tables made row (own_step row)) found None

-- a run before or in a step that it has
pub wanting-found : (tables : TablesModel) (run : ℕ) (made : List Made) (row : RunRow) (found : Option OwnedStep) → run_of tables run ≡ Some row → own_step row ≡ found → wanting_in tables (run, made) ≡ with_owned tables made row found
wanting-found tables run made row found at there = ap (with_row tables made) at ∙ ap (with_owned tables made row) there

pub wanting-by : (tables : TablesModel) (plan : Plan) (want : ℕ × List Made) → wants plan ≡ Some want → wanting tables plan ≡ wanting_in tables want
wanting-by tables plan want is = ap (λ found. option_map_or (wanting_in tables) found None) is

-- none where it has no such step
pub wanting-none : (tables : TablesModel) (run number : ℕ) (made : List Made) (table : RunTable) (known : IsKnown tables run table) → IsNumberOf table number → IsStepAt run table number None → wanting_in tables (run, made) ≡ None
wanting-none tables run number made table known number_is at =
    wanting-found tables run made known.row None known.found
    (ap (step_of_run known.row) (sym (number-in tables run table known number number_is known.row known.found)) ∙ step-is tables run table known number None at known.row known.found)

pub is-wanting : (tables : TablesModel) (step : WantingStep) (table : RunTable) (known : IsKnown tables step.run table) → IsNumberOf table step.number → step.root ≡ table.job.root → IsStepAt step.run table step.number (Some step.own) → IsWantingIn tables step
is-wanting tables step table known number_is root_is at =
    let number = number-in tables step.run table known step.number number_is known.row known.found in
    let there : own_step known.row ≡ Some (own_of step.own) = ap (step_of_run known.row) (sym number) ∙ step-is tables step.run table known step.number (Some step.own) at known.row known.found in
    let fits : IsFittingStep (own_of step.own) = fits-at (effective step.run table.job) known.fits step.number (own_of step.own) (sym at) in
    record {
      wanting = record { sets = tables.sets; row = known.row; owned = own_of step.own; items = step.made.now };
      is = wanting-found tables step.run step.made.now known.row (Some (own_of step.own)) known.found there;
      found = known.found;
      there = there;
      items = refl;
      sets = refl;
      number = known.numbered;
      place = sym number;
      root = root-is tables step.run table known known.row known.found ∙ sym root_is;
      own = refl;
      named = record { root = omega (arith, root_is, known.fits.root); owner = fits.owner; dds = fits.dds };
    }

-- ---- the end of its run

-- at the first DD that is on the volume that is looked for
abbrev pub end_of : Option ℕ → Cause → Wanting → Option Plan
end_of sought cause one = option_map (λ dd. allocation_ended one.row one.owned dd cause) (dd_on one sought)

pub step-wanted : (tables : TablesModel) (plan : Plan) (step : WantingStep) (its : IsWantingStep tables plan step) → wanting tables plan ≡ Some its.is.wanting
step-wanted tables plan step its = wanting-by tables plan (step.run, step.made.now) its.wants ∙ its.is.is

module _ (tables : TablesModel) (plan : Plan) (step : WantingStep) (its : IsWantingStep tables plan step) (sets : Named Holding) (seen : sets ≡ seen_by holding_of tables.sets) (sought : Option ℕ) where
  pub end-is : (cause : Cause) (found : Option ℕ) → found ≡ dd_from sets step sought 1 step.own.step.now.dds
      → option_map (λ dd. allocation_ended its.is.wanting.row its.is.wanting.owned dd cause) found ≡ option_and_then (end_of sought cause) (wanting tables plan)
  end-is cause found is =
      ap (option_map (λ dd. allocation_ended its.is.wanting.row its.is.wanting.owned dd cause)) (is ∙ dd-is tables step its.is sets seen sought)
      ∙ sym (ap (option_and_then (end_of sought cause)) (step-wanted tables plan step its))

  -- the DD is one of the step
  pub end-there : (dd : ℕ) → Some dd ≡ dd_from sets step sought 1 step.own.step.now.dds → HasDd tables step.run step.number dd
  end-there dd is =
      let inside = first-within _ 1 step.own.step.now.dds dd (sym is) in
      record {
        row = its.is.wanting.row;
        own = own_of step.own;
        found = its.is.found;
        step_is = ap (step_of_run its.is.wanting.row) (sym its.is.place) ∙ its.is.there ∙ ap (λ (o : OwnedStep). let found : Option OwnedStep = Some o in found) its.is.own;
        there = numbered-there step.own.step.now.dds dd inside.0 (omega (arith, inside.1));
      }

-- what a turn comes to by it
pub ended-some : (found : Option Wanting) (plan end : Plan) (sought : Option ℕ) (cause : Cause) → Some end ≡ option_and_then (end_of sought cause) found
    → end ≡ option_map_or (λ (step : Wanting). ended_at step cause plan (dd_on step sought)) found plan
ended-some None plan end sought cause is = absurd (some-not-none end is)
ended-some (Some step) plan end sought cause is = by (dd_on step sought) is
  where
    by : (dd : Option ℕ) → Some end ≡ option_map (λ dd. allocation_ended step.row step.owned dd cause) dd → end ≡ ended_at step cause plan dd
    by None is = absurd (some-not-none end is)
    by (Some dd) is = same_Some _ _ is
