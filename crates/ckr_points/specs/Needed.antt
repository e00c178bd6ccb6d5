-- The names that a run needs which goes on at a step of an earlier one, by that step and the later ones of its own deck.
use Rattle.std.specs.Prelude.{◌≡◌, ℕ, pred, Bool, true, false, ◌&&◌, not, List, [], ◌∷◌, map, drop}
use Rattle.ckr_jcl.specs.declared.deck.Job.{Job}
use Rattle.ckr_entry.specs.declared.point.Mark.{Mark}
use Rattle.ckr_library.specs.NameMaps.{Name}
use Rattle.ckr_meaning.specs.EffectiveJob.{Effective, OwnedStep, owned_by, names_of_steps, is_among}
use Rattle.ckr_points_library.specs.Holdings.{owned}
use Rattle.ckr_points.specs.declared.needed.Needed.{Needed}
use Rattle.ckr_points.specs.Marks.{sysout_names}
use Rattle.ckr_points.specs.Restart.{needed_names, without_names}

-- the step at which it goes on, with any tests
abbrev pub first_step : Needed → OwnedStep
first_step needed = owned needed.first.now needed.owner []

-- the steps from this one on
abbrev pub steps_from : Needed → List OwnedStep
steps_from needed = first_step needed ∷ map (λ step. owned step needed.run []) needed.later.now

-- whether a name that has a mark is needed: at the start of the step, none of its SYSOUT names is
abbrev pub is_needed : Needed → Name → Bool
is_needed needed name =
    not (needed.at_start && is_among (sysout_names needed.root (first_step needed)) name)
    && is_among (names_of_steps needed.root (steps_from needed)) name

-- the needed names of a deferred restart of a job at the start of a step, or at a checkpoint
abbrev pub needed_at : Bool → Effective → ℕ → OwnedStep → List Mark → List Name
needed_at true job step own marks = without_names (sysout_names job.root own) (needed_names job step marks)
needed_at false job step own marks = needed_names job step marks

-- the steps of a job from this one on are those
pub record IsNeededBy (needed : Needed) (job : Effective) (step : ℕ) (own : OwnedStep) (deck : Job) : Type 0 where
  pub root : job.root ≡ needed.root
  pub first : own.step ≡ needed.first.now
  pub owner : own.owner ≡ needed.owner
  pub steps : drop (pred step) job.steps ≡ own ∷ map (owned_by needed.run deck) needed.later.now
