-- The needed names of a deferred restart, and what it removes.
use Rattle.std.proofs.Common.{◌≡◌, ℕ, pred, drop, true, false, not, List, [], ap, sym, ◌∙◌}
use Rattle.std.specs.Option.{is_some}
use Rattle.std.proofs.lemmas.Bool.{and_from, false≢true}
use Rattle.ckr_base.proofs.Bools.{and-first, bool-cases}
use Rattle.ckr_entry.specs.declared.point.Mark.{Mark}
use Rattle.ckr_library.specs.NameMaps.{Name}
use Rattle.ckr_meaning.specs.EffectiveJob.{Effective, is_among, names_of_steps}
use Rattle.ckr_points.specs.Marks.{is_marked_absent, made_names, mark_at}
use Rattle.ckr_points.specs.Restart.{needed_names, without_names}
use Rattle.ckr_points_invariant.proofs.Continuations.Libraries.{AreNeeded}
use Rattle.ckr_points_invariant.proofs.Marks.Points.{among-filter}

-- the names of the steps of a job from one on
abbrev names_from : Effective → ℕ → List Name
names_from job step = names_of_steps job.root (drop (pred step) job.steps)

module _ (job : Effective) (step : ℕ) (marks : List Mark) where
  needed-among : (name : Name) → is_among (names_from job step) name ≡ true → is_some (mark_at marks name) ≡ true → is_among (needed_names job step marks) name ≡ true
  needed-among name mine has =
      among-filter (λ name. is_some (mark_at marks name)) (names_from job step) name
      ∙ and_from (is_some (mark_at marks name)) (is_among (names_from job step) name) has mine

  -- at a checkpoint
  pub needed-entry : AreNeeded (names_from job step) marks (needed_names job step marks) []
  needed-entry = record { judged = λ name mine has stays. needed-among name mine has; absent = λ name gone. absurd (false≢true gone) }

  -- at the start of a step, where the SYSOUT names of the step are marked absent
  module _ (sysout : List Name) (made : (name : Name) → is_among sysout name ≡ true → is_some (mark_at marks name) ≡ true → is_marked_absent marks name ≡ true) where
    not-sysout : (name : Name) → is_some (mark_at marks name) ≡ true → is_among (made_names marks sysout) name ≡ false → is_among sysout name ≡ false
    not-sysout name has stays =
        bool-cases (is_among sysout name)
        (λ its.
        absurd (false≢true (
        sym stays ∙ among-filter (is_marked_absent marks) sysout name
        ∙ and_from (is_marked_absent marks name) (is_among sysout name) (made name its has) its)))
        (λ e. e)

    pub needed-start : AreNeeded (names_from job step) marks (without_names sysout (needed_names job step marks)) (made_names marks sysout)
    needed-start = record {
      judged = λ name mine has stays.
          among-filter (λ name. not (is_among sysout name)) (needed_names job step marks) name
          ∙ and_from (not (is_among sysout name)) (is_among (needed_names job step marks) name) (ap not (not-sysout name has stays)) (needed-among name mine has);
      absent = λ name gone. and-first (is_marked_absent marks name) (is_among sysout name) (sym (among-filter (is_marked_absent marks) sysout name) ∙ gone);
    }
