-- Worked events by which a run goes back.
use Rattle.std.specs.Prelude.{ℕ, zero, suc, false, List, [], ◌∷◌, ◌++◌, codes, None, Some, refl}
use Rattle.std.proofs.lemmas.Bool.{false≢true}
use Rattle.ckr_base.specs.declared.code.Code.TheVariants.{System}
use Rattle.ckr_events.specs.declared.event.Event.TheVariants.{Submitted, Selected, Started, StepEnded, Restarted, Ended}
use Rattle.ckr_events.specs.declared.event.Ending.TheVariants.{Completed}
use Rattle.ckr_jcl.specs.declared.deck.Job.{Job}
use Rattle.ckr_jcl.specs.declared.deck.Rd.TheVariants.{R}
use Rattle.ckr_meaning.proofs.Definitions.{jobs_open}
use Rattle.ckr_volumes.specs.declared.layout.Layout.{Layout}
use Rattle.ckr_points.specs.Events.{AreSound}
use Rattle.ckr_points.specs.Restart.{Decked}
use Rattle.ckr_points.proofs.Examples.Jobs.{deck, layout, step}

-- a code after which a restart is permitted
abbrev eligible : Layout
eligible = record layout { eligible = record { items = System 2871 ∷ [] } }

-- a job with RD=R on its step
abbrev restartable : Job
restartable = deck None (record (step (codes "A") []) { rd = Some R } ∷ [])

abbrev begun : List Decked
begun = (Submitted 1 (0 ∷ []), Some restartable) ∷ (Selected 1 1 0 0 None, None) ∷ (Started 1 1 (record { items = [] }), None) ∷ []

-- the step fails so often, and each time it starts once more
abbrev again : ℕ → List Decked
again zero = []
again (suc count) = (Restarted 1 1 (System 2871) false, None) ∷ (Started 1 1 (record { items = [] }), None) ∷ again count

-- and then it ends, and its job with it
abbrev over : List Decked
over = (StepEnded 1 1 0 0 (record { items = [] }), None) ∷ (Ended 1 Completed, None) ∷ []

-- a run goes back to the start of its step, and ends as if it hadn't
restarted_once : AreSound eligible (begun ++ again 1 ++ over)
unfolding jobs_open
restarted_once = (record { may = refl; carried = refl }, (record { may = refl; carried = refl }, (record { may = refl; carried = refl }, (record { may = refl; carried = refl }, (record { may = refl; carried = refl }, (record { may = refl; carried = refl }, (record { may = refl; carried = refl }, tt)))))))

-- the third time it may go back still, the fourth time no more
restarted_often : AreSound eligible (begun ++ again 3 ++ over)
unfolding jobs_open
restarted_often = (record { may = refl; carried = refl }, (record { may = refl; carried = refl }, (record { may = refl; carried = refl }, (record { may = refl; carried = refl }, (record { may = refl; carried = refl }, (record { may = refl; carried = refl }, (record { may = refl; carried = refl }, (record { may = refl; carried = refl }, (record { may = refl; carried = refl }, (record { may = refl; carried = refl }, (record { may = refl; carried = refl }, tt)))))))))))

too_often : AreSound eligible (begun ++ again 4) → ⊥
unfolding jobs_open
too_often sound = false≢true sound.1.1.1.1.1.1.1.1.1.0.may
