-- A run that ends with a code has to name the first rule that denies its restart.
use Rattle.std.specs.Prelude.{ℕ, List, [], ◌∷◌, codes, None, Some, refl}
use Rattle.std.proofs.lemmas.Bool.{false≢true}
use Rattle.ckr_base.specs.declared.code.Code.TheVariants.{System}
use Rattle.ckr_events.specs.declared.event.Event.TheVariants.{Submitted, Selected, Started, Ended}
use Rattle.ckr_events.specs.declared.event.Ending.TheVariants.{Coded}
use Rattle.ckr_meaning.proofs.Definitions.{jobs_open}
use Rattle.ckr_points.specs.Events.{AreSound}
use Rattle.ckr_points.specs.Restart.{Decked}
use Rattle.ckr_points.proofs.Examples.Jobs.{deck, layout, step}

-- a step is running, and its run is given up with a code, by a rule
abbrev ended_by : ℕ → List Decked
ended_by rule =
    (Submitted 1 (0 ∷ []), Some (deck None (step (codes "A") [] ∷ [])))
    ∷ (Selected 1 1 0 0 None, None)
    ∷ (Started 1 1 (record { items = [] }), None)
    ∷ (Ended 1 (Coded (System 2871) rule 0 (record { items = [] })), None)
    ∷ []

-- RD is omitted, and there is no checkpoint: that is rule A2
first_rule : AreSound layout (ended_by 2)
unfolding jobs_open
first_rule = (record { may = refl; carried = refl }, (record { may = refl; carried = refl }, (record { may = refl; carried = refl }, (record { may = refl; carried = refl }, tt))))

-- the code isn't eligible either, but A3 comes behind A2
later_rule : AreSound layout (ended_by 3) → ⊥
unfolding jobs_open
later_rule sound = false≢true sound.1.1.1.0.may

-- A1 doesn't hold
earlier_rule : AreSound layout (ended_by 1) → ⊥
unfolding jobs_open
earlier_rule sound = false≢true sound.1.1.1.0.may
