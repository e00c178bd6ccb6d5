-- What the hold of a run makes of it and of the data sets.
use Rattle.std.specs.Prelude.{ℕ, List, None, Some}
use Rattle.ckr_base.specs.declared.code.Code.{Code}
use Rattle.ckr_meaning.specs.EffectiveJob.{OwnedStep}
use Rattle.ckr_meaning.specs.declared.place.Place.TheVariants.{Within}
use Rattle.ckr_points.specs.declared.run.Run.{Run}
use Rattle.ckr_points.specs.declared.run.RunState.TheVariants.{Held as HeldRun}
use Rattle.ckr_points_runs.specs.RunChange.{Going, Kit, committed_by, going}
use Rattle.ckr_points_runs.specs.View.{RunTableView}

-- the line of a run that is held: it is on no initiator
abbrev pub held_line : Run → Run
held_line line = record line { state = HeldRun; initiator = None }

-- a run that is held with a code, behind so many writes
abbrev pub held_facts : ℕ → Code → ℕ → RunTableView → RunTableView
held_facts step code writes facts = record facts { place = Some (Within step writes); code = Some code }

-- a hold: the lengths are committed
abbrev pub held : {X : Type 0} → Kit X → ℕ → Code → ℕ → List ℕ → Going X → OwnedStep → Going X
held kit step code writes lengths now own =
    going (held_line now.line) (held_facts step code writes now.facts) (committed_by kit lengths own now).sets
