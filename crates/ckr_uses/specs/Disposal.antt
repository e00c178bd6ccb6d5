-- What becomes of a data set at the end of a step.
use Rattle.std.specs.Prelude.{Bool, true, false, ◌||◌, if◌then◌else◌, unwrap_or}
use Rattle.ckr_jcl.specs.declared.deck.After.{After}
use Rattle.ckr_jcl.specs.declared.deck.After.TheVariants.{Delete, Keep, Pass, Catlg, Uncatlg}
use Rattle.ckr_jcl.specs.declared.deck.Disp.{Disp}
use Rattle.ckr_jcl.specs.declared.deck.Origin.{Origin}
use Rattle.ckr_jcl.specs.declared.deck.Origin.TheVariants.{InStream, Named, Temporary, Unnamed, Sysout, Dummy}

-- whether a data set is temporary, as the defaults go
abbrev pub is_temporary : Origin → Bool
is_temporary (InStream cards) = false
is_temporary (Named name) = false
is_temporary (Temporary name) = true
is_temporary Unnamed = true
is_temporary Sysout = false
is_temporary Dummy = false

-- what goes with its maker is deleted where nothing was said, and what was there before is kept
abbrev pub by_maker : Bool → After
by_maker goes = if goes then Delete else Keep

-- the normal disposition, written or by default
abbrev pub normal_after : Bool → Disp → After
normal_after goes disp = unwrap_or disp.normal (by_maker goes)

abbrev pub without_pass : Bool → After → After
without_pass goes Delete = Delete
without_pass goes Keep = Keep
without_pass goes Pass = by_maker goes
without_pass goes Catlg = Catlg
without_pass goes Uncatlg = Uncatlg

-- the action at a step's end: whether the data set is temporary, its disposition, whether the step made it, whether the end is abnormal
abbrev pub dispose : Bool → Disp → Bool → Bool → After
dispose temporary disp made false = normal_after (temporary || made) disp
dispose temporary disp made true =
    unwrap_or disp.abnormal (without_pass (temporary || made) (normal_after (temporary || made) disp))
