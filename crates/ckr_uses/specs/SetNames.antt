-- The name that a DD's data set has in the library.
use Rattle.std.specs.Prelude.{ℕ, ◌∷◌, ◌++◌, codes, Option, None, Some}
use Rattle.ckr_base.specs.Digits.{last_digits}
use Rattle.ckr_jcl.specs.declared.deck.Dd.{Dd}
use Rattle.ckr_jcl.specs.declared.deck.Origin.{Origin}
use Rattle.ckr_jcl.specs.declared.deck.Origin.TheVariants.{InStream, Named, Temporary, Unnamed, Sysout, Dummy}
use Rattle.ckr_library.specs.NameMaps.{Name}

-- a run's number as a qualifier: `J` and seven digits
abbrev pub run_name : ℕ → Name
run_name run = 74 ∷ last_digits 7 run

-- a name with one more qualifier behind a period
abbrev pub qualified : Name → Name → Name
qualified front name = front ++ 46 ∷ name

-- the name of a data set that a DD of a step makes for itself
abbrev pub step_name : Name → Name → Name → Name → Name
step_name front run step dd = qualified (qualified (qualified front run) step) dd

-- with these qualifiers for the run's root and for the owner of the step
abbrev pub origin_name : Origin → Name → Name → Name → Name → Option Name
origin_name (InStream cards) root owner step dd = None
origin_name (Named name) root owner step dd = Some name
origin_name (Temporary name) root owner step dd = Some (qualified (qualified (codes "SYSTEMP") root) name)
origin_name Unnamed root owner step dd = Some (step_name (codes "SYSTEMP") root step dd)
origin_name Sysout root owner step dd = Some (step_name (codes "SYSOUT") owner step dd)
origin_name Dummy root owner step dd = None

abbrev pub name_under : Dd → Name → Name → Name → Option Name
name_under dd root owner step = origin_name dd.origin root owner step dd.name

-- the name of a DD's data set, of the step of this name, by the numbers of the run's root and of the step's owner
abbrev pub library_name : Dd → ℕ → ℕ → Name → Option Name
library_name dd root owner step = name_under dd (run_name root) (run_name owner) step
