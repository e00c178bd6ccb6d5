-- What the rewrite of a record of MASTER needs.
use Rattle.std.specs.Prelude.{◌<◌, ℕ, Bool, true, false, ◌||◌, not, find, Option, None, Some}
use Rattle.std.specs.Option.{option_and_then, option_map_or}
use Rattle.ckr_jcl.specs.declared.deck.Dd.{Dd}
use Rattle.ckr_jcl.specs.declared.deck.Origin.{Origin}
use Rattle.ckr_jcl.specs.declared.deck.Origin.TheVariants.{InStream, Named as NamedOrigin, Temporary, Unnamed, Sysout, Dummy}
use Rattle.ckr_jcl.specs.declared.deck.Step.{Step}
use Rattle.ckr_library.specs.Catalog.{Holding}
use Rattle.ckr_library.specs.NameMaps.{Name}
use Rattle.ckr_meaning.specs.EffectiveJob.{OwnedStep, name_of}
use Rattle.ckr_points.specs.Tables.{is_updates}
use Rattle.ckr_points.specs.Follows.{is_update}
use Rattle.ckr_points.specs.Rows.{TableSet}

-- whether a DD of this origin has a data set
abbrev pub has_set : Origin → Bool
has_set (InStream cards) = false
has_set (NamedOrigin name) = true
has_set (Temporary name) = true
has_set Unnamed = true
has_set Sysout = true
has_set Dummy = false

abbrev pub master_dd : Step → Option Dd
master_dd step = find (λ (dd : Dd). is_updates dd.role) step.dds

-- whether a step of UPDATE has a MASTER with a data set
abbrev pub has_master : Step → Bool
has_master step = not (is_update step.program) || option_map_or (λ (dd : Dd). has_set dd.origin) (master_dd step) false

-- the name of MASTER's data set
abbrev pub master_name : ℕ → OwnedStep → Option Name
master_name root own = option_and_then (name_of root own) (master_dd own.step)

-- one more rewrite can be counted
abbrev pub HasFewRewrites : TableSet → Type 0
HasFewRewrites table = table.set.stamp.rewrites < 4294967295

abbrev pub MayRestamp : Option Holding → Type 0
MayRestamp None = Unit {0}
MayRestamp (Some holding) = holding.set.stamp.rewrites < 4294967295
