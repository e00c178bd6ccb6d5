-- The ranges of a PARM's numbers that the programs rest on.
use Rattle.std.specs.Prelude.{◌≤◌}
use Rattle.ckr_jcl.specs.declared.deck.Parm.{Parm}

-- a SUM field has at most 15 columns, and a key at most 32
pub record IsInRange (parm : Parm) : Type 0 where
  pub sum : parm.sum.1 ≤ 15
  pub key : parm.key.1 ≤ 32
