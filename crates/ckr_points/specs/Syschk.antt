-- SYSCHK's data set.
use Rattle.std.specs.Prelude.{Bool, true, Option}
use Rattle.std.specs.Option.{is_some, option_map_or}
use Rattle.ckr_jcl.specs.declared.deck.Dd.{Dd}
use Rattle.ckr_meaning.specs.SetUses.Uses.{written_name}

-- whether SYSCHK, where it is given, names a data set
abbrev pub names_its_set : Option Dd → Bool
names_its_set syschk = option_map_or (λ dd. is_some (written_name dd.origin)) syschk true
