-- The lengths that an event carries, DD by DD.
use Rattle.std.specs.Prelude.{ℕ, Bool, false, ◌&&◌, nat_le, List, filter}
use Rattle.std.specs.Option.{option_map_or}
use Rattle.std.specs.List.{filter_map}
use Rattle.ckr_jcl.specs.declared.deck.Dd.{Dd}
use Rattle.ckr_library.specs.NameMaps.{Name, Named, entry_at}
use Rattle.ckr_meaning.specs.Allotments.{is_output}
use Rattle.ckr_meaning.specs.EffectiveJob.{OwnedStep, name_of}
use Rattle.ckr_points.specs.Rows.{TableSet}

-- the names of the outputs among these DDs of a step
abbrev pub outputs_from : ℕ → OwnedStep → List Dd → List Name
outputs_from root own dds = filter_map (name_of root own) (filter (λ (dd : Dd). is_output dd.role) dds)

-- within the space, and not less than what is committed
abbrev pub fits : Named TableSet → Name → ℕ → Bool
fits sets name now = option_map_or (λ (table : TableSet). nat_le table.set.length now && nat_le now table.set.space) (entry_at sets name) false
