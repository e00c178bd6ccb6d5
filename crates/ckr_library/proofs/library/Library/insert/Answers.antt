use Rattle.std.proofs.Common.{ap, ◌∙◌}
use Rattle.std.specs.Option.{option_map}
use Rattle.ckr_library.specs.Catalog.{fresh_holding}
use Rattle.ckr_library.specs.NameMaps.{entry_at}
use Rattle.ckr_library.proofs.Spreads.{spread-inserted}
use Rattle.ckr_library.proofs.library.Library.insert.Goals as goal

pub invariant_of-self : goal.invariant_of-self
invariant_of-self c =
    spread-inserted c.self.inside.shelf.sets c.insert.new.self.sets c.self.inside.spread.spans c.file_set.new.self.spans c.self.invariant c.args.name (fresh_holding c.args.set)
    (ap (λ sets. option_map (λ h. h.set) (entry_at sets c.args.name)) (ap (λ v. v.sets) c.self.view_is ∙ c.reserve.ensures.sets) ∙ c.requires.absent) c.file_set.ensures.spans c.insert.ensures.sets
