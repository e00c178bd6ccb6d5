use Rattle.ckr_library.proofs.Spreads.{spread-removed}
use Rattle.ckr_library.proofs.library.Library.remove.Goals as goal

pub invariant_of-self : goal.invariant_of-self
invariant_of-self c =
    spread-removed c.self.inside.shelf.sets c.remove-set.new.self.sets c.self.inside.spread.spans c.unfile_set.new.self.spans c.remove-set.ensures.order c.self.invariant c.args.name.now c.remove-set.result c.remove-set.ensures.set c.unfile_set.ensures.spans c.remove-set.ensures.sets
