use Rattle.std.proofs.Common.{ap, sym, ◌∙◌, refl}
use Rattle.ckr_library.specs.Catalog.{with_stamp}
use Rattle.ckr_library.specs.Spread.{spans_of_all}
use Rattle.ckr_library.proofs.Spreads.{spans-changed}
use Rattle.ckr_library.proofs.library.Library.set_stamp.Goals as goal

pub invariant_of-self : goal.invariant_of-self
invariant_of-self c =
    c.self.invariant ∙ sym (spans-changed c.self.inside.shelf.sets c.set_stamp.ensures.order c.args.name.now (with_stamp c.args.stamp) (λ h. refl)) ∙ ap spans_of_all (sym c.set_stamp.ensures.sets)
