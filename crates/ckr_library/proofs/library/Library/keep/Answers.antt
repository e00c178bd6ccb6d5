use Rattle.std.proofs.Common.{ap, sym, ◌∙◌, refl}
use Rattle.ckr_library.specs.Catalog.{with_kept}
use Rattle.ckr_library.specs.Spread.{spans_of_all}
use Rattle.ckr_library.proofs.EntryRooms.{on-either}
use Rattle.ckr_library.proofs.Spreads.{spans-changed}
use Rattle.ckr_library.proofs.library.Library.keep.Goals as goal

pub invariant_of-self : goal.invariant_of-self
invariant_of-self c =
    c.self.invariant ∙ on-either c.keep.result c.keep.ensures.ok c.keep.ensures.err
    (λ kept. sym (spans-changed c.self.inside.shelf.sets c.keep.ensures.order c.args.name.now (with_kept c.args.kept) (λ h. refl)) ∙ ap spans_of_all (sym kept))
    (λ same. ap spans_of_all (sym same))
