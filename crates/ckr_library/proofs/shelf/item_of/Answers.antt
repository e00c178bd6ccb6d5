use Rattle.std.proofs.Common.{◌<◌, Some, ap, length, slice_index_or, subst, sym, ◌∙◌}
use Rattle.std.proofs.lemmas.Option.{slice_get-get_or}
use Rattle.ckr_base.proofs.Sequences.{each-get}
use Rattle.ckr_library.specs.Shelves.{picked, place_in}
use Rattle.ckr_library.proofs.ItemEdits.{place-within}
use Rattle.ckr_library.proofs.shelf.item_of.Goals as goal

pub bounds-order-place_of : goal.bounds-order-place_of
bounds-order-place_of c =
    subst (λ n. n < length c.args.order.now) (sym c.place_of.ensures.place)
    (place-within c.args.order.now c.args.items.now c.requires.shelved.inside c.requires.shelved.rise c.args.name.now c.requires.there)

pub returns-clause-item : goal.returns-clause-item
returns-clause-item c =
    slice_get-get_or c.args.order.now (place_in c.args.name.now (picked c.args.order.now c.args.items.now)) 0
    (place-within c.args.order.now c.args.items.now c.requires.shelved.inside c.requires.shelved.rise c.args.name.now c.requires.there)
    ∙ ap (λ place. Some (slice_index_or c.args.order.now place 0)) (sym c.place_of.ensures.place)

pub returns-clause-bound : goal.returns-clause-bound
returns-clause-bound c =
    each-get (λ item. item < length c.args.items.now) c.args.order.now (place_in c.args.name.now (picked c.args.order.now c.args.items.now)) (slice_index_or c.args.order.now c.place_of.result 0) c.requires.shelved.inside (
    slice_get-get_or c.args.order.now (place_in c.args.name.now (picked c.args.order.now c.args.items.now)) 0
    (place-within c.args.order.now c.args.items.now c.requires.shelved.inside c.requires.shelved.rise c.args.name.now c.requires.there)
    ∙ ap (λ place. Some (slice_index_or c.args.order.now place 0)) (sym c.place_of.ensures.place))
