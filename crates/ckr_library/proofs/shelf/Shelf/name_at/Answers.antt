use Rattle.std.proofs.Common.{ap, slice_get, ◌∙◌}
use Rattle.std.specs.Option.{option_map}
use Rattle.ckr_library.specs.declared.shelf.Held.{Held}
use Rattle.ckr_library.specs.NameMaps.{names_of}
use Rattle.ckr_library.specs.Shelves.{picked}
use Rattle.ckr_library.proofs.Shelves.{names-items}
use Rattle.ckr_library.proofs.shelf.Shelf.name_at.Goals as goal

pub returns-in-Some-clause-name : goal.returns-in-Some-clause-name
returns-in-Some-clause-name c =
    ap (option_map (λ (held : Held). held.name)) (
    c.in-Some.ensures ∙ ap (λ order. slice_get (picked order c.as_slice-2.result.now) c.args.place) c.as_slice.ensures.value ∙ ap (λ items. slice_get (picked c.self.inside.order.items items) c.args.place) c.as_slice-2.ensures.value
    ) ∙ names-items (picked c.self.inside.order.items c.self.inside.items.items) c.args.place ∙ ap (λ v. slice_get (names_of v.sets) c.args.place) c.self.view_is

pub returns-in-None-clause-name : goal.returns-in-None-clause-name
returns-in-None-clause-name c =
    ap (option_map (λ (held : Held). held.name)) (
    c.in-None.ensures ∙ ap (λ order. slice_get (picked order c.as_slice-2.result.now) c.args.place) c.as_slice.ensures.value ∙ ap (λ items. slice_get (picked c.self.inside.order.items items) c.args.place) c.as_slice-2.ensures.value
    ) ∙ names-items (picked c.self.inside.order.items c.self.inside.items.items) c.args.place ∙ ap (λ v. slice_get (names_of v.sets) c.args.place) c.self.view_is
