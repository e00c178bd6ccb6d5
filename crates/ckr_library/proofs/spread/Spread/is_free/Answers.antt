use Rattle.std.proofs.Common.{◌≡◌, ◌+◌, ap, ◌∙◌, nat_le, filter, length, take, arith}
use Rattle.std.specs.List.{list_all}
use Rattle.ckr_library.specs.Fronts.{fresh, front_on, front_of, begins_before}
use Rattle.ckr_library.specs.Places.{lead}
use Rattle.ckr_library.specs.Spread.{is_on, is_clear}
use Rattle.ckr_library.proofs.FreeBytes.{free-spread}
use Rattle.ckr_library.proofs.FrontLists.{spread-before, spread-length}
use Rattle.ckr_library.proofs.spread.Spread.is_free.Goals as goal

pub returns : goal.returns
returns c =
    let spans = c.self.inside.spans.items in
    let place : c.first_behind-place.result ≡ lead (begins_before c.args.volume (c.args.start + c.args.bytes)) spans =
    c.first_behind-place.ensures.place ∙ ap (lead (begins_before c.args.volume (c.args.start + c.args.bytes))) c.as_slice.ensures.value in
    let before = spread-before spans c.self.inside.fronts.items c.as_slice-2.result.now c.self.invariant c.as_slice-2.ensures.value c.front_before.result c.first_behind-place.result c.front_before.ensures in
    ap (λ f. nat_le f.reach c.args.start) (c.front_on.ensures ∙ ap (front_on c.args.volume) (before ∙ ap (λ n. front_of (fresh 0) (take n spans)) place))
    ∙ free-spread c.args.volume c.args.start c.args.bytes spans c.self.invariant.rise
    ∙ ap (λ v. list_all (is_clear c.args.start c.args.bytes) (filter (is_on c.args.volume) v.spans)) c.self.view_is

pub front_before-requires : goal.front_before-requires
front_before-requires c =
    omega (arith, c.first_behind-place.ensures.bound, ap length c.as_slice.ensures.value, ap length c.as_slice-2.ensures.value, spread-length c.self.inside.spans.items c.self.inside.fronts.items c.self.invariant)
