use Rattle.std.proofs.Common.{◌≡◌, ◌≤◌, ◌-◌, ap, ◌∙◌, filter, length, take, drop, sym, subst, arith}
use Rattle.std.specs.List.Sorted.{IsPartitionedBy}
use Rattle.ckr_library.specs.Fronts.{fresh, front_on, front_of, is_packed_on}
use Rattle.ckr_library.specs.Places.{lead}
use Rattle.ckr_library.specs.Spread.{is_on, is_at_most, packed_to, behind_packed}
use Rattle.ckr_library.proofs.FrontLists.{spread-before}
use Rattle.ckr_library.proofs.PackedFronts.{spread-order, spread-parted, spread-reach, spread-rest}
use Rattle.ckr_library.proofs.spread.Spread.packed_on.Goals as goal

pub returns-clause-from : goal.returns-clause-from
returns-clause-from c =
    let spans = c.self.inside.spans.items in
    let place : c.first_parted-place.result ≡ lead (is_packed_on c.args.volume) c.self.inside.fronts.items = c.first_parted-place.ensures.place ∙ ap (lead (is_packed_on c.args.volume)) c.as_slice.ensures.value in
    let before = spread-before spans c.self.inside.fronts.items c.as_slice-3.result.now c.self.invariant c.as_slice-3.ensures.value c.front_before.result c.first_parted-place.result c.front_before.ensures in
    ap (λ f. f.reach) (c.front_on.ensures ∙ ap (front_on c.args.volume) (before ∙ ap (λ n. front_of (fresh 0) (take n spans)) place))
    ∙ spread-reach c.args.volume spans c.self.inside.fronts.items c.self.invariant
    ∙ ap (λ v. packed_to 0 (filter (is_on c.args.volume) v.spans)) c.self.view_is

pub returns-clause-rest : goal.returns-clause-rest
returns-clause-rest c =
    let spans = c.self.inside.spans.items in
    let place : c.first_parted-place.result ≡ lead (is_packed_on c.args.volume) c.self.inside.fronts.items = c.first_parted-place.ensures.place ∙ ap (lead (is_packed_on c.args.volume)) c.as_slice.ensures.value in
    let to : c.first_above-to.result ≡ lead (is_at_most c.args.volume) spans = c.first_above-to.ensures.place ∙ ap (lead (is_at_most c.args.volume)) c.as_slice-2.ensures.value in
    c.between.ensures ∙ (λ i. take (to i - place i) (drop (place i) (c.as_slice-4.ensures.value i)))
    ∙ spread-rest c.args.volume spans c.self.inside.fronts.items c.self.invariant
    ∙ ap (λ v. behind_packed 0 (filter (is_on c.args.volume) v.spans)) c.self.view_is

pub first_parted-place-requires : goal.first_parted-place-requires
first_parted-place-requires c =
    subst (λ fronts. IsPartitionedBy (is_packed_on c.args.volume) fronts) (sym c.as_slice.ensures.value) (spread-parted c.args.volume c.self.inside.spans.items c.self.inside.fronts.items c.self.invariant)

pub front_before-requires : goal.front_before-requires
front_before-requires c = omega (arith, c.first_parted-place.ensures.bound, ap length c.as_slice.ensures.value, ap length c.as_slice-3.ensures.value)

pub between-requires-clause-order : goal.between-requires-clause-order
between-requires-clause-order c =
    subst (λ n. n ≤ c.first_above-to.result) (sym (c.first_parted-place.ensures.place ∙ ap (lead (is_packed_on c.args.volume)) c.as_slice.ensures.value))
    (subst (λ n. lead (is_packed_on c.args.volume) c.self.inside.fronts.items ≤ n) (sym (c.first_above-to.ensures.place ∙ ap (lead (is_at_most c.args.volume)) c.as_slice-2.ensures.value))
    (spread-order c.args.volume c.self.inside.spans.items c.self.inside.fronts.items c.self.invariant))

pub between-requires-clause-inside : goal.between-requires-clause-inside
between-requires-clause-inside c = omega (arith, c.first_above-to.ensures.bound, ap length c.as_slice-2.ensures.value, ap length c.as_slice-4.ensures.value)
