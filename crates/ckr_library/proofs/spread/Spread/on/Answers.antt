use Rattle.std.proofs.Common.{◌≤◌, ap, sym, ◌∙◌, subst, filter, take, drop, ◌-◌}
use Rattle.ckr_library.specs.Places.{lead}
use Rattle.ckr_library.specs.Spread.{is_on, is_below, is_at_most}
use Rattle.ckr_library.proofs.Filings.{below-le-at_most, spans_between}
use Rattle.ckr_library.proofs.spread.Spread.on.Goals as goal

pub returns : goal.returns
returns c =
    c.between.ensures ∙ ap (λ spans. take (c.first_above-to.result - c.first_from-from.result) (drop c.first_from-from.result spans)) c.as_slice-3.ensures.value
    ∙ spans_between c.args.volume c.self.inside.spans.items c.self.invariant.rise c.first_from-from.result c.first_above-to.result
    (c.first_from-from.ensures.place ∙ ap (lead (is_below c.args.volume)) c.as_slice.ensures.value) (c.first_above-to.ensures.place ∙ ap (lead (is_at_most c.args.volume)) c.as_slice-2.ensures.value)
    ∙ ap (λ v. filter (is_on c.args.volume) v.spans) c.self.view_is

pub between-requires-clause-order : goal.between-requires-clause-order
between-requires-clause-order c =
    subst (λ n. n ≤ c.first_above-to.result) (sym (c.first_from-from.ensures.place ∙ ap (lead (is_below c.args.volume)) c.as_slice.ensures.value))
    (subst (λ n. lead (is_below c.args.volume) c.self.inside.spans.items ≤ n) (sym (c.first_above-to.ensures.place ∙ ap (lead (is_at_most c.args.volume)) c.as_slice-2.ensures.value))
    (below-le-at_most c.args.volume c.self.inside.spans.items))
