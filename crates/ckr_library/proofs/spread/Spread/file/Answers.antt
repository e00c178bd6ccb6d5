use Rattle.std.proofs.Common.{◌≡◌, ◌≤◌, IsTrue, ap, sym, ◌∙◌, subst, insert, length, arith}
use Rattle.ckr_library.specs.Fronts.{fresh, fronts_from}
use Rattle.ckr_library.specs.Places.{lead}
use Rattle.ckr_library.specs.Spread.{is_before, filed, rises}
use Rattle.ckr_library.proofs.Filings.{filed-insert, rises-filed}
use Rattle.ckr_library.proofs.FrontEdits.{filed-each, filed-fronts, filed-stand, written-whole}
use Rattle.ckr_library.proofs.FrontLists.{spread-before, spread-length}
use Rattle.ckr_library.proofs.spread.Spread.file.Goals as goal

pub invariant_of-self : goal.invariant_of-self
invariant_of-self c =
    let spans = c.self.inside.spans.items in
    let fronts = c.self.inside.fronts.items in
    let place : c.place_of-place.result ≡ lead (λ other. is_before other c.args.span) spans = c.place_of-place.ensures.place ∙ ap (lead (λ other. is_before other c.args.span)) c.as_slice.ensures.value in
    let is = c.in-Ok.ensures.items ∙ ap (λ i. insert spans i c.args.span) place ∙ filed-insert c.args.span spans in
    let inside : c.place_of-place.result ≤ length spans = omega (arith, c.place_of-place.ensures.bound, ap length c.as_slice.ensures.value) in
    let was = spread-before spans fronts c.as_slice-2.result.now c.self.invariant c.as_slice-2.ensures.value c.front_before-was.result c.place_of-place.result c.front_before-was.ensures in
    let made = filed-fronts spans fronts c.self.invariant c.place_of-place.result inside c.args.span c.front_before-was.result c.front_after-now.result was c.front_after-now.ensures c.as_slice-3.result.now c.as_mut_slice.result.now
    (c.as_slice-3.ensures.value ∙ c.in-Ok.ensures.items) (c.as_mut_slice.ensures.value ∙ c.in-Ok-insert.ensures.items) c.renew.new.fronts c.renew.ensures in
    record {
      rise = subst (λ some. IsTrue (rises some)) (sym is) (rises-filed c.args.span spans c.self.invariant.rise);
      stand = written-whole c.renew.new.fronts c.insert-2.new.self.items c.insert-2.new.self.len (omega (arith, c.renew.auto.fronts, c.as_mut_slice.ensures.len)) ∙ made ∙ ap (fronts_from (fresh 0)) c.as_slice-3.ensures.value;
    }

pub returns-clause-spans : goal.returns-clause-spans
returns-clause-spans c =
    let place : c.place_of-place.result ≡ lead (λ other. is_before other c.args.span) c.self.inside.spans.items = c.place_of-place.ensures.place ∙ ap (lead (λ other. is_before other c.args.span)) c.as_slice.ensures.value in
    c.in-Ok.ensures.items ∙ ap (λ i. insert c.self.inside.spans.items i c.args.span) place ∙ filed-insert c.args.span c.self.inside.spans.items ∙ ap (λ v. filed c.args.span v.spans) c.self.view_is

pub front_before-was-requires : goal.front_before-was-requires
front_before-was-requires c =
    omega (arith, c.place_of-place.ensures.bound, ap length c.as_slice.ensures.value, ap length c.as_slice-2.ensures.value, spread-length c.self.inside.spans.items c.self.inside.fronts.items c.self.invariant)

pub insert-requires-2 : goal.insert-requires-2
insert-requires-2 c =
    omega (arith, c.place_of-place.ensures.bound, ap length c.as_slice.ensures.value, ap length c.as_slice-2.ensures.value, c.as_slice-2.ensures.len, spread-length c.self.inside.spans.items c.self.inside.fronts.items c.self.invariant)

pub renew-requires-clause-each : goal.renew-requires-clause-each
renew-requires-clause-each c =
    let spans = c.self.inside.spans.items in
    let fronts = c.self.inside.fronts.items in
    let inside : c.place_of-place.result ≤ length spans = omega (arith, c.place_of-place.ensures.bound, ap length c.as_slice.ensures.value) in
    let was = spread-before spans fronts c.as_slice-2.result.now c.self.invariant c.as_slice-2.ensures.value c.front_before-was.result c.place_of-place.result c.front_before-was.ensures in
    filed-each spans fronts c.self.invariant c.place_of-place.result inside c.args.span c.front_before-was.result c.front_after-now.result was c.front_after-now.ensures c.as_slice-3.result.now c.as_mut_slice.result.now
    (c.as_slice-3.ensures.value ∙ c.in-Ok.ensures.items) (c.as_mut_slice.ensures.value ∙ c.in-Ok-insert.ensures.items)

pub renew-requires-clause-stand : goal.renew-requires-clause-stand
renew-requires-clause-stand c =
    let spans = c.self.inside.spans.items in
    let fronts = c.self.inside.fronts.items in
    let inside : c.place_of-place.result ≤ length spans = omega (arith, c.place_of-place.ensures.bound, ap length c.as_slice.ensures.value) in
    let was = spread-before spans fronts c.as_slice-2.result.now c.self.invariant c.as_slice-2.ensures.value c.front_before-was.result c.place_of-place.result c.front_before-was.ensures in
    filed-stand spans fronts c.self.invariant c.place_of-place.result inside c.args.span c.front_before-was.result c.front_after-now.result was c.front_after-now.ensures c.as_slice-3.result.now c.as_mut_slice.result.now
    (c.as_slice-3.ensures.value ∙ c.in-Ok.ensures.items) (c.as_mut_slice.ensures.value ∙ c.in-Ok-insert.ensures.items)
