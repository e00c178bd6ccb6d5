use Rattle.std.proofs.Common.{◌<◌, IsTrue, ap, sym, ◌∙◌, subst, remove, length, arith}
use Rattle.ckr_library.specs.Fronts.{fresh, fronts_from}
use Rattle.ckr_library.specs.Spread.{unfiled, rises}
use Rattle.ckr_library.proofs.Filings.{rises-unfiled}
use Rattle.ckr_library.proofs.FrontEdits.{unfiled-each, unfiled-fronts, unfiled-stand, written-whole}
use Rattle.ckr_library.proofs.FrontLists.{spread-before, spread-length}
use Rattle.ckr_library.proofs.spread.Spread.unfile.Goals as goal

pub invariant_of-self : goal.invariant_of-self
invariant_of-self c =
    let spans = c.self.inside.spans.items in
    let fronts = c.self.inside.fronts.items in
    let is = c.remove.ensures.items ∙ ap (λ spans. remove spans c.in-Some.place) (sym c.as_slice.ensures.value) ∙ sym c.in-Some.ensures.some ∙ ap (unfiled c.args.span) c.as_slice.ensures.value in
    let inside : c.in-Some.place < length spans = omega (arith, c.in-Some.ensures.inside, ap length c.as_slice.ensures.value) in
    let now = spread-before spans fronts c.as_slice-in-Some.result.now c.self.invariant c.as_slice-in-Some.ensures.value c.front_before-now.result c.in-Some.place c.front_before-now.ensures in
    let made = unfiled-fronts spans fronts c.self.invariant c.in-Some.place inside c.remove-was.result c.front_before-now.result c.remove-was.result c.remove-was.ensures.value c.as_slice-in-Some-2.result.now c.as_mut_slice.result.now
    (c.as_slice-in-Some-2.ensures.value ∙ c.remove.ensures.items) (c.as_mut_slice.ensures.value ∙ c.remove-was.ensures.items) now c.renew.new.fronts c.renew.ensures in
    record {
      rise = subst (λ spans. IsTrue (rises spans)) (sym is) (rises-unfiled c.args.span spans c.self.invariant.rise);
      stand = written-whole c.renew.new.fronts c.remove-was.new.self.items c.remove-was.new.self.len (omega (arith, c.renew.auto.fronts, c.as_mut_slice.ensures.len)) ∙ made ∙ ap (fronts_from (fresh 0)) c.as_slice-in-Some-2.ensures.value;
    }

pub front_before-now-requires : goal.front_before-now-requires
front_before-now-requires c =
    omega (arith, c.in-Some.ensures.inside, ap length c.as_slice.ensures.value, ap length c.as_slice-in-Some.ensures.value, spread-length c.self.inside.spans.items c.self.inside.fronts.items c.self.invariant)

pub remove-was-requires : goal.remove-was-requires
remove-was-requires c =
    omega (arith, c.in-Some.ensures.inside, ap length c.as_slice.ensures.value, ap length c.as_slice-in-Some.ensures.value, c.as_slice-in-Some.ensures.len, spread-length c.self.inside.spans.items c.self.inside.fronts.items c.self.invariant)

pub renew-requires-clause-each : goal.renew-requires-clause-each
renew-requires-clause-each c =
    let spans = c.self.inside.spans.items in
    let inside : c.in-Some.place < length spans = omega (arith, c.in-Some.ensures.inside, ap length c.as_slice.ensures.value) in
    unfiled-each spans c.self.inside.fronts.items c.self.invariant c.in-Some.place inside c.remove-was.result c.front_before-now.result c.remove-was.result c.remove-was.ensures.value c.as_slice-in-Some-2.result.now c.as_mut_slice.result.now
    (c.as_slice-in-Some-2.ensures.value ∙ c.remove.ensures.items) (c.as_mut_slice.ensures.value ∙ c.remove-was.ensures.items)

pub renew-requires-clause-stand : goal.renew-requires-clause-stand
renew-requires-clause-stand c =
    let spans = c.self.inside.spans.items in
    let inside : c.in-Some.place < length spans = omega (arith, c.in-Some.ensures.inside, ap length c.as_slice.ensures.value) in
    unfiled-stand spans c.self.inside.fronts.items c.self.invariant c.in-Some.place inside c.remove-was.result c.front_before-now.result c.remove-was.result c.remove-was.ensures.value c.as_slice-in-Some-2.result.now c.as_mut_slice.result.now
    (c.as_slice-in-Some-2.ensures.value ∙ c.remove.ensures.items) (c.as_mut_slice.ensures.value ∙ c.remove-was.ensures.items)
