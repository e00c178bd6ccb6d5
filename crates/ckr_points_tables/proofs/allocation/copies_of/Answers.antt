use Rattle.std.proofs.Common.{◌≤◌, ◌++◌, [], ◌∷◌, take, length, sym, ap, ◌∙◌, subst, arith}
use Rattle.std.proofs.lemmas.List.{take_all, take_more}
use Rattle.ckr_events.specs.Format.{made}
use Rattle.ckr_fields.specs.Fields.{each_fits}
use Rattle.ckr_points_tables.specs.Allocation.{IsFromOne}
use Rattle.ckr_points_tables.proofs.Allocations.Parts.{all-place, fits-more, is-few}
use Rattle.ckr_points_tables.proofs.allocation.copies_of.Goals as goal

pub copy_of-requires : goal.copy_of-requires
copy_of-requires c =
    subst IsFromOne (sym c.made-item.is) (all-place IsFromOne c.args.items.now c.loop-made.made-index c.made-item.result c.requires.numbers c.loop-made-test.true)

pub loop-made-preserved : goal.loop-made-preserved
loop-made-preserved c =
    let items = c.args.items.now in
    let index = c.loop-made.made-index in
    record {
      items =
          c.in_ok-push.ensures.ok
          ∙ ap (λ xs. xs ++ c.copy_of.result ∷ []) c.loop-made.invariant.items
          ∙ ap (λ one. take index items ++ one ∷ []) (c.copy_of.ensures.same ∙ c.made-item.is)
          ∙ sym (take_more items index c.made-item.result c.loop-made-test.true);
      fits =
          subst (each_fits made.fits) (sym c.in_ok-push.ensures.ok)
          (fits-more made.fits c.loop-made.copies.items c.copy_of.result c.loop-made.invariant.fits c.copy_of.ensures.fits);
    }

pub returns-clause-fits : goal.returns-clause-fits
returns-clause-fits c =
    let same = c.loop-made.invariant.items ∙ take_all c.loop-made.made-index c.args.items.now c.loop-made-test.false in
    let few : length c.loop-made.copies.items ≤ 80 = omega (arith, ap length same, c.requires.few) in
    (is-few c.loop-made.copies.items 80 few (omega arith), c.loop-made.invariant.fits)
