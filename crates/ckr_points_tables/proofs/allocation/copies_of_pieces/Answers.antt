use Rattle.std.proofs.Common.{◌≤◌, ◌++◌, [], ◌∷◌, take, length, sym, ap, ◌∙◌, subst, arith}
use Rattle.std.proofs.lemmas.List.{take_all, take_more}
use Rattle.ckr_events.specs.declared.event.Piece.{Piece}
use Rattle.ckr_events.specs.Format.{piece}
use Rattle.ckr_fields.specs.Fields.{each_fits}
use Rattle.ckr_points_tables.proofs.Allocations.Parts.{fits-more, is-few}
use Rattle.ckr_points_tables.proofs.allocation.copies_of_pieces.Goals as goal

pub loop-piece-preserved : goal.loop-piece-preserved
loop-piece-preserved c =
    let items = c.as_slice-piece-items.result.now in
    let index = c.loop-piece.piece-index in
    let none : Piece = record { start = 0; records = 0 } in
    record {
      items =
          c.push.ensures.items
          ∙ ap (λ xs. xs ++ c.piece_of.result ∷ []) c.loop-piece.invariant.items
          ∙ ap (λ one. take index items ++ one ∷ []) c.piece_of.ensures.piece
          ∙ sym (take_more items index none c.loop-piece-test.true);
      fits =
          subst (each_fits piece.fits) (sym c.push.ensures.items)
          (fits-more piece.fits c.loop-piece.copies.items c.piece_of.result c.loop-piece.invariant.fits c.piece_of.ensures.fits);
    }

pub returns-clause-fits : goal.returns-clause-fits
returns-clause-fits c =
    let items = c.as_slice-piece-items.result.now in
    let same = c.loop-piece.invariant.items ∙ take_all c.loop-piece.piece-index items c.loop-piece-test.false in
    let few : length c.loop-piece.copies.items ≤ 5 = omega (arith, ap length same, c.as_slice-piece-items.ensures.fits) in
    (is-few c.loop-piece.copies.items 5 few (omega arith), c.loop-piece.invariant.fits)
