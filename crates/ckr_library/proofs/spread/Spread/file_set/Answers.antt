use Rattle.std.proofs.Common.{ap, sym, ◌∙◌, ◌+◌, arith, drop, flat_map}
use Rattle.ckr_library.specs.Spread.{spans_of_part, filed_all}
use Rattle.ckr_library.proofs.Filings.{filed-next}
use Rattle.ckr_library.proofs.spread.Spread.file_set.Goals as goal

pub loop-part-preserved : goal.loop-part-preserved
loop-part-preserved c =
    let spans = spans_of_part c.args.set.now.lrecl in
    let items = c.as_slice-part-items.result.now in
    record {
      spans =
          ap (λ filing. filed_all (flat_map spans (drop (c.loop-part.part-index + 1) items)) filing) (c.file_part.ensures.spans ∙ ap (λ part. filed_all (spans part) c.loop-part.self.spans) c.part-item.is)
          ∙ sym (filed-next spans items c.loop-part.part-index c.part-item.result c.loop-part-test.true c.loop-part.self.spans) ∙ c.loop-part.invariant.spans;
      room = omega (arith, c.loop-part.invariant.room, c.file_part.ensures.room);
    }
