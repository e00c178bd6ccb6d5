use Rattle.std.proofs.Common.{Some, ap, map, string_bytes, sym, ◌∙◌}
use Rattle.ckr_service.proofs.MadeWords.{few_of_kind}
use Rattle.ckr_service.proofs.top.batch_desk.Goals as goal

pub make-requires-clause-few : goal.make-requires-clause-few
make-requires-clause-few g c κs within =
    few_of_kind c.in-Some-Make.jobs (map string_bytes c.args.words.now) (ap Some (sym c.in-Some-Make.field-0-is) ∙ sym c.in-Some-Make.is ∙ c.kind_of_words.ensures)
