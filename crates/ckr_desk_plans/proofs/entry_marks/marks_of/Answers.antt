use Rattle.std.proofs.Common.{[], ◌∷◌, IsTrue, arith, sym, subst, ◌∙◌}
use Rattle.std.proofs.lemmas.Grind.{common_steps}
use Rattle.std.proofs.lemmas.List.{take_all}
use Rattle.std.specs.List.{AllByRecursion}
use Rattle.ckr_base.proofs.Sequences.{each-append}
use Rattle.ckr_points_tables.specs.MarkOrder.{are_in_order}
use Rattle.ckr_desk_plans.specs.EntryTypes.{IsTypedMark}
use Rattle.ckr_desk_plans.proofs.entry_marks.marks_of.Goals as goal

pub loop-mark-preserved : goal.loop-mark-preserved
loop-mark-preserved c = record {
  same = grind (arith, common_steps);
  typed = subst (AllByRecursion IsTypedMark) (sym c.in_ok-push.ensures.ok)
      (each-append IsTypedMark c.loop-mark.marks.items (c.copy_of_mark.result ∷ []) c.loop-mark.invariant.typed (c.copy_of_mark.ensures.typed, tt));
}

pub returns-clause-order : goal.returns-clause-order
returns-clause-order c =
    subst (λ marks. IsTrue (are_in_order marks))
    (sym (c.loop-mark.invariant.same ∙ take_all c.loop-mark.mark-index c.as_slice-mark-items.result.now c.loop-mark-test.false ∙ c.as_slice-mark-items.ensures.value)) c.in_ok-items.ensures.order
