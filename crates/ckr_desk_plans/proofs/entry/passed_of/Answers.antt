use Rattle.std.proofs.Common.{arith, sym, subst}
use Rattle.std.proofs.lemmas.Grind.{common_steps}
use Rattle.ckr_entry.specs.Sets.{passed_one}
use Rattle.ckr_fields.specs.Fields.{ds_name, each_fits}
use Rattle.ckr_points_tables.proofs.Allocations.Parts.{fits-more}
use Rattle.ckr_desk_plans.proofs.EntryTypes.{ds_name-fits}
use Rattle.ckr_desk_plans.proofs.entry.passed_of.Goals as goal

pub loop-one-preserved : goal.loop-one-preserved
loop-one-preserved c = record {
  same = grind (arith, common_steps);
  typed = subst (each_fits passed_one.fits) (sym c.in_ok-push.ensures.ok)
      (fits-more passed_one.fits c.loop-one.passed.items _ c.loop-one.invariant.typed
      (subst ds_name.fits (sym c.copied.ensures) (ds_name-fits c.one-item.result.name c.text-grammar.ensures.grammar), tt));
}
