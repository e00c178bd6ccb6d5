use Rattle.std.proofs.Common.{sym, subst}
use Rattle.ckr_fields.specs.Fields.{ds_name}
use Rattle.ckr_desk_plans.proofs.EntryTypes.{ds_name-fits}
use Rattle.ckr_desk_plans.proofs.entry_marks.copy_of_mark.Goals as goal

pub returns-clause-typed : goal.returns-clause-typed
returns-clause-typed c = record {
  name = subst ds_name.fits (sym c.copied.ensures) (ds_name-fits c.args.mark.now.name c.text-grammar.ensures.grammar);
  set = c.copy_of_present.ensures.typed;
}
