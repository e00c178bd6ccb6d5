use Rattle.std.proofs.Common.{Bool, cond, None, Some, ap, sym, ◌∙◌}
use Rattle.std.specs.Option.{option_copied, option_map}
use Rattle.ckr_library.specs.declared.sets.DataSet.{DataSet}
use Rattle.ckr_volumes.specs.Records.{records_on}
use Rattle.ckr_desk_refines.specs.Listing.{set_by}
use Rattle.ckr_desk_refines.proofs.Listing.Lines.{records-so, set-none, set-there}
use Rattle.ckr_desk_refines.proofs.data_sets.free_set.Goals as goal

pub returns-in_err-set-clause-set : goal.returns-in_err-set-clause-set
returns-in_err-set-clause-set c =
    ap option_copied c.from_residual.ensures
    ∙ sym (set-none c.library.result.now.sets c.args.jobs.now.tables.desk c.library.ensures.sets c.args.name.now (c.in_err-set.ensures {u = tt}))

pub returns-in_err-set-clause-records : goal.returns-in_err-set-clause-records
returns-in_err-set-clause-records c = λ desk image layout stands.
    ap (option_map (λ (set : DataSet). records_on image layout set set.length)) (returns-in_err-set-clause-set c) ∙ records-so layout c.args.jobs.now image desk stands c.args.name.now

pub returns-in-Plain-clause-set : goal.returns-in-Plain-clause-set
returns-in-Plain-clause-set c =
    sym (
    set-there c.library.result.now.sets c.args.jobs.now.tables.desk c.library.ensures.sets c.args.name.now c.in_ok-set.set.now c.in_ok-set.ensures
    ∙ ap (λ content. set_by content c.args.jobs.now.tables.desk c.args.name.now c.in_ok-set.set.now) c.in-Plain.is
    ∙ ap (λ (b : Bool). cond b None (Some c.in_ok-set.set.now)) (sym c.is_held.ensures ∙ c.if-is_held.true))

pub returns-in-Plain-clause-records : goal.returns-in-Plain-clause-records
returns-in-Plain-clause-records c = λ desk image layout stands.
    ap (option_map (λ (set : DataSet). records_on image layout set set.length)) (returns-in-Plain-clause-set c) ∙ records-so layout c.args.jobs.now image desk stands c.args.name.now

pub returns-in-Plain-2-clause-set : goal.returns-in-Plain-2-clause-set
returns-in-Plain-2-clause-set c =
    sym (
    set-there c.library.result.now.sets c.args.jobs.now.tables.desk c.library.ensures.sets c.args.name.now c.in_ok-set.set.now c.in_ok-set.ensures
    ∙ ap (λ content. set_by content c.args.jobs.now.tables.desk c.args.name.now c.in_ok-set.set.now) c.in-Plain-2.is
    ∙ ap (λ (b : Bool). cond b None (Some c.in_ok-set.set.now)) (sym c.is_held.ensures ∙ c.if-is_held.false))

pub returns-in-Plain-2-clause-records : goal.returns-in-Plain-2-clause-records
returns-in-Plain-2-clause-records c = λ desk image layout stands.
    ap (option_map (λ (set : DataSet). records_on image layout set set.length)) (returns-in-Plain-2-clause-set c) ∙ records-so layout c.args.jobs.now image desk stands c.args.name.now

pub returns-in-Checkpoints-clause-set : goal.returns-in-Checkpoints-clause-set
returns-in-Checkpoints-clause-set c =
    sym (
    set-there c.library.result.now.sets c.args.jobs.now.tables.desk c.library.ensures.sets c.args.name.now c.in_ok-set.set.now c.in_ok-set.ensures
    ∙ ap (λ content. set_by content c.args.jobs.now.tables.desk c.args.name.now c.in_ok-set.set.now) c.in-Checkpoints.is)

pub returns-in-Checkpoints-clause-records : goal.returns-in-Checkpoints-clause-records
returns-in-Checkpoints-clause-records c = λ desk image layout stands.
    ap (option_map (λ (set : DataSet). records_on image layout set set.length)) (returns-in-Checkpoints-clause-set c) ∙ records-so layout c.args.jobs.now image desk stands c.args.name.now
