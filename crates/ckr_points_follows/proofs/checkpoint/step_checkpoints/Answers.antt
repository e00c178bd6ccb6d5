use Rattle.std.proofs.Common.{ap, sym, ◌∙◌, false}
use Rattle.std.specs.List.{list_all}
use Rattle.std.specs.Option.{option_map_or}
use Rattle.ckr_points_tables.specs.RunJobs.{own_of}
use Rattle.ckr_points_follows.specs.Checkpoint.{is_checkpoint_of}
use Rattle.ckr_points.specs.Follows.{is_checkpoint}
use Rattle.ckr_points_library.specs.Commit.{is_named}
use Rattle.ckr_points_follows.specs.Lengths.{outputs_from}
use Rattle.ckr_points_deferred.specs.Runs.{row_now}
use Rattle.ckr_points_follows.proofs.Checkpoints.{checkpoint-by}
use Rattle.ckr_points_follows.proofs.checkpoint.step_checkpoints.Goals as goal

pub returns-in-Some : goal.returns-in-Some
returns-in-Some c =
    let run = c.args.run.now in
    let row = row_now run in
    let own = own_of c.in-Some.own in
    let desk = c.args.tables.now.desk in
    let root = run.table.now.job.root in
    c.is_checkpoint.ensures
    ∙ ap (λ r. is_checkpoint_of desk.sets r own c.args.id.now c.args.lengths.now c.args.place c.args.bytes) c.root-root.ensures
    ∙ checkpoint-by desk row own c.args.id.now c.args.lengths.now c.args.place c.args.bytes
    (ap (λ dds. list_all is_named (outputs_from root own dds)) (sym c.as_slice.ensures) ∙ ap (λ r. list_all is_named (outputs_from r own c.as_slice.result.now)) (sym c.root-root.ensures) ∙ c.have_names.ensures)
    ∙ ap (λ there. option_map_or (is_checkpoint desk c.args.id.now c.args.lengths.now c.args.place c.args.bytes row) there false) c.in-Some.ensures.step
