use Rattle.std.proofs.Common.{ap, sym, ◌∙◌}
use Rattle.ckr_library.specs.Catalog.{with_kept}
use Rattle.ckr_library.specs.NameMaps.{with_changed}
use Rattle.ckr_meaning.specs.EffectiveJob.{step_at}
use Rattle.ckr_points_runs.specs.RunChange.{checkpointed_facts, going}
use Rattle.ckr_points_runs.specs.RunJobs.{effective}
use Rattle.ckr_points_runs.specs.View.{Writing, facts_of, writing_of, written_of}
use Rattle.ckr_points_runs.proofs.CheckpointRuns.{goes-behind, has-checkpoints, has-room, wrote-behind}
use Rattle.ckr_points_runs.proofs.checkpoint.checkpoint_run.Goals as goal

pub take_entry-entry-requires-clause-named : goal.take_entry-entry-requires-clause-named
take_entry-entry-requires-clause-named c =
    let run = c.args.line.now.number in
    has-checkpoints c.args.table.now.job.root c.args.kept.place c.args.kept.bytes c.args.lengths.now c.args.library.now (step_at (effective run c.args.table.now.job) c.args.far.step) (sym (c.if-not-has_step.ensures run)) c.requires.may.keeps c.commit.ensures.named

pub keep_entry-requires : goal.keep_entry-requires
keep_entry-requires c =
    let run = c.args.line.now.number in
    has-room c.args.table.now.job.root c.args.kept.place c.args.kept.bytes c.args.lengths.now c.args.library.now (step_at (effective run c.args.table.now.job) c.args.far.step) (sym (c.if-not-has_step.ensures run)) c.requires.may.keeps c.commit.ensures.named
    c.commit.new.library c.commit.ensures.entries c.take_entry-entry.result.set
    (λ own there. ap (λ (writing : Writing). writing.set) (c.take_entry-entry.ensures.entry own there))

pub returns-clause-going : goal.returns-clause-going
returns-clause-going c =
    let run = c.args.line.now.number in
    let set = c.take_entry-entry.result.set in
    ap (λ facts. going c.args.line.now facts c.keep_entry.new.library.sets) c.go_behind.ensures
    ∙ ap (λ sets. going c.args.line.now (checkpointed_facts c.args.far.step c.args.far.writes set c.args.kept (facts_of c.args.table.now)) sets)
    (c.keep_entry.ensures ∙ ap (λ kept. with_changed set (with_kept kept) c.commit.new.library.sets) c.copy_of_kept.ensures)
    ∙ goes-behind c.args.line.now (facts_of c.args.table.now) c.args.library.now.sets c.args.far.step c.args.kept c.args.far.taken c.args.far.writes c.args.lengths.now
    (step_at (effective run c.args.table.now.job) c.args.far.step) (sym (c.if-not-has_step.ensures run)) c.commit.new.library.sets c.commit.ensures.sets set
    (λ own there. ap (λ (writing : Writing). writing.set) (c.take_entry-entry.ensures.entry own there))

pub returns-clause-entries : goal.returns-clause-entries
returns-clause-entries c =
    let run = c.args.line.now.number in
    c.enter.ensures
    ∙ wrote-behind c.args.line.now (facts_of c.args.table.now) c.args.library.now.sets c.args.far.step c.args.kept c.args.far.taken c.args.far.writes c.args.lengths.now
    (step_at (effective run c.args.table.now.job) c.args.far.step) (sym (c.if-not-has_step.ensures run)) c.commit.new.library.sets c.commit.ensures.sets
    (written_of c.args.entries.now) (writing_of c.take_entry-entry.result) c.take_entry-entry.ensures.entry
