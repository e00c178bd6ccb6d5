use Rattle.std.proofs.Common.{Some, pred, ap, sym, ◌∙◌, subst}
use Rattle.ckr_library.specs.NameMaps.{EachEntry}
use Rattle.ckr_points.specs.Marks.{sysout_names}
use Rattle.ckr_points.specs.Restart.{without_names}
use Rattle.ckr_points_library.specs.Commit.{output_names}
use Rattle.ckr_points_runs.specs.PutBack.{IsFilled}
use Rattle.ckr_points_runs.specs.PutBack.{all_made_gone, catalogs_back, lengths_back}
use Rattle.ckr_points_runs.specs.RunJobs.{own_of}
use Rattle.ckr_points_runs.specs.RunMarks.{names_from}
use Rattle.ckr_points_tables.specs.Selection.{printed_names, sets_resumed}
use Rattle.ckr_points_runs.proofs.PutBack.{cut-back-filled}
use Rattle.ckr_points_tables.proofs.PutBack.{gone-each}
use Rattle.ckr_points_tables.proofs.selection.put_back_for.Goals as goal

pub put_back_lengths-requires-clause-filled : goal.put_back_lengths-requires-clause-filled
put_back_lengths-requires-clause-filled c =
    subst (EachEntry IsFilled) (sym c.delete_printed.ensures)
    (gone-each IsFilled cut-back-filled (λ on holding filled. filled) c.args.marks.now (sysout_names c.root-root.result (own_of c.args.own.now)) c.args.library.now.sets c.requires.filled)

pub returns-then-at_start : goal.returns-then-at_start
returns-then-at_start c =
    let job = c.args.job.now in
    let own = own_of c.args.own.now in
    let marks = c.args.marks.now in
    let needed = without_names (printed_names job.root (Some own)) (names_from (pred job.earlier_step) c.args.run job) in
    c.put_back_catalogs_from.ensures
    ∙ ap (λ first. catalogs_back marks (without_names (printed_names job.root (Some own)) (names_from first c.args.run job)) c.put_back_lengths.new.library.sets) c.own_from-first.ensures
    ∙ ap (catalogs_back marks needed) (c.put_back_lengths.ensures ∙ ap (lengths_back marks (output_names c.root-root.result own)) c.delete_printed.ensures)
    ∙ ap (λ root. catalogs_back marks needed (lengths_back marks (output_names root own) (all_made_gone marks (sysout_names root own) c.args.library.now.sets))) c.root-root.ensures
    ∙ ap (λ at_start. sets_resumed at_start c.args.run job job.earlier_step marks own c.args.library.now.sets) (sym c.if-at_start.true)
