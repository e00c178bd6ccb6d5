use Rattle.std.proofs.Common.{ap, sym, ◌∙◌}
use Rattle.std.specs.Option.{option_copied}
use Rattle.ckr_points_tables.specs.Restart.{point_written}
use Rattle.ckr_meaning.specs.EffectiveJob.{names_of}
use Rattle.ckr_points_library.specs.Commit.{output_names}
use Rattle.ckr_points_runs.specs.PutBack.{sets_back}
use Rattle.ckr_points_runs.specs.RunJobs.{own_of}
use Rattle.ckr_points_runs.specs.View.{facts_of}
use Rattle.ckr_points_tables.proofs.Restarts.Pieces.{entry-built}
use Rattle.ckr_points_tables.proofs.restart.restart_at_point.Goals as goal

pub returns : goal.returns
returns c = λ effect is.
    entry-built c.args.line.now (facts_of c.args.table.now) c.args.library.now.sets c.args.step c.args.initiator (own_of c.in-Some.own) (sym c.in-Some.ensures.step)
    (point_written (option_copied c.args.point)) effect is
    c.go_on.new.line c.go_on.ensures
    c.put_back_sets.new.library.sets c.marks_of-marks.result.now c.marks_of-marks.ensures (c.put_back_sets.ensures ∙ ap (λ root. sets_back c.marks_of-marks.result.now (output_names root (own_of c.in-Some.own)) (names_of root (own_of c.in-Some.own)) c.args.library.now.sets) c.root-root.ensures)
    c.put_back_passed.new.passed.items (c.put_back_passed.ensures ∙ c.passed_of.ensures)
    c.writes_of.result c.count_of.result c.writes_of.ensures c.count_of.ensures
    (facts_of c.go_back.new.table) (facts_of c.count_at_entry.new.table) c.go_back.ensures.facts c.count_at_entry.ensures
