use Rattle.std.proofs.Common.{ap, sym, ◌∙◌, false}
use Rattle.std.specs.Option.{option_map_or}
use Rattle.ckr_meaning.specs.EffectiveJob.{OwnedStep}
use Rattle.ckr_points_tables.proofs.RunJobs.{step-all}
use Rattle.ckr_points_tables.specs.Rewrite.{has_master}
use Rattle.ckr_points_tables.specs.RunJobs.{own_of}
use Rattle.ckr_points_follows.specs.Rewrite.{is_rewrite_of}
use Rattle.ckr_points.specs.Follows.{is_rewrite}
use Rattle.ckr_points.specs.Restart.{place_of, step_in}
use Rattle.ckr_points_deferred.specs.Runs.{row_now}
use Rattle.ckr_points_follows.proofs.Rewrites.{rewrite-by}
use Rattle.ckr_points_follows.proofs.rewrite.step_rewrites.Goals as goal

pub returns-in-Some : goal.returns-in-Some
returns-in-Some c =
    let run = c.args.run.now in
    let row = row_now run in
    let own = own_of c.in-Some.own in
    let desk = c.args.tables.now.desk in
    c.is_rewrite.ensures
    ∙ ap (λ r. is_rewrite_of desk.sets r own c.args.place c.args.image.now) c.root.ensures
    ∙ rewrite-by desk row own c.args.place c.args.image.now (step-all (λ (one : OwnedStep). has_master one.step) row.job (step_in (place_of row)) own c.requires.masters (sym c.in-Some.ensures.step))
    ∙ ap (λ there. option_map_or (is_rewrite desk c.args.place c.args.image.now row) there false) c.in-Some.ensures.step
