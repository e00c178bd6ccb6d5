use Rattle.std.proofs.Common.{◌<◌, ◌+◌, drop, length, refl, ap, sym, ◌∙◌, arith}
use Rattle.std.proofs.lemmas.List.{drop_all}
use Rattle.std.specs.Option.{option_copied, option_map}
use Rattle.ckr_meaning.specs.EffectiveJob.{names_of_steps}
use Rattle.ckr_points.specs.Restart.{without_names}
use Rattle.ckr_points_runs.specs.PutBack.{catalogs_back}
use Rattle.ckr_points_runs.specs.RunJobs.{effective, own_of}
use Rattle.ckr_points_tables.specs.Selection.{printed_names}
use Rattle.ckr_points_tables.proofs.Selections.{catalogs-next}
use Rattle.ckr_points_tables.proofs.selection.put_back_catalogs_from.Goals as goal

pub loop-place-preserved : goal.loop-place-preserved
loop-place-preserved c =
    let root = c.args.job.now.root in
    let steps = (effective c.args.run c.args.job.now).steps in
    let place = c.loop-place.place in
    let gone = printed_names root (option_map own_of (option_copied c.args.printing)) in
    let inside : place < length steps = omega (arith, c.loop-place-test.true, c.count_steps-place-end.ensures c.args.run) in
    ap (catalogs_back c.args.marks.now (without_names gone (names_of_steps root (drop (place + 1) steps)))) c.put_back_step_in.ensures
    ∙ sym (catalogs-next c.args.marks.now gone root steps place (place + 1) c.loop-place.library.sets inside refl)
    ∙ c.loop-place.invariant

pub returns : goal.returns
returns c =
    let root = c.args.job.now.root in
    let steps = (effective c.args.run c.args.job.now).steps in
    let gone = printed_names root (option_map own_of (option_copied c.args.printing)) in
    sym (ap (λ some. catalogs_back c.args.marks.now (without_names gone (names_of_steps root some)) c.loop-place.library.sets) (drop_all c.loop-place.place steps (omega (arith, c.loop-place-test.false, c.count_steps-place-end.ensures c.args.run))))
    ∙ c.loop-place.invariant
