use Rattle.std.proofs.Common.{◌≡◌, ◌-◌, ◌<◌, suc, length, ap, sym, ◌∙◌, arith}
use Rattle.std.specs.Option.{option_map}
use Rattle.std.proofs.lemmas.List.{length-map}
use Rattle.ckr_base.proofs.Sequences.{get-from}
use Rattle.ckr_points.specs.Rows.{run_of}
use Rattle.ckr_points_deferred.specs.Latest.{latest_before, selected_among}
use Rattle.ckr_points_deferred.specs.Runs.{row_now}
use Rattle.ckr_points_deferred.proofs.LatestRuns.{latest-found, latest-lost}
use Rattle.ckr_points_deferred.proofs.latest.latest_run.Goals as goal

pub returns-in-Some-clause-row : goal.returns-in-Some-clause-row
returns-in-Some-clause-row c =
    let desk = c.args.tables.now.desk in
    let lines = c.runs-lines.result.now in
    let place = c.loop-left.left - 1 in
    let inside : place < length lines = omega (arith, simp length-map at (ap length c.runs-lines.ensures.lines), c.loop-left.invariant.inside, c.loop-left-test.true) in
    let more : suc place ≡ c.loop-left.left = omega (arith, c.loop-left-test.true) in
    latest-found desk c.runs-lines.ensures.rows lines c.runs-lines.ensures.lines c.args.name.now place c.index-lines-left.result (row_now c.in-Some.run') (get-from lines place c.index-lines-left.result inside c.index-lines-left.is) (c.in-Some.ensures.row ∙ ap (λ line. selected_among c.args.name.now (run_of desk line.number)) (sym c.index-lines-left.is))
    ∙ ap (λ n. latest_before c.args.name.now n desk.runs) more
    ∙ c.loop-left.invariant.latest

pub loop-left-preserved : goal.loop-left-preserved
loop-left-preserved c =
    let desk = c.args.tables.now.desk in
    let lines = c.runs-lines.result.now in
    let place = c.loop-left.left - 1 in
    let inside : place < length lines = omega (arith, simp length-map at (ap length c.runs-lines.ensures.lines), c.loop-left.invariant.inside, c.loop-left-test.true) in
    let more : suc place ≡ c.loop-left.left = omega (arith, c.loop-left-test.true) in
    record {
      inside = omega (arith, c.loop-left.invariant.inside);
      latest = latest-lost desk c.runs-lines.ensures.rows lines c.runs-lines.ensures.lines c.args.name.now place c.index-lines-left.result (get-from lines place c.index-lines-left.result inside c.index-lines-left.is)
          (ap (option_map row_now) (sym c.in_default.is) ∙ c.selected_run.ensures.row ∙ ap (λ line. selected_among c.args.name.now (run_of desk line.number)) (sym c.index-lines-left.is))
          ∙ ap (λ n. latest_before c.args.name.now n desk.runs) more
          ∙ c.loop-left.invariant.latest;
    }
