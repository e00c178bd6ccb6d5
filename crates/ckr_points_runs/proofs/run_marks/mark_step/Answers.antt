use Rattle.std.proofs.Common.{◌≡◌, ℕ, ◌<◌, ◌≤◌, ◌+◌, ◌-◌, ap, sym, ◌∙◌, length, arith, drop}
use Rattle.std.specs.Option.{option_to_list}
use Rattle.std.specs.List.{filter_map}
use Rattle.ckr_meaning.specs.EffectiveJob.{is_among, name_of}
use Rattle.ckr_points_runs.specs.RunJobs.{own_of}
use Rattle.ckr_points_runs.proofs.OwnNames.{one-among}
use Rattle.ckr_points_runs.proofs.MarkOrder.{one-le, names-step}
use Rattle.ckr_points_runs.proofs.run_marks.mark_step.Goals as goal

one_back : (n : ℕ) → 0 < n → n - 1 + 1 ≡ n
one_back n some = omega arith

pub mark_dd-requires-clause-room : goal.mark_dd-requires-clause-room
mark_dd-requires-clause-room c =
    let f = name_of c.args.marking.now.job.now.root (own_of c.args.step.now) in
    let dds = c.as_slice-dds.result.now in
    let left = c.loop-left.left - 1 in
    let here : length (option_to_list (f c.index-dds-left.result)) + length (filter_map f (drop (left + 1) dds)) ≤ length (filter_map f dds) =
    one-le (filter_map f) (λ dd. option_to_list (f dd)) (names-step f) left dds c.index-dds-left.result (omega arith) c.index-dds-left.is in
    omega (arith, here, c.loop-left.invariant.room, c.requires.room, ap (λ all. length (filter_map f all)) c.as_slice-dds.ensures, ap (λ i. length (filter_map f (drop i dds))) (one_back c.loop-left.left c.loop-left-test.true))

pub mark_dd-requires-clause-own : goal.mark_dd-requires-clause-own
mark_dd-requires-clause-own c = λ own name among.
    let f = name_of c.args.marking.now.job.now.root (own_of c.args.step.now) in
    c.requires.own own name
    (ap (λ all. is_among (filter_map f all) name) (sym c.as_slice-dds.ensures) ∙ one-among f c.as_slice-dds.result.now (c.loop-left.left - 1) c.index-dds-left.result name (omega arith) c.index-dds-left.is among)
