use Rattle.std.proofs.Common.{◌≡◌, Some, [], refl, ap, sym, ◌∙◌}
use Rattle.std.specs.Option.{option_to_list}
use Rattle.ckr_entry.specs.declared.point.Mark.{Mark}
use Rattle.ckr_library.specs.NameMaps.{with_entry}
use Rattle.ckr_meaning.specs.EffectiveJob.{is_among, name_of}
use Rattle.ckr_points.specs.Marks.{mark_now}
use Rattle.ckr_points_runs.specs.MarkOrder.{marked, marked_onto}
use Rattle.ckr_points_runs.specs.RunJobs.{own_of}
use Rattle.ckr_points_runs.specs.RunMarks.{marking_mark, marking_names}
use Rattle.ckr_points_runs.specs.View.{seen_by, table_of}
use Rattle.ckr_uses.specs.SetNames.{library_name}
use Rattle.ckr_points_runs.proofs.OwnNames.{among-itself, named-by}
use Rattle.ckr_points_runs.proofs.run_marks.mark_dd.Goals as goal

pub mark_of-requires-clause-own : goal.mark_of-requires-clause-own
mark_of-requires-clause-own c = λ own.
    let here : name_of c.args.marking.now.job.now.root (own_of c.args.step.now) c.args.dd.now ≡ Some c.in-Some.name =
    ap (λ root. library_name c.args.dd.now root c.args.step.now.owner c.args.step.now.step.now.name) (sym c.root.ensures) ∙ sym c.library_name.ensures ∙ c.in-Some.is in
    c.requires.own own c.in-Some.name (ap (λ found. is_among (option_to_list found) c.in-Some.name) here ∙ among-itself c.in-Some.name [])

pub returns-in-Some-clause-items : goal.returns-in-Some-clause-items
returns-in-Some-clause-items c =
    let here : name_of c.args.marking.now.job.now.root (own_of c.args.step.now) c.args.dd.now ≡ Some c.in-Some.name =
    ap (λ root. library_name c.args.dd.now root c.args.step.now.owner c.args.step.now.step.now.name) (sym c.root.ensures) ∙ sym c.library_name.ensures ∙ c.in-Some.is in
    let mark = marking_mark c.args.marking.now in
    let before = marked c.args.marks.now.items in
    let named : (mark c.in-Some.name).name ≡ c.in-Some.name =
    named-by (mark_now (seen_by table_of c.args.marking.now.library.now.sets)) (λ name. refl) (marking_names c.args.marking.now) c.args.marking.now.carried.now c.in-Some.name in
    c.enter.ensures.items
    ∙ ap (λ (one : Mark). with_entry one.name one before) c.mark_of.ensures
    ∙ ap (λ name. with_entry name (mark c.in-Some.name) before) named
    ∙ ap (λ found. marked_onto mark (option_to_list found) before) (sym here)
