use Rattle.std.proofs.Common.{◌≡◌, OnOk, Some, [], Result, Ok, Err, ap, refl, sym, ◌∙◌}
use Rattle.std.specs.Option.{option_to_list}
use Rattle.ckr_entry.specs.declared.point.Mark.{Mark}
use Rattle.ckr_library.specs.NameMaps.{with_entry}
use Rattle.ckr_meaning.specs.EffectiveJob.{is_among, name_of}
use Rattle.ckr_points_tables.specs.MarkOrder.{marked, marked_onto}
use Rattle.ckr_points_tables.specs.RunJobs.{own_of}
use Rattle.ckr_points_tables.proofs.OwnNames.{among-itself, named-by}
use Rattle.ckr_desk_plans.specs.EntryMarks.{carried_behind, mark_behind, now_behind, own_names_behind}
use Rattle.ckr_desk_plans.proofs.entry_marks.mark_dd.Goals as goal

pub mark_of-requires-clause-own : goal.mark_of-requires-clause-own
mark_of-requires-clause-own c = λ known.
    let here : name_of c.args.root (own_of c.args.own.now) c.args.dd.now ≡ Some c.in-Some.name = sym c.library_name.ensures ∙ c.in-Some.is in
    c.requires.known known c.in-Some.name (ap (λ found. is_among (option_to_list found) c.in-Some.name) here ∙ among-itself c.in-Some.name [])

weaker : {T E : Type 0} (r : Result T E) (P Q : Type 0) → (P → Q) → OnOk r P → OnOk r Q
weaker (Ok x) P Q goes is = goes is
weaker (Err e) P Q goes is = tt

pub returns-in-Some-clause-items : goal.returns-in-Some-clause-items
returns-in-Some-clause-items c =
    let behind = c.args.behind.now in
    let here : name_of c.args.root (own_of c.args.own.now) c.args.dd.now ≡ Some c.in-Some.name = sym c.library_name.ensures ∙ c.in-Some.is in
    let mark = mark_behind behind in
    let before = marked c.args.items.now.items in
    let named : (mark c.in-Some.name).name ≡ c.in-Some.name = named-by (now_behind behind) (λ name. refl) (own_names_behind behind) (carried_behind behind) c.in-Some.name in
    weaker c.enter.result _ _
    (λ items.
    items
    ∙ ap (λ (one : Mark). with_entry one.name one before) c.mark_of.ensures
    ∙ ap (λ name. with_entry name (mark c.in-Some.name) before) named
    ∙ ap (λ found. marked_onto mark (option_to_list found) before) (sym here))
    c.enter.ensures.items
