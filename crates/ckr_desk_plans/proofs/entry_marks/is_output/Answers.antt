use Rattle.std.proofs.Common.{◌≡◌, ◌+◌, ◌||◌, ◌∷◌, List, ap, drop, sym, ◌∙◌}
use Rattle.std.proofs.lemmas.List.{drop_all}
use Rattle.ckr_jcl.specs.declared.deck.Dd.{Dd}
use Rattle.ckr_library.specs.NameMaps.{Name}
use Rattle.ckr_meaning.specs.EffectiveJob.{is_among}
use Rattle.ckr_points_library.specs.Commit.{output_names}
use Rattle.ckr_points_library.proofs.DdPlaces.{no_output, one_output, outputs_in}
use Rattle.ckr_points_tables.specs.RunJobs.{own_of}
use Rattle.ckr_desk_plans.proofs.entry_marks.is_output.Goals as goal
use Rattle.ckr_desk_plans.proofs.entry_marks.is_output.Goals.{in-Some+else-is_same, in_default}

pub returns-then-is_same : goal.returns-then-is_same
returns-then-is_same c =
    let run = c.root-root.result in
    let own = own_of c.args.behind.now.own.now in
    let dds = c.as_slice-dd-items.result.now in
    let name = c.args.name.now in
    let rest = outputs_in run own (drop (c.loop-dd.dd-index + 1) dds) in
    let outputs : outputs_in run own (drop c.loop-dd.dd-index dds) ≡ c.in-Some.output ∷ rest =
    one_output run own dds c.loop-dd.dd-index c.dd-item.result c.loop-dd-test.true c.dd-item.is c.in-Some.output (sym (c.output_name.ensures own.tests) ∙ c.in-Some.is) in
    sym (ap (λ (names : List Name). is_among names name) outputs ∙ ap (λ b. b || is_among rest name) (sym c.is_same.ensures ∙ c.if-is_same.true))
    ∙ c.loop-dd.invariant
    ∙ ap (λ (all : List Dd). is_among (outputs_in run own all) name) c.as_slice-dd-items.ensures
    ∙ ap (λ root. is_among (output_names root own) name) c.root-root.ensures

pub loop-dd-preserved : goal.loop-dd-preserved
loop-dd-preserved c =
    let run = c.root-root.result in
    let own = own_of c.args.behind.now.own.now in
    let dds = c.as_slice-dd-items.result.now in
    let name = c.args.name.now in
    let rest = outputs_in run own (drop (c.loop-dd.dd-index + 1) dds) in
    elim c.match-output_name.branch [
      | in-Some+else-is_same w ↦
          let outputs : outputs_in run own (drop c.loop-dd.dd-index dds) ≡ w.in-Some.output ∷ rest =
          one_output run own dds c.loop-dd.dd-index c.dd-item.result c.loop-dd-test.true c.dd-item.is w.in-Some.output (sym (c.output_name.ensures own.tests) ∙ w.in-Some.is) in
          sym (ap (λ (names : List Name). is_among names name) outputs ∙ ap (λ b. b || is_among rest name) (sym w.is_same.ensures ∙ w.if-is_same.false))
          ∙ c.loop-dd.invariant
      | in_default w ↦
          let outputs : outputs_in run own (drop c.loop-dd.dd-index dds) ≡ rest = no_output run own dds c.loop-dd.dd-index c.dd-item.result c.loop-dd-test.true c.dd-item.is (sym (c.output_name.ensures own.tests) ∙ w.in_default.is) in
          sym (ap (λ (names : List Name). is_among names name) outputs) ∙ c.loop-dd.invariant
    ]

pub returns : goal.returns
returns c =
    let run = c.root-root.result in
    let own = own_of c.args.behind.now.own.now in
    let name = c.args.name.now in
    sym (ap (λ (all : List Dd). is_among (outputs_in run own all) name) (drop_all c.loop-dd.dd-index c.as_slice-dd-items.result.now c.loop-dd-test.false))
    ∙ c.loop-dd.invariant
    ∙ ap (λ (all : List Dd). is_among (outputs_in run own all) name) c.as_slice-dd-items.ensures
    ∙ ap (λ root. is_among (output_names root own) name) c.root-root.ensures
