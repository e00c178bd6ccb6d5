use Rattle.std.proofs.Common.{rules, ◌≡◌, ◌+◌, ◌++◌, ◌∷◌, [], Bool, true, false, take, vec_len, vec_capacity, ap, sym, ◌∙◌, arith}
use Rattle.std.proofs.lemmas.List.{length-drop, take_more}
use Rattle.ckr_entry.specs.declared.point.Passed.{Passed}
use Rattle.ckr_points.specs.Marks.{deck_names, still_exists}
use Rattle.ckr_points_runs.specs.RunMarks.{own_names_of}
use Rattle.ckr_points_tables.specs.Selection.{lost_by}
use Rattle.ckr_points_runs.specs.View.{seen_by, table_of}
use Rattle.ckr_points_tables.proofs.Selections.{lost-kept, lost-more}
use Rattle.ckr_points_tables.proofs.selection.lose.Goals as goal
use Rattle.ckr_points_tables.proofs.selection.lose.Goals.{else-not-still_exists, then-not-still_exists}

pub loop-one-preserved : goal.loop-one-preserved
loop-one-preserved c =
    let job = c.args.job.now in
    let marks = c.args.marks.now in
    let sets = c.args.library.now.sets in
    let passed = c.args.passed.now in
    let index = c.loop-one.one-index in
    let item = c.one-item.result in
    let named = own_names_of c.args.run job ++ deck_names job.root c.args.run job.deck in
    let before = lost_by c.args.run job marks (take index passed) sets in
    let more : take (index + 1) passed ≡ take index passed ++ item ∷ [] =
    take_more passed index item c.loop-one-test.true ∙ ap (λ (one : Passed). take index passed ++ one ∷ []) (sym c.one-item.is) in
    let with = λ (b : Bool) (is : still_exists marks named (seen_by table_of sets) item.name ≡ b).
    ap (λ all. lost_by c.args.run job marks all sets) more ∙ lost-more marks named (seen_by table_of sets) (take index passed) item b is in
    elim c.if-not-still_exists.branch [
      | then-not-still_exists w ↦
          let gone : c.still_exists.result ≡ false = search rules in
          record {
            items =
                ap (λ lost. lost.items) w.lost-is ∙ w.put_lost.ensures.items
                ∙ ap (λ all. all ++ item.name ∷ []) c.loop-one.invariant.items
                ∙ sym (with false (sym c.still_exists.ensures ∙ gone));
            room = omega (arith, ap vec_len w.lost-is, ap vec_capacity w.lost-is, w.put_lost.ensures.len, w.put_lost.ensures.capacity, c.loop-one.invariant.room, length-drop index passed, length-drop (index + 1) passed, c.loop-one-test.true);
          }
      | else-not-still_exists w ↦
          let stays : c.still_exists.result ≡ true = search rules in
          record {
            items =
                ap (λ lost. lost.items) w.lost-is ∙ c.loop-one.invariant.items
                ∙ sym (ap (λ all. lost_by c.args.run job marks all sets) more ∙ lost-kept marks named (seen_by table_of sets) (take index passed) item (sym c.still_exists.ensures ∙ stays));
            room = omega (arith, ap vec_len w.lost-is, ap vec_capacity w.lost-is, c.loop-one.invariant.room, length-drop index passed, length-drop (index + 1) passed, c.loop-one-test.true);
          }
    ]
