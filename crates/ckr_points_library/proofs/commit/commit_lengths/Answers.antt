use Rattle.std.proofs.Common.{◌≡◌, ◌<◌, ◌≤◌, ◌+◌, [], ◌∷◌, drop, get_or, length, ap, sym, ◌∙◌, subst, arith}
use Rattle.std.specs.List.{list_all}
use Rattle.std.proofs.lemmas.Bool.{and_from}
use Rattle.ckr_library.specs.Catalog.{entry_room, with_length}
use Rattle.ckr_library.specs.NameMaps.{with_changed}
use Rattle.ckr_points_library.specs.Commit.{committed, is_named, AreWithinSpace}
use Rattle.ckr_points_library.specs.Holdings.{owned}
use Rattle.ckr_points_library.proofs.DdPlaces.{outputs_in, one_output, no_output, one_committed, next_within, still_within}
use Rattle.ckr_points_library.proofs.commit.commit_lengths.Goals as goal
use Rattle.ckr_points_library.proofs.commit.commit_lengths.Goals.{in-Some, in_default}

pub bounds-lengths-place : goal.bounds-lengths-place
bounds-lengths-place c =
    let own = owned c.args.step.now c.args.owner [] in
    let dds = c.as_slice-dd-items.result.now in
    let count = ap length (one_output c.args.root own dds c.loop-dd.dd-index c.dd-item.result c.loop-dd-test.true c.dd-item.is c.in-Some.name (sym (c.output_name.ensures []) ∙ c.in-Some.is)) in
    omega (arith, count, c.loop-dd.invariant.lengths)

pub set_length-requires : goal.set_length-requires
set_length-requires c =
    let own = owned c.args.step.now c.args.owner [] in
    let dds = c.as_slice-dd-items.result.now in
    let place = c.loop-dd.place in
    let index = c.loop-dd.dd-index in
    let outputs : outputs_in c.args.root own (drop index dds) ≡ c.in-Some.name ∷ outputs_in c.args.root own (drop (index + 1) dds) = one_output c.args.root own dds index c.dd-item.result c.loop-dd-test.true c.dd-item.is c.in-Some.name (sym (c.output_name.ensures []) ∙ c.in-Some.is) in
    let inside : place < length c.args.lengths.now = omega (arith, ap length outputs, c.loop-dd.invariant.lengths) in
    (next_within c.in-Some.name (outputs_in c.args.root own (drop (index + 1) dds)) c.args.lengths.now place c.loop-dd.library.sets inside (subst (λ names. AreWithinSpace names (drop place c.args.lengths.now) c.loop-dd.library.sets) outputs c.loop-dd.invariant.space)).0

pub loop-dd-preserved : goal.loop-dd-preserved
loop-dd-preserved c =
    let own = owned c.args.step.now c.args.owner [] in
    let dds = c.as_slice-dd-items.result.now in
    let index = c.loop-dd.dd-index in
    let place = c.loop-dd.place in
    let lengths = c.args.lengths.now in
    let sets = c.loop-dd.library.sets in
    let rest = outputs_in c.args.root own (drop (index + 1) dds) in
    elim c.match-output_name.branch [
      | in-Some w ↦
          let name = w.in-Some.name in
          let outputs : outputs_in c.args.root own (drop index dds) ≡ name ∷ rest = one_output c.args.root own dds index c.dd-item.result c.loop-dd-test.true c.dd-item.is name (sym (c.output_name.ensures []) ∙ w.in-Some.is) in
          let inside : place < length lengths = omega (arith, ap length outputs, c.loop-dd.invariant.lengths) in
          let after : c.match-output_name.library.sets ≡ with_changed name (with_length (get_or lengths place 0)) sets = ap (λ library. library.sets) w.library-is ∙ w.set_length.ensures.sets in
          record {
            sets =
                ap (λ p. committed with_length rest (drop p lengths) c.match-output_name.library.sets) w.place-is
                ∙ ap (λ all. committed with_length rest (drop (place + 1) lengths) all) after
                ∙ sym (one_committed name rest lengths place sets inside)
                ∙ ap (λ names. committed with_length names (drop place lengths) sets) (sym outputs)
                ∙ c.loop-dd.invariant.sets;
            lengths = omega (arith, ap length outputs, w.place-is, c.loop-dd.invariant.lengths);
            space =
                subst (λ p. AreWithinSpace rest (drop p lengths) c.match-output_name.library.sets) (sym w.place-is)
                (subst (λ all. AreWithinSpace rest (drop (place + 1) lengths) all) (sym after)
                (still_within name (get_or lengths place 0) rest (drop (place + 1) lengths) sets
                (next_within name rest lengths place sets inside (subst (λ names. AreWithinSpace names (drop place lengths) sets) outputs c.loop-dd.invariant.space)).1));
            room = ap (λ library. library.room) w.library-is ∙ w.set_length.ensures.room ∙ c.loop-dd.invariant.room;
            entries = λ one. subst (λ library. entry_room c.args.library.now one ≤ entry_room library one) (sym w.library-is) (omega (arith, c.loop-dd.invariant.entries one, w.set_length.ensures.entries one));
            named = λ all. c.loop-dd.invariant.named (ap (list_all is_named) outputs ∙ and_from (is_named name) _ w.has_text.ensures all);
          }
      | in_default w ↦
          let outputs : outputs_in c.args.root own (drop index dds) ≡ rest = no_output c.args.root own dds index c.dd-item.result c.loop-dd-test.true c.dd-item.is (sym (c.output_name.ensures []) ∙ w.in_default.is) in
          record {
            sets =
                ap (λ p. committed with_length rest (drop p lengths) c.match-output_name.library.sets) w.place-is
                ∙ ap (λ library. committed with_length rest (drop place lengths) library.sets) w.library-is
                ∙ ap (λ names. committed with_length names (drop place lengths) sets) (sym outputs)
                ∙ c.loop-dd.invariant.sets;
            lengths = omega (arith, ap length outputs, w.place-is, c.loop-dd.invariant.lengths);
            space =
                subst (λ p. AreWithinSpace rest (drop p lengths) c.match-output_name.library.sets) (sym w.place-is)
                (subst (λ library. AreWithinSpace rest (drop place lengths) library.sets) (sym w.library-is)
                (subst (λ names. AreWithinSpace names (drop place lengths) sets) outputs c.loop-dd.invariant.space));
            room = ap (λ library. library.room) w.library-is ∙ c.loop-dd.invariant.room;
            entries = λ one. subst (λ library. entry_room c.args.library.now one ≤ entry_room library one) (sym w.library-is) (c.loop-dd.invariant.entries one);
            named = λ all. c.loop-dd.invariant.named (ap (list_all is_named) outputs ∙ all);
          }
    ]
