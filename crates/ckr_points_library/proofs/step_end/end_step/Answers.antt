use Rattle.std.proofs.Common.{◌≡◌, ◌<◌, ◌+◌, suc, Some, None, [], drop, get_or, length, ap, sym, ◌∙◌, arith, false}
use Rattle.std.specs.List.{filter_map}
use Rattle.ckr_meaning.specs.Dispositions.{disposed_all, disposed_one}
use Rattle.ckr_meaning.specs.EffectiveJob.{name_of}
use Rattle.ckr_points_library.specs.Disposals.{disposal_by, disposals_by, with_names}
use Rattle.ckr_points_library.specs.Holdings.{holding_ways, owned, standing}
use Rattle.ckr_points_library.proofs.DdPlaces.{some_names, no_names, one_disposed, none_disposed}
use Rattle.ckr_points_library.proofs.step_end.end_step.Goals as goal
use Rattle.ckr_points_library.proofs.step_end.end_step.Goals.{in-Some, in_default}

pub loop-dd-preserved : goal.loop-dd-preserved
loop-dd-preserved c =
    let own = owned c.args.step.now c.args.owner [] in
    let dds = c.as_slice-dd-items.result.now in
    let index = c.loop-dd.dd-index in
    let place = c.loop-dd.place in
    let dd = c.dd-item.result in
    let made = c.args.made.now in
    let earlier = c.args.earlier.now in
    let abnormal = c.args.abnormal in
    let sets = c.loop-dd.library.sets in
    let passed = c.loop-dd.passed.items in
    elim c.match-library_name.branch [
      | in-Some w ↦
          let named : name_of c.args.root own dd ≡ Some w.in-Some.name = sym c.library_name.ensures ∙ w.in-Some.is in
          let count : length (filter_map (name_of c.args.root own) (drop index dds)) ≡ suc (length (filter_map (name_of c.args.root own) (drop (index + 1) dds))) = some_names (name_of c.args.root own) dds index dd c.loop-dd-test.true c.dd-item.is w.in-Some.name named in
          let inside : place < length made = omega (arith, c.loop-dd.invariant.made) in
          let inside_earlier : place < length earlier = omega (arith, c.loop-dd.invariant.earlier) in
          let one = disposal_by abnormal (dd, w.in-Some.name) (get_or made place false) (get_or earlier place false) in
          let rest = disposals_by abnormal (with_names c.args.root own (drop (index + 1) dds)) (drop (place + 1) made) (drop (place + 1) earlier) in
          let after : standing c.match-library_name.library.sets c.match-library_name.passed.items ≡ disposed_one holding_ways one (standing sets passed) =
          ap (λ library. standing library.sets c.match-library_name.passed.items) w.library-is ∙ ap (λ passed. standing w.end_dd.new.library.sets passed.items) w.passed-is ∙ w.end_dd.ensures.both in
          record {
            both =
                ap (λ p. disposed_all holding_ways (disposals_by abnormal (with_names c.args.root own (drop (index + 1) dds)) (drop p made) (drop p earlier)) (standing c.match-library_name.library.sets c.match-library_name.passed.items)) w.place-is
                ∙ ap (disposed_all holding_ways rest) after
                ∙ ap (λ all. disposed_all holding_ways all (standing sets passed)) (sym (one_disposed c.args.root own dds index dd c.loop-dd-test.true c.dd-item.is abnormal w.in-Some.name place made earlier false named inside inside_earlier))
                ∙ c.loop-dd.invariant.both;
            made = omega (arith, count, w.place-is, c.loop-dd.invariant.made);
            earlier = c.loop-dd.invariant.earlier;
            spare = omega (arith, count, ap (λ passed. passed.room) w.passed-is, w.end_dd.ensures.spare, c.loop-dd.invariant.spare);
            room = omega (arith, ap (λ library. library.room) w.library-is, w.end_dd.ensures.room, c.loop-dd.invariant.room);
          }
      | in_default w ↦
          let none : name_of c.args.root own dd ≡ None = sym c.library_name.ensures ∙ w.in_default.is in
          let count : length (filter_map (name_of c.args.root own) (drop index dds)) ≡ length (filter_map (name_of c.args.root own) (drop (index + 1) dds)) = no_names (name_of c.args.root own) dds index dd c.loop-dd-test.true c.dd-item.is none in
          record {
            both =
                ap (λ p. disposed_all holding_ways (disposals_by abnormal (with_names c.args.root own (drop (index + 1) dds)) (drop p made) (drop p earlier)) (standing c.match-library_name.library.sets c.match-library_name.passed.items)) w.place-is
                ∙ ap (λ library. disposed_all holding_ways (disposals_by abnormal (with_names c.args.root own (drop (index + 1) dds)) (drop place made) (drop place earlier)) (standing library.sets c.match-library_name.passed.items)) w.library-is
                ∙ ap (λ passed. disposed_all holding_ways (disposals_by abnormal (with_names c.args.root own (drop (index + 1) dds)) (drop place made) (drop place earlier)) (standing sets passed.items)) w.passed-is
                ∙ ap (λ all. disposed_all holding_ways all (standing sets passed)) (sym (none_disposed c.args.root own dds index dd c.loop-dd-test.true c.dd-item.is abnormal (drop place made) (drop place earlier) none))
                ∙ c.loop-dd.invariant.both;
            made = omega (arith, count, w.place-is, c.loop-dd.invariant.made);
            earlier = c.loop-dd.invariant.earlier;
            spare = omega (arith, count, ap (λ passed. passed.room) w.passed-is, c.loop-dd.invariant.spare);
            room = omega (arith, ap (λ library. library.room) w.library-is, c.loop-dd.invariant.room);
          }
    ]
