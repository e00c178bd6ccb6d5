use Rattle.std.proofs.Common.{◌≡◌, ◌<◌, ◌≤◌, ◌+◌, ◌++◌, ◌^◌, [], ◌∷◌, map, drop, length, append_assoc, ap, sym, ◌∙◌, subst, arith, length-append}
use Rattle.std.proofs.lemmas.List.{append-nil, drop_all}
use Rattle.ckr_points_library.proofs.DdPlaces.{no_output, one_output, outputs_in}
use Rattle.ckr_fields.specs.Fields.{each_fits, four_bytes}
use Rattle.ckr_points_tables.specs.RunJobs.{own_of}
use Rattle.ckr_desk_plans.specs.Extents.{sets_of}
use Rattle.ckr_desk_plans.specs.StepView.{length_in}
use Rattle.ckr_points_tables.proofs.Allocations.Parts.{fits-more, is-few}
use Rattle.ckr_desk_plans.proofs.run_code.lengths_in.Goals as goal
use Rattle.ckr_desk_plans.proofs.run_code.lengths_in.Goals.{in-Some, in_default}

pub loop-dd-preserved : goal.loop-dd-preserved
loop-dd-preserved c =
    let own = own_of c.args.own.now in
    let dds = c.as_slice-dd-items.result.now in
    let index = c.loop-dd.dd-index in
    let before = c.loop-dd.lengths.items in
    let rest = outputs_in c.args.root own (drop (index + 1) dds) in
    let named = length_in (sets_of c.args.extents.now) in
    elim c.match-output_name.branch [
      | in-Some w ↦
          let name = w.in-Some.name in
          let outputs : outputs_in c.args.root own (drop index dds) ≡ name ∷ rest = one_output c.args.root own dds index c.dd-item.result c.loop-dd-test.true c.dd-item.is name (sym (c.output_name.ensures own.tests) ∙ w.in-Some.is) in
          let after : c.match-output_name.lengths.items ≡ before ++ w.length_in.result ∷ [] = ap (λ lengths. lengths.items) w.lengths-is ∙ w.push.ensures.items in
          let small : w.length_in.result < 2 ^ 32 = omega arith in
          record {
            lengths =
                ap (λ xs. xs ++ map named rest) after
                ∙ append_assoc before (w.length_in.result ∷ []) (map named rest)
                ∙ ap (λ n. before ++ n ∷ map named rest) w.length_in.ensures
                ∙ ap (λ names. before ++ map named names) (sym outputs)
                ∙ c.loop-dd.invariant.lengths;
            few = omega (arith, ap length after, length-append before (w.length_in.result ∷ []), c.loop-dd.invariant.few);
            fits = subst (each_fits four_bytes.fits) (sym after) (fits-more four_bytes.fits before w.length_in.result c.loop-dd.invariant.fits small);
          }
      | in_default w ↦
          let outputs : outputs_in c.args.root own (drop index dds) ≡ rest = no_output c.args.root own dds index c.dd-item.result c.loop-dd-test.true c.dd-item.is (sym (c.output_name.ensures own.tests) ∙ w.in_default.is) in
          let after : c.match-output_name.lengths.items ≡ before = ap (λ lengths. lengths.items) w.lengths-is in
          record {
            lengths = ap (λ xs. xs ++ map named rest) after ∙ ap (λ names. before ++ map named names) (sym outputs) ∙ c.loop-dd.invariant.lengths;
            few = omega (arith, ap length after, c.loop-dd.invariant.few);
            fits = subst (each_fits four_bytes.fits) (sym after) c.loop-dd.invariant.fits;
          }
    ]

pub returns-clause-lengths : goal.returns-clause-lengths
returns-clause-lengths c =
    let own = own_of c.args.own.now in
    let named = length_in (sets_of c.args.extents.now) in
    sym (append-nil c.loop-dd.lengths.items)
    ∙ ap (λ rest. c.loop-dd.lengths.items ++ map named (outputs_in c.args.root own rest)) (sym (drop_all c.loop-dd.dd-index c.as_slice-dd-items.result.now c.loop-dd-test.false))
    ∙ c.loop-dd.invariant.lengths
    ∙ ap (λ dds. map named (outputs_in c.args.root own dds)) c.as_slice-dd-items.ensures

pub returns-clause-fits : goal.returns-clause-fits
returns-clause-fits c =
    let few : length c.loop-dd.lengths.items ≤ 16 = omega (arith, c.loop-dd.invariant.few, c.loop-dd.auto.dd-index-end, ap length c.as_slice-dd-items.ensures, c.requires.few) in
    (is-few c.loop-dd.lengths.items 16 few (omega arith), c.loop-dd.invariant.fits)
