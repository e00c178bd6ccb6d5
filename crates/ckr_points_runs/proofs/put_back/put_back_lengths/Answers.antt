use Rattle.std.proofs.Common.{◌≡◌, ◌+◌, ◌∷◌, drop, ap, sym, ◌∙◌, subst}
use Rattle.ckr_library.specs.NameMaps.{EachEntry}
use Rattle.ckr_points_library.proofs.DdPlaces.{no_output, one_output, outputs_in}
use Rattle.ckr_points_runs.specs.RunJobs.{own_of}
use Rattle.ckr_points_runs.specs.PutBack.{IsFilled}
use Rattle.ckr_points_runs.specs.PutBack.{lengths_back}
use Rattle.ckr_points_runs.proofs.put_back.put_back_lengths.Goals as goal
use Rattle.ckr_points_runs.proofs.put_back.put_back_lengths.Goals.{in-Some, in_default}

pub loop-dd-preserved : goal.loop-dd-preserved
loop-dd-preserved c =
    let own = own_of c.args.own.now in
    let dds = c.as_slice-dd-items.result.now in
    let index = c.loop-dd.dd-index in
    let marks = c.args.marks.now in
    let sets = c.loop-dd.library.sets in
    let rest = outputs_in c.args.root own (drop (index + 1) dds) in
    elim c.match-output_name.branch [
      | in-Some w ↦
          let name = w.in-Some.name in
          let outputs : outputs_in c.args.root own (drop index dds) ≡ name ∷ rest = one_output c.args.root own dds index c.dd-item.result c.loop-dd-test.true c.dd-item.is name (sym (c.output_name.ensures own.tests) ∙ w.in-Some.is) in
          record {
            sets =
                ap (λ library. lengths_back marks rest library.sets) w.library-is
                ∙ ap (lengths_back marks rest) w.put_back_length.ensures.sets
                ∙ ap (λ names. lengths_back marks names sets) (sym outputs)
                ∙ c.loop-dd.invariant.sets;
            filled = subst (λ library. EachEntry IsFilled library.sets) (sym w.library-is) w.put_back_length.ensures.filled;
          }
      | in_default w ↦
          let outputs : outputs_in c.args.root own (drop index dds) ≡ rest = no_output c.args.root own dds index c.dd-item.result c.loop-dd-test.true c.dd-item.is (sym (c.output_name.ensures own.tests) ∙ w.in_default.is) in
          record {
            sets = ap (λ library. lengths_back marks rest library.sets) w.library-is ∙ ap (λ names. lengths_back marks names sets) (sym outputs) ∙ c.loop-dd.invariant.sets;
            filled = subst (λ library. EachEntry IsFilled library.sets) (sym w.library-is) c.loop-dd.invariant.filled;
          }
    ]
