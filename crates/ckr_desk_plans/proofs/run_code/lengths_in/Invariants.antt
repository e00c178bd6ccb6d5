use Rattle.std.proofs.Common.{◌≡◌, ◌≤◌, ◌++◌, map, drop, length}
use Rattle.ckr_points_library.proofs.DdPlaces.{outputs_in}
use Rattle.ckr_fields.specs.Fields.{each_fits, four_bytes}
use Rattle.ckr_points_tables.specs.RunJobs.{own_of}
use Rattle.ckr_desk_plans.specs.Extents.{sets_of}
use Rattle.ckr_desk_plans.specs.StepView.{length_in}
use Rattle.ckr_desk_plans.proofs.run_code.lengths_in.Given as goal

abbrev pub invariant-loop-dd : goal.invariant-loop-dd
invariant-loop-dd l = record {
  lengths :
      l.lengths.items ++ map (length_in (sets_of l.extents)) (outputs_in l.root (own_of l.own) (drop l.dd-index l.dd-items))
      ≡ map (length_in (sets_of l.extents)) (outputs_in l.root (own_of l.own) l.dd-items);
  few : length l.lengths.items ≤ l.dd-index;
  fits : each_fits four_bytes.fits l.lengths.items;
}
