-- All that is kept from event to event.
use Rattle.ckr_volumes.specs.declared.layout.Layout.{Layout}
use Rattle.ckr_points.specs.Office.{Office}
use Rattle.ckr_points_invariant.specs.Invariant.{IsKept}
use Rattle.ckr_points_invariant.specs.Points.{ArePointed}
use Rattle.ckr_points_invariant.specs.Readiness.{AreReady}
use Rattle.ckr_points_invariant.specs.StartedSteps.{AreBegunSteps}
use Rattle.ckr_points_invariant.specs.WrittenEntries.{AreWrittenEntries}

-- The tables agree with the jobs of the selected runs, each point says what its run's job has there, and all runs are ready to restart; runs keep
-- what they had as they began their steps, and data sets keep their entries as they were written.
pub record AreKept (layout : Layout) (office : Office) : Type 0 where
  pub kept : IsKept layout office
  pub pointed : ArePointed office
  pub ready : AreReady office
  pub begun : AreBegunSteps office
  pub written : AreWrittenEntries office
