-- All that is kept of an office but that its runs are ready to restart.
use Rattle.ckr_volumes.specs.declared.layout.Layout.{Layout}
use Rattle.ckr_points.specs.Office.{Office}
use Rattle.ckr_points_invariant.specs.Invariant.{AreOrderly, AreStamped, IsAgreed}
use Rattle.ckr_points_invariant.specs.Points.{ArePointed}
use Rattle.ckr_points_invariant.specs.StartedSteps.{AreBegunSteps}
use Rattle.ckr_points_invariant.specs.WrittenEntries.{AreWrittenEntries}

pub record AgreesBehind (layout : Layout) (office : Office) : Type 0 where
  pub events : IsAgreed layout office
  pub stamps : AreStamped office
  pub pointed : ArePointed office
  pub begun : AreBegunSteps office
  pub written : AreWrittenEntries office
  pub decks : AreOrderly office.tables
