-- When events are sound: each may come behind those before it, and carries what its job gives.
use Rattle.std.specs.Prelude.{IsTrue, List, [], ◌∷◌}
use Rattle.ckr_volumes.specs.declared.layout.Layout.{Layout}
use Rattle.ckr_points.specs.Office.{Office, no_office, office_after}
use Rattle.ckr_points.specs.Payload.{carries}
use Rattle.ckr_points.specs.Restart.{Decked}
use Rattle.ckr_points.specs.Soundness.{may_come}

-- An event may come next, and carries what its job gives: it follows on the tables before it, where it names a rule it names the
-- first one, and it has the lengths, the writes and the images that its run's work gives at the place that it commits.
pub record IsNext (layout : Layout) (office : Office) (event : Decked) : Type 0 where
  pub may : IsTrue (may_come layout office event)
  pub carried : IsTrue (carries layout office event.0 event.1)

-- each event of a list comes so behind those before it
abbrev pub AreSoundFrom : Layout → Office → List Decked → Type 0
AreSoundFrom layout office [] = Unit {0}
AreSoundFrom layout office (event ∷ events) = IsNext layout office event × AreSoundFrom layout (office_after event office) events

-- so it is from the first one on
abbrev pub AreSound : Layout → List Decked → Type 0
AreSound layout events = AreSoundFrom layout no_office events
