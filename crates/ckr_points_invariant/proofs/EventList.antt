-- A list of sound events: its fronts, what comes behind one, and one event more.
use Rattle.std.proofs.Common.{◌≡◌, List, [], ◌∷◌, ◌++◌, refl}
use Rattle.ckr_volumes.specs.declared.layout.Layout.{Layout}
use Rattle.ckr_points.specs.Events.{AreSound, AreSoundFrom, IsNext}
use Rattle.ckr_points.specs.Office.{Office, no_office, office, office_after, office_from}
use Rattle.ckr_points.specs.Restart.{Decked}

-- the office of the events with one more is the office behind it
from_more : (events : List Decked) (event : Decked) (now : Office) → office_from (events ++ event ∷ []) now ≡ office_after event (office_from events now)
from_more [] event now = refl
from_more (first ∷ rest) event now = from_more rest event (office_after first now)

pub office-more : (events : List Decked) (event : Decked) → office (events ++ event ∷ []) ≡ office_after event (office events)
office-more events event = from_more events event no_office

sound_more : (layout : Layout) (events : List Decked) (event : Decked) (now : Office) → AreSoundFrom layout now events → IsNext layout (office_from events now) event → AreSoundFrom layout now (events ++ event ∷ [])
sound_more layout [] event now are next = (next, tt)
sound_more layout (first ∷ rest) event now are next = (are.0, sound_more layout rest event (office_after first now) are.1 next)

-- sound events stay sound with one that comes so
pub sound-more : (layout : Layout) (events : List Decked) (event : Decked) → AreSound layout events → IsNext layout (office events) event → AreSound layout (events ++ event ∷ [])
sound-more layout events event are next = sound_more layout events event no_office are next

front_sound : (layout : Layout) (front more : List Decked) (now : Office) → AreSoundFrom layout now (front ++ more) → AreSoundFrom layout now front
front_sound layout [] more now are = tt
front_sound layout (first ∷ rest) more now are = (are.0, front_sound layout rest more (office_after first now) are.1)

-- a front of sound events is sound
pub sound-front : (layout : Layout) (front more : List Decked) → AreSound layout (front ++ more) → AreSound layout front
sound-front layout front more are = front_sound layout front more no_office are

-- the office of events behind others
office_behind : (front more : List Decked) (now : Office) → office_from (front ++ more) now ≡ office_from more (office_from front now)
office_behind [] more now = refl
office_behind (first ∷ rest) more now = office_behind rest more (office_after first now)

pub office-behind : (front more : List Decked) → office (front ++ more) ≡ office_from more (office front)
office-behind front more = office_behind front more no_office

sound_behind : (layout : Layout) (front more : List Decked) (now : Office) → AreSoundFrom layout now (front ++ more) → AreSoundFrom layout (office_from front now) more
sound_behind layout [] more now are = are
sound_behind layout (first ∷ rest) more now are = sound_behind layout rest more (office_after first now) are.1

-- what comes behind a front of sound events is sound from there on
pub sound-behind : (layout : Layout) (front more : List Decked) → AreSound layout (front ++ more) → AreSoundFrom layout (office front) more
sound-behind layout front more are = sound_behind layout front more no_office are
