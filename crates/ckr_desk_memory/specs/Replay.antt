-- The jobs as the events of a desk are read again, one after the other.
use Rattle.std.specs.Prelude.{◌≤◌, ◌^◌, Bool, true, ◌&&◌, if◌then◌else◌, nat_le, length, Option, None, Some}
use Rattle.ckr_events.specs.declared.event.Event.{Event}
use Rattle.ckr_events.specs.declared.event.Event.TheVariants.{Submitted, Held}
use Rattle.ckr_desk_plans.specs.Model.RewriteCounts.{may_count}
use Rattle.ckr_jcl.specs.declared.deck.Job.{Job}
use Rattle.ckr_points.specs.Follows.{follows}
use Rattle.ckr_points.specs.Restart.{after_event}
use Rattle.ckr_points.specs.Rows.{TablesModel}
use Rattle.ckr_desk_turn.specs.Cards.{kept_deck}
use Rattle.ckr_desk_turn.specs.Spelling.{IsCode}
use Rattle.ckr_volumes.specs.declared.layout.Layout.{Layout}

-- the deck of the cards that an event keeps
abbrev pub deck_of : Event → Option Job
deck_of (Submitted job cards) = kept_deck cards
deck_of _ = None

-- an event submits at most 3,355,443 cards of 80 bytes, and the code that it holds a run with has a spelling
abbrev pub IsBounded : Event → Type 0
IsBounded (Submitted job cards) = length cards ≤ 2 ^ 28
IsBounded (Held job code writes lengths) = IsCode code
IsBounded _ = Unit {0}

-- a deck that an event submits has a number of at most seven digits
abbrev pub has_few_digits : Event → Bool
has_few_digits (Submitted job cards) = nat_le job 9999999
has_few_digits _ = true

-- whether the desk goes on by an event: its deck has such a number, it follows, and its rewrite can be counted
abbrev pub goes_on : Layout → TablesModel → Event → Option Job → Bool
goes_on layout tables event deck = has_few_digits event && (follows layout tables event deck && may_count event tables.sets)

-- the tables behind an event, where the desk goes on by it
unfoldable pub replayed : Layout → TablesModel → Event → Option TablesModel
replayed layout tables event = if goes_on layout tables event (deck_of event) then Some (after_event event (deck_of event) tables) else None
