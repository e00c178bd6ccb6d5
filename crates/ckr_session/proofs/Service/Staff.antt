-- A desk with its operators.
use Rattle.std.proofs.Common.{◌≡◌, ℕ, ◌+◌, List, [], ◌∷◌, Option, None, Some, append-nil, ap, refl, sym, ◌∙◌}
use Rattle.std.specs.Prelude.{MatchOption}
use Rattle.std.specs.Option.{option_map}
use Rattle.ckr_console.specs.Answering.{Answering}
use Rattle.ckr_desk.specs.Model.Restart.{Decked}
use Rattle.ckr_desk.specs.Model.Turn.{Turn}
use Rattle.ckr_desk.specs.Requests.{behind_call}
use Rattle.ckr_desk.specs.Soundness.{IsTrusted, KeepsWithin, state_of}
use Rattle.ckr_desk.specs.State.{DeskView, MachineRoomView, RoomyDesk, layout_of, machine_room_of, room_at_first}
use Rattle.ckr_session.specs.Service.{staffed_by}
use Rattle.ckr_session.specs.Staff.{AttendedDesk, RosterView, StaffedDesk, behind_attended, staffed_with, with_call}
use Rattle.ckr_session.specs.Stops.{Goes}
use Rattle.ckr_session.proofs.Calls.Stops.{goes_none}

-- of the same desk, with the same machine room
pub attended-same : (a b : AttendedDesk) → a.state ≡ b.state → a.machine_room ≡ b.machine_room → a ≡ b
attended-same a b state room =
    ap (λ (s : RoomyDesk). record { state = s; machine_room = a.machine_room }) state
    ∙ ap (λ (r : MachineRoomView). record { state = b.state; machine_room = r }) room

-- and the same roster
pub staffed-same : (a b : StaffedDesk) → a.attended.state ≡ b.attended.state → a.attended.machine_room ≡ b.attended.machine_room → a.roster ≡ b.roster → a ≡ b
staffed-same a b state room roster =
    ap (λ (d : AttendedDesk). record { attended = d; roster = a.roster }) (attended-same a.attended b.attended state room)
    ∙ ap (λ (r : RosterView). record { attended = b.attended; roster = r }) roster

-- behind a turn
pub attended-behind : (a b : AttendedDesk) (turn : Turn) → b.state ≡ (behind_attended a turn).state → b.machine_room ≡ (behind_attended a turn).machine_room → b ≡ behind_attended a turn
attended-behind a b turn state room = attended-same b (behind_attended a turn) state room

-- behind a call that is no turn
pub staffed-behind : (a b : StaffedDesk) (call : Option Decked) → b.attended.state ≡ behind_call a.attended.state call → b.attended.machine_room ≡ a.attended.machine_room → b.roster ≡ a.roster → b ≡ with_call a call
staffed-behind a b call state room roster = staffed-same b (with_call a call) state room roster

-- ---- the opening: the first of the operators is in office

pub staffed-opened : {D O : Type 0} (content : D → List ℕ) (answering : O → Answering) (operators : List Answering) (first : Option O) (desk : DeskView D) (all roster : RosterView)
    → all.later ≡ operators → all.place ≡ 0
    → MatchOption first ((all.later ≡ []) × (roster ≡ all)) (λ operator. (all.later ≡ answering operator ∷ roster.later) × (roster.place ≡ all.place + 1))
    → machine_room_of desk ≡ room_at_first (layout_of desk) (option_map answering first) → staffed_by content desk roster ≡ staffed_with operators (state_of content desk)
staffed-opened content answering operators None desk all roster later place next room =
    staffed-same (staffed_by content desk roster) (staffed_with [] (state_of content desk)) refl room
    (next.1 ∙ ap (λ (l : List Answering). record { later = l; place = all.place }) next.0 ∙ ap (λ (n : ℕ). record { later = []; place = n }) place)
    ∙ ap (λ (l : List Answering). staffed_with l (state_of content desk)) (sym next.0 ∙ later)
staffed-opened content answering operators (Some first) desk all roster later place next room =
    staffed-same (staffed_by content desk roster) (staffed_with (answering first ∷ roster.later) (state_of content desk)) refl room
    (ap (λ (n : ℕ). record { later = roster.later; place = n }) (next.1 ∙ ap (λ (n : ℕ). n + 1) place))
    ∙ ap (λ (l : List Answering). staffed_with l (state_of content desk)) (sym next.0 ∙ later)

-- ---- another operator takes office

module _ {D : Type 0} (desk : DeskView D) (room : MachineRoomView) where
  abbrev with_room : DeskView D
  with_room = record desk { machine_room = room }

  -- the desk is trusted as before
  pub trusted-with_room : (told : Type 0) (content : D → List ℕ) (may_leave : D → List ℕ → Type 0) → IsTrusted told content may_leave desk → IsTrusted told content may_leave with_room
  trusted-with_room told content may_leave trusted = record {
    tells = trusted.tells;
    opens = trusted.opens;
    events = trusted.events;
    stands = trusted.stands;
    last = trusted.last;
    opens_left = trusted.opens_left;
    committed = trusted.committed;
    entries = trusted.entries;
    entries_left = trusted.entries_left;
  }

  -- and nothing came
  pub goes-with_room : (content : D → List ℕ) (moment : D → ℕ) (left_since : D → ℕ → List ℕ → Type 0) (size : D → ℕ) → KeepsWithin content moment left_since size desk desk []
      → Goes content moment left_since size desk with_room
  goes-with_room content moment left_since size kept = goes_none content moment left_since size desk with_room refl refl kept (sym (append-nil _))
