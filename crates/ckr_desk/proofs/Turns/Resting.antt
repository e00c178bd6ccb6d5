-- A turn that tells no event and doesn't call the disk, from the desk as it stood.
use Rattle.std.proofs.Common.{◌≡◌, ◌++◌, ℕ, List, true, ap, sym, ◌∙◌, subst, append-nil, None, Ok}
use Rattle.ckr_book.specs.Book.{room_of}
use Rattle.ckr_console.specs.declared.question.Answer.{Answer}
use Rattle.ckr_desk_refines.specs.Memory.View.{JobsView}
use Rattle.ckr_outside.specs.Disk.{EachSince}
use Rattle.ckr_outside.specs.Moments.{in_other_words}
use Rattle.ckr_points.specs.Office.{Office}
use Rattle.ckr_desk_refines.proofs.Standing.DeskView.{desk-so}
use Rattle.ckr_desk_refines.specs.Standing.{StandsForDesk, desk_seen}
use Rattle.ckr_desk_store.specs.OpenImages.{event_records}
use Rattle.ckr_desk_store.specs.State.{StoreView}
use Rattle.ckr_points.specs.declared.reply.Reply.{Reply}
use Rattle.ckr_desk_turn.specs.Turns.{MountedTurn, turn_of}
use Rattle.ckr_desk_turn.specs.Desk.{DeskModel, TurnDone}
use Rattle.ckr_volumes.specs.declared.layout.Layout.{Layout}
use Rattle.ckr_desk.proofs.Images.Soundness.{kept-left}
use Rattle.ckr_desk.specs.Requests.{has_room, room_behind, spelled}
use Rattle.ckr_desk.specs.Rewrite.{OpensSame}
use Rattle.ckr_desk.specs.Soundness.{HasKept, IsTrusted, state_of}
use Rattle.ckr_desk.specs.State.{DeskView, RoomyDesk}
use Rattle.ckr_desk_turn.specs.MachineRoom.{MachineRoomView}
use Rattle.ckr_desk.specs.Turn.{behind_turn, event_of_turn, reply_of, turn_fits}
use Rattle.ckr_desk.specs.Units.{HasTurned}

abbrev with_room : DeskModel → ℕ → RoomyDesk
with_room desk room = record { desk = desk; room = room }

module _ {D : Type 0} (told : Type 0) (content : D → List ℕ) (may_leave : D → List ℕ → Type 0) (moment : D → ℕ) (left_since : D → ℕ → List ℕ → Type 0) (size : D → ℕ)
    (old : DeskView D) (trusted : IsTrusted told content may_leave old) (turn : MountedTurn) (answer : Answer) (jobs : JobsView) (room : MachineRoomView) (tables : jobs.tables.desk ≡ old.jobs.tables.desk) where
  abbrev layout : Layout
  layout = old.store.layout

  abbrev state : RoomyDesk
  state = state_of content old

  abbrev new : DeskView D
  new = record { store = old.store; jobs = jobs; machine_room = room }

  abbrev before : List (List ℕ)
  before = event_records old.store.layout (content old.store.disk)

  abbrev came : List (List ℕ)
  came = spelled (event_of_turn state turn answer)

  -- what the turn comes to at the desk, which tells no event
  module _ (done : TurnDone) (done-so : turn_of state.desk turn answer ≡ done) (none : done.event ≡ None) (office_same : done.desk.office ≡ state.desk.office)
      (stands-then : StandsForDesk layout jobs (content old.store.disk) done.desk) where
    desk-then : done.desk ≡ (state_of content new).desk
    desk-then = desk-so layout jobs (content old.store.disk) done.desk stands-then ∙ ap (λ (o : Office). desk_seen layout o jobs) office_same

    event-so : event_of_turn state turn answer ≡ None
    unfolding event_of_turn
    event-so = ap (λ (its : TurnDone). its.event) done-so ∙ none

    fits-so : turn_fits state turn answer ≡ true
    unfolding turn_fits
    fits-so = ap (has_room state.room) event-so

    state-so : state_of content new ≡ behind_turn state turn answer
    unfolding behind_turn event_of_turn
    state-so =
        ap (λ (desk : DeskModel). with_room desk (room_of old.store.book)) (sym desk-then)
        ∙ ap (λ event. with_room done.desk (room_behind state.room event)) (sym none)
        ∙ sym (ap (λ (its : TurnDone). with_room its.desk (room_behind state.room its.event)) done-so)

    trusted-so : IsTrusted told content may_leave new
    trusted-so = record {
      tells = trusted.tells;
      opens = trusted.opens ∙ ap Ok (sym tables);
      events = trusted.events;
      stands = subst (StandsForDesk layout jobs (content old.store.disk)) desk-then stands-then;
      last = trusted.last;
      opens_left = trusted.opens_left;
      committed = trusted.committed;
      entries = trusted.entries;
      entries_left = trusted.entries_left;
    }

    -- the store is the same
    module _ (store : StoreView D) (same : store ≡ old.store) where
      pub state-resting : state_of content (record { store = store; jobs = jobs; machine_room = room }) ≡ behind_turn state turn answer
      state-resting = subst (λ (s : StoreView D). state_of content (record { store = s; jobs = jobs; machine_room = room }) ≡ behind_turn state turn answer) (sym same) state-so

      pub trusted-resting : IsTrusted told content may_leave (record { store = store; jobs = jobs; machine_room = room })
      trusted-resting = subst (λ (s : StoreView D). IsTrusted told content may_leave (record { store = s; jobs = jobs; machine_room = room })) (sym same) trusted-so

    module _ (reply : Reply) (its : reply ≡ done.reply) where
      reply-so : reply ≡ reply_of state turn answer
      unfolding reply_of
      reply-so = its ∙ sym (ap (λ (its : TurnDone). its.reply) done-so)

      turned-so : EachSince moment left_since old.store.disk old.store.disk (λ image. OpensSame content size old image × may_leave old.store.disk image)
          → HasTurned told content may_leave moment left_since size turn answer old new (Ok reply)
      turned-so since = record {
        reply = reply-so;
        fits = fits-so;
        after = state-so;
        trusted = trusted-so;
        events = sym (append-nil before) ∙ ap (λ event. before ++ spelled event) (sym event-so);
        cause = tt;
        takes = tt;
        kept = in_other_words moment left_since old.store.disk old.store.disk (λ image. OpensSame content size old image × may_leave old.store.disk image)
            (HasKept layout (size old.store.disk) before came) since
            (λ image left. kept-left told content may_leave size old trusted came image left.0 left.1);
      }

      pub turned-resting : (store : StoreView D) → store ≡ old.store → EachSince moment left_since old.store.disk old.store.disk (λ image. OpensSame content size old image × may_leave old.store.disk image)
          → HasTurned told content may_leave moment left_since size turn answer old (record { store = store; jobs = jobs; machine_room = room }) (Ok reply)
      turned-resting store same since =
          subst (λ (s : StoreView D). HasTurned told content may_leave moment left_since size turn answer old (record { store = s; jobs = jobs; machine_room = room }) (Ok reply)) (sym same) (turned-so since)
