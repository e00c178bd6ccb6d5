-- The records of a data set that no run holds, and a call that reads them.
use Rattle.std.proofs.Common.{◌≡◌, ◌++◌, ℕ, List, [], Bool, true, false, cond, Option, Some, None, Result, Err, IfSome, append-nil, refl, ap, sym, ◌∙◌, subst}
use Rattle.std.proofs.lemmas.Option.{none-some, same_Some}
use Rattle.std.specs.Option.{option_map, option_map_or}
use Rattle.ckr_book.specs.Book.{room_of}
use Rattle.ckr_desk_refines.specs.Memory.View.{JobsView}
use Rattle.ckr_library.specs.declared.sets.Content.{Content}
use Rattle.ckr_library.specs.declared.sets.Content.TheVariants.{Plain, Checkpoints}
use Rattle.ckr_library.specs.declared.sets.DataSet.{DataSet}
use Rattle.ckr_library.specs.NameMaps.{EachEntry, Name, entry_at}
use Rattle.ckr_library.proofs.Named.{each-at}
use Rattle.ckr_desk_refines.specs.Listing.{free_set, is_held, records_of, set_by}
use Rattle.ckr_outside.specs.Disk.{OnlyReads}
use Rattle.ckr_points.specs.Rows.{TableSet, TablesModel}
use Rattle.ckr_desk_refines.specs.Standing.{StandsForDesk}
use Rattle.ckr_desk_store.specs.OpenImages.{event_records}
use Rattle.ckr_desk_store.specs.State.{StoreView}
use Rattle.ckr_volumes.specs.declared.layout.Layout.{Layout}
use Rattle.ckr_desk_turn.specs.Desk.{DeskModel}
use Rattle.ckr_volumes.specs.Records.{records_on}
use Rattle.ckr_volumes.specs.Layouts.{StandsIn}
use Rattle.ckr_desk.proofs.Turns.Preparation.{read-unchanged}
use Rattle.ckr_desk.proofs.Trust.Sameness.{IsAsBefore, state-same, trusted-same}
use Rattle.ckr_desk.specs.Requests.{FailsBy, MayFail, TellsFull}
use Rattle.ckr_desk.specs.declared.error.DeskError.{DeskError}
use Rattle.ckr_desk.specs.declared.error.DeskError.TheVariants.{NoMemory, DiskFault, BookFull, Stopped}
use Rattle.ckr_desk.specs.Records.{ReadingCause}
use Rattle.ckr_desk.specs.Soundness.{IsTrusted, state_of}
use Rattle.ckr_desk.specs.State.{DeskView}
use Rattle.ckr_desk_turn.specs.MachineRoom.{MachineRoomView}
use Rattle.ckr_desk.specs.NoChange.{StaysBy}

-- a data set that no run holds is one of the tables
set-is : (content : Content) (tables : TablesModel) (name : Name) (its set : DataSet) → set_by content tables name its ≡ Some set → its ≡ set
set-is Plain tables name its set is = by (is_held tables name) is
  where
    by : (held : Bool) → cond held None (Some its) ≡ Some set → its ≡ set
    by true is = absurd (none-some set is)
    by false is = same_Some its set is
set-is Checkpoints tables name its set is = absurd (none-some set is)

pub free-stands : (layout : Layout) (tables : TablesModel) (name : Name) (set : DataSet) → EachEntry (λ (table : TableSet). StandsIn layout table.set) tables.sets → free_set tables name ≡ Some set → StandsIn layout set
free-stands layout tables name set stand is = by (entry_at tables.sets name) refl is
  where
    by : (entry : Option TableSet) → entry_at tables.sets name ≡ entry → option_map_or (λ (table : TableSet). set_by table.set.content tables name table.set) entry None ≡ Some set → StandsIn layout set
    by None at is = absurd (none-some set is)
    by (Some table) at is = subst (StandsIn layout) (set-is table.set.content tables name table.set set is) (each-at (λ (table : TableSet). StandsIn layout table.set) tables.sets stand name table at)

module _ {D : Type 0} (told : Type 0) (content : D → List ℕ) (may_leave : D → List ℕ → Type 0) (moment : D → ℕ) (left_since : D → ℕ → List ℕ → Type 0) where
  pub read-before : (jobs : JobsView) (room : MachineRoomView) (old new : StoreView D) → new ≡ record old { disk = new.disk } → OnlyReads content may_leave moment left_since old.disk new.disk
      → IsAsBefore told content may_leave (record { store = old; jobs = jobs; machine_room = room }) (record { store = new; jobs = jobs; machine_room = room })
  read-before jobs room old new kept reads = record {
    jobs = record { tables = refl; running = refl; failed = refl; points = λ run off. refl };
    layout = ap (λ (s : StoreView D). s.layout) kept;
    room = ap (λ (s : StoreView D). room_of s.book) kept;
    reads = reads.same;
    none_new = reads.none_new;
  }

  module _ (jobs : JobsView) (room : MachineRoomView) (old new : StoreView D) (now : DeskView D) (view : record { store = old; jobs = jobs; machine_room = room } ≡ now)
      (kept : new ≡ record old { disk = new.disk }) (reads : OnlyReads content may_leave moment left_since old.disk new.disk) where
    pub state-read : state_of content (record { store = new; jobs = jobs; machine_room = room }) ≡ state_of content now
    state-read = state-same told content may_leave (record { store = old; jobs = jobs; machine_room = room }) (record { store = new; jobs = jobs; machine_room = room }) (read-before jobs room old new kept reads) ∙ ap (state_of content) view

    pub trusted-read : IsTrusted told content may_leave now → IsTrusted told content may_leave (record { store = new; jobs = jobs; machine_room = room })
    trusted-read trusted =
        trusted-same told content may_leave (record { store = old; jobs = jobs; machine_room = room }) (record { store = new; jobs = jobs; machine_room = room }) (read-before jobs room old new kept reads)
        (subst (IsTrusted told content may_leave) (sym view) trusted)

    pub events-read : event_records now.store.layout (content new.disk) ≡ event_records now.store.layout (content now.store.disk) ++ []
    events-read = ap (event_records now.store.layout) (reads.same ∙ ap (λ (s : DeskView D). content s.store.disk) view) ∙ sym (append-nil (event_records now.store.layout (content now.store.disk)))

  -- what is told of the records of a data set holds of the desk of the events, where it is trusted
  pub of-desk : (jobs : JobsView) (room : MachineRoomView) (store : StoreView D) (now : DeskView D) (name : Name) (set : Option DataSet) → record { store = store; jobs = jobs; machine_room = room } ≡ now
      → ((desk : DeskModel) (image : List ℕ) (layout : Layout) → StandsForDesk layout jobs image desk → option_map (λ (its : DataSet). records_on image layout its its.length) set ≡ records_of desk name)
      → IsTrusted told content may_leave now → option_map (λ (its : DataSet). records_on (content store.disk) store.layout its its.length) set ≡ records_of (state_of content now).desk name
  of-desk jobs room store now name set view so trusted =
      let its = subst (IsTrusted told content may_leave) (sym view) trusted in
      so (state_of content (record { store = store; jobs = jobs; machine_room = room })).desk (content store.disk) store.layout its.stands
      ∙ ap (λ (s : DeskView D). records_of (state_of content s).desk name) view

-- a desk that hasn't stopped
pub not-stopped : {T : Type 0} (fault : Option ℕ) (result : Result T DeskError) → fault ≡ None → IfSome fault (λ at. result ≡ Err (Stopped at))
not-stopped fault result is = subst (λ f. IfSome f (λ at. result ≡ Err (Stopped at))) (sym is) tt

module _ {D : Type 0} (faults : D → ℕ) (old new : StoreView D) where
  pub reading-may-fail : (error : DeskError) → ReadingCause faults old new error → MayFail (faults old.disk) (faults new.disk) old.fault error
  reading-may-fail NoMemory cause = tt
  reading-may-fail DiskFault cause = cause.0
  reading-may-fail (BookFull need room) cause = tt
  reading-may-fail (Stopped fault) cause = absurd cause

  pub reading-fails-by : (room : ℕ) (error : DeskError) → ReadingCause faults old new error → FailsBy room None error
  reading-fails-by room NoMemory cause = tt
  reading-fails-by room DiskFault cause = tt
  reading-fails-by room (BookFull need left) cause = absurd cause
  reading-fails-by room (Stopped fault) cause = absurd cause

  pub reading-full : (room : ℕ) (error : DeskError) → ReadingCause faults old new error → TellsFull room None error
  reading-full room NoMemory cause = tt
  reading-full room DiskFault cause = tt
  reading-full room (BookFull need left) cause = cause
  reading-full room (Stopped fault) cause = absurd cause

  pub same-layout : (error : DeskError) → ReadingCause faults old new error → new.layout ≡ old.layout
  same-layout NoMemory cause = ap (λ (s : StoreView D). s.layout) cause
  same-layout DiskFault cause = ap (λ (s : StoreView D). s.layout) cause.1
  same-layout (BookFull need room) cause = absurd cause
  same-layout (Stopped fault) cause = absurd cause

  pub reading-stays : (content : D → List ℕ) (may_leave : D → List ℕ → Type 0) (moment : D → ℕ) (left_since : D → ℕ → List ℕ → Type 0) (jobs : JobsView) (room : MachineRoomView) → OnlyReads content may_leave moment left_since old.disk new.disk
      → (error : DeskError) → ReadingCause faults old new error → StaysBy content may_leave faults (record { store = old; jobs = jobs; machine_room = room }) (record { store = new; jobs = jobs; machine_room = room }) error
  reading-stays content may_leave moment left_since jobs room reads NoMemory cause =
      read-unchanged content may_leave (record { store = old; jobs = jobs; machine_room = room }) (record { store = new; jobs = jobs; machine_room = room }) moment left_since (record { tables = refl; running = refl; failed = refl; points = refl }) cause reads
  reading-stays content may_leave moment left_since jobs room reads DiskFault cause = ap (λ (s : StoreView D). s.fault) cause.1
  reading-stays content may_leave moment left_since jobs room reads (BookFull need left) cause = absurd cause
  reading-stays content may_leave moment left_since jobs room reads (Stopped fault) cause = absurd cause
