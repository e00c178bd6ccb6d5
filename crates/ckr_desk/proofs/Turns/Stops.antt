-- What a stop leaves while a turn goes on behind what it comes to.
use Rattle.std.proofs.Common.{◌≡◌, ◌≤◌, ◌++◌, ◌∷◌, ◌∙◌, ℕ, List, [], length, take, None, Some, ⊎_elim, inl, inr, ap, sym, subst}
use Rattle.ckr_events.specs.declared.event.Event.{Event}
use Rattle.ckr_events.specs.Event.{spelling}
use Rattle.ckr_outside.specs.Disk.{EachSince}
use Rattle.ckr_outside.specs.Moments.{and_then, at_the_end, in_other_words}
use Rattle.ckr_points.specs.Restart.{after_event}
use Rattle.ckr_desk_refines.specs.Moves.{HasSameRecords}
use Rattle.ckr_desk_store.specs.OpenImages.{event_records, Opens}
use Rattle.ckr_volumes.specs.declared.layout.Layout.{Layout}
use Rattle.ckr_volumes.specs.Header.{header_of}
use Rattle.ckr_desk.specs.Calls.{HasGoneOn, IsLeftBy}
use Rattle.ckr_desk.specs.Rewrite.{IsLackingBy, LacksAtMost, OpensSame}
use Rattle.ckr_desk.specs.Units.{IsLeftBehind}
use Rattle.ckr_desk.specs.State.{DeskView}

module _ {D : Type 0} (told : Type 0) (content : D → List ℕ) (may_leave : D → List ℕ → Type 0) (moment : D → ℕ) (left_since : D → ℕ → List ℕ → Type 0) (size : D → ℕ) where
  pub told-left : (event : Event) (old : DeskView D) (new : D) → EachSince moment left_since old.store.disk new (IsLeftBy content may_leave size event None old)
      → EachSince moment left_since old.store.disk new (IsLeftBehind content may_leave size (Some event) old)
  told-left event old new left =
      in_other_words moment left_since old.store.disk new (IsLeftBy content may_leave size event None old) (IsLeftBehind content may_leave size (Some event) old) left (λ image by. inl by)

  -- the event was kept, and then its record was written
  pub rewritten-left : (event : Event) (old mid : DeskView D) (new : D) → HasGoneOn event None old mid → size mid.store.disk ≡ size old.store.disk
      → event_records old.store.layout (content mid.store.disk) ≡ event_records old.store.layout (content old.store.disk) ++ spelling event ∷ []
      → HasSameRecords old.store.layout (content old.store.disk) (content mid.store.disk)
      → EachSince moment left_since old.store.disk mid.store.disk (IsLeftBy content may_leave size event None old) → EachSince moment left_since mid.store.disk new (IsLackingBy content size event mid)
      → EachSince moment left_since old.store.disk new (IsLeftBehind content may_leave size (Some event) old)
  rewritten-left event old mid new gone same_size events records first second =
      and_then moment left_since old.store.disk mid.store.disk new (IsLeftBy content may_leave size event None old) (IsLackingBy content size event mid)
      (IsLeftBehind content may_leave size (Some event) old) first second (λ image by. inl by) later
    where
      layout : Layout
      layout = old.store.layout

      opens : (image : List ℕ) → OpensSame content size mid image → Opens layout (size old.store.disk) (λ list. list ≡ event_records layout (content old.store.disk) ++ spelling event ∷ []) image
      opens image same =
          subst (λ n. Opens layout n (λ list. list ≡ event_records layout (content old.store.disk) ++ spelling event ∷ []) image) same_size
          (subst (λ its. Opens layout (size mid.store.disk) (λ list. list ≡ its) image) events
          (subst (λ l. Opens l (size mid.store.disk) (λ list. list ≡ event_records l (content mid.store.disk)) image) gone.layout same))

      later : (image : List ℕ) → IsLackingBy content size event mid image → IsLeftBehind content may_leave size (Some event) old image
      later image lacking = ⊎_elim
          (λ (same : image ≡ content mid.store.disk).
          inl (inr (
            gone.might,
            (let its = opens image lacking.0 in record { head = its.head; list = inr its.list; closed = its.closed }),
            subst (λ bytes. HasSameRecords layout (content old.store.disk) bytes) (sym same) records,
          )))
          (λ lacks. inr (record {
            might = gone.might;
            opens = opens image lacking.0;
            told_on = content mid.store.disk;
            same = records;
            lacks = subst (λ l. LacksAtMost l (after_event event None old.jobs.tables.desk) event (content mid.store.disk) image) gone.layout
                (subst (λ t. LacksAtMost mid.store.layout t event (content mid.store.disk) image) gone.moved.tables lacks);
          }))
          lacking.1

  -- and an image opens with the events before, and with this one
  pub rewritten-opens : (event : Event) (old mid new : DeskView D) → mid.store.layout ≡ old.store.layout
      → event_records old.store.layout (content mid.store.disk) ≡ event_records old.store.layout (content old.store.disk) ++ spelling event ∷ []
      → EachSince moment left_since mid.store.disk new.store.disk (IsLackingBy content size event mid)
      → ((t : ℕ) (image : List ℕ) → t ≤ moment new.store.disk → may_leave new.store.disk image → left_since new.store.disk t image)
      → ((image : List ℕ) → may_leave new.store.disk image → length image ≡ size mid.store.disk) → (image : List ℕ) → may_leave new.store.disk image
      → Opens old.store.layout (length image) (λ records. records ≡ event_records old.store.layout (content old.store.disk) ++ spelling event ∷ []) image
  rewritten-opens event old mid new same events left counts long image may =
      let there : IsLackingBy content size event mid image = at_the_end moment may_leave left_since mid.store.disk new.store.disk (IsLackingBy content size event mid) left counts image may in
      let its : Opens old.store.layout (size mid.store.disk) (λ records. records ≡ event_records old.store.layout (content mid.store.disk)) image =
      subst (λ l. Opens l (size mid.store.disk) (λ records. records ≡ event_records l (content mid.store.disk)) image) same there.0 in
      record { head = ap (header_of (take 512 image)) (long image may) ∙ its.head; list = its.list ∙ events; closed = its.closed }
