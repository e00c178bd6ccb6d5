-- A disk that was formatted is sound: it opens without events.
use Rattle.std.proofs.Common.{◌≡◌, ◌-◌, ℕ, Bool, false, List, [], take, drop, cond, Option, None, Result, Ok, Err, refl, sym, ap, subst, ◌∙◌, arith}
use Rattle.std.proofs.lemmas.Option.{none-some}
use Rattle.ckr_book.specs.Next.{NoneAt}
use Rattle.ckr_book.specs.Records.{starts_open}
use Rattle.ckr_events.specs.declared.event.Event.{Event}
use Rattle.ckr_outside.specs.Disk.{part}
use Rattle.ckr_points.specs.Events.{AreSound}
use Rattle.ckr_points.specs.Office.{Office, no_office, office}
use Rattle.ckr_points.specs.Rows.{no_tables}
use Rattle.ckr_desk_refines.specs.Entries.{HasEntries}
use Rattle.ckr_desk_refines.specs.RewriteRecord.{HasCommittedAgain, HasLast, last_event}
use Rattle.ckr_desk_store.specs.OpenImages.{event_records}
use Rattle.ckr_desk_turn.specs.Desk.{opened as opened_desk}
use Rattle.ckr_desk.specs.declared.error.OpenError.{OpenError}
use Rattle.ckr_desk.specs.declared.error.OpenError.TheVariants.{BadBook}
use Rattle.ckr_desk.specs.Entries.{bad_entry}
use Rattle.ckr_desk.specs.Opening.{behind_records, by_book, by_end, by_entries, by_header, opened_at, opening_of, refused_or}
use Rattle.ckr_desk.specs.Soundness.{Sound, desk_of_opened, desk_opening, events_in, fresh_desk, last_on, office_on}
use Rattle.ckr_desk.specs.State.{Opened, RoomyDesk}
use Rattle.ckr_volumes.specs.declared.layout.Layout.{Layout}
use Rattle.ckr_volumes.specs.Header.{header_of}

-- ---- it opens

abbrev ended_at : Layout → List ℕ → ℕ → Result Opened OpenError
ended_at layout bytes n = cond (starts_open (drop n bytes)) (Err (BadBook n)) (Ok (opened_at layout no_tables (layout.book - n)))

abbrev gate_or : Layout → Bool → Result Opened OpenError
gate_or layout is_open = cond is_open (Err (BadBook 0)) (Ok (opened_at layout no_tables (layout.book - 0)))

fresh_book : (layout : Layout) (bytes : List ℕ) → NoneAt bytes false → by_book layout bytes ≡ Ok (opened_at layout no_tables layout.book)
fresh_book layout bytes none =
    ap (λ (l : List (List ℕ)). by_end layout bytes (behind_records layout no_tables 0 l)) none.records
    ∙ ap (ended_at layout bytes) none.end
    ∙ ap (gate_or layout) none.gate
    ∙ ap (λ (n : ℕ). Ok (opened_at layout no_tables n)) (omega arith)

-- no entry is refused
none-kept : (layout : Layout) (image : List ℕ) → bad_entry layout no_tables image ≡ None
unfolding bad_entry
none-kept layout image = refl

fresh_opening : (layout : Layout) (image : List ℕ) (size : ℕ) → header_of (take 512 image) size ≡ Ok layout → NoneAt (part 512 layout.book image) false
    → opening_of image size ≡ Ok (opened_at layout no_tables layout.book)
unfolding opening_of
fresh_opening layout image size header none =
    ap (by_header image) header ∙ ap (by_entries image) (fresh_book layout (part 512 layout.book image) none)
    ∙ ap (refused_or (opened_at layout no_tables layout.book)) (none-kept layout image)

-- ---- it has no events

fresh_office : (layout : Layout) (image : List ℕ) → event_records layout image ≡ [] → office_on layout image ≡ no_office
unfolding office_on
fresh_office layout image none = ap (λ (l : List (List ℕ)). office (events_in l)) none

fresh_last : (layout : Layout) (image : List ℕ) → event_records layout image ≡ [] → last_on layout image ≡ None
unfolding last_on
fresh_last layout image none = ap (λ (l : List (List ℕ)). last_event (events_in l)) none

fresh_sound : (layout : Layout) (image : List ℕ) (size : ℕ) → header_of (take 512 image) size ≡ Ok layout → NoneAt (part 512 layout.book image) false → Sound size image
fresh_sound layout image size header none =
    let back : no_office ≡ office_on layout image = sym (fresh_office layout image none.records) in
    record {
      layout = layout;
      room = layout.book;
      opens = fresh_opening layout image size header none ∙ ap (λ (o : Office). Ok (opened_at layout o.tables layout.book)) back;
      events = subst (λ (l : List (List ℕ)). AreSound layout (events_in l)) (sym none.records) tt;
      committed = subst (λ (o : Office). HasCommittedAgain layout o (last_on layout image) image) back
          (λ name table found plain. absurd (none-some table found));
      last = subst (λ (e : Option Event). HasLast (office_on layout image) e) (sym (fresh_last layout image none.records))
          (λ rewrite told. absurd (none-some rewrite told));
      entries = subst (λ (o : Office). HasEntries layout o image) back (λ name table found. absurd (none-some table found));
    }

-- it opens to a desk without jobs, with the whole book free
pub fresh-opens : (layout : Layout) (image : List ℕ) (size : ℕ) → header_of (take 512 image) size ≡ Ok layout → NoneAt (part 512 layout.book image) false → desk_opening image size ≡ Ok (fresh_desk layout)
unfolding desk_opening
fresh-opens layout image size header none =
    let found : Office → Result RoomyDesk OpenError = λ o. Ok (record { desk = opened_desk layout o; room = layout.book }) in
    ap (desk_of_opened image) (fresh_opening layout image size header none) ∙ ap found (fresh_office layout image none.records)

-- each image of a disk that was formatted is what it reads
pub fresh_image : (layout : Layout) (content image : List ℕ) (size : ℕ) → image ≡ content → header_of (take 512 content) size ≡ Ok layout → NoneAt (part 512 layout.book content) false → Sound size image
fresh_image layout content image size same header none = subst (Sound size) (sym same) (fresh_sound layout content size header none)
