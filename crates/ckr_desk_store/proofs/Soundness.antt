-- What stays true of the disk of an open desk, and what a stop leaves of it.
use Rattle.std.proofs.Common.{◌≡◌, ◌≤◌, ◌+◌, ℕ, List, take, drop, None, inr, sym, ◌∙◌, ap, subst, arith}
use Rattle.ckr_outside.specs.Disk.{SameOutside, StemsFrom, EachSince, ChangesWithin, part}
use Rattle.std.proofs.lemmas.List.{take-take}
use Rattle.ckr_outside.specs.Moments.{at_the_end, in_other_words}
use Rattle.ckr_outside.specs.Ranges.{part_before, take-part}
use Rattle.ckr_outside.specs.RangeCalls.{images_within}
use Rattle.ckr_book.specs.Records.{records_from, end_from, starts_open}
use Rattle.ckr_book.specs.Book.{IsInside, IsOpenOn, records_in, records_of, ends_closed}
use Rattle.ckr_book.specs.OutsideChanges.{IsApart, stands_elsewhere}
use Rattle.ckr_library.specs.Catalog.{Catalog}
use Rattle.ckr_steps.specs.Writes.{ChangesKeeping, Keeps, StemsKeeping}
use Rattle.ckr_volumes.specs.declared.layout.Layout.{Layout}
use Rattle.ckr_volumes.specs.Header.{header_of, IsHeader}
use Rattle.ckr_volumes.specs.Layouts.{front_of, disk_needed}
use Rattle.ckr_desk_store.specs.OpenImages.{event_records, Opens}
use Rattle.ckr_desk_store.specs.State.{StoreView, IsSound}
use Rattle.ckr_journal.proofs.FreshDisks.{ends_behind}

-- header and book lie within what the layout needs
pub book_within : (layout : Layout) → 512 + layout.book ≤ disk_needed layout
book_within layout = omega (arith, ends_behind (front_of layout) layout.volumes.items)

-- images with one front have one part of it
same_front : (front at n : ℕ) (old new : List ℕ) → at + n ≤ front → take front new ≡ take front old → part at n new ≡ part at n old
same_front front at n old new within same = seen new ∙ ap (λ (l : List ℕ). drop at (take (at + n) l)) same ∙ sym (seen old)
  where
    seen : (image : List ℕ) → part at n image ≡ drop at (take (at + n) (take front image))
    seen image =
        sym (take-take n n (drop at image) (omega arith))
        ∙ take-part n at n image (omega arith)
        ∙ ap (drop at) (sym (take-take (at + n) front image within))

-- images with one header and one book
opens_same : (layout : Layout) (size : ℕ) (AreSuch : List (List ℕ) → Type 0) (old new : List ℕ)
    → part 0 512 new ≡ part 0 512 old → part 512 layout.book new ≡ part 512 layout.book old → Opens layout size AreSuch old → Opens layout size AreSuch new
opens_same layout size AreSuch old new head book opens = record {
  head = ap (λ (l : List ℕ). header_of l size) head ∙ opens.head;
  list = subst AreSuch (ap (λ (l : List ℕ). records_from 0 l) (sym book)) opens.list;
  closed = subst ends_closed (sym book) opens.closed;
}

module _ {D : Type 0} (told : Type 0) (content : D → List ℕ) (may_leave : D → List ℕ → Type 0) (moment : D → ℕ) (left_since : D → ℕ → List ℕ → Type 0) (size : D → ℕ)
    (state : StoreView D) (sound : IsSound content may_leave size state) where
  -- the book lies inside the disk
  pub book_inside : IsInside state.book (size state.disk)
  book_inside = omega (arith, book_within state.layout, sound.header.fits, sound.start, sound.length)

  -- the book's range in other words
  pub its_records : (image : List ℕ) → records_of state.book image ≡ event_records state.layout image
  its_records image = λ i. records_in (sound.start i) (sound.length i) image

  pub its_part : (image : List ℕ) → part state.book.start state.book.size image ≡ part 512 state.layout.book image
  its_part image = λ i. part (sound.start i) (sound.length i) image

  -- the list of records that a read gives
  abbrev pub IsListed : List (List ℕ) → Type 0
  IsListed records = records ≡ event_records state.layout (content state.disk)

  -- a desk opens on each image
  pub opens_now : state.fault ≡ None → (image : List ℕ) → may_leave state.disk image → Opens state.layout (size state.disk) IsListed image
  opens_now runs image now =
      let stands = sound.stands runs in
      let is_open = stands.open_on image now in
      record {
        head = sound.heads runs image now;
        list = sym (its_records image) ∙ stands.list image now ∙ its_records (content state.disk);
        closed = subst ends_closed (its_part image) (ap (λ (k : ℕ). starts_open (drop k (part state.book.start state.book.size image))) is_open.end ∙ is_open.closed);
      }

  module _ (at n : ℕ) (behind : 512 + state.layout.book ≤ at) (new : D) (changes : ChangesWithin told content may_leave moment left_since at n state.disk new) where
    head_kept : (old image : List ℕ) → SameOutside at n old image → part 0 512 image ≡ part 0 512 old
    head_kept old image same = part_before 0 512 at n old image (omega arith) same

    book_kept : (old image : List ℕ) → SameOutside at n old image → part 512 state.layout.book image ≡ part 512 state.layout.book old
    book_kept old image same = part_before 512 state.layout.book at n old image (omega arith) same

    -- what is written behind the book leaves its records
    pub same_events : told → event_records state.layout (content new) ≡ event_records state.layout (content state.disk)
    same_events is_told = ap (λ (l : List ℕ). records_from 0 l) (book_kept (content state.disk) (content new) (changes.reads is_told))

    pub opens_elsewhere : state.fault ≡ None → EachSince moment left_since state.disk new (Opens state.layout (size state.disk) IsListed)
    opens_elsewhere runs =
        in_other_words moment left_since state.disk new (StemsFrom (may_leave state.disk) at n) (Opens state.layout (size state.disk) IsListed) changes.since
        (λ image stems. opens_same state.layout (size state.disk) IsListed stems.0 image (head_kept stems.0 image stems.2) (book_kept stems.0 image stems.2) (opens_now runs stems.0 stems.1))

    pub sound_elsewhere : size new ≡ size state.disk
        → ((t : ℕ) (image : List ℕ) → t ≤ moment new → may_leave new image → left_since new t image)
        → ((image : List ℕ) → may_leave new image → told)
        → IsSound content may_leave size (record state { disk = new })
    sound_elsewhere same_size counts tells = record {
      header = subst (λ (k : ℕ). IsHeader state.layout k) (sym same_size) sound.header;
      laid = sound.laid;
      start = sound.start;
      length = sound.length;
      stands = λ runs. stands_elsewhere told content may_leave moment left_since state.book at n state.disk new apart changes counts tells (sound.stands runs);
      heads = λ runs image now.
          let stems = images_within told content may_leave moment left_since at n state.disk new counts changes image now in
          ap (λ (k : ℕ). header_of (take 512 image) k) same_size
          ∙ ap (λ (l : List ℕ). header_of l (size state.disk)) (head_kept stems.0 image stems.2)
          ∙ sound.heads runs stems.0 stems.1;
    }
      where
        apart : IsApart state.book at n
        apart = inr (omega (arith, sound.start, sound.length))

  -- ---- what is written behind the front of the disk

  module _ (catalog : Catalog) (new : D) (changes : ChangesKeeping told content may_leave moment left_since state.layout catalog state.disk new) where
    front_head : (old image : List ℕ) → Keeps state.layout catalog old image → part 0 512 image ≡ part 0 512 old
    front_head old image keeps = same_front (front_of state.layout) 0 512 old image (omega arith) keeps.front

    front_book : (old image : List ℕ) → Keeps state.layout catalog old image → part 512 state.layout.book image ≡ part 512 state.layout.book old
    front_book old image keeps = same_front (front_of state.layout) 512 state.layout.book old image (omega arith) keeps.front

    -- the images now stem from those before
    images_keeping : ((t : ℕ) (image : List ℕ) → t ≤ moment new → may_leave new image → left_since new t image) → (image : List ℕ) → may_leave new image → StemsKeeping state.layout catalog (may_leave state.disk) image
    images_keeping counts image now = at_the_end moment may_leave left_since state.disk new (StemsKeeping state.layout catalog (may_leave state.disk)) changes.since counts image now

    pub events_keeping : told → event_records state.layout (content new) ≡ event_records state.layout (content state.disk)
    events_keeping is_told = ap (λ (l : List ℕ). records_from 0 l) (front_book (content state.disk) (content new) (changes.reads is_told))

    pub opens_keeping : state.fault ≡ None → EachSince moment left_since state.disk new (Opens state.layout (size state.disk) IsListed)
    opens_keeping runs =
        in_other_words moment left_since state.disk new (StemsKeeping state.layout catalog (may_leave state.disk)) (Opens state.layout (size state.disk) IsListed) changes.since
        (λ image stems. opens_same state.layout (size state.disk) IsListed stems.0 image (front_head stems.0 image stems.2) (front_book stems.0 image stems.2) (opens_now runs stems.0 stems.1))

    pub sound_keeping : size new ≡ size state.disk
        → ((t : ℕ) (image : List ℕ) → t ≤ moment new → may_leave new image → left_since new t image)
        → ((image : List ℕ) → may_leave new image → told)
        → IsSound content may_leave size (record state { disk = new })
    sound_keeping same_size counts tells = record {
      header = subst (λ (k : ℕ). IsHeader state.layout k) (sym same_size) sound.header;
      laid = sound.laid;
      start = sound.start;
      length = sound.length;
      stands = λ runs. record {
        open_on = λ image now.
            let stems = images_keeping counts image now in
            let same : part state.book.start state.book.size image ≡ part state.book.start state.book.size stems.0 = its_part image ∙ front_book stems.0 image stems.2 ∙ sym (its_part stems.0) in
            let was : IsOpenOn state.book stems.0 = (sound.stands runs).open_on stems.0 stems.1 in
            record { end = ap (λ (l : List ℕ). end_from 0 l) same ∙ was.end; closed = ap (λ (l : List ℕ). starts_open (drop state.book.end l)) same ∙ was.closed };
        list = λ image now.
            let stems = images_keeping counts image now in
            its_records image
            ∙ ap (λ (l : List ℕ). records_from 0 l) (front_book stems.0 image stems.2)
            ∙ sym (its_records stems.0)
            ∙ (sound.stands runs).list stems.0 stems.1
            ∙ its_records (content state.disk)
            ∙ sym (events_keeping (tells image now))
            ∙ sym (its_records (content new));
      };
      heads = λ runs image now.
          let stems = images_keeping counts image now in
          ap (λ (k : ℕ). header_of (take 512 image) k) same_size
          ∙ ap (λ (l : List ℕ). header_of l (size state.disk)) (front_head stems.0 image stems.2)
          ∙ sound.heads runs stems.0 stems.1;
    }
