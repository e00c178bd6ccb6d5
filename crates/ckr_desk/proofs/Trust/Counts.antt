-- On a trusted disk the rewrites can always be counted, and the next job always has a number: each data set, each rewrite and each deck has taken
-- bytes of the book.
use Rattle.std.proofs.Common.{◌≡◌, ◌≤◌, ◌<◌, ◌+◌, ◌*◌, ◌==◌, ◌++◌, ℕ, zero, suc, true, cond, List, [], ◌∷◌, length, drop, nat_le, nat_lt, refl, ap, sym, subst, Some, None, Result, Ok, Err, arith}
use Rattle.std.specs.List.{list_all, sum_by}
use Rattle.std.proofs.lemmas.Bool.{and_from, cond-false, cond-true}
use Rattle.std.proofs.lemmas.Bool.Decides.{nat_tests}
use Rattle.std.proofs.lemmas.List.{length-take}
use Rattle.std.proofs.lemmas.List.Sums.{sum_by-append, sum_by-cons}
use Rattle.ckr_base.proofs.Bools.{and-second, bool-cases}
use Rattle.ckr_base.proofs.Numbers.{nat_le-from, nat_le-true}
use Rattle.ckr_book.specs.Records.{body, body_length, is_whole, records_from}
use Rattle.ckr_events.specs.declared.event.Event.{Event}
use Rattle.ckr_events.specs.declared.event.Event.TheVariants.{Rewritten, Submitted}
use Rattle.ckr_events.specs.Event.{event_of}
use Rattle.ckr_library.specs.NameMaps.{EachEntry, Named}
use Rattle.ckr_outside.specs.Disk.{part}
use Rattle.ckr_points.specs.Events.{AreSound}
use Rattle.ckr_points.specs.Office.{office}
use Rattle.ckr_points.specs.Restart.{Decked}
use Rattle.ckr_points.specs.Rows.{TableSet, TablesModel}
use Rattle.ckr_desk_refines.specs.Memory.RewriteCounts.{has_few_rewrites, have_few_rewrites, may_count}
use Rattle.ckr_volumes.specs.declared.layout.Layout.{Layout}
use Rattle.ckr_volumes.specs.Header.{IsHeader}
use Rattle.ckr_desk_refines.specs.Memory.Replay.{deck_of}
use Rattle.ckr_desk_refines.proofs.Counts.Bytes.{deck-long, event-adds}
use Rattle.ckr_desk_refines.proofs.Counts.Events.{sound-few}
use Rattle.ckr_desk_refines.proofs.Counts.Runs.{sound-cards, sound-runs}
use Rattle.ckr_desk_refines.proofs.Counts.Sets.{AreFew}
use Rattle.ckr_desk_refines.specs.Counts.{HasRewrites, KeepCards, KeepsCards, added_by, added_by_all, decks_in, decks_of}
use Rattle.ckr_desk_store.specs.OpenImages.{event_records}
use Rattle.ckr_desk.specs.Soundness.{IsTrusted, decked_by, events_in, office_on}
use Rattle.ckr_desk.specs.State.{DeskView}
use Rattle.ckr_desk.specs.Submit.{job_number, next_number}

-- ---- the records of a book

-- the bytes of a record, with its gate and its length
abbrev taken_by : List ℕ → ℕ
taken_by bytes = length bytes + 5

-- the records behind the bytes that are left out have room in what is left
records-fit : (skip : ℕ) (bytes : List ℕ) → skip ≤ length bytes → sum_by taken_by (records_from skip bytes) + skip ≤ length bytes
records-fit zero [] fits = omega arith
records-fit (suc skip) [] fits = absurd (omega (arith, fits))
records-fit (suc skip) (byte ∷ bytes) fits = omega (arith, records-fit skip bytes (omega (arith, fits)))
records-fit zero (gate ∷ bytes) fits = bool-cases (is_whole gate bytes)
    (λ whole.
    let inside : body_length bytes + 5 ≤ length bytes = nat_le-true _ _ (and-second (gate == 1) (nat_le (body_length bytes + 5) (length bytes)) whole) in
    let next : ℕ = body_length bytes + 4 in
    let sum = sum_by-cons taken_by (body bytes) (records_from next bytes) in
    let behind : sum_by taken_by (records_from next bytes) + next ≤ length bytes = records-fit next bytes (omega (arith, inside)) in
    subst (λ records. sum_by taken_by records + 0 ≤ length (gate ∷ bytes)) (sym (cond-true (is_whole gate bytes) _ _ whole)) (omega (arith, inside, sum, behind, length-take (body_length bytes) (drop 4 bytes))))
    (λ not. subst (λ records. sum_by taken_by records + 0 ≤ length (gate ∷ bytes)) (sym (cond-false (is_whole gate bytes) _ _ not)) (omega arith))

-- those of a book take no more than its bytes
book-fits : (layout : Layout) (image : List ℕ) → sum_by taken_by (event_records layout image) ≤ layout.book
book-fits layout image =
    let fits : sum_by taken_by (records_from 0 (part 512 layout.book image)) + 0 ≤ length (part 512 layout.book image) = records-fit 0 (part 512 layout.book image) (omega arith) in
    omega (arith, fits, length-take layout.book (drop 512 image))

-- and a book is no longer than a header may say
pub book-limit : (layout : Layout) (size : ℕ) → IsHeader layout size → layout.book ≤ 268435456
book-limit layout size header = nat_le-true _ _ (and-second (nat_le 256 layout.book) (nat_le layout.book 268435456) header.book)

pub book-short : (layout : Layout) (size : ℕ) → IsHeader layout size → layout.book ≤ 4294967295
book-short layout size header = omega (arith, book-limit layout size header)

-- ---- what their events add

one-adds : (bytes : List ℕ) → added_by_all (decked_by (event_of bytes)) ≤ length bytes
one-adds bytes = by (event_of bytes) refl
  where
    by : (read : Result Event ℕ) → event_of bytes ≡ read → added_by_all (decked_by read) ≤ length bytes
    by (Ok event) is = let few : added_by event ≤ length bytes = event-adds bytes event is in omega (arith, few)
    by (Err offset) is = omega arith

records-add : (records : List (List ℕ)) → added_by_all (events_in records) ≤ sum_by taken_by records
records-add [] = omega arith
records-add (bytes ∷ rest) =
    let both = sum_by-append (λ one. added_by one.0) (decked_by (event_of bytes)) (events_in rest) in
    omega (arith, both, sum_by-cons taken_by bytes rest, one-adds bytes, records-add rest)

-- the gate and the length of the first record are left over
added-below : (most : ℕ) (records : List (List ℕ)) → sum_by taken_by records ≤ suc most → added_by_all (events_in records) < suc most
added-below most [] fits = omega arith
added-below most (bytes ∷ rest) fits =
    let both = sum_by-append (λ one. added_by one.0) (decked_by (event_of bytes)) (events_in rest) in
    omega (arith, both, fits, sum_by-cons taken_by bytes rest, one-adds bytes, records-add rest)

-- ---- whether one more rewrite can be counted

below-true : (least most limit : ℕ) → least ≤ most → most < limit → nat_lt least limit ≡ true
below-true least most limit le less = let below : least < limit = omega (arith, le, less) in grind (arith, nat_tests, below)

rewrites-below : (most : ℕ) (sets : Named TableSet) → most < 4294967295 → EachEntry (HasRewrites most) sets → list_all has_few_rewrites sets ≡ true
rewrites-below most [] less each = refl
rewrites-below most (entry ∷ rest) less each =
    and_from (has_few_rewrites entry) (list_all has_few_rewrites rest) (below-true entry.1.set.stamp.rewrites most 4294967295 each.0 less) (rewrites-below most rest less each.1)

few-counted : (most : ℕ) (sets : Named TableSet) → most < 4294967295 → AreFew most sets → have_few_rewrites sets ≡ true
few-counted most sets less few = and_from (nat_lt (length sets) 4294967295) (list_all has_few_rewrites sets) (below-true (length sets) most 4294967295 few.many less) (rewrites-below most sets less few.each)

any-counted : (event : Event) (sets : Named TableSet) → have_few_rewrites sets ≡ true → may_count event sets ≡ true
any-counted (Rewritten job taken writes lengths place image) sets few = few
any-counted _ sets few = refl

-- so it is behind the sound events of a book
book-counted : (layout : Layout) (image : List ℕ) → layout.book ≤ 4294967295 → AreSound layout (events_in (event_records layout image)) → have_few_rewrites (office_on layout image).tables.sets ≡ true
unfolding office_on
book-counted layout image short sound =
    let events = events_in (event_records layout image) in
    few-counted (added_by_all events) (office events).tables.sets (added-below 4294967294 (event_records layout image) (omega (arith, short, book-fits layout image))) (sound-few layout events sound)

module _ {D : Type 0} (told : Type 0) (content : D → List ℕ) (may_leave : D → List ℕ → Type 0) (desk : DeskView D) (trusted : IsTrusted told content may_leave desk) where
  pub trusted-counted : desk.store.layout.book ≤ 4294967295 → (event : Event) → may_count event desk.jobs.tables.desk.sets ≡ true
  trusted-counted short event =
      any-counted event desk.jobs.tables.desk.sets
      (subst (λ (tables : TablesModel). have_few_rewrites tables.sets ≡ true) (sym trusted.stands.tables) (book-counted desk.store.layout (content desk.store.disk) short trusted.events))

-- ---- whether the next job has a number

one-holds : (bytes : List ℕ) (event : Event) → event_of bytes ≡ Ok event → KeepsCards event → 80 * decks_of event ≤ length bytes
one-holds bytes (Submitted job cards) is some = omega (arith, deck-long bytes job cards is some)
one-holds bytes event is some = omega arith

records-hold : (records : List (List ℕ)) → KeepCards (events_in records) → 80 * decks_in (events_in records) ≤ sum_by taken_by records
records-hold [] each = omega arith
records-hold (bytes ∷ rest) each = by (λ more. records-hold rest more) (event_of bytes) refl each
  where
    by : (KeepCards (events_in rest) → 80 * decks_in (events_in rest) ≤ sum_by taken_by rest) → (read : Result Event ℕ) → event_of bytes ≡ read → KeepCards (decked_by read ++ events_in rest)
        → 80 * decks_in (decked_by read ++ events_in rest) ≤ sum_by taken_by (bytes ∷ rest)
    by behind (Ok event) is each =
        omega (arith, sum_by-cons (λ (one : Decked). decks_of one.0) (event, deck_of event) (events_in rest), sum_by-cons taken_by bytes rest, one-holds bytes event is each.0, behind each.1)
    by behind (Err offset) is each = omega (arith, sum_by-cons taken_by bytes rest, behind each)

-- a book has room for some three million decks
book-numbered : (layout : Layout) (image : List ℕ) → layout.book ≤ 268435456 → AreSound layout (events_in (event_records layout image)) → length (office_on layout image).tables.runs ≤ 3355443
unfolding office_on
book-numbered layout image short sound =
    let events = events_in (event_records layout image) in
    let held : 80 * decks_in events ≤ sum_by taken_by (event_records layout image) = records-hold (event_records layout image) (sound-cards layout events sound) in
    let many : length (office events).tables.runs ≡ decks_in events = sound-runs layout events sound in
    omega (arith, short, book-fits layout image, held, many)

module _ {D : Type 0} (told : Type 0) (content : D → List ℕ) (may_leave : D → List ℕ → Type 0) (desk : DeskView D) (trusted : IsTrusted told content may_leave desk) where
  pub trusted-numbered : desk.store.layout.book ≤ 268435456 → job_number desk.jobs.tables.desk ≡ Some (next_number desk.jobs.tables.desk)
  unfolding job_number
  trusted-numbered short =
      let few : length desk.jobs.tables.desk.runs ≤ 3355443 =
      subst (λ (tables : TablesModel). length tables.runs ≤ 3355443) (sym trusted.stands.tables) (book-numbered desk.store.layout (content desk.store.disk) short trusted.events) in
      ap (λ b. cond b (Some (next_number desk.jobs.tables.desk)) None) (nat_le-from (next_number desk.jobs.tables.desk) 9999999 (omega (arith, few)))
