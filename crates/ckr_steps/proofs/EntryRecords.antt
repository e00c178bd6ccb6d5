-- The records of an entry: one behind the other they are its bytes, and what is written of them stays.
use Rattle.std.proofs.Common.{◌≡◌, ◌≤◌, ◌<◌, ℕ, zero, suc, ◌+◌, ◌*◌, ◌-◌, Bool, true, false, List, [], ◌∷◌, ◌++◌, length, get_or, take, drop, replicate, refl, ap, sym, ◌∙◌, subst, inl, inr, ⊎_elim, arith, length-append, length-drop, Some}
use Rattle.std.specs.Prelude.{IsTrue, flat_map}
use Rattle.std.specs.List.{range_with_len}
use Rattle.std.proofs.lemmas.Bool.{cases_lt}
use Rattle.std.proofs.lemmas.List.{drop-drop, get_or-replicate, length-replicate, length-take-le, nil_from_length, same_from_push, take-append-drop, take-append-le, take-take, take_all, take_at, take_more}
use Rattle.std.proofs.lemmas.Option.{same_Some}
use Rattle.std.proofs.Math.Seq.{take-append-add}
use Rattle.ckr_outside.specs.Disk.{SameOutside, StemsFrom, ChangesWithin}
use Rattle.ckr_outside.specs.Moments.{and_then, at_the_end, in_other_words, started}
use Rattle.ckr_library.specs.declared.sets.DataSet.{DataSet}
use Rattle.ckr_library.specs.Catalog.{Catalog, records_of, set_of}
use Rattle.ckr_library.specs.NameMaps.{Name, same_name}
use Rattle.ckr_library.proofs.Named.{name-same, name-turned}
use Rattle.ckr_volumes.specs.declared.layout.Layout.{Layout}
use Rattle.ckr_volumes.specs.Places.{address_of}
use Rattle.ckr_volumes.specs.Records.{record_at, records_on}
use Rattle.ckr_volumes.specs.RecordWrites.{record_kept, records_apart_kept, front_kept}
use Rattle.ckr_volumes.specs.Lists.{same_records}
use Rattle.ckr_volumes.specs.Layouts.{is_laid_out, StandsIn}
use Rattle.ckr_steps.specs.EntryRecords.{zero_filled, entry_record, HasEntry, bytes_on, SameRecordsOutside, StemsFromRecords, ChangesRecords}
use Rattle.ckr_steps.specs.Inputs.{AreStored}
use Rattle.ckr_steps.specs.Writes.{Keeps, StemsKeeping, ChangesKeeping}

-- ---- how many there are

pub records-more : (bytes : ℕ) → 1 ≤ bytes → records_of bytes ≡ suc (records_of (bytes - 256))
records-more bytes some = omega arith

pub records-most : (bytes : ℕ) → bytes ≤ 256 * records_of bytes
records-most bytes = omega arith

-- ---- their bytes

get_or-filled : (bytes : List ℕ) (count place d : ℕ) → place < count → get_or (bytes ++ replicate count 0) place d ≡ get_or bytes place 0
get_or-filled [] count place d less = get_or-replicate count place 0 d less
get_or-filled (byte ∷ bytes) count zero d less = refl
get_or-filled (byte ∷ bytes) count (suc place) d less = get_or-filled bytes count place d (omega arith)

-- a byte more: that of the bytes, or a zero
pub filled-more : (bytes : List ℕ) (place : ℕ) → place < 256 → take (place + 1) (bytes ++ replicate 256 0) ≡ take place (bytes ++ replicate 256 0) ++ get_or bytes place 0 ∷ []
filled-more bytes place less =
    take_more (bytes ++ replicate 256 0) place 0 (omega (arith, length-append bytes (replicate 256 0), length-replicate {A = ℕ} 256 0))
    ∙ ap (λ (byte : ℕ). take place (bytes ++ replicate 256 0) ++ byte ∷ []) (get_or-filled bytes 256 place 0 less)

pub filled-whole : (bytes : List ℕ) → length (take 256 (bytes ++ replicate 256 0)) ≡ 256
filled-whole bytes = length-take-le 256 (bytes ++ replicate 256 0) (omega (arith, length-append bytes (replicate 256 0), length-replicate {A = ℕ} 256 0))

pub ruleset fills = (filled-more, filled-whole)

pub filled-front : (bytes : List ℕ) → zero_filled (take 256 bytes) ≡ zero_filled bytes
unfolding zero_filled
filled-front bytes =
    ⊎_elim
    (λ few. ap (λ (b : List ℕ). take 256 (b ++ replicate 256 0)) (take_all 256 bytes (omega arith)))
    (λ many. take_at (take 256 bytes) (replicate 256 0) 256 (length-take-le 256 bytes many) ∙ sym (take-append-le 256 bytes (replicate 256 0) many))
    (cases_lt (length bytes) 256)

pub filled-length : (bytes : List ℕ) → length (zero_filled bytes) ≡ 256
unfolding zero_filled
filled-length bytes = filled-whole bytes

filled-many : (bytes : List ℕ) → 256 ≤ length bytes → zero_filled bytes ≡ take 256 bytes
unfolding zero_filled
filled-many bytes many = take-append-le 256 bytes (replicate 256 0) many

filled-few : (bytes : List ℕ) → length bytes ≤ 256 → take (length bytes) (zero_filled bytes) ≡ bytes
unfolding zero_filled
filled-few bytes few =
    take-take (length bytes) 256 (bytes ++ replicate 256 0) few ∙ take_at bytes (replicate 256 0) (length bytes) refl

-- behind the first record come those of the rest
pub record-later : (entry : List ℕ) (n : ℕ) → entry_record (drop 256 entry) n ≡ entry_record entry (suc n)
record-later entry n =
    let k : 256 + 256 * n ≡ 256 * suc n = omega arith in
    ap zero_filled (drop-drop (256 * n) 256 entry ∙ ap (λ (k : ℕ). drop k entry) k)

abbrev pieces : List ℕ → ℕ → ℕ → List ℕ
pieces entry from count = flat_map (entry_record entry) (range_with_len from count)

-- the records from one on give the bytes from there on
pieces-give : (entry : List ℕ) (from count : ℕ) → length (drop (256 * from) entry) ≤ 256 * count → take (length (drop (256 * from) entry)) (pieces entry from count) ≡ drop (256 * from) entry
pieces-give entry from zero few =
    let none : drop (256 * from) entry ≡ [] = nil_from_length (drop (256 * from) entry) (omega arith) in
    subst (λ (d : List ℕ). take (length d) [] ≡ d) (sym none) refl
pieces-give entry from (suc count) few =
    let here : List ℕ = drop (256 * from) entry in
    let later : List ℕ = drop (256 * (from + 1)) entry in
    let k : 256 * from + 256 ≡ 256 * (from + 1) = omega arith in
    let rest : drop 256 here ≡ later = drop-drop 256 (256 * from) entry ∙ ap (λ (k : ℕ). drop k entry) k in
    let others : List ℕ = pieces entry (from + 1) count in
    ⊎_elim
    (λ (less : length here < 256).
    take-append-le (length here) (zero_filled here) others (omega (arith, filled-length here)) ∙ filled-few here (omega arith))
    (λ (many : 256 ≤ length here).
    let front : length (take 256 here) ≡ 256 = length-take-le 256 here many in
    let left : length here ≡ length (take 256 here) + length later = omega (arith, ap length rest, length-drop 256 here) in
    let few : length later ≤ 256 * count = omega arith in
    ap (λ (z : List ℕ). take (length here) (z ++ others)) (filled-many here many)
    ∙ ap (λ (n : ℕ). take n (take 256 here ++ others)) left
    ∙ take-append-add (take 256 here) others (length later)
    ∙ ap (λ (l : List ℕ). take 256 here ++ l) (pieces-give entry (from + 1) count few)
    ∙ ap (λ (l : List ℕ). take 256 here ++ l) (sym rest)
    ∙ take-append-drop 256 here)
    (cases_lt (length here) 256)

same-pieces : (image : List ℕ) (layout : Layout) (set : DataSet) (place : ℕ) (entry : List ℕ) (from count : ℕ) → ((n : ℕ) → from ≤ n → n < from + count → record_at image layout set (place + n) ≡ entry_record entry n) → flat_map (λ n. record_at image layout set (place + n)) (range_with_len from count) ≡ pieces entry from count
same-pieces image layout set place entry from zero same = refl
same-pieces image layout set place entry from (suc count) same =
    ap (λ (r : List ℕ). r ++ flat_map (λ n. record_at image layout set (place + n)) (range_with_len (from + 1) count)) (same from (omega arith) (omega arith))
    ∙ ap (λ (l : List ℕ). entry_record entry from ++ l) (same-pieces image layout set place entry (from + 1) count (λ n low high. same n (omega arith) (omega arith)))

-- an image that has the records of an entry has its bytes
pub bytes-back : (image : List ℕ) (layout : Layout) (set : DataSet) (place : ℕ) (entry : List ℕ) → HasEntry image layout set place entry → bytes_on image layout set place (length entry) ≡ entry
unfolding bytes_on
bytes-back image layout set place entry has =
    ap (take (length entry)) (same-pieces image layout set place entry 0 (records_of (length entry)) (λ n low high. has n (omega arith)))
    ∙ pieces-give entry 0 (records_of (length entry)) (records-most (length entry))

-- ---- what stays

-- nothing was written
pub outside-none : (layout : Layout) (set : DataSet) (place count : ℕ) (image : List ℕ) → SameRecordsOutside layout set place count image image
outside-none layout set place count image = record { records = λ q less apart. refl; others = λ other n stands apart le. refl; front = refl }

module _ (layout : Layout) (laid_out : IsTrue (is_laid_out layout)) (set : DataSet) (stands : StandsIn layout set) (place : ℕ) (less : place < set.space) where
  -- one record was
  pub outside-one : (count : ℕ) → 1 ≤ count → (old new : List ℕ) → SameOutside (address_of layout set place) set.lrecl old new → SameRecordsOutside layout set place count old new
  outside-one count some old new same = record {
    records = λ q q_less apart. record_kept layout laid_out set stands place less old new same q q_less (λ e. ⊎_elim (λ before. absurd (omega arith)) (λ behind. absurd (omega arith)) apart);
    others = λ other n other_stands apart le. records_apart_kept layout laid_out set stands place less old new same other other_stands apart n le;
    front = front_kept layout laid_out set stands place less old new same;
  }

  module _ {D : Type 0} (told : Type 0) (content : D → List ℕ) (may_leave : D → List ℕ → Type 0) (moment : D → ℕ) (left_since : D → ℕ → List ℕ → Type 0) where
    pub changes-one : (count : ℕ) → 1 ≤ count → (old new : D) → ChangesWithin told content may_leave moment left_since (address_of layout set place) set.lrecl old new → ChangesRecords told content may_leave moment left_since layout set place count old new
    changes-one count some old new changes = record {
      reads = λ is_told. outside-one count some (content old) (content new) (changes.reads is_told);
      since = in_other_words moment left_since old new (StemsFrom (may_leave old) (address_of layout set place) set.lrecl) (StemsFromRecords layout set place count (may_leave old)) changes.since
          (λ image stems. (stems.0, stems.1, outside-one count some stems.0 image stems.2));
    }

-- one record, and then others behind it
pub outside-more : (layout : Layout) (set : DataSet) (place count all : ℕ) (first second third : List ℕ) → all ≡ suc count → SameRecordsOutside layout set place all first second → SameRecordsOutside layout set (place + 1) count second third → SameRecordsOutside layout set place all first third
outside-more layout set place count all first second third is one two = record {
  records = λ q less apart.
      two.records q less (⊎_elim (λ before. inl (omega arith)) (λ behind. inr (omega arith)) apart)
      ∙ one.records q less apart;
  others = λ other n stands apart le. two.others other n stands apart le ∙ one.others other n stands apart le;
  front = two.front ∙ one.front;
}

module _ {D : Type 0} (told : Type 0) (content : D → List ℕ) (may_leave : D → List ℕ → Type 0) (moment : D → ℕ) (left_since : D → ℕ → List ℕ → Type 0) (layout : Layout) (set : DataSet) where
  pub changes-more : (place count all : ℕ) (old mid new : D) → all ≡ suc count
      → ((t : ℕ) (image : List ℕ) → t ≤ moment mid → may_leave mid image → left_since mid t image)
      → ChangesRecords told content may_leave moment left_since layout set place all old mid → ChangesRecords told content may_leave moment left_since layout set (place + 1) count mid new
      → ChangesRecords told content may_leave moment left_since layout set place all old new
  changes-more place count all old mid new is counts first second = record {
    reads = λ is_told. outside-more layout set place count all (content old) (content mid) (content new) is (first.reads is_told) (second.reads is_told);
    since = and_then moment left_since old mid new (StemsFromRecords layout set place all (may_leave old)) (StemsFromRecords layout set (place + 1) count (may_leave mid)) (StemsFromRecords layout set place all (may_leave old)) first.since second.since
        (λ image stems. stems)
        (λ image stems. let start = at_the_end moment may_leave left_since old mid (StemsFromRecords layout set place all (may_leave old)) first.since counts stems.0 stems.1 in
        (start.0, start.1, outside-more layout set place count all start.0 stems.0 image is start.2 stems.2));
  }

  pub changes-none : (place count : ℕ) (disk : D) → ((image : List ℕ) → left_since disk (moment disk) image → may_leave disk image) → ChangesRecords told content may_leave moment left_since layout set place count disk disk
  changes-none place count disk only = record {
    reads = λ is_told. outside-none layout set place count (content disk);
    since = started moment left_since disk (StemsFromRecords layout set place count (may_leave disk)) (λ image left. (image, only image left, outside-none layout set place count image));
  }

-- the first record, and those behind it
pub has-more : (image : List ℕ) (layout : Layout) (set : DataSet) (place : ℕ) (entry : List ℕ) → 1 ≤ length entry → record_at image layout set place ≡ entry_record entry 0 → HasEntry image layout set (place + 1) (drop 256 entry) → HasEntry image layout set place entry
has-more image layout set place entry some first rest zero less = let k : place + 0 ≡ place = omega arith in ap (record_at image layout set) k ∙ first
has-more image layout set place entry some first rest (suc n) less =
    let k : place + suc n ≡ place + 1 + n = omega arith in
    ap (record_at image layout set) k
    ∙ rest n (omega (arith, records-more (length entry) some, ap records_of (length-drop 256 entry)))
    ∙ record-later entry n

-- a record that was written behind the first ones stands at its place
pub written-there : (old new : List ℕ) (layout : Layout) (set : DataSet) (place : ℕ) (bytes : List ℕ) → records_on new layout set (place + 1) ≡ records_on old layout set place ++ bytes ∷ [] → record_at new layout set place ≡ bytes
written-there old new layout set place bytes is =
    let k : suc place ≡ place + 1 = omega arith in
    (same_from_push (records_on new layout set place) (records_on old layout set place) (record_at new layout set place) bytes (ap (records_on new layout set) k ∙ is)).1

-- what a library has up to its lengths stays, where nothing changes but records behind one of them
module _ (layout : Layout) (name : Name) (set : DataSet) (catalog : Catalog) (count : ℕ) (stored : AreStored layout catalog) (was : set_of catalog name ≡ Some set) where
  pub outside-keeps : (old new : List ℕ) → SameRecordsOutside layout set set.length count old new → Keeps layout catalog old new
  outside-keeps old new same = record {
    records = λ other s n is le. by other s n is le (same_name other name) refl;
    others = λ other n clear stands le. same.others other n stands (clear name set was) le;
    front = same.front;
  }
    where
      stands : StandsIn layout set
      stands = stored.stands name set was

      by : (other : Name) (s : DataSet) (n : ℕ) → set_of catalog other ≡ Some s → n ≤ s.length → (b : Bool) → same_name other name ≡ b → records_on new layout s n ≡ records_on old layout s n
      by other s n is le true e =
          let sets : set ≡ s = same_Some set s (sym was ∙ ap (set_of catalog) (sym (name-same other name e)) ∙ is) in
          let le_here : n ≤ set.length = subst (λ (t : DataSet). n ≤ t.length) (sym sets) le in
          subst (λ (t : DataSet). records_on new layout t n ≡ records_on old layout t n) sets
          (same_records old new layout set n (λ q less. same.records q (omega (arith, stands.length_fits)) (inl (omega arith))))
      by other s n is le false e =
          let other_stands = stored.stands other s is in
          same.others s n other_stands (stored.apart name other set s (name-turned name other ∙ e) was is) (omega (arith, le, other_stands.length_fits))

  module _ {D : Type 0} (told : Type 0) (content : D → List ℕ) (may_leave : D → List ℕ → Type 0) (moment : D → ℕ) (left_since : D → ℕ → List ℕ → Type 0) where
    pub records-keeping : (old new : D) → ChangesRecords told content may_leave moment left_since layout set set.length count old new → ChangesKeeping told content may_leave moment left_since layout catalog old new
    records-keeping old new changes = record {
      reads = λ is_told. outside-keeps (content old) (content new) (changes.reads is_told);
      since = in_other_words moment left_since old new (StemsFromRecords layout set set.length count (may_leave old)) (StemsKeeping layout catalog (may_leave old)) changes.since
          (λ image stems. (stems.0, stems.1, outside-keeps stems.0 image stems.2));
    }

-- an entry below a length stays, where the library's records do
pub entry-kept : (layout : Layout) (name : Name) (set : DataSet) (catalog : Catalog) (old new : List ℕ) (place : ℕ) (entry : List ℕ) → set_of catalog name ≡ Some set → place + records_of (length entry) ≤ set.length → Keeps layout catalog old new → HasEntry old layout set place entry → HasEntry new layout set place entry
entry-kept layout name set catalog old new place entry was within keeps has n less =
    written-there old new layout set (place + n) (entry_record entry n)
    (let k : suc (place + n) ≡ place + n + 1 = omega arith in
    keeps.records name set (place + n + 1) was (omega arith)
    ∙ sym (ap (records_on old layout set) k)
    ∙ ap (λ (r : List ℕ). records_on old layout set (place + n) ++ r ∷ []) (has n less))
