-- The same of a book that stands on a disk, and of the images since the append began.
use Rattle.std.proofs.Common.{◌≡◌, ◌≤◌, ◌<◌, ◌+◌, ◌^◌, ℕ, false, List, [], ◌∷◌, ◌++◌, length, drop, inl, sym, ◌∙◌, ap, subst, arith}
use Rattle.ckr_outside.specs.Disk.{Overwrites, SameOutside, StemsFrom, Only, EachSince, part}
use Rattle.ckr_outside.specs.Moments.{started, and_then, in_other_words}
use Rattle.ckr_book.specs.Records.{end_from, starts_open, written_record}
use Rattle.ckr_book.specs.Book.{OpenBook, IsInside, IsOpenOn, StandsOn, IsBeforeOrAfter, records_of, ends_closed}
use Rattle.ckr_book.proofs.Appends.{staged, any_gate, open_gate}

module _ {D : Type 0} (told : Type 0) (content : D → List ℕ) (may_leave : D → List ℕ → Type 0) (size : D → ℕ) (book : OpenBook) (disk : D) (bytes : List ℕ)
    (inside : IsInside book (size disk)) (room : book.end + (length bytes + 6) ≤ book.size) (small : length bytes < 2 ^ 32)
    (stands : StandsOn content may_leave book disk)
    (sized : (image : List ℕ) → may_leave disk image → length image ≡ size disk) where
  -- the image has the list with the record or without it, and a closed gate behind it
  abbrev pub Listed : List ℕ → Type 0
  Listed image = IsBeforeOrAfter (records_of book (content disk)) bytes (records_of book image) × ends_closed (part book.start book.size image)

  module _ (before : List ℕ) (is : may_leave disk before) where
    ends : end_from 0 (part book.start book.size before) ≡ book.end
    ends = (stands.open_on before is).end

    fits : book.start + book.size ≤ length before
    fits = omega (arith, sized before is)

    has_room : end_from 0 (part book.start book.size before) + (length bytes + 6) ≤ book.size
    has_room = omega (arith, ends)

    closed : starts_open (drop (end_from 0 (part book.start book.size before)) (part book.start book.size before)) ≡ false
    closed = ap (λ (k : ℕ). starts_open (drop k (part book.start book.size before))) ends ∙ (stands.open_on before is).closed

    pub is_staged : (image : List ℕ) → SameOutside (book.start + book.end + 1) (length bytes + 5) before image → Listed image
    is_staged image same =
        let both = staged book.start book.size before bytes fits has_room small closed image
        (subst (λ (k : ℕ). SameOutside (book.start + k + 1) (length bytes + 5) before image) (sym ends) same) in
        (inl (both.0 ∙ stands.list before is), both.1)

    module _ (mid : List ℕ) (written : Overwrites (book.start + book.end + 1) (written_record bytes) before mid) (image : List ℕ) (same : SameOutside (book.start + book.end) 1 mid image) where
      written_here : Overwrites (book.start + end_from 0 (part book.start book.size before) + 1) (written_record bytes) before mid
      written_here = subst (λ (k : ℕ). Overwrites (book.start + k + 1) (written_record bytes) before mid) (sym ends) written

      same_here : SameOutside (book.start + end_from 0 (part book.start book.size before)) 1 mid image
      same_here = subst (λ (k : ℕ). SameOutside (book.start + k) 1 mid image) (sym ends) same

      pub is_either : Listed image
      is_either =
          let both = any_gate book.start book.size before bytes fits has_room small mid written_here image same_here in
          (subst (λ (l : List (List ℕ)). IsBeforeOrAfter l bytes (records_of book image)) (stands.list before is) both.0, both.1)

      pub is_appended : Overwrites (book.start + book.end) (1 ∷ []) mid image
          → (records_of book image ≡ records_of book (content disk) ++ bytes ∷ [])
          × (end_from 0 (part book.start book.size image) ≡ book.end + (length bytes + 5))
          × (starts_open (drop (book.end + (length bytes + 5)) (part book.start book.size image)) ≡ false)
      is_appended is_open =
          let all = open_gate book.start book.size before bytes fits has_room small mid written_here image same_here
          (subst (λ (k : ℕ). Overwrites (book.start + k) (1 ∷ []) mid image) (sym ends) is_open) in (
            all.0 ∙ ap (λ (l : List (List ℕ)). l ++ bytes ∷ []) (stands.list before is),
            all.1 ∙ ap (λ (k : ℕ). k + (length bytes + 5)) ends,
            ap (λ (k : ℕ). starts_open (drop (k + (length bytes + 5)) (part book.start book.size image))) (sym ends) ∙ all.2,
          )

  module _ (moment : D → ℕ) (left_since : D → ℕ → List ℕ → Type 0) (gate : ℕ) (place : gate ≡ book.start + book.end) where
    -- a stop leaves such an image
    abbrev pub Either : D → Type 0
    Either new = EachSince moment left_since disk new Listed

    pub the_list : (new : D) → Either new → EachSince moment left_since disk new (λ image. IsBeforeOrAfter (records_of book (content disk)) bytes (records_of book image))
    the_list new either = in_other_words moment left_since disk new Listed (λ image. IsBeforeOrAfter (records_of book (content disk)) bytes (records_of book image)) either (λ image both. both.0)

    pub the_gate : (new : D) → Either new → EachSince moment left_since disk new (λ image. ends_closed (part book.start book.size image))
    the_gate new either = in_other_words moment left_since disk new Listed (λ image. ends_closed (part book.start book.size image)) either (λ image both. both.1)

    -- before the append
    pub not_begun : ((image : List ℕ) → left_since disk (moment disk) image → may_leave disk image) → Either disk
    not_begun only_now = started moment left_since disk Listed (λ image left.
        let is = only_now image left in
        (inl (stands.list image is), closed image is))

    module _ (mid : D) (since : EachSince moment left_since disk mid (StemsFrom (may_leave disk) (gate + 1) (length bytes + 5))) where
      -- no gate was opened yet
      pub staged_since : Either mid
      staged_since =
          in_other_words moment left_since disk mid (StemsFrom (may_leave disk) (gate + 1) (length bytes + 5))
          Listed since
          (λ image stems. is_staged stems.0 stems.1 image (subst (λ (k : ℕ). SameOutside (k + 1) (length bytes + 5) stems.0 image) place stems.2))

      module _ (written : told → Overwrites (gate + 1) (written_record bytes) (content disk) (content mid))
          (durable : Only (content mid) (may_leave mid)) (reads : told → may_leave disk (content disk)) where
        written_there : told → Overwrites (book.start + book.end + 1) (written_record bytes) (content disk) (content mid)
        written_there is_told = subst (λ (k : ℕ). Overwrites (k + 1) (written_record bytes) (content disk) (content mid)) place (written is_told)

        -- the gate was opened, or it is being opened
        pub either_since : ((image : List ℕ) → may_leave mid image → told) → (new : D) → EachSince moment left_since mid new (StemsFrom (may_leave mid) gate 1) → Either new
        either_since tells new opened =
            and_then moment left_since disk mid new Listed (StemsFrom (may_leave mid) gate 1) Listed staged_since opened (λ image has. has)
            (λ image stems. let is_told = tells stems.0 stems.1 in
            is_either (content disk) (reads is_told) (content mid) (written_there is_told) image
            (subst (λ (l : List ℕ). SameOutside (book.start + book.end) 1 l image) (durable stems.0 stems.1) (subst (λ (k : ℕ). SameOutside k 1 stems.0 image) place stems.2)))

        module _ (new : D) (is_told : told) (same : SameOutside gate 1 (content mid) (content new)) (opened : Overwrites gate (1 ∷ []) (content mid) (content new)) where
          all : (records_of book (content new) ≡ records_of book (content disk) ++ bytes ∷ [])
              × (end_from 0 (part book.start book.size (content new)) ≡ book.end + (length bytes + 5))
              × (starts_open (drop (book.end + (length bytes + 5)) (part book.start book.size (content new))) ≡ false)
          all =
              is_appended (content disk) (reads is_told) (content mid) (written_there is_told) (content new)
              (subst (λ (k : ℕ). SameOutside k 1 (content mid) (content new)) place same)
              (subst (λ (k : ℕ). Overwrites k (1 ∷ []) (content mid) (content new)) place opened)

          pub now_listed : records_of book (content new) ≡ records_of book (content disk) ++ bytes ∷ []
          now_listed = all.0

          -- the book that goes on behind the record
          pub now_open : (later : OpenBook) → later.start ≡ book.start → later.size ≡ book.size → later.end ≡ book.end + (length bytes + 5) → IsOpenOn later (content new)
          now_open later start same_size end = record {
            end = (λ i. end_from 0 (part (start i) (same_size i) (content new))) ∙ all.1 ∙ sym end;
            closed = (λ i. starts_open (drop (end i) (part (start i) (same_size i) (content new)))) ∙ all.2;
          }
