-- What a formatted disk reads, and what one reads that is being formatted.
use Rattle.std.proofs.Common.{◌≡◌, ◌≤◌, ◌<◌, ◌+◌, ◌-◌, ◌==◌, ◌⊎◌, ℕ, false, not, nat_le, List, [], ◌∷◌, ◌++◌, length, take, drop, inl, inr, ⊎_elim, min, Ok, refl, sym, ◌∙◌, ap, subst, arith, append_assoc, length-drop}
use Rattle.std.proofs.lemmas.Bool.{cases_Bool, cases_lt, cond-true, and_left, and_right, and_parts, leb-true, eqb-true}
use Rattle.std.proofs.lemmas.List.{take_at, drop_at, take_all}
use Rattle.ckr_outside.specs.Disk.{Overwrites, SameOutside, part}
use Rattle.ckr_outside.specs.Ranges.{take_past, overwrites_twice}
use Rattle.ckr_book.specs.Next.{NoneAt}
use Rattle.ckr_volumes.specs.Header.{header_of, header_bytes, is_formatted, IsHeader}
use Rattle.ckr_volumes.specs.Layouts.{front_of, volumes_end, disk_needed}
use Rattle.ckr_volumes.specs.declared.layout.Volume.{Volume}
use Rattle.ckr_volumes.specs.declared.layout.Layout.{Layout}
use Rattle.ckr_journal.specs.FormatStops.{IsUnformatted, IsFresh}

-- what fits one disk fits another that is large enough
on_disk : (layout : Layout) (size other : ℕ) → IsHeader layout size → disk_needed layout ≤ other → IsHeader layout other
on_disk layout size other is fits = record {
  version = is.version;
  initiators = is.initiators;
  units = is.units;
  volume_count = is.volume_count;
  code_count = is.code_count;
  book = is.book;
  image = is.image;
  volumes = is.volumes;
  codes = is.codes;
  fits = fits;
}

pub ends_behind : (at : ℕ) (volumes : List Volume) → at ≤ volumes_end at volumes
ends_behind at [] = omega arith
ends_behind at (volume ∷ rest) = omega (arith, ends_behind (at + volume.bytes) rest)

-- the header and the shortest book
pub needs_least : (layout : Layout) (size : ℕ) → IsHeader layout size → (256 ≤ layout.book) × (768 ≤ disk_needed layout)
needs_least layout size is =
    let book : 256 ≤ layout.book = leb-true 256 layout.book (and_parts (nat_le 256 layout.book) (nat_le layout.book 268435456) is.book).0 in
    (book, omega (arith, book, ends_behind (front_of layout) layout.volumes.items))

-- the header is read from no more bytes than the disk has
pub front_read : (n size : ℕ) (content : List ℕ) → length content ≡ size → take (min n size) content ≡ take n content
front_read n size content long = ⊎_elim
    (λ (more : n < size). let same : min n size ≡ n = omega arith in ap (λ (k : ℕ). take k content) same)
    (λ (all : size ≤ n). take_all (min n size) content (omega (arith, long)) ∙ sym (take_all n content (omega (arith, long))))
    (cases_lt n size)

-- two writes, one where the other ends
pub written_next : (at next : ℕ) (xs ys old mid new : List ℕ) → next ≡ at + length xs → next + length ys ≤ length old → Overwrites at xs old mid → Overwrites next ys mid new → Overwrites at (xs ++ ys) old new
written_next at next xs ys old mid new is fits first second =
    overwrites_twice at xs ys old mid new (omega arith) first (subst (λ (k : ℕ). Overwrites k ys mid new) is second)

-- where the gate isn't open, the disk isn't formatted
pub unformatted : (gate size : ℕ) (rest : List ℕ) → (gate == 1) ≡ false → IsUnformatted size (gate ∷ rest)
unfolding header_of is_formatted
unformatted gate size rest closed =
    let front = take 512 (gate ∷ rest) in
    cond-true (not (is_formatted front)) _ _ (ap not (and_right (nat_le 512 (length front)) _ (and_left (gate == 1) _ closed)))

-- what stood behind a closed gate was changed alone
pub closed_gate : (old mid image : List ℕ) (size : ℕ) → Overwrites 0 (0 ∷ []) old mid → SameOutside 1 512 mid image → IsUnformatted size image
closed_gate old mid [] size closed same = absurd (omega (arith, same.as_long, ap length closed))
closed_gate old mid (gate ∷ rest) size closed same = unformatted gate size rest (ap (λ (n : ℕ). n == 1) (first gate (same.before ∙ ap (λ (l : List ℕ). take 1 l) closed)))
  where
    first : (gate : ℕ) → gate ∷ [] ≡ 0 ∷ [] → gate ≡ 0
    first gate e = cc

-- what stands behind the header's gate
abbrev pub fields_of : Layout → List ℕ
fields_of layout = drop 1 (header_bytes layout)

-- on a disk of this size the bytes of its header say this layout, and its book has a gate
pub record HeaderSays (layout : Layout) (size : ℕ) : Type 0 where
  pub long : length (header_bytes layout) ≡ 512
  pub said : header_of (header_bytes layout) size ≡ Ok layout
  pub least : 1 ≤ layout.book

pub header_says : (layout : Layout) (size : ℕ) (bytes : List ℕ) → bytes ≡ header_bytes layout → length bytes ≡ 512
    → ((other : ℕ) → IsHeader layout other → header_of bytes other ≡ Ok layout) → IsHeader layout (disk_needed layout) → disk_needed layout ≤ size → HeaderSays layout size
header_says layout size bytes is long reads header fits = record {
  long = ap length (sym is) ∙ long;
  said = ap (λ (l : List ℕ). header_of l size) (sym is) ∙ reads size (on_disk layout (disk_needed layout) size header fits);
  least = omega (arith, (needs_least layout (disk_needed layout) header).0);
}

module _ (layout : Layout) (size : ℕ) (says : HeaderSays layout size) where
  long_fields : length (fields_of layout) ≡ 511
  long_fields = omega (arith, says.long, length-drop 1 (header_bytes layout))

  -- behind an open gate they are a fresh disk
  fresh : (behind image : List ℕ) → image ≡ (1 ∷ fields_of layout) ++ 0 ∷ behind → IsFresh size layout image
  fresh behind image is = record {
    header = ap (λ (l : List ℕ). header_of l size) (ap (λ (l : List ℕ). take 512 l) is ∙ take_at (1 ∷ fields_of layout) (0 ∷ behind) 512 (omega (arith, long_fields))) ∙ says.said;
    empty =
        (let here : part 512 layout.book image ≡ 0 ∷ take (layout.book - 1) behind =
        ap (λ (l : List ℕ). part 512 layout.book l) is
        ∙ ap (λ (l : List ℕ). take layout.book l) (drop_at (1 ∷ fields_of layout) (0 ∷ behind) 512 (omega (arith, long_fields)))
        ∙ take_past (0 ∷ []) behind layout.book (layout.book - 1) (omega (arith, says.least)) in
        subst (λ (l : List ℕ). NoneAt l false) (sym here) (record { records = refl; end = refl; gate = refl }));
  }

  module _ (old mid staged : List ℕ) (closed : Overwrites 0 (0 ∷ []) old mid) (written : Overwrites 1 (fields_of layout ++ 0 ∷ []) mid staged) where
    -- the bytes behind the book's first gate
    abbrev behind : List ℕ
    behind = drop (1 + length (fields_of layout ++ 0 ∷ [])) mid

    all : staged ≡ 0 ∷ (fields_of layout ++ 0 ∷ behind)
    all =
        written
        ∙ ap (λ (l : List ℕ). take 1 l ++ (fields_of layout ++ 0 ∷ []) ++ behind) closed
        ∙ ap (λ (l : List ℕ). 0 ∷ l) (append_assoc (fields_of layout) (0 ∷ []) behind)

    -- the gate is opened
    pub opened : (new : List ℕ) → Overwrites 0 (1 ∷ []) staged new → IsFresh size layout new
    opened new open_now = fresh behind new (open_now ∙ ap (λ (l : List ℕ). 1 ∷ drop 1 l) all)

    by_gate : (gate : ℕ) (rest : List ℕ) → rest ≡ fields_of layout ++ 0 ∷ behind → IsUnformatted size (gate ∷ rest) ⊎ IsFresh size layout (gate ∷ rest)
    by_gate gate rest is = elim (cases_Bool (gate == 1)) [
      | inl e ↦ inr (fresh behind (gate ∷ rest) (λ i. eqb-true gate 1 e i ∷ is i))
      | inr closed_now ↦ inl (unformatted gate size rest closed_now)
    ]

    -- the gate alone was changed
    pub gate_changed : (image : List ℕ) → SameOutside 0 1 staged image → IsUnformatted size image ⊎ IsFresh size layout image
    gate_changed [] same = absurd (omega (arith, same.as_long, ap length all))
    gate_changed (gate ∷ rest) same = by_gate gate rest (same.behind ∙ ap (λ (l : List ℕ). drop 1 l) all)
