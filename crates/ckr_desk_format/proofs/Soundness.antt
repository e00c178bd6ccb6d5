-- What is said stays sound, and a sound layout is one that a header may have.
use Rattle.std.proofs.Common.{◌≡◌, ◌≤◌, ◌<◌, ℕ, ◌+◌, not, is_none, IsTrue, nat_lt, List, [], length, Option, Some, None, unwrap_or, refl, ap, sym, subst, ◌∙◌, arith}
use Rattle.std.proofs.lemmas.Bool.{and_from, and_parts, false≢true}
use Rattle.std.proofs.lemmas.Bool.Decides.{nat_tests}
use Rattle.std.proofs.lemmas.List.{length_push}
use Rattle.arrayvec.specs.ArrayVec.{ArrayVec}
use Rattle.ckr_base.specs.Grammar.{is_serial}
use Rattle.ckr_volumes.specs.declared.layout.Volume.{Volume}
use Rattle.ckr_volumes.specs.Header.{is_within, has_serial, volumes_fit, IsHeader}
use Rattle.ckr_volumes.specs.Layouts.{front_of, volumes_end}
use Rattle.ckr_desk_format.specs.declared.disk_layout.Share.{Share}
use Rattle.ckr_desk_format.specs.declared.disk_layout.Said.{Said}
use Rattle.ckr_desk_format.specs.declared.cards.InstallationCard.TheVariants as Cards
use Rattle.ckr_desk_format.specs.Installation.{may_follow, with_card, one_after_another, layout_of, first_over, unsaid_bytes, default_book, book_count, bytes_asked, IsSoundLayout}
use Rattle.ckr_desk_format.proofs.Volumes.{has_serial-placed, placed-push, end-placed, end-from, end-push, length-placed, asked-push, volumes_fit-push, none_over_some}

-- a volume more
pub volume_sound : (said : Said) (line : ℕ) (serial : List ℕ) (bytes : ℕ) → IsSoundLayout said → IsTrue (is_serial serial) → IsTrue (is_within 1024 268435456 bytes)
    → IsTrue (may_follow said (Cards.Volume serial bytes)) → IsSoundLayout (with_card said line (Cards.Volume serial bytes))
volume_sound said line serial bytes sound good within may =
    let room = and_parts (nat_lt (length said.volumes.items) 32) (not (has_serial said.volumes.items serial)) may in
    let volume : Volume = record { serial = serial; start = 0; bytes = bytes } in
    let share : Share = record { line = line; bytes = bytes } in
    let below : length said.volumes.items < 32 = grind (arith, nat_tests, room.0) in
    record {
      initiators = sound.initiators;
      units = sound.units;
      book = sound.book;
      code_count = sound.code_count;
      codes = sound.codes;
      few = omega (arith, below, length_push said.volumes.items volume);
      volumes = λ start.
          subst (λ (l : List Volume). IsTrue (volumes_fit [] start l)) (sym (placed-push start said.volumes.items volume))
          (volumes_fit-push [] (one_after_another start said.volumes.items) start (record volume { start = volumes_end start said.volumes.items }) (sound.volumes start)
          (and_from _ _ good (ap not (has_serial-placed start said.volumes.items serial) ∙ room.1)) (sym (end-placed start start said.volumes.items)) within);
      shares = omega (arith, sound.shares, length_push said.volumes.items volume, length_push said.shares.items share);
      sum = omega (arith, sound.sum, asked-push said.shares.items share, end-push 0 said.volumes.items volume);
    }

-- so it is where the lists are known by their items
pub volume_put : (said : Said) (line : ℕ) (serial : List ℕ) (bytes : ℕ) (volumes : ArrayVec Volume) (shares : ArrayVec Share) → IsSoundLayout said → IsTrue (is_serial serial) → IsTrue (is_within 1024 268435456 bytes)
    → IsTrue (may_follow said (Cards.Volume serial bytes)) → volumes.items ≡ (with_card said line (Cards.Volume serial bytes)).volumes.items → shares.items ≡ (with_card said line (Cards.Volume serial bytes)).shares.items
    → IsSoundLayout (record said { volumes = volumes; shares = shares })
volume_put said line serial bytes volumes shares sound good within may e f =
    subst (λ (v : List Volume). IsSoundLayout (record said { volumes = record { items = v }; shares = shares })) (sym e)
    (subst (λ (s : List Share). IsSoundLayout (record said { volumes = (with_card said line (Cards.Volume serial bytes)).volumes; shares = record { items = s } })) (sym f)
    (volume_sound said line serial bytes sound good within may))

-- nothing is asked for by a card that isn't there
none_asked : (book : Option ℕ) → IsTrue (is_none book) → (unwrap_or book 0 ≡ 0) × (book_count book ≡ 0)
none_asked None none = (refl, refl)
none_asked (Some bytes) none = absurd (false≢true none)

-- a book more
pub book_put : (said : Said) (line bytes : ℕ) (shares : ArrayVec Share) → IsSoundLayout said → IsTrue (is_within 256 268435456 bytes)
    → IsTrue (is_none said.book) → shares.items ≡ (with_card said line (Cards.Book bytes)).shares.items → IsSoundLayout (record said { book = Some bytes; shares = shares })
book_put said line bytes shares sound within may e =
    let share : Share = record { line = line; bytes = bytes } in
    let none = none_asked said.book may in
    record {
      initiators = sound.initiators;
      units = sound.units;
      book = within;
      code_count = sound.code_count;
      codes = sound.codes;
      few = sound.few;
      volumes = sound.volumes;
      shares = ap (λ (l : List Share). length l) e ∙ omega (arith, sound.shares, none.1, length_push said.shares.items share);
      sum = ap bytes_asked e ∙ omega (arith, sound.sum, none.0, asked-push said.shares.items share);
    }

-- what is said, where it fits the disk
pub sound_header : (said : Said) (size : ℕ) → IsSoundLayout said → 1 ≤ length said.volumes.items → first_over size (unsaid_bytes said.book) said.shares.items ≡ None → IsHeader (layout_of said) size
sound_header said size sound some none =
    let start : ℕ = 512 + unwrap_or said.book default_book in
    let front : ℕ = front_of (layout_of said) in
    let same : start ≡ front = omega arith in
    let sum = none_over_some size (unsaid_bytes said.book) said.shares.items (omega (arith, some, sound.shares)) none in
    record {
      version = refl;
      initiators = sound.initiators;
      units = sound.units;
      volume_count = subst (λ (n : ℕ). IsTrue (is_within 1 32 n)) (sym (length-placed start said.volumes.items)) (within_32 (length said.volumes.items) some sound.few);
      code_count = sound.code_count;
      book = sound.book;
      image = refl;
      volumes = subst (λ (at : ℕ). IsTrue (volumes_fit [] at (one_after_another start said.volumes.items))) same (sound.volumes start);
      codes = sound.codes;
      fits = let need : volumes_end front (one_after_another start said.volumes.items) ≤ size = omega (arith, sum, same, sound.sum, end-placed front start said.volumes.items, end-from front said.volumes.items, unsaid said.book) in need;
    }
  where
    within_32 : (n : ℕ) → 1 ≤ n → n ≤ 32 → IsTrue (is_within 1 32 n)
    within_32 n low high = grind (arith, nat_tests)

    unsaid : (book : Option ℕ) → unsaid_bytes book + unwrap_or book 0 ≡ 512 + unwrap_or book default_book
    unsaid None = omega arith
    unsaid (Some bytes) = omega arith
