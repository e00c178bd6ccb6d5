-- Volumes behind one another, and the sizes of cards.
use Rattle.std.proofs.Common.{◌≡◌, ◌≤◌, ℕ, ◌+◌, ◌&&◌, ◌||◌, not, Bool, true, false, cond, IsTrue, nat_lt, eqb, List, [], ◌∷◌, ◌++◌, length, Some, None, refl, ap, sym, subst, append_assoc, append-nil, arith}
use Rattle.std.proofs.lemmas.Bool.{and_parts, and_from}
use Rattle.std.proofs.lemmas.Bool.Decides.{nat_tests}
use Rattle.ckr_base.specs.Grammar.{is_serial}
use Rattle.ckr_base.proofs.Options.{some-not-none}
use Rattle.ckr_library.specs.NameMaps.{same_name}
use Rattle.ckr_volumes.specs.declared.layout.Volume.{Volume}
use Rattle.ckr_volumes.specs.Header.{is_within, has_serial, volumes_fit}
use Rattle.ckr_volumes.specs.Layouts.{volumes_end}
use Rattle.ckr_desk_format.specs.declared.disk_layout.Share.{Share}
use Rattle.ckr_desk_format.specs.Installation.{one_after_another, first_over, bytes_asked}

-- where they stand says nothing of their serials
pub has_serial-placed : (start : ℕ) (volumes : List Volume) (serial : List ℕ) → has_serial (one_after_another start volumes) serial ≡ has_serial volumes serial
has_serial-placed start [] serial = refl
has_serial-placed start (volume ∷ rest) serial = ap (λ b. same_name volume.serial serial || b) (has_serial-placed (start + volume.bytes) rest serial)

pub placed-push : (start : ℕ) (volumes : List Volume) (volume : Volume)
    → one_after_another start (volumes ++ volume ∷ []) ≡ one_after_another start volumes ++ record volume { start = volumes_end start volumes } ∷ []
placed-push start [] volume = refl
placed-push start (first ∷ rest) volume = ap (λ l. record first { start = start } ∷ l) (placed-push (start + first.bytes) rest volume)

pub end-placed : (at start : ℕ) (volumes : List Volume) → volumes_end at (one_after_another start volumes) ≡ volumes_end at volumes
end-placed at start [] = refl
end-placed at start (volume ∷ rest) = end-placed (at + volume.bytes) (start + volume.bytes) rest

pub end-from : (at : ℕ) (volumes : List Volume) → volumes_end at volumes ≡ at + volumes_end 0 volumes
end-from at [] = omega arith
end-from at (volume ∷ rest) = omega (arith, end-from (at + volume.bytes) rest, end-from (0 + volume.bytes) rest)

pub end-push : (at : ℕ) (volumes : List Volume) (volume : Volume) → volumes_end at (volumes ++ volume ∷ []) ≡ volumes_end at volumes + volume.bytes
end-push at [] volume = refl
end-push at (first ∷ rest) volume = end-push (at + first.bytes) rest volume

pub length-placed : (start : ℕ) (volumes : List Volume) → length (one_after_another start volumes) ≡ length volumes
length-placed start [] = refl
length-placed start (volume ∷ rest) = omega (arith, length-placed (start + volume.bytes) rest)

same_true : (a b : ℕ) → a ≡ b → IsTrue (eqb a b)
same_true a b e = grind (arith, nat_tests)

-- a volume behind others that fit
pub volumes_fit-push : (made volumes : List Volume) (start : ℕ) (volume : Volume) → IsTrue (volumes_fit made start volumes)
    → IsTrue (is_serial volume.serial && not (has_serial (made ++ volumes) volume.serial)) → volume.start ≡ volumes_end start volumes → IsTrue (is_within 1024 268435456 volume.bytes)
    → IsTrue (volumes_fit made start (volumes ++ volume ∷ []))
volumes_fit-push made [] start volume fit new at within =
    and_from _ _ (subst (λ (l : List Volume). IsTrue (is_serial volume.serial && not (has_serial l volume.serial))) (append-nil made) new)
    (and_from _ _ (and_from _ _ (same_true volume.start start at) within) refl)
volumes_fit-push made (first ∷ rest) start volume fit new at within =
    let both = and_parts (is_serial first.serial && not (has_serial made first.serial)) ((eqb first.start start && is_within 1024 268435456 first.bytes) && volumes_fit (made ++ first ∷ []) (start + first.bytes) rest) fit in
    let more = and_parts (eqb first.start start && is_within 1024 268435456 first.bytes) (volumes_fit (made ++ first ∷ []) (start + first.bytes) rest) both.1 in
    and_from _ _ both.0
    (and_from _ _ more.0
    (volumes_fit-push (made ++ first ∷ []) rest (start + first.bytes) volume more.1
    (subst (λ (l : List Volume). IsTrue (is_serial volume.serial && not (has_serial l volume.serial))) (sym (append_assoc made (first ∷ []) rest)) new) at within))

-- one share more, by whether it fits
one_more : (size taken line bytes : ℕ) (rest : List Share) → ((taken + bytes ≤ size) → first_over size (taken + bytes) rest ≡ None → taken + bytes + bytes_asked rest ≤ size)
    → (b : Bool) → nat_lt size (taken + bytes) ≡ b → cond b (Some line) (first_over size (taken + bytes) rest) ≡ None → taken + (bytes + bytes_asked rest) ≤ size
one_more size taken line bytes rest next true e is = absurd (some-not-none line is)
one_more size taken line bytes rest next false e is =
    let within : taken + bytes ≤ size = grind (arith, nat_tests, e) in
    omega (arith, next within is)

pub asked-push : (shares : List Share) (share : Share) → bytes_asked (shares ++ share ∷ []) ≡ bytes_asked shares + share.bytes
asked-push [] share = omega arith
asked-push (first ∷ rest) share = omega (arith, asked-push rest share)

-- where no share is too much, all of them fit
none_over : (size taken : ℕ) (shares : List Share) → taken ≤ size → first_over size taken shares ≡ None → taken + bytes_asked shares ≤ size
none_over size taken [] fits none = omega arith
none_over size taken (share ∷ rest) fits none =
    one_more size taken share.line share.bytes rest (λ within is. none_over size (taken + share.bytes) rest within is) (nat_lt size (taken + share.bytes)) refl none

-- where there is a share, the bytes taken before need no test
pub none_over_some : (size taken : ℕ) (shares : List Share) → 1 ≤ length shares → first_over size taken shares ≡ None → taken + bytes_asked shares ≤ size
none_over_some size taken [] some none = absurd (omega (arith, some))
none_over_some size taken (share ∷ rest) some none =
    one_more size taken share.line share.bytes rest (λ within is. none_over size (taken + share.bytes) rest within is) (nat_lt size (taken + share.bytes)) refl none
