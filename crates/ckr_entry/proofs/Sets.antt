-- The marks and what was passed on are read and written both ways.
use Rattle.std.proofs.Common.{◌≡◌, ◌<◌, ◌^◌, ℕ, zero, suc, List, [], ◌∷◌, ◌++◌, length, Option, Some, None, Ok, refl, sym, ap, subst, ◌∙◌, append_assoc}
use Rattle.std.specs.Int.{w16, to_be_bytes}
use Rattle.ckr_base.specs.Grammar.{is_ds_name}
use Rattle.ckr_library.specs.NameMaps.{Name}
use Rattle.ckr_fields.specs.Bytes.{AreBytes, Takes, BothWays}
use Rattle.ckr_fields.specs.Fields.{byte, two_bytes, four_bytes, number_at, judged, ◌&◌, ds_name, flag, spell_each}
use Rattle.ckr_fields.specs.Readers.{◌>>=◌}
use Rattle.ckr_fields.proofs.Steps.{bind_ok, ok_is, takes_then}
use Rattle.ckr_fields.proofs.Laws.{byte_both, two_bytes_both, four_bytes_both, judged_both, both_both, short_text_both, flag_both, items_both, seen_both}
use Rattle.ckr_entry.specs.declared.point.Mark.{Mark}
use Rattle.ckr_entry.specs.Numbers.{given}
use Rattle.ckr_entry.specs.Sets.{stamp_parts, stamp_at, stamp, present_parts, parts_of_present, present_of_parts, present_at, present, is_behind, mark_parts, mark_at, mark, rising_at, rising_fits, marks_at, marks, passed_parts, passed_one_at, passed_one, passed_at, passed}
use Rattle.ckr_entry.proofs.Forms.{given_both}

name_both : BothWays ds_name
name_both = short_text_both 44 is_ds_name

stamp_both : BothWays stamp
unfolding stamp_at
stamp_both =
    seen_both (λ x. record { run = x.0; step = x.1.0; rewrites = x.1.1 }) stamp_parts
    (both_both four_bytes (byte & four_bytes) four_bytes_both (both_both byte four_bytes byte_both four_bytes_both)) (λ s. (s.run, (s.step, s.rewrites))) (λ s. refl) (λ x. refl)

present_both : BothWays present
unfolding present_at
present_both =
    seen_both present_of_parts present_parts
    (both_both byte (two_bytes & four_bytes & four_bytes & flag & stamp) byte_both
    (both_both two_bytes (four_bytes & four_bytes & flag & stamp) two_bytes_both
    (both_both four_bytes (four_bytes & flag & stamp) four_bytes_both
    (both_both four_bytes (flag & stamp) four_bytes_both (both_both flag stamp flag_both stamp_both)))))
    parts_of_present (λ p. refl) (λ x. refl)

mark_both : (before : Option Name) → BothWays (mark before)
unfolding mark_at
mark_both before =
    seen_both (λ x. record { name = x.0; present = x.1 }) (mark_parts before)
    (both_both (judged (is_behind before) ds_name) (given present) (judged_both (is_behind before) ds_name name_both) (given_both present present_both))
    (λ m. (m.name, m.present)) (λ m. refl) (λ x. refl)

-- ---- marks in ascending order

rising_again : (xs : List Mark) (before : Option Name) (rest : List ℕ) → rising_fits before xs → rising_at before (length xs) (spell_each (mark None).spell xs ++ rest) ≡ Ok (xs, rest)
unfolding rising_at
rising_again [] before rest h = refl
rising_again (x ∷ xs) before rest h =
    ap (rising_at before (suc (length xs))) (append_assoc ((mark before).spell x) (spell_each (mark None).spell xs) rest)
    ∙ rw ((mark_both before).again x (spell_each (mark None).spell xs ++ rest) h.0, rising_again xs (Some x.name) rest h.1) refl

rising_takes : (n : ℕ) (before : Option Name) (bytes : List ℕ) (xs : List Mark) (rest : List ℕ) → AreBytes bytes → rising_at before n bytes ≡ Ok (xs, rest)
    → Takes bytes (spell_each (mark None).spell xs) rest × (length xs ≡ n) × rising_fits before xs
unfolding rising_at
rising_takes zero before bytes xs rest are e =
    subst (λ (p : List Mark × List ℕ). Takes bytes (spell_each (mark None).spell p.0) p.1 × (length p.0 ≡ 0) × rising_fits before p.0) (ok_is ([], bytes) (xs, rest) e) (record { parts = refl; rest_fits = are }, refl, tt)
rising_takes (suc n) before bytes xs rest are e =
    let a = bind_ok (mark_at before bytes) (λ first. rising_at (Some first.0.name) n first.1 >>= λ others. Ok (first.0 ∷ others.0, others.1)) (xs, rest) e in
    let b = bind_ok (rising_at (Some a.0.0.name) n a.0.1) (λ others. Ok (a.0.0 ∷ others.0, others.1)) (xs, rest) a.2 in
    let t = (mark_both before).takes bytes a.0.0 a.0.1 are a.1 in
    let u = rising_takes n (Some a.0.0.name) a.0.1 b.0.0 b.0.1 t.0.rest_fits b.1 in
    subst (λ (p : List Mark × List ℕ). Takes bytes (spell_each (mark None).spell p.0) p.1 × (length p.0 ≡ suc n) × rising_fits before p.0) (ok_is (a.0.0 ∷ b.0.0, b.0.1) (xs, rest) b.2)
    (takes_then bytes ((mark None).spell a.0.0) a.0.1 (spell_each (mark None).spell b.0.0) b.0.1 t.0 u.0, ap suc u.1, (t.1, u.2))

marks_again : (xs : List Mark) (rest : List ℕ) → marks.fits xs → marks_at (marks.spell xs ++ rest) ≡ Ok (xs, rest)
unfolding marks_at
marks_again xs rest h =
    ap marks_at (append_assoc (to_be_bytes w16 (length xs)) (spell_each (mark None).spell xs) rest)
    ∙ rw (two_bytes_both.again (length xs) (spell_each (mark None).spell xs ++ rest) h.0) (rising_again xs None rest h.1)

marks_takes : (bytes : List ℕ) (xs : List Mark) (rest : List ℕ) → AreBytes bytes → marks_at bytes ≡ Ok (xs, rest) → Takes bytes (marks.spell xs) rest × marks.fits xs
unfolding marks_at
marks_takes bytes xs rest are e =
    let a = bind_ok (number_at w16 bytes) (λ n. rising_at None n.0 n.1) (xs, rest) e in
    let t = two_bytes_both.takes bytes a.0.0 a.0.1 are a.1 in
    let u = rising_takes a.0.0 None a.0.1 xs rest t.0.rest_fits a.2 in
    let both = takes_then bytes (to_be_bytes w16 a.0.0) a.0.1 (spell_each (mark None).spell xs) rest t.0 u.0 in
    subst (λ (k : ℕ). Takes bytes (to_be_bytes w16 k ++ spell_each (mark None).spell xs) rest × ((k < 2 ^ 16) × rising_fits None xs)) (sym u.1) (both, (t.1, u.2))

pub marks_both : BothWays marks
marks_both = record { again = marks_again; takes = marks_takes }

-- ---- what was passed on

passed_one_both : BothWays passed_one
unfolding passed_one_at
passed_one_both = seen_both (λ x. record { name = x.0; made = x.1 }) passed_parts (both_both ds_name flag name_both flag_both) (λ p. (p.name, p.made)) (λ p. refl) (λ x. refl)

pub passed_both : BothWays passed
unfolding passed_at
passed_both = items_both passed_one passed_one_both two_bytes two_bytes_both
