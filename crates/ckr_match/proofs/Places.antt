-- UPDATE's masters and their places.
use Rattle.std.proofs.Common.{◌≡◌, ℕ, suc, ◌+◌, ◌-◌, Bool, true, false, not, cond, if◌then◌else◌, ◌&&◌, eqb, List, [], ◌∷◌, ◌++◌, map, filter, length, drop, Some, None, refl, sym, ap, ◌∙◌, arith, append-nil}
use Rattle.std.specs.Cmp.Lexicographic.{nat_list_eq_equiv}
use Rattle.std.specs.List.{last_or, list_all, position_from}
use Rattle.std.specs.Option.{option_map}
use Rattle.std.proofs.lemmas.List.{map-append}
use Rattle.std.proofs.lemmas.List.Elements.{filter-append}
use Rattle.std.proofs.lemmas.Bool.{and_from, and_parts, not-true}
use Rattle.ckr_jcl.specs.declared.deck.Kind.TheVariants.{Update}
use Rattle.ckr_jcl.specs.declared.deck.Parm.{Parm}
use Rattle.ckr_match.specs.InputOrder.{Taken, Keys, key_of, stands_below, may_follow, of_first, of_second}
use Rattle.ckr_match.specs.Images.{same_bytes, same_key, code_of, key_in, image_in, keys_of}
use Rattle.ckr_match.specs.Work.{write_at, update_write}
use Rattle.ckr_match.specs.Units.{last_master}
use Rattle.ckr_match.specs.Steps.{place_by}
use Rattle.ckr_match.proofs.Keys.{below-not_below, below_is_other, before_is_low}

abbrev update_keys : Parm → Keys
update_keys parm = keys_of Update parm

-- each record may stand before those behind it
abbrev pub AreOrdered : Keys → List Taken → Type 0
AreOrdered keys [] = Unit {0}
AreOrdered keys (x ∷ xs) = (list_all (λ y. may_follow keys x y) xs ≡ true) × AreOrdered keys xs

list_all-push : (test : Taken → Bool) (xs : List Taken) (y : Taken) → list_all test xs ≡ true → test y ≡ true → list_all test (xs ++ y ∷ []) ≡ true
list_all-push test [] y e f = and_from (test y) true f refl
list_all-push test (x ∷ xs) y e f =
    let parts = and_parts (test x) (list_all test xs) e in
    and_from (test x) (list_all test (xs ++ y ∷ [])) parts.0 (list_all-push test xs y parts.1 f)

pub ordered-push : (keys : Keys) (xs : List Taken) (y : Taken) → AreOrdered keys xs → list_all (λ x. may_follow keys x y) xs ≡ true → AreOrdered keys (xs ++ y ∷ [])
ordered-push keys [] y o e = (refl, tt)
ordered-push keys (x ∷ xs) y o e =
    let parts = and_parts (may_follow keys x y) (list_all (λ z. may_follow keys z y) xs) e in
    (list_all-push (λ z. may_follow keys x z) xs y o.0 parts.0, ordered-push keys xs y o.1 parts.1)

list_all-filter : (test keep : Taken → Bool) (xs : List Taken) → list_all test xs ≡ true → list_all test (filter keep xs) ≡ true
list_all-filter test keep [] e = refl
list_all-filter test keep (x ∷ xs) e =
    let parts = and_parts (test x) (list_all test xs) e in
    by (keep x) parts.0 (list_all-filter test keep xs parts.1)
  where
    by : (b : Bool) → test x ≡ true → list_all test (filter keep xs) ≡ true → list_all test (cond b (x ∷ filter keep xs) (filter keep xs)) ≡ true
    by true f g = and_from (test x) (list_all test (filter keep xs)) f g
    by false f g = g

filter_passes : (keep : Taken → Bool) (xs : List Taken) → list_all keep (filter keep xs) ≡ true
filter_passes keep [] = refl
filter_passes keep (x ∷ xs) = by (keep x) refl (filter_passes keep xs)
  where
    by : (b : Bool) → keep x ≡ b → list_all keep (filter keep xs) ≡ true → list_all keep (cond b (x ∷ filter keep xs) (filter keep xs)) ≡ true
    by true f g = and_from (keep x) (list_all keep (filter keep xs)) f g
    by false f g = g

ordered-filter : (keys : Keys) (keep : Taken → Bool) (xs : List Taken) → AreOrdered keys xs → AreOrdered keys (filter keep xs)
ordered-filter keys keep [] o = tt
ordered-filter keys keep (x ∷ xs) o = by (keep x) (ordered-filter keys keep xs o.1)
  where
    by : (b : Bool) → AreOrdered keys (filter keep xs) → AreOrdered keys (cond b (x ∷ filter keep xs) (filter keep xs))
    by true behind = (list_all-filter (λ y. may_follow keys x y) keep xs o.0, behind)
    by false behind = behind

-- ---- the place of a key among the masters

position-push : (test : Taken → Bool) (place : ℕ) (xs : List Taken) (y : Taken) → test y ≡ false → position_from test place (xs ++ y ∷ []) ≡ position_from test place xs
position-push test place [] y e = ap (λ b. cond b (Some place) None) e
position-push test place (x ∷ xs) y e = ap (λ behind. cond (test x) (Some place) behind) (position-push test (place + 1) xs y e)

-- a master before another one has not the key of a transaction behind both
other_key : (parm : Parm) (x w y : Taken) → not w.second ≡ true → may_follow (update_keys parm) x w ≡ true → may_follow (update_keys parm) w y ≡ true → same_key (update_keys parm) y x ≡ false
other_key parm x w y first e f =
    let keys : Keys = update_keys parm in
    let under : stands_below (update_keys parm) x w ≡ true = ap (λ b. cond (b && true) (stands_below (update_keys parm) x w) (not (stands_below (update_keys parm) w x))) (sym first) ∙ e in
    let low : stands_below (update_keys parm) x y ≡ true = below-not_below (key_of (update_keys parm) x) (key_of (update_keys parm) w) (key_of (update_keys parm) y) under (before_is_low (update_keys parm) w y f) in
    nat_list_eq_equiv.symm (key_of (update_keys parm) y) (key_of (update_keys parm) x) ∙ below_is_other (key_of (update_keys parm) x) (key_of (update_keys parm) y) low

last_place : (parm : Parm) (y z x : Taken) (xs : List Taken) (place : ℕ) → AreOrdered (update_keys parm) (x ∷ xs) → list_all (λ m. not m.second) (x ∷ xs) ≡ true → list_all (λ m. may_follow (update_keys parm) m y) (x ∷ xs) ≡ true → last_or (Some x) xs ≡ Some z → position_from (same_key (update_keys parm) y) place (x ∷ xs) ≡ cond (same_key (update_keys parm) y z) (Some (place + length xs)) None
last_place parm y z x [] place o firsts lows e =
    let same : x ≡ z = cc in
    ap (λ m. cond (same_key (update_keys parm) y m) (Some place) None) same
    ∙ ap (λ n. cond (same_key (update_keys parm) y z) (Some n) None) (let f : place ≡ place + 0 = omega arith in f)
last_place parm y z x (w ∷ ws) place o firsts lows e =
    let here = and_parts (not x.second) (list_all (λ m. not m.second) (w ∷ ws)) firsts in
    let next = and_parts (not w.second) (list_all (λ m. not m.second) ws) here.1 in
    let low = and_parts (may_follow (update_keys parm) x y) (list_all (λ m. may_follow (update_keys parm) m y) (w ∷ ws)) lows in
    let low_next = and_parts (may_follow (update_keys parm) w y) (list_all (λ m. may_follow (update_keys parm) m y) ws) low.1 in
    let follows = and_parts (may_follow (update_keys parm) x w) (list_all (λ m. may_follow (update_keys parm) x m) ws) o.0 in
    ap (λ b. cond b (Some place) (position_from (same_key (update_keys parm) y) (place + 1) (w ∷ ws))) (other_key parm x w y next.0 follows.0 low_next.0)
    ∙ last_place parm y z w ws (place + 1) o.1 here.1 low.1 e
    ∙ ap (λ n. cond (same_key (update_keys parm) y z) (Some n) None) (let f : place + 1 + length ws ≡ place + suc (length ws) = omega arith in f)

list_all-last_passes : (test : Taken → Bool) (xs : List Taken) (x z : Taken) → list_all test (x ∷ xs) ≡ true → last_or (Some x) xs ≡ Some z → test z ≡ true
list_all-last_passes test [] x z e f = let same : x ≡ z = cc in ap test (sym same) ∙ (and_parts (test x) true e).0
list_all-last_passes test (w ∷ ws) x z e f = list_all-last_passes test ws w z (and_parts (test x) (list_all test (w ∷ ws)) e).1 f

has_last : (xs : List Taken) (x : Taken) → (z : Taken) × (last_or (Some x) xs ≡ Some z)
has_last [] x = (x, refl)
has_last (w ∷ ws) x = has_last ws w

-- the place by the last master is the place among all masters
place_is : (parm : Parm) (bytes : List ℕ) (mark : Bool) (masters : List Taken) → AreOrdered (update_keys parm) masters → list_all (λ m. not m.second) masters ≡ true → list_all (λ m. may_follow (update_keys parm) m (record { second = true; bytes = bytes; faulty = mark })) masters ≡ true → place_by parm bytes (option_map (λ one. (length masters - 1, one.bytes)) (last_or None masters)) ≡ position_from (same_key (update_keys parm) (record { second = true; bytes = bytes; faulty = mark })) 0 masters
place_is parm bytes mark [] o firsts lows = refl
place_is parm bytes mark (x ∷ xs) o firsts lows =
    let y : Taken = record { second = true; bytes = bytes; faulty = mark } in
    let end = has_last xs x in
    let first : end.0.second ≡ false = not-true end.0.second (list_all-last_passes (λ m. not m.second) xs x end.0 firsts end.1) in
    let key : key_in parm end.0.bytes ≡ key_of (update_keys parm) end.0 = sym (ap (λ s. key_in parm (image_in Update s end.0.bytes)) first) in
    ap (λ last. place_by parm bytes (option_map (λ one. (suc (length xs) - 1, one.bytes)) last)) end.1
    ∙ ap (λ k. cond (same_bytes (key_in parm (drop 1 bytes)) k) (Some (suc (length xs) - 1)) None) key
    ∙ ap (λ n. cond (same_key (update_keys parm) y end.0) (Some n) None) (let f : suc (length xs) - 1 ≡ 0 + length xs = omega arith in f)
    ∙ sym (last_place parm y end.0 x xs 0 o firsts lows end.1)

-- ---- one record more

-- a master doesn't change what the transactions before it write
same_writes : (parm : Parm) (bytes : List ℕ) (mark : Bool) (masters transactions : List Taken) → list_all (λ x. may_follow (update_keys parm) x (record { second = false; bytes = bytes; faulty = mark })) transactions ≡ true → map (update_write (update_keys parm) (masters ++ record { second = false; bytes = bytes; faulty = mark } ∷ [])) transactions ≡ map (update_write (update_keys parm) masters) transactions
same_writes parm bytes mark masters [] e = refl
same_writes parm bytes mark masters (x ∷ xs) e =
    let y : Taken = record { second = false; bytes = bytes; faulty = mark } in
    let parts = and_parts (may_follow (update_keys parm) x y) (list_all (λ z. may_follow (update_keys parm) z y) xs) e in
    let other : same_key (update_keys parm) x y ≡ false = below_is_other (key_of (update_keys parm) x) (key_of (update_keys parm) y) parts.0 in
    ap (λ place. write_at (cond (eqb (code_of x.bytes) 67) place None) x.bytes ∷ map (update_write (update_keys parm) (masters ++ y ∷ [])) xs) (position-push (same_key (update_keys parm) x) 0 masters y other)
    ∙ ap (λ writes. update_write (update_keys parm) masters x ∷ writes) (same_writes parm bytes mark masters xs parts.1)

pub master_more : (parm : Parm) (taken : List Taken) (bytes : List ℕ) (mark : Bool) → list_all (λ x. may_follow (update_keys parm) x (record { second = false; bytes = bytes; faulty = mark })) taken ≡ true → map (update_write (update_keys parm) (of_first (taken ++ record { second = false; bytes = bytes; faulty = mark } ∷ []))) (of_second (taken ++ record { second = false; bytes = bytes; faulty = mark } ∷ [])) ≡ map (update_write (update_keys parm) (of_first taken)) (of_second taken) ++ []
master_more parm taken bytes mark e =
    let y : Taken = record { second = false; bytes = bytes; faulty = mark } in
    ap (λ masters. map (update_write (update_keys parm) masters) (of_second (taken ++ y ∷ []))) (filter-append (λ one. not one.second) taken (y ∷ []))
    ∙ ap (map (update_write (update_keys parm) (of_first taken ++ y ∷ []))) (filter-append (λ one. one.second) taken (y ∷ []) ∙ append-nil (of_second taken))
    ∙ same_writes parm bytes mark (of_first taken) (of_second taken) (list_all-filter (λ x. may_follow (update_keys parm) x y) (λ one. one.second) taken e)
    ∙ sym (append-nil _)

pub transaction_more : (parm : Parm) (taken : List Taken) (bytes : List ℕ) (mark : Bool) → AreOrdered (update_keys parm) taken → list_all (λ x. may_follow (update_keys parm) x (record { second = true; bytes = bytes; faulty = mark })) taken ≡ true → map (update_write (update_keys parm) (of_first (taken ++ record { second = true; bytes = bytes; faulty = mark } ∷ []))) (of_second (taken ++ record { second = true; bytes = bytes; faulty = mark } ∷ [])) ≡ map (update_write (update_keys parm) (of_first taken)) (of_second taken) ++ write_at (if eqb (code_of bytes) 67 then place_by parm bytes (last_master Update taken) else None) bytes ∷ []
transaction_more parm taken bytes mark o e =
    let y : Taken = record { second = true; bytes = bytes; faulty = mark } in
    ap (λ masters. map (update_write (update_keys parm) masters) (of_second (taken ++ y ∷ []))) (filter-append (λ one. not one.second) taken (y ∷ []) ∙ append-nil (of_first taken))
    ∙ ap (map (update_write (update_keys parm) (of_first taken))) (filter-append (λ one. one.second) taken (y ∷ []))
    ∙ map-append (update_write (update_keys parm) (of_first taken)) (of_second taken) (y ∷ [])
    ∙ ap (λ place. map (update_write (update_keys parm) (of_first taken)) (of_second taken) ++ write_at (cond (eqb (code_of bytes) 67) place None) bytes ∷ [])
    (sym (place_is parm bytes mark (of_first taken)
    (ordered-filter (update_keys parm) (λ one. not one.second) taken o)
    (filter_passes (λ one. not one.second) taken)
    (list_all-filter (λ x. may_follow (update_keys parm) x y) (λ one. not one.second) taken e)))
