-- What MASTER holds is of the key of the last record taken.
use Rattle.std.proofs.Common.{◌≡◌, ℕ, Bool, true, false, cond, ◌&&◌, eqb, List, [], ◌∷◌, drop, Option, Some, None, refl, sym, ap, ◌∙◌, subst}
use Rattle.std.specs.Cmp.Lexicographic.{nat_list_eq_equiv}
use Rattle.std.specs.List.{last_or, list_all}
use Rattle.std.specs.Option.{option_map_or}
use Rattle.ckr_jcl.specs.declared.deck.Kind.TheVariants.{Master}
use Rattle.ckr_jcl.specs.declared.deck.Parm.{Parm}
use Rattle.ckr_match.specs.InputOrder.{Taken, Keys, key_of, may_follow}
use Rattle.ckr_match.specs.Images.{same_bytes, same_key, code_of, key_in, image_in, keys_of}
use Rattle.ckr_match.specs.Master.{outcome, outcome_of, nothing_held, balance_of, groups_of}
use Rattle.ckr_match.specs.Steps.{carried, released}
use Rattle.ckr_match.proofs.Keys.{below_is_other}
use Rattle.ckr_match.proofs.Groups.{continues, carried_by, released_by, joined, held_by, balance-joined, by_push, last-joined, last_group-push, last_in_group, last_of_last}

abbrev master_keys : Parm → Keys
master_keys parm = keys_of Master parm

same_itself : (a : List ℕ) → same_bytes a a ≡ true
same_itself a = nat_list_eq_equiv.refl a

same_chain : (a b c : List ℕ) → same_bytes a b ≡ true → same_bytes b c ≡ true → same_bytes a c ≡ true
same_chain a b c p q = nat_list_eq_equiv.congr a b c p ∙ q

-- what the group holds has the key of its last record
abbrev HeldFits : Parm → Option (List Taken) → Type 0
HeldFits parm None = Unit {0}
HeldFits parm (Some group) = (held : List ℕ) (last : Taken) → (balance_of group).held ≡ Some held → last_or None group ≡ Some last → same_bytes (key_in parm held) (key_of (master_keys parm) last) ≡ true

-- what a record leaves held has the record's key
outcome_fits : (parm : Parm) (second : Bool) (bytes held : List ℕ) (before : Option (List ℕ)) → ((old : List ℕ) → before ≡ Some old → same_bytes (key_in parm old) (key_in parm (image_in Master second bytes)) ≡ true) → (outcome_of second bytes before).held ≡ Some held → same_bytes (key_in parm held) (key_in parm (image_in Master second bytes)) ≡ true
outcome_fits parm false bytes held before fits e =
    let same : bytes ≡ held = cc in subst (λ h. same_bytes (key_in parm h) (key_in parm bytes) ≡ true) same (same_itself (key_in parm bytes))
outcome_fits parm true bytes held None fits e = by (eqb (code_of bytes) 65) e
  where
    by : (b : Bool) → (cond b (outcome (Some (drop 1 bytes)) false) (outcome None true)).held ≡ Some held → same_bytes (key_in parm held) (key_in parm (drop 1 bytes)) ≡ true
    by true f = let same : drop 1 bytes ≡ held = cc in subst (λ h. same_bytes (key_in parm h) (key_in parm (drop 1 bytes)) ≡ true) same (same_itself (key_in parm (drop 1 bytes)))
    by false f = absurd (cc)
outcome_fits parm true bytes held (Some old) fits e = by (eqb (code_of bytes) 67) (eqb (code_of bytes) 68) e
  where
    by : (b c : Bool) → (cond b (outcome (Some (drop 1 bytes)) false) (cond c (outcome None false) (outcome (Some old) true))).held ≡ Some held → same_bytes (key_in parm held) (key_in parm (drop 1 bytes)) ≡ true
    by true c f = let same : drop 1 bytes ≡ held = cc in subst (λ h. same_bytes (key_in parm h) (key_in parm (drop 1 bytes)) ≡ true) same (same_itself (key_in parm (drop 1 bytes)))
    by false true f = absurd (cc)
    by false false f = let same : old ≡ held = cc in subst (λ h. same_bytes (key_in parm h) (key_in parm (drop 1 bytes)) ≡ true) same (fits old refl)

-- so does what is carried to it
carried_fits : (parm : Parm) (last : Option (List Taken)) (next : Taken) → HeldFits parm last → (old : List ℕ) → (carried_by (master_keys parm) last next).held ≡ Some old → same_bytes (key_in parm old) (key_of (master_keys parm) next) ≡ true
carried_fits parm None next fits old e = absurd (cc)
carried_fits parm (Some group) next fits old e = by (last_or None group) fits e
  where
    by : (z : Option Taken) → ((held : List ℕ) (last : Taken) → (balance_of group).held ≡ Some held → z ≡ Some last → same_bytes (key_in parm held) (key_of (master_keys parm) last) ≡ true) → (cond (option_map_or (λ last. same_key (master_keys parm) last next) z false) (balance_of group) nothing_held).held ≡ Some old → same_bytes (key_in parm old) (key_of (master_keys parm) next) ≡ true
    by None f g = absurd (cc)
    by (Some last) f g = at (same_key (master_keys parm) last next) refl g
      where
        at : (b : Bool) → same_key (master_keys parm) last next ≡ b → (cond b (balance_of group) nothing_held).held ≡ Some old → same_bytes (key_in parm old) (key_of (master_keys parm) next) ≡ true
        at true h k = same_chain (key_in parm old) (key_of (master_keys parm) last) (key_of (master_keys parm) next) (f old last k refl) h
        at false h k = absurd (cc)

joined_fits : (parm : Parm) (last : Option (List Taken)) (next : Taken) → HeldFits parm last → HeldFits parm (Some (joined (master_keys parm) last next))
joined_fits parm last next fits = λ held z e f.
    let here : next ≡ z = let g : Some next ≡ Some z = sym (last-joined (master_keys parm) last next) ∙ f in cc in
    let left : (outcome_of next.second next.bytes (carried_by (master_keys parm) last next).held).held ≡ Some held = sym (ap (λ b. b.held) (balance-joined (master_keys parm) last next)) ∙ e in
    subst (λ y. same_bytes (key_in parm held) (key_of (master_keys parm) y) ≡ true) here
    (outcome_fits parm next.second next.bytes held (carried_by (master_keys parm) last next).held (carried_fits parm last next fits) left)

held_fits : (parm : Parm) (taken : List Taken) → HeldFits parm (last_or None (groups_of (master_keys parm) taken))
held_fits parm taken =
    by_push (λ all. HeldFits parm (last_or None (groups_of (master_keys parm) all))) tt
    (λ front next holds. subst (HeldFits parm) (sym (last_group-push (master_keys parm) front next)) (joined_fits parm (last_or None (groups_of (master_keys parm) front)) next holds))
    taken

-- a master has another key than the records before it
list_all-last : (test : Taken → Bool) (xs : List Taken) (o : Option Taken) (last : Taken) → list_all test xs ≡ true → ((x : Taken) → o ≡ Some x → test x ≡ true) → last_or o xs ≡ Some last → test last ≡ true
list_all-last test [] o last all first e = first last e
list_all-last test (x ∷ xs) o last all first e = by (test x) refl all (list_all-last test xs (Some x) last)
  where
    by : (b : Bool) → test x ≡ b → (b && list_all test xs) ≡ true → (list_all test xs ≡ true → ((y : Taken) → Some x ≡ Some y → test y ≡ true) → last_or (Some x) xs ≡ Some last → test last ≡ true) → test last ≡ true
    by true f g behind = behind g (λ y h. let same : x ≡ y = cc in ap test (sym same) ∙ f) e
    by false f g behind = absurd (cc)

pub master_starts : (parm : Parm) (taken : List Taken) (bytes : List ℕ) (mark : Bool) → list_all (λ x. may_follow (master_keys parm) x (record { second = false; bytes = bytes; faulty = mark })) taken ≡ true → (last : Taken) → last_in_group (last_or None (groups_of (master_keys parm) taken)) ≡ Some last → same_key (master_keys parm) last (record { second = false; bytes = bytes; faulty = mark }) ≡ false
master_starts parm taken bytes mark all last e =
    let next : Taken = record { second = false; bytes = bytes; faulty = mark } in
    let low : may_follow (master_keys parm) last next ≡ true = list_all-last (λ x. may_follow (master_keys parm) x next) taken None last all (λ x f. absurd (cc)) (sym (last_of_last (master_keys parm) taken) ∙ e) in
    below_is_other (key_of (master_keys parm) last) (key_of (master_keys parm) next) low

-- ---- the code's tests

-- the test of the held master's key says whether the record continues the group
same_test : (parm : Parm) (group : List Taken) (next : Taken) (held : List ℕ) → HeldFits parm (Some group) → (balance_of group).held ≡ Some held → (last : Taken) → last_or None group ≡ Some last → same_bytes (key_in parm held) (key_of (master_keys parm) next) ≡ continues (master_keys parm) group next
same_test parm group next held fits e last f =
    nat_list_eq_equiv.congr (key_in parm held) (key_of (master_keys parm) last) (key_of (master_keys parm) next) (fits held last e f)
    ∙ sym (ap (λ z. option_map_or (λ x. same_key (master_keys parm) x next) z false) f)

-- a group has a last record
abbrev HasLast : Option (List Taken) → Type 0
HasLast None = Unit {0}
HasLast (Some group) = (last : Taken) × (last_or None group ≡ Some last)

has_last : (keys : Keys) (taken : List Taken) → HasLast (last_or None (groups_of keys taken))
has_last keys taken =
    by_push (λ all. HasLast (last_or None (groups_of keys all))) tt
    (λ front next holds. subst HasLast (sym (last_group-push keys front next)) (next, last-joined keys (last_or None (groups_of keys front)) next))
    taken

pub record Tests (parm : Parm) (last : Option (List Taken)) (next : Taken) : Type 0 where
  pub carries : carried parm next.second next.bytes (held_by last) ≡ (carried_by (master_keys parm) last next).held
  pub releases : released parm next.second next.bytes (held_by last) ≡ released_by (master_keys parm) last next

tests_of : (parm : Parm) (last : Option (List Taken)) (second : Bool) (bytes : List ℕ) (mark : Bool) → HeldFits parm last → HasLast last → (second ≡ false → (z : Taken) → last_in_group last ≡ Some z → same_key (master_keys parm) z (record { second = second; bytes = bytes; faulty = mark }) ≡ false) → Tests parm last (record { second = second; bytes = bytes; faulty = mark })
tests_of parm None true bytes mark fits has starts = record { carries = refl; releases = refl }
tests_of parm None false bytes mark fits has starts = record { carries = refl; releases = refl }
tests_of parm (Some group) false bytes mark fits has starts =
    let next : Taken = record { second = false; bytes = bytes; faulty = mark } in
    let ends : continues (master_keys parm) group next ≡ false = ap (λ z. option_map_or (λ x. same_key (master_keys parm) x next) z false) has.1 ∙ starts refl has.0 has.1 in
    record {
      carries = sym (ap (λ b. (cond b (balance_of group) nothing_held).held) ends);
      releases = sym (ap (λ b. cond b None (balance_of group).held) ends);
    }
tests_of parm (Some group) true bytes mark fits has starts = by (balance_of group).held refl
  where
    by : (h : Option (List ℕ)) → (balance_of group).held ≡ h → Tests parm (Some group) (record { second = true; bytes = bytes; faulty = mark })
    by None e = none (continues (master_keys parm) group (record { second = true; bytes = bytes; faulty = mark })) refl
      where
        none : (b : Bool) → continues (master_keys parm) group (record { second = true; bytes = bytes; faulty = mark }) ≡ b → Tests parm (Some group) (record { second = true; bytes = bytes; faulty = mark })
        none true f = record {
          carries = ap (carried parm true bytes) e ∙ sym (ap (λ b. (cond b (balance_of group) nothing_held).held) f ∙ e);
          releases = ap (released parm true bytes) e ∙ sym (ap (λ b. cond b None (balance_of group).held) f);
        }
        none false f = record {
          carries = ap (carried parm true bytes) e ∙ sym (ap (λ b. (cond b (balance_of group) nothing_held).held) f);
          releases = ap (released parm true bytes) e ∙ sym (ap (λ b. cond b None (balance_of group).held) f ∙ e);
        }
    by (Some held) e = some (continues (master_keys parm) group (record { second = true; bytes = bytes; faulty = mark })) refl
      where
        test : same_bytes (key_in parm held) (key_in parm (drop 1 bytes)) ≡ continues (master_keys parm) group (record { second = true; bytes = bytes; faulty = mark })
        test = same_test parm group (record { second = true; bytes = bytes; faulty = mark }) held fits e has.0 has.1

        some : (b : Bool) → continues (master_keys parm) group (record { second = true; bytes = bytes; faulty = mark }) ≡ b → Tests parm (Some group) (record { second = true; bytes = bytes; faulty = mark })
        some true f = record {
          carries = ap (carried parm true bytes) e ∙ ap (λ b. cond b (Some held) None) (test ∙ f) ∙ sym (ap (λ b. (cond b (balance_of group) nothing_held).held) f ∙ e);
          releases = ap (released parm true bytes) e ∙ ap (λ b. cond b None (Some held)) (test ∙ f) ∙ sym (ap (λ b. cond b None (balance_of group).held) f);
        }
        some false f = record {
          carries = ap (carried parm true bytes) e ∙ ap (λ b. cond b (Some held) None) (test ∙ f) ∙ sym (ap (λ b. (cond b (balance_of group) nothing_held).held) f);
          releases = ap (released parm true bytes) e ∙ ap (λ b. cond b None (Some held)) (test ∙ f) ∙ sym (ap (λ b. cond b None (balance_of group).held) f ∙ e);
        }

pub tests_hold : (parm : Parm) (taken : List Taken) (second : Bool) (bytes : List ℕ) (mark : Bool) → list_all (λ x. may_follow (master_keys parm) x (record { second = second; bytes = bytes; faulty = mark })) taken ≡ true → Tests parm (last_or None (groups_of (master_keys parm) taken)) (record { second = second; bytes = bytes; faulty = mark })
tests_hold parm taken second bytes mark all =
    tests_of parm (last_or None (groups_of (master_keys parm) taken)) second bytes mark (held_fits parm taken) (has_last (master_keys parm) taken)
    (by second all)
  where
    by : (s : Bool) → list_all (λ x. may_follow (master_keys parm) x (record { second = s; bytes = bytes; faulty = mark })) taken ≡ true → s ≡ false → (z : Taken) → last_in_group (last_or None (groups_of (master_keys parm) taken)) ≡ Some z → same_key (master_keys parm) z (record { second = s; bytes = bytes; faulty = mark }) ≡ false
    by true low e = absurd (cc)
    by false low e = master_starts parm taken bytes mark low
