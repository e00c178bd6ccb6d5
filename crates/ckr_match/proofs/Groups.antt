-- MASTER's groups of records when one record more is taken.
use Rattle.std.proofs.Common.{◌≡◌, ℕ, Bool, true, false, cond, if◌then◌else◌, List, [], ◌∷◌, ◌++◌, map, fold, Option, Some, None, refl, sym, ap, ◌∙◌, subst, append_assoc, append-nil}
use Rattle.std.specs.List.{last_or}
use Rattle.std.specs.Option.{option_map_or}
use Rattle.std.proofs.lemmas.List.{map-append}
use Rattle.ckr_base.specs.declared.programs.Output.TheVariants.{Rejects}
use Rattle.ckr_base.specs.declared.programs.Write.{Write}
use Rattle.ckr_base.proofs.Sequences.{last-append}
use Rattle.ckr_match.specs.InputOrder.{Taken, Keys}
use Rattle.ckr_match.specs.Images.{same_key}
use Rattle.ckr_match.specs.Master.{write_to, outcome_of, reject_if, Balance, nothing_held, after_taken, balance_of, onto_groups, groups_of, write_held, group_writes, master_writes}

-- whether a record has the key of the last one of a group
abbrev pub continues : Keys → List Taken → Taken → Bool
continues keys group next = option_map_or (λ last. same_key keys last next) (last_or None group) false

-- groups with one record more
abbrev pub grown : Keys → Taken → List (List Taken) → List (List Taken)
grown keys next [] = (next ∷ []) ∷ []
grown keys next (group ∷ []) = if continues keys group next then (group ++ next ∷ []) ∷ [] else group ∷ (next ∷ []) ∷ []
grown keys next (group ∷ other ∷ groups) = group ∷ grown keys next (other ∷ groups)

onto-grown : (keys : Keys) (x next : Taken) (groups : List (List Taken)) → onto_groups keys x (grown keys next groups) ≡ grown keys next (onto_groups keys x groups)
onto-grown keys x next [] = by (same_key keys x next)
  where
    by : (b : Bool) → cond b ((x ∷ next ∷ []) ∷ []) ((x ∷ []) ∷ (next ∷ []) ∷ []) ≡ cond b ((x ∷ next ∷ []) ∷ []) ((x ∷ []) ∷ (next ∷ []) ∷ [])
    by b = refl
onto-grown keys x next ([] ∷ []) = refl
onto-grown keys x next ([] ∷ other ∷ groups) = refl
onto-grown keys x next ((first ∷ rest) ∷ []) = by (continues keys (first ∷ rest) next) (same_key keys x first) refl refl
  where
    by : (c s : Bool) → continues keys (first ∷ rest) next ≡ c → same_key keys x first ≡ s → onto_groups keys x (grown keys next ((first ∷ rest) ∷ [])) ≡ grown keys next (onto_groups keys x ((first ∷ rest) ∷ []))
    by true true e f = rw (e, f) (rw e refl)
    by true false e f = rw (e, f) (rw e refl)
    by false true e f = rw (e, f) (rw e refl)
    by false false e f = rw (e, f) (rw e refl)
onto-grown keys x next ((first ∷ rest) ∷ other ∷ groups) = by (same_key keys x first) refl
  where
    by : (s : Bool) → same_key keys x first ≡ s → onto_groups keys x (grown keys next ((first ∷ rest) ∷ other ∷ groups)) ≡ grown keys next (onto_groups keys x ((first ∷ rest) ∷ other ∷ groups))
    by true f = rw f refl
    by false f = rw f refl

-- one record more
pub groups-push : (keys : Keys) (taken : List Taken) (next : Taken) → groups_of keys (taken ++ next ∷ []) ≡ grown keys next (groups_of keys taken)
groups-push keys [] next = refl
groups-push keys (x ∷ xs) next = ap (onto_groups keys x) (groups-push keys xs next) ∙ onto-grown keys x next (groups_of keys xs)

-- ---- what groups write and hold

-- what is held for a record: what its group holds, where the record continues it
abbrev pub carried_by : Keys → Option (List Taken) → Taken → Balance
carried_by keys None next = nothing_held
carried_by keys (Some group) next = if continues keys group next then balance_of group else nothing_held

abbrev pub released_by : Keys → Option (List Taken) → Taken → Option (List ℕ)
released_by keys None next = None
released_by keys (Some group) next = if continues keys group next then None else (balance_of group).held

abbrev pub joined : Keys → Option (List Taken) → Taken → List Taken
joined keys None next = next ∷ []
joined keys (Some group) next = if continues keys group next then group ++ next ∷ [] else next ∷ []

abbrev pub held_by : Option (List Taken) → Option (List ℕ)
held_by last = option_map_or (λ group. (balance_of group).held) last None

-- what one record more writes
abbrev pub piece_of : Keys → Option (List Taken) → Taken → List Write
piece_of keys last next =
    write_held (released_by keys last next)
    ++ map (write_to Rejects) (reject_if (outcome_of next.second next.bytes (carried_by keys last next).held).rejected next.bytes)

fold_push : (balance : Balance) (group : List Taken) (next : Taken) → fold after_taken balance (group ++ next ∷ []) ≡ after_taken (fold after_taken balance group) next
fold_push balance [] next = refl
fold_push balance (x ∷ xs) next = fold_push (after_taken balance x) xs next

pub balance-joined : (keys : Keys) (last : Option (List Taken)) (next : Taken) → balance_of (joined keys last next) ≡ after_taken (carried_by keys last next) next
balance-joined keys None next = refl
balance-joined keys (Some group) next = by (continues keys group next)
  where
    by : (b : Bool) → balance_of (cond b (group ++ next ∷ []) (next ∷ [])) ≡ after_taken (cond b (balance_of group) nothing_held) next
    by true = fold_push nothing_held group next
    by false = refl

grown_more : (keys : Keys) (next : Taken) (groups : List (List Taken)) → (g : List Taken) × (gs : List (List Taken)) × (grown keys next groups ≡ g ∷ gs)
grown_more keys next [] = (next ∷ [], [], refl)
grown_more keys next (group ∷ []) = by (continues keys group next)
  where
    by : (b : Bool) → (g : List Taken) × (gs : List (List Taken)) × (cond b ((group ++ next ∷ []) ∷ []) (group ∷ (next ∷ []) ∷ []) ≡ g ∷ gs)
    by true = (group ++ next ∷ [], [], refl)
    by false = (group, (next ∷ []) ∷ [], refl)
grown_more keys next (group ∷ other ∷ groups) = (group, grown keys next (other ∷ groups), refl)

pub last-grown : (keys : Keys) (next : Taken) (groups : List (List Taken)) → last_or None (grown keys next groups) ≡ Some (joined keys (last_or None groups) next)
last-grown keys next [] = refl
last-grown keys next (group ∷ []) = by (continues keys group next)
  where
    by : (b : Bool) → last_or None (cond b ((group ++ next ∷ []) ∷ []) (group ∷ (next ∷ []) ∷ [])) ≡ Some (cond b (group ++ next ∷ []) (next ∷ []))
    by true = refl
    by false = refl
last-grown keys next (group ∷ other ∷ groups) =
    let more = grown_more keys next (other ∷ groups) in
    ap (last_or (Some group)) more.2 ∙ sym (ap (last_or None) more.2) ∙ last-grown keys next (other ∷ groups)

writes-cons : (closed : Bool) (group : List Taken) (groups : List (List Taken)) (g : List Taken) (gs : List (List Taken)) → groups ≡ g ∷ gs → master_writes closed (group ∷ groups) ≡ group_writes true (balance_of group) ++ master_writes closed groups
writes-cons closed group groups g gs e = ap (λ more. master_writes closed (group ∷ more)) e ∙ sym (ap (λ more. group_writes true (balance_of group) ++ master_writes closed more) e)

-- what one record more writes stands behind what the others write
pub writes-grown : (keys : Keys) (next : Taken) (groups : List (List Taken)) → master_writes false (grown keys next groups) ≡ master_writes false groups ++ piece_of keys (last_or None groups) next
writes-grown keys next [] = append-nil _
writes-grown keys next (group ∷ []) = by (continues keys group next)
  where
    rejected : List Write
    rejected = map (write_to Rejects) (balance_of group).rejected

    by : (b : Bool) → master_writes false (cond b ((group ++ next ∷ []) ∷ []) (group ∷ (next ∷ []) ∷ [])) ≡ group_writes false (balance_of group) ++ (write_held (cond b None (balance_of group).held) ++ map (write_to Rejects) (reject_if (outcome_of next.second next.bytes (cond b (balance_of group) nothing_held).held).rejected next.bytes))
    by true =
        ap (group_writes false) (fold_push nothing_held group next)
        ∙ append-nil _
        ∙ map-append (write_to Rejects) (balance_of group).rejected _
        ∙ ap (λ front. front ++ map (write_to Rejects) (reject_if (outcome_of next.second next.bytes (balance_of group).held).rejected next.bytes)) (sym (append-nil (map (write_to Rejects) (balance_of group).rejected)))
    by false =
        ap (λ back. group_writes true (balance_of group) ++ back) (append-nil (map (write_to Rejects) (reject_if (outcome_of next.second next.bytes None).rejected next.bytes)))
        ∙ append_assoc (map (write_to Rejects) (balance_of group).rejected) (write_held (balance_of group).held) _
        ∙ ap (λ front. front ++ (write_held (balance_of group).held ++ map (write_to Rejects) (reject_if (outcome_of next.second next.bytes None).rejected next.bytes))) (sym (append-nil (map (write_to Rejects) (balance_of group).rejected)))
writes-grown keys next (group ∷ other ∷ groups) =
    let more = grown_more keys next (other ∷ groups) in
    writes-cons false group (grown keys next (other ∷ groups)) more.0 more.1 more.2
    ∙ ap (λ back. group_writes true (balance_of group) ++ back) (writes-grown keys next (other ∷ groups))
    ∙ sym (append_assoc (group_writes true (balance_of group)) (master_writes false (other ∷ groups)) (piece_of keys (last_or None (other ∷ groups)) next))

-- closing writes what is held
pub writes-closed : (groups : List (List Taken)) → master_writes true groups ≡ master_writes false groups ++ write_held (held_by (last_or None groups))
writes-closed [] = refl
writes-closed (group ∷ []) = ap (λ front. front ++ write_held (balance_of group).held) (sym (append-nil (map (write_to Rejects) (balance_of group).rejected)))
writes-closed (group ∷ other ∷ groups) =
    ap (λ back. group_writes true (balance_of group) ++ back) (writes-closed (other ∷ groups))
    ∙ sym (append_assoc (group_writes true (balance_of group)) (master_writes false (other ∷ groups)) (write_held (held_by (last_or None (other ∷ groups)))))

-- ---- the last record of the last group

-- what holds of no records, and with one record more, holds of all lists
pub by_push : (P : List Taken → Type 0) → P [] → ((taken : List Taken) (next : Taken) → P taken → P (taken ++ next ∷ [])) → (taken : List Taken) → P taken
by_push P none more taken = go [] taken none
  where
    go : (front back : List Taken) → P front → P (front ++ back)
    go front [] holds = subst P (sym (append-nil front)) holds
    go front (x ∷ xs) holds = subst P (append_assoc front (x ∷ []) xs) (go (front ++ x ∷ []) xs (more front x holds))

pub last-joined : (keys : Keys) (last : Option (List Taken)) (next : Taken) → last_or None (joined keys last next) ≡ Some next
last-joined keys None next = refl
last-joined keys (Some group) next = by (continues keys group next)
  where
    by : (b : Bool) → last_or None (cond b (group ++ next ∷ []) (next ∷ [])) ≡ Some next
    by true = last-append None group next
    by false = refl

pub last_group-push : (keys : Keys) (taken : List Taken) (next : Taken) → last_or None (groups_of keys (taken ++ next ∷ [])) ≡ Some (joined keys (last_or None (groups_of keys taken)) next)
last_group-push keys taken next = ap (last_or None) (groups-push keys taken next) ∙ last-grown keys next (groups_of keys taken)

abbrev pub last_in_group : Option (List Taken) → Option Taken
last_in_group None = None
last_in_group (Some group) = last_or None group

pub last_of_last : (keys : Keys) (taken : List Taken) → last_in_group (last_or None (groups_of keys taken)) ≡ last_or None taken
last_of_last keys taken =
    by_push (λ all. last_in_group (last_or None (groups_of keys all)) ≡ last_or None all) refl
    (λ front next holds. ap last_in_group (last_group-push keys front next) ∙ last-joined keys (last_or None (groups_of keys front)) next ∙ sym (last-append None front next))
    taken
