-- What a change of one data set leaves as it was.
use Rattle.std.proofs.Common.{◌≡◌, true, false, not, cond, [], ◌∷◌, Option, Some, None, refl, ap, sym, ◌∙◌, subst, IsSomeAnd}
use Rattle.std.specs.Option.{option_map}
use Rattle.std.specs.declared.cmp.Ordering.{Ordering}
use Rattle.std.specs.declared.cmp.Ordering.TheVariants.{Less, Equal, Greater}
use Rattle.std.specs.Ordering.{is_eq}
use Rattle.std.specs.Cmp.Lexicographic.{nat_list_cmp_total}
use Rattle.std.specs.Cmp.{tied_itself}
use Rattle.std.specs.FinMap.Entries.{by_order, find-put, put}
use Rattle.ckr_base.proofs.Options.{some-not-none}
use Rattle.ckr_library.specs.declared.sets.DataSet.{DataSet}
use Rattle.ckr_library.specs.Catalog.{Catalog, HasSet, Holding}
use Rattle.ckr_library.specs.NameMaps.{Name, Named, name_cmp, same_name, entry_at, with_entry, without_entry, with_change, with_changed}

-- a name that isn't there takes nothing with it
pub without_entry-absent : {X : Type 0} (name : Name) (named : Named X) → entry_at named name ≡ None → without_entry name named ≡ named
without_entry-absent name [] none = refl
without_entry-absent name (entry ∷ rest) none =
    elim (same_name name entry.0) as (λ b. cond b (Some entry.1) (entry_at rest name) ≡ None → cond (not b) (entry ∷ without_entry name rest) (without_entry name rest) ≡ entry ∷ rest) [
      | true ↦ λ none. absurd (some-not-none entry.1 none)
      | false ↦ λ none. ap (λ others. entry ∷ others) (without_entry-absent name rest none)
    ] none

-- what stands under a name is found there
pub with_entry-at : {X : Type 0} (name : Name) (x : X) (named : Named X) → entry_at (with_entry name x named) name ≡ Some x
with_entry-at name x named =
    find-put name_cmp nat_list_cmp_total name name x named ∙ ap (λ r. cond (is_eq r) (Some x) (entry_at named name)) (tied_itself nat_list_cmp_total name)

-- the later of two entries under one name stands
pub with_entry-twice : {X : Type 0} (name : Name) (x y : X) (named : Named X) → with_entry name y (with_entry name x named) ≡ with_entry name y named
with_entry-twice {X = X} name x y [] =
    ap (λ r. by_order r ((name, y) ∷ (name, x) ∷ []) ((name, y) ∷ []) ((name, x) ∷ with_entry name y [])) (tied_itself nat_list_cmp_total name)
with_entry-twice {X = X} name x y (entry ∷ rest) = by (name_cmp name entry.0) refl (with_entry-twice name x y rest)
  where
    by : (r : Ordering) → name_cmp name entry.0 ≡ r → with_entry name y (with_entry name x rest) ≡ with_entry name y rest → with_entry name y (by_order r ((name, x) ∷ entry ∷ rest) ((entry.0, x) ∷ rest) (entry ∷ with_entry name x rest)) ≡ by_order r ((name, y) ∷ entry ∷ rest) ((entry.0, y) ∷ rest) (entry ∷ with_entry name y rest)
    by Less e more = ap (λ r. by_order r ((name, y) ∷ (name, x) ∷ entry ∷ rest) ((name, y) ∷ entry ∷ rest) ((name, x) ∷ with_entry name y (entry ∷ rest))) (tied_itself nat_list_cmp_total name)
    by Equal e more = ap (λ r. by_order r ((name, y) ∷ (entry.0, x) ∷ rest) ((entry.0, y) ∷ rest) ((entry.0, x) ∷ with_entry name y rest)) e
    by Greater e more =
        ap (λ r. by_order r ((name, y) ∷ entry ∷ with_entry name x rest) ((entry.0, y) ∷ with_entry name x rest) (entry ∷ with_entry name y (with_entry name x rest))) e
        ∙ ap (λ others. entry ∷ others) more

-- what a change makes of a data set is found under its name
pub with_changed-at : {X : Type 0} (name : Name) (change : X → X) (named : Named X) → entry_at (with_changed name change named) name ≡ option_map change (entry_at named name)
with_changed-at {X = X} name change named = by (entry_at named name) refl
  where
    by : (entry : Option X) → entry_at named name ≡ entry → entry_at (with_change name change named entry) name ≡ option_map change entry
    by None e = e
    by (Some x) e = with_entry-at name (change x) named

-- two changes of one data set are one
pub with_changed-twice : {X : Type 0} (name : Name) (first second : X → X) (named : Named X) → with_changed name second (with_changed name first named) ≡ with_changed name (λ x. second (first x)) named
with_changed-twice {X = X} name first second named =
    ap (with_change name second (with_changed name first named)) (with_changed-at name first named) ∙ by (entry_at named name) refl
  where
    by : (entry : Option X) → entry_at named name ≡ entry → with_change name second (with_change name first named entry) (option_map first entry) ≡ with_change name (λ x. second (first x)) named entry
    by None e = refl
    by (Some x) e = with_entry-twice name (first x) (second (first x)) named

-- a data set that is changed is still there
pub still_there : (name : Name) (change : Holding → Holding) (catalog : Catalog) (sets : Named Holding) → catalog.sets ≡ with_changed name change sets → IsSomeAnd (option_map (λ (h : Holding). h.set) (entry_at sets name)) (λ (set : DataSet). Unit {0}) → HasSet catalog name (λ (set : DataSet). Unit {0})
still_there name change catalog sets changed there =
    subst (λ (entry : Option Holding). IsSomeAnd (option_map (λ (h : Holding). h.set) entry) (λ (set : DataSet). Unit {0})) (sym (ap (λ all. entry_at all name) changed ∙ with_changed-at name change sets))
    (by (entry_at sets name) there)
  where
    by : (entry : Option Holding) → IsSomeAnd (option_map (λ (h : Holding). h.set) entry) (λ (set : DataSet). Unit {0}) → IsSomeAnd (option_map (λ (h : Holding). h.set) (option_map change entry)) (λ (set : DataSet). Unit {0})
    by None there = there
    by (Some holding) there = there

-- ---- a data set that is put in and taken out again

pub set_absent : (entry : Option Holding) → option_map (λ (h : Holding). h.set) entry ≡ None → entry ≡ None
set_absent None none = refl
set_absent (Some holding) none = cc

pub put_is_there : (name : Name) (holding : Holding) (catalog : Catalog) (sets : Named Holding) → catalog.sets ≡ with_entry name holding sets → HasSet catalog name (λ (set : DataSet). Unit {0})
put_is_there name holding catalog sets put =
    subst (λ (entry : Option Holding). IsSomeAnd (option_map (λ (h : Holding). h.set) entry) (λ (set : DataSet). Unit {0})) (sym (ap (λ all. entry_at all name) put ∙ with_entry-at name holding sets)) tt

-- the others stay as they were
pub taken_out_again : {X : Type 0} (name : Name) (x : X) (named : Named X) → entry_at named name ≡ None → without_entry name (with_entry name x named) ≡ named
taken_out_again {X = X} name x [] none =
    ap (λ r. cond (not (is_eq r)) ((name, x) ∷ []) []) (tied_itself nat_list_cmp_total name)
taken_out_again {X = X} name x (entry ∷ rest) none = by (name_cmp name entry.0) refl (taken_out_again name x rest) none
  where
    by : (r : Ordering) → name_cmp name entry.0 ≡ r → (entry_at rest name ≡ None → without_entry name (with_entry name x rest) ≡ rest) → cond (is_eq r) (Some entry.1) (entry_at rest name) ≡ None
        → without_entry name (by_order r ((name, x) ∷ entry ∷ rest) ((entry.0, x) ∷ rest) (entry ∷ with_entry name x rest)) ≡ entry ∷ rest
    by Less e more none =
        ap (λ r. cond (not (is_eq r)) ((name, x) ∷ without_entry name (entry ∷ rest)) (without_entry name (entry ∷ rest))) (tied_itself nat_list_cmp_total name)
        ∙ without_entry-absent name (entry ∷ rest) (ap (λ r. cond (is_eq r) (Some entry.1) (entry_at rest name)) e ∙ none)
    by Equal e more none = absurd (some-not-none entry.1 none)
    by Greater e more none =
        ap (λ r. cond (not (is_eq r)) (entry ∷ without_entry name (with_entry name x rest)) (without_entry name (with_entry name x rest))) e ∙ ap (λ others. entry ∷ others) (more none)
