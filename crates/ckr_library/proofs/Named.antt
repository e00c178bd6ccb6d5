-- General facts of names, and of finite maps by name: what stands under one name after a change under another (at-), what holds of each entry (each-), a view of all entries (viewed-).
-- name-equivalence       same_name is an equivalence
-- name-same              names that are the same are equal
-- name-itself            a name is the same as itself
-- name-turned            same_name a b is same_name b a
-- name-alike             two that are the same as one are the same
-- at-with_entry          under any name, after an entry
-- at-with_entry-other    under another name, after an entry
-- at-without_entry       under any name, after a removal
-- at-with_changed        under any name, after a change
-- at-with_changed-other  under another name, after a change
-- at-with_changed-keeps  what the change keeps
-- each-by_name           each entry, from that of each name
-- each-at                the entry of a name, from each entry
-- each-with_entry        through an entry
-- each-without_entry     through a removal
-- each-with_changed      through a change
-- viewed                 (a definition) the map with a view of each entry
-- at-viewed              under a name, in a view
-- viewed-with_entry      a view goes through an entry
-- changed-viewed         the change of a found entry, in a view
-- viewed-with_changed    a view goes through a change
use Rattle.std.proofs.Common.{Bool, None, Option, Some, T, [], ap, cond, false, map, not, refl, subst, sym, true, ◌∙◌, ◌∷◌, ◌≡◌}
use Rattle.std.proofs.lemmas.Option.{same_Some}
use Rattle.std.specs.Cmp.{IsEquivalence, alike_right, eq_by_cmp_equiv, tied_itself}
use Rattle.std.specs.Cmp.Lexicographic.{bytes_decides, nat_list_cmp_total, texts_ties}
use Rattle.std.specs.FinMap.Entries.{by_order, find-put, find-where_key, is_sorted}
use Rattle.std.specs.Option.{option_map}
use Rattle.std.specs.Ordering.{is_eq}
use Rattle.std.specs.declared.cmp.Ordering.{Ordering}
use Rattle.std.specs.declared.cmp.Ordering.TheVariants.{Equal, Greater, Less}
use Rattle.ckr_base.proofs.Bools.{T-and-first, T-and-second, bool-cases}
use Rattle.ckr_base.proofs.Options.{some-not-none}
use Rattle.ckr_library.proofs.OrderedLists.{find-tied}
use Rattle.ckr_library.specs.NameMaps.{EachEntry, Name, Named, entry_at, name_cmp, same_name, with_change, with_changed, with_entry, without_entry}

pub name-equivalence : IsEquivalence same_name
name-equivalence = eq_by_cmp_equiv nat_list_cmp_total

-- names that are the same are one
pub name-same : (one other : Name) → same_name one other ≡ true → one ≡ other
name-same one other same = (bytes_decides one other).0 (texts_ties one other ∙ same)

pub name-itself : (name : Name) → same_name name name ≡ true
name-itself name = (eq_by_cmp_equiv nat_list_cmp_total).refl name

pub name-turned : (one other : Name) → same_name one other ≡ same_name other one
name-turned one other = (eq_by_cmp_equiv nat_list_cmp_total).symm one other

-- two names that one is the same as are the same
pub name-alike : (one two other : Name) → same_name one two ≡ true → same_name one other ≡ true → same_name two other ≡ true
name-alike one two other e f = sym (name-equivalence.congr one two other e) ∙ f

pub at-with_entry : {X : Type 0} (name other : Name) (x : X) (named : Named X) → entry_at (with_entry name x named) other ≡ cond (same_name other name) (Some x) (entry_at named other)
at-with_entry name other x named = find-put name_cmp nat_list_cmp_total other name x named

-- another name keeps what stands under it
pub at-with_entry-other : {X : Type 0} (name other : Name) (x : X) (named : Named X) → same_name other name ≡ false → entry_at (with_entry name x named) other ≡ entry_at named other
at-with_entry-other name other x named apart =
    find-put name_cmp nat_list_cmp_total other name x named ∙ ap (λ b. cond b (Some x) (entry_at named other)) apart

pub at-without_entry : {X : Type 0} (name other : Name) (named : Named X) → entry_at (without_entry name named) other ≡ cond (same_name other name) None (entry_at named other)
at-without_entry name other named =
    find-where_key name_cmp (λ x. not (same_name name x)) other (λ x tied. ap (λ r. not (is_eq r)) (sym (alike_right nat_list_cmp_total other x name tied))) named
    ∙ ap (λ b. cond (not b) (entry_at named other) None) (name-equivalence.symm name other) ∙ turned (same_name other name)
  where
    turned : (b : Bool) → cond (not b) (entry_at named other) None ≡ cond b None (entry_at named other)
    turned true = refl
    turned false = refl

pub at-with_changed : {X : Type 0} (name other : Name) (change : X → X) (named : Named X) → entry_at (with_changed name change named) other ≡ cond (same_name other name) (option_map change (entry_at named other)) (entry_at named other)
at-with_changed {X = X} name other change named =
    by (entry_at named name) refl
  where
    same_entry : same_name other name ≡ true → entry_at named name ≡ entry_at named other
    same_entry same = ap (entry_at named) (sym (name-same other name same))

    by : (entry : Option X) → entry_at named name ≡ entry → entry_at (with_change name change named entry) other ≡ cond (same_name other name) (option_map change (entry_at named other)) (entry_at named other)
    by None e = bool-cases (same_name other name)
        (λ same. (sym (same_entry same) ∙ e) ∙ sym (ap (option_map change) (sym (same_entry same) ∙ e)) ∙ sym (ap (λ b. cond b (option_map change (entry_at named other)) (entry_at named other)) same))
        (λ apart. sym (ap (λ b. cond b (option_map change (entry_at named other)) (entry_at named other)) apart))
    by (Some x) e = at-with_entry name other (change x) named ∙ bool-cases (same_name other name)
        (λ same. ap (λ b. cond b (Some (change x)) (entry_at named other)) same ∙ sym (ap (option_map change) (sym (same_entry same) ∙ e)) ∙ sym (ap (λ b. cond b (option_map change (entry_at named other)) (entry_at named other)) same))
        (λ apart. ap (λ b. cond b (Some (change x)) (entry_at named other)) apart ∙ sym (ap (λ b. cond b (option_map change (entry_at named other)) (entry_at named other)) apart))

pub at-with_changed-other : {X : Type 0} (name other : Name) (change : X → X) (named : Named X) → same_name other name ≡ false → entry_at (with_changed name change named) other ≡ entry_at named other
at-with_changed-other {X = X} name other change named apart = by (entry_at named name)
  where
    by : (entry : Option X) → entry_at (with_change name change named entry) other ≡ entry_at named other
    by None = refl
    by (Some x) = at-with_entry-other name other (change x) named apart

-- what a change keeps of a data set, it keeps of that of each name
pub at-with_changed-keeps : {X Y : Type 0} (f : X → Y) (name other : Name) (change : X → X) (named : Named X) → ((x : X) → f (change x) ≡ f x) → option_map f (entry_at (with_changed name change named) other) ≡ option_map f (entry_at named other)
at-with_changed-keeps {X = X} {Y = Y} f name other change named keeps = by (entry_at named name) refl
  where
    at_tied : (x : X) (r : Ordering) → name_cmp other name ≡ r → entry_at named name ≡ Some x → option_map f (cond (is_eq r) (Some (change x)) (entry_at named other)) ≡ option_map f (entry_at named other)
    at_tied x Less e found = refl
    at_tied x Equal e found = ap Some (keeps x) ∙ ap (option_map f) (sym found) ∙ ap (option_map f) (sym (same_entry named e))
      where
        same_entry : (all : Named X) → name_cmp other name ≡ Equal → entry_at all other ≡ entry_at all name
        same_entry [] e = refl
        same_entry (entry ∷ rest) e =
            ap (λ r. cond (is_eq r) (Some entry.1) (entry_at rest other)) (nat_list_cmp_total.congr other name entry.0 e)
            ∙ ap (λ found. cond (is_eq (name_cmp name entry.0)) (Some entry.1) found) (same_entry rest e)
    at_tied x Greater e found = refl

    by : (entry : Option X) → entry_at named name ≡ entry → option_map f (entry_at (with_change name change named entry) other) ≡ option_map f (entry_at named other)
    by None e = refl
    by (Some x) e = ap (option_map f) (find-put name_cmp nat_list_cmp_total other name (change x) named) ∙ at_tied x (name_cmp other name) refl e

-- what holds of the entry of each name, holds of each entry
pub each-by_name : {X : Type 0} (Q : X → Type 0) (named : Named X) → T (is_sorted name_cmp named) → ((name : Name) (x : X) → entry_at named name ≡ Some x → Q x) → EachEntry Q named
each-by_name {X = X} Q [] rise each = tt
each-by_name {X = X} Q (entry ∷ rest) rise each = (
  each entry.0 entry.1 (ap (λ r. cond (is_eq r) (Some entry.1) (entry_at rest entry.0)) (tied_itself nat_list_cmp_total entry.0)),
  each-by_name Q rest (T-and-second _ _ rise) (λ name x found. each name x (passes_by name x found)),
)
  where
    passes_by : (name : Name) (x : X) → entry_at rest name ≡ Some x → cond (is_eq (name_cmp name entry.0)) (Some entry.1) (entry_at rest name) ≡ Some x
    passes_by name x found =
        elim (name_cmp name entry.0) as (λ r. name_cmp name entry.0 ≡ r → cond (is_eq r) (Some entry.1) (entry_at rest name) ≡ Some x) [
          | Less ↦ λ e. found
          | Equal ↦ λ e. absurd (some-not-none x (sym found ∙ find-tied name_cmp nat_list_cmp_total name entry.0 e rest (T-and-first _ _ rise)))
          | Greater ↦ λ e. found
        ] refl

-- what holds of each entry, holds of that of a name
pub each-at : {X : Type 0} (Q : X → Type 0) (named : Named X) → EachEntry Q named → (name : Name) (x : X) → entry_at named name ≡ Some x → Q x
each-at Q [] each name x found = absurd (some-not-none x (sym found))
each-at Q (entry ∷ rest) each name x found =
    elim (is_eq (name_cmp name entry.0)) as (λ b. cond b (Some entry.1) (entry_at rest name) ≡ Some x → Q x) [
      | true ↦ λ found. subst Q (same_Some entry.1 x found) each.0
      | false ↦ λ found. each-at Q rest each.1 name x found
    ] found

-- what holds of each entry, through an entry, a removal and a change
pub each-with_entry : {X : Type 0} (Q : X → Type 0) (name : Name) (x : X) (named : Named X) → Q x → EachEntry Q named → EachEntry Q (with_entry name x named)
each-with_entry Q name x [] one each = (one, tt)
each-with_entry Q name x (entry ∷ rest) one each =
    elim (name_cmp name entry.0) as (λ r. EachEntry Q (by_order r ((name, x) ∷ entry ∷ rest) ((entry.0, x) ∷ rest) (entry ∷ with_entry name x rest))) [
      | Less ↦ (one, each)
      | Equal ↦ (one, each.1)
      | Greater ↦ (each.0, each-with_entry Q name x rest one each.1)
    ]

pub each-without_entry : {X : Type 0} (Q : X → Type 0) (name : Name) (named : Named X) → EachEntry Q named → EachEntry Q (without_entry name named)
each-without_entry Q name [] each = tt
each-without_entry Q name (entry ∷ rest) each =
    elim (same_name name entry.0) as (λ b. EachEntry Q (cond (not b) (entry ∷ without_entry name rest) (without_entry name rest))) [
      | true ↦ each-without_entry Q name rest each.1
      | false ↦ (each.0, each-without_entry Q name rest each.1)
    ]

pub each-with_changed : {X : Type 0} (Q : X → Type 0) (name : Name) (change : X → X) (named : Named X) → ((x : X) → Q x → Q (change x)) → EachEntry Q named → EachEntry Q (with_changed name change named)
each-with_changed {X = X} Q name change named keeps each = by (entry_at named name) refl
  where
    by : (found : Option X) → entry_at named name ≡ found → EachEntry Q (with_change name change named found)
    by None e = each
    by (Some x) e = each-with_entry Q name (change x) named (keeps x (each-at Q named each name x e)) each

-- a map with each entry seen through a view
abbrev pub viewed : {X Y : Type 0} → (X → Y) → Named X → Named Y
viewed view named = map (λ entry. (entry.0, view entry.1)) named

-- a view goes through a look-up
pub at-viewed : {X Y : Type 0} (view : X → Y) (named : Named X) (name : Name) → entry_at (viewed view named) name ≡ option_map view (entry_at named name)
at-viewed view [] name = refl
at-viewed view (first ∷ rest) name =
    elim (same_name name first.0) as (λ b. cond b (Some (view first.1)) (entry_at (viewed view rest) name) ≡ option_map view (cond b (Some first.1) (entry_at rest name))) [
      | true ↦ refl
      | false ↦ at-viewed view rest name
    ]

-- a view goes through an entry
pub viewed-with_entry : {X Y : Type 0} (view : X → Y) (name : Name) (entry : X) (named : Named X) → viewed view (with_entry name entry named) ≡ with_entry name (view entry) (viewed view named)
viewed-with_entry view name entry [] = refl
viewed-with_entry view name entry (first ∷ rest) =
    elim (name_cmp name first.0) as
    (λ r. viewed view (by_order r ((name, entry) ∷ first ∷ rest) ((first.0, entry) ∷ rest) (first ∷ with_entry name entry rest))
    ≡ by_order r ((name, view entry) ∷ viewed view (first ∷ rest)) ((first.0, view entry) ∷ viewed view rest) ((first.0, view first.1) ∷ with_entry name (view entry) (viewed view rest))) [
      | Less ↦ refl
      | Equal ↦ refl
      | Greater ↦ ap (λ tail. (first.0, view first.1) ∷ tail) (viewed-with_entry view name entry rest)
    ]

changed-viewed : {X Y : Type 0} (view : X → Y) (change : X → X) (other : Y → Y) → ((x : X) → view (change x) ≡ other (view x)) → (name : Name) (named : Named X) (entry : Option X) → viewed view (with_change name change named entry) ≡ with_change name other (viewed view named) (option_map view entry)
changed-viewed view change other same name named None = refl
changed-viewed view change other same name named (Some entry) =
    viewed-with_entry view name (change entry) named ∙ ap (λ y. with_entry name y (viewed view named)) (same entry)

-- a view goes through a change, where the change goes through the view
pub viewed-with_changed : {X Y : Type 0} (view : X → Y) (change : X → X) (other : Y → Y) → ((x : X) → view (change x) ≡ other (view x)) → (name : Name) (named : Named X) → viewed view (with_changed name change named) ≡ with_changed name other (viewed view named)
viewed-with_changed view change other same name named =
    changed-viewed view change other same name named (entry_at named name) ∙ ap (with_change name other (viewed view named)) (sym (at-viewed view named name))
