-- Maps by name through a view that knows the name.
use Rattle.std.proofs.Common.{◌≡◌, Bool, true, false, cond, [], ◌∷◌, map, refl, ap, sym, ◌∙◌, Option, Some, None}
use Rattle.std.specs.declared.cmp.Ordering.{Ordering}
use Rattle.std.specs.declared.cmp.Ordering.TheVariants.{Less, Equal, Greater}
use Rattle.std.specs.Option.{option_map}
use Rattle.std.specs.Ordering.{is_eq}
use Rattle.std.specs.FinMap.Entries.{by_order}
use Rattle.ckr_library.specs.NameMaps.{Name, Named, entry_at, name_cmp, same_name, with_change, with_changed, with_entry}
use Rattle.ckr_library.proofs.Named.{name-same}

-- a map with each entry seen through a view, under its name
abbrev pub viewed : {X Y : Type 0} → (Name → X → Y) → Named X → Named Y
viewed view named = map (λ entry. (entry.0, view entry.0 entry.1)) named

-- a view goes through a look-up
pub at-viewed : {X Y : Type 0} (view : Name → X → Y) (named : Named X) (name : Name) → entry_at (viewed view named) name ≡ option_map (view name) (entry_at named name)
at-viewed view [] name = refl
at-viewed view (first ∷ rest) name = by (same_name name first.0) refl (at-viewed view rest name)
  where
    by : (same : Bool) → same_name name first.0 ≡ same → entry_at (viewed view rest) name ≡ option_map (view name) (entry_at rest name)
        → cond same (Some (view first.0 first.1)) (entry_at (viewed view rest) name) ≡ option_map (view name) (cond same (Some first.1) (entry_at rest name))
    by true e later = ap (λ n. Some (view n first.1)) (sym (name-same name first.0 e))
    by false e later = later

-- a view goes through an entry
pub viewed-with_entry : {X Y : Type 0} (view : Name → X → Y) (name : Name) (entry : X) (named : Named X) → viewed view (with_entry name entry named) ≡ with_entry name (view name entry) (viewed view named)
viewed-with_entry view name entry [] = refl
viewed-with_entry view name entry (first ∷ rest) = by (name_cmp name first.0) refl (viewed-with_entry view name entry rest)
  where
    by : (r : Ordering) → name_cmp name first.0 ≡ r → viewed view (with_entry name entry rest) ≡ with_entry name (view name entry) (viewed view rest)
        → viewed view (by_order r ((name, entry) ∷ first ∷ rest) ((first.0, entry) ∷ rest) (first ∷ with_entry name entry rest))
        ≡ by_order r ((name, view name entry) ∷ viewed view (first ∷ rest)) ((first.0, view name entry) ∷ viewed view rest) ((first.0, view first.0 first.1) ∷ with_entry name (view name entry) (viewed view rest))
    by Less e later = refl
    by Equal e later = ap (λ n. (first.0, view n entry) ∷ viewed view rest) (sym (name-same name first.0 (ap is_eq e)))
    by Greater e later = ap (λ tail. (first.0, view first.0 first.1) ∷ tail) later

changed-viewed : {X Y : Type 0} (view : Name → X → Y) (change : X → X) (other : Y → Y) (name : Name) → ((x : X) → view name (change x) ≡ other (view name x)) → (named : Named X) (entry : Option X) → viewed view (with_change name change named entry) ≡ with_change name other (viewed view named) (option_map (view name) entry)
changed-viewed view change other name same named None = refl
changed-viewed view change other name same named (Some entry) =
    viewed-with_entry view name (change entry) named ∙ ap (λ y. with_entry name y (viewed view named)) (same entry)

-- a view goes through a change, where the change goes through the view under its name
pub viewed-with_changed : {X Y : Type 0} (view : Name → X → Y) (change : X → X) (other : Y → Y) (name : Name) → ((x : X) → view name (change x) ≡ other (view name x)) → (named : Named X) → viewed view (with_changed name change named) ≡ with_changed name other (viewed view named)
viewed-with_changed view change other name same named =
    changed-viewed view change other name same named (entry_at named name) ∙ ap (with_change name other (viewed view named)) (sym (at-viewed view named name))

-- views that are the same
pub viewed-same : {X Y : Type 0} (first second : Name → X → Y) → ((name : Name) (x : X) → first name x ≡ second name x) → (named : Named X) → viewed first named ≡ viewed second named
viewed-same first second same [] = refl
viewed-same first second same (entry ∷ rest) =
    ap (λ one. (entry.0, one) ∷ viewed first rest) (same entry.0 entry.1) ∙ ap (λ tail. (entry.0, second entry.0 entry.1) ∷ tail) (viewed-same first second same rest)
