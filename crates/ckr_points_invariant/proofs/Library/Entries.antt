-- What stands under a name once names are taken over, and whether a name is among optional ones.
use Rattle.std.proofs.Common.{◌≡◌, Bool, true, false, cond, ◌||◌, List, [], ◌∷◌, refl, ap, sym, ◌∙◌, Option, Some, None}
use Rattle.std.specs.List.{cons_option, filter_map, list_any}
use Rattle.std.specs.Option.{option_map_or}
use Rattle.ckr_library.specs.NameMaps.{Name, Named, same_name, entry_at, taken_over, with_moved}
use Rattle.ckr_library.proofs.Named.{at-with_entry, at-without_entry, name-same}
use Rattle.ckr_meaning.specs.EffectiveJob.{is_among}

-- ---- what is taken over

pub at-taken_over : {X : Type 0} (taken : List Name) (from to : Named X) (name : Name) → entry_at (taken_over taken from to) name ≡ cond (is_among taken name) (entry_at from name) (entry_at to name)
at-taken_over [] from to name = refl
at-taken_over {X = X} (first ∷ rest) from to name =
    by (at-taken_over rest from to name) (entry_at from first) refl
  where
    moved : (here among : Bool) (entry other : Option X) → (here ≡ true → entry ≡ entry_at from name) → cond here entry (cond among (entry_at from name) other) ≡ cond (here || among) (entry_at from name) other
    moved true among entry other same = same refl
    moved false among entry other same = refl

    by : entry_at (taken_over rest from to) name ≡ cond (is_among rest name) (entry_at from name) (entry_at to name) → (entry : Option X) → entry_at from first ≡ entry → entry_at (with_moved first (taken_over rest from to) entry) name ≡ cond (same_name name first || is_among rest name) (entry_at from name) (entry_at to name)
    by others None e =
        at-without_entry first name (taken_over rest from to) ∙ ap (cond (same_name name first) None) others
        ∙ moved (same_name name first) (is_among rest name) None (entry_at to name) (λ same. sym e ∙ ap (entry_at from) (sym (name-same name first same)))
    by others (Some x) e =
        at-with_entry first name x (taken_over rest from to) ∙ ap (cond (same_name name first) (Some x)) others
        ∙ moved (same_name name first) (is_among rest name) (Some x) (entry_at to name) (λ same. sym e ∙ ap (entry_at from) (sym (name-same name first same)))

-- ---- names of a list

-- whether an optional name is the name
abbrev pub is_name : Name → Option Name → Bool
is_name name other = option_map_or (same_name name) other false

pub among-filter_map : {X : Type 0} (f : X → Option Name) (xs : List X) (name : Name) → is_among (filter_map f xs) name ≡ list_any (λ x. is_name name (f x)) xs
among-filter_map f [] name = refl
among-filter_map f (first ∷ rest) name =
    elim (f first) as (λ o. is_among (cons_option o (filter_map f rest)) name ≡ (is_name name o || list_any (λ x. is_name name (f x)) rest)) [
      | None ↦ among-filter_map f rest name
      | Some other ↦ ap (λ b. same_name name other || b) (among-filter_map f rest name)
    ]
