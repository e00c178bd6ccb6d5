-- Finite maps by name, as their entries in ascending order of the names.
use Rattle.std.specs.Prelude.{◌≡◌, ℕ, Bool, not, List, [], ◌∷◌, map, Option, None, Some}
use Rattle.std.specs.declared.cmp.Ordering.{Ordering}
use Rattle.std.specs.Option.{is_some}
use Rattle.std.specs.Ordering.{nat_cmp, eq_by_cmp}
use Rattle.std.specs.Cmp.Lexicographic.{slice_cmp}
use Rattle.std.specs.FinMap.Entries.{find, put, where_key, is_sorted}

-- a name of a data set, as its text
abbrev pub Name : Type 0
Name = List ℕ

-- names are ordered by their bytes, a prefix first
abbrev pub name_cmp : Name → Name → Ordering
name_cmp = slice_cmp nat_cmp

-- what stands under names
abbrev pub Named : Type 0 → Type 0
Named X = List (Name × X)

-- whether two names are the same
abbrev pub same_name : Name → Name → Bool
same_name = eq_by_cmp name_cmp

-- the names in ascending order
abbrev pub names_of : {X : Type 0} → Named X → List Name
names_of named = map (λ entry. entry.0) named

-- whether the names ascend, each standing once
abbrev pub are_named_in_order : {X : Type 0} → Named X → Bool
are_named_in_order named = is_sorted name_cmp named

-- what stands under a name
abbrev pub entry_at : {X : Type 0} → Named X → Name → Option X
entry_at named name = find name_cmp name named

-- whether something stands under a name
abbrev pub has_entry : {X : Type 0} → Named X → Name → Bool
has_entry named name = is_some (entry_at named name)

-- the map with this under the name
abbrev pub with_entry : {X : Type 0} → Name → X → Named X → Named X
with_entry name entry named = put name_cmp name entry named

-- the map with nothing under the name
abbrev pub without_entry : {X : Type 0} → Name → Named X → Named X
without_entry name named = where_key name_cmp (λ other. not (same_name name other)) named

abbrev pub with_change : {X : Type 0} → Name → (X → X) → Named X → Option X → Named X
with_change name change named None = named
with_change name change named (Some entry) = with_entry name (change entry) named

-- the map with a change of what stands under the name, if something does
abbrev pub with_changed : {X : Type 0} → Name → (X → X) → Named X → Named X
with_changed name change named = with_change name change named (entry_at named name)

abbrev pub with_moved : {X : Type 0} → Name → Named X → Option X → Named X
with_moved name to None = without_entry name to
with_moved name to (Some entry) = with_entry name entry to

-- the map `to`, with what the map `from` has under these names
abbrev pub taken_over : {X : Type 0} → List Name → Named X → Named X → Named X
taken_over [] from to = to
taken_over (name ∷ names) from to = with_moved name (taken_over names from to) (entry_at from name)

-- the two maps agree on a name
abbrev pub Agree : {X : Type 0} → Named X → Named X → Name → Type 0
Agree first second name = entry_at first name ≡ entry_at second name

-- something holds of whatever stands under a name
abbrev pub EachEntry : {X : Type 0} → (X → Type 0) → Named X → Type 0
EachEntry Q [] = Unit {0}
EachEntry Q (entry ∷ rest) = Q entry.1 × EachEntry Q rest
