-- Two inputs in the order of their keys: what is taken of them, and which record comes next.
use Rattle.std.specs.Prelude.{ℕ, Bool, true, false, not, ◌&&◌, if◌then◌else◌, List, [], ◌∷◌, ◌++◌, map, filter, length, slice_get, Option, Some, None}
use Rattle.std.specs.Ordering.{nat_cmp, is_lt}
use Rattle.std.specs.Cmp.Lexicographic.{slice_cmp}
use Rattle.std.specs.List.{list_any}

-- a record with its input, and whether the next record of that input is out of order
pub record Taken : Type 0 where
  pub second : Bool
  pub bytes : List ℕ
  pub faulty : Bool

-- the keys of the records of the first and of the second input, and whether those of the first ascend strictly
pub record Keys : Type 0 where
  pub key : Bool → List ℕ → List ℕ
  pub strict : Bool

-- keys are compared by bytes
abbrev pub is_below : List ℕ → List ℕ → Bool
is_below first second = is_lt (slice_cmp nat_cmp first second)

abbrev pub key_of : Keys → Taken → List ℕ
key_of keys taken = keys.key taken.second taken.bytes

abbrev pub stands_below : Keys → Taken → Taken → Bool
stands_below keys first second = is_below (key_of keys first) (key_of keys second)

-- whether a record may stand before another
abbrev pub may_follow : Keys → Taken → Taken → Bool
may_follow keys before after =
    if not after.second && keys.strict then stands_below keys before after else not (stands_below keys after before)

abbrev pub taken_of : Bool → List ℕ → Taken
taken_of second bytes = record { second = second; bytes = bytes; faulty = false }

-- the longest prefix in order; its last record is faulty if there is more
abbrev pub ordered_prefix : Keys → List Taken → List Taken
ordered_prefix keys [] = []
ordered_prefix keys (first ∷ []) = first ∷ []
ordered_prefix keys (first ∷ next ∷ rest) =
    if may_follow keys first next
    then first ∷ ordered_prefix keys (next ∷ rest)
    else record first { faulty = true } ∷ []

-- a record before the first one whose key isn't below its own
abbrev pub inserted : Keys → Taken → List Taken → List Taken
inserted keys taken [] = taken ∷ []
inserted keys taken (first ∷ rest) =
    if stands_below keys first taken then first ∷ inserted keys taken rest else taken ∷ first ∷ rest

-- the stable sort by key
abbrev pub sorted_by_key : Keys → List Taken → List Taken
sorted_by_key keys [] = []
sorted_by_key keys (first ∷ rest) = inserted keys first (sorted_by_key keys rest)

-- the records up to the first faulty one, and this one
abbrev pub up_to_fault : List Taken → List Taken
up_to_fault [] = []
up_to_fault (first ∷ rest) = if first.faulty then first ∷ [] else first ∷ up_to_fault rest

-- the longest ordered prefix of an input
abbrev pub prefix_of : Keys → Bool → List (List ℕ) → List Taken
prefix_of keys second input = ordered_prefix keys (map (taken_of second) input)

-- the records that are taken, in order
unfoldable pub taken_from : Keys → List (List ℕ) → List (List ℕ) → List Taken
taken_from keys first second = up_to_fault (sorted_by_key keys (prefix_of keys false first ++ prefix_of keys true second))

-- whether a record out of order cut the list
abbrev pub is_cut : List Taken → Bool
is_cut taken = list_any (λ one. one.faulty) taken

-- the records of the first input, and of the second
abbrev pub of_first : List Taken → List Taken
of_first taken = filter (λ one. not one.second) taken

abbrev pub of_second : List Taken → List Taken
of_second taken = filter (λ one. one.second) taken

-- the record with the smaller key, the first input's where they are equal
abbrev pub chosen : Keys → Option (List ℕ) → Option (List ℕ) → Option Taken
chosen keys None None = None
chosen keys (Some first) None = Some (taken_of false first)
chosen keys None (Some second) = Some (taken_of true second)
chosen keys (Some first) (Some second) =
    if is_below (keys.key true second) (keys.key false first) then Some (taken_of true second) else Some (taken_of false first)

-- the record that comes next behind the records taken
abbrev pub next_of : Keys → List (List ℕ) → List (List ℕ) → List Taken → Option Taken
next_of keys first second taken =
    chosen keys (slice_get first (length (of_first taken))) (slice_get second (length (of_second taken)))
