-- Places at which a list has an item.
use Rattle.std.proofs.Common.{◌≡◌, ◌<◌, ℕ, List, length, Option, Some, None, IsSome, slice_get, refl}
use Rattle.std.proofs.lemmas.Bool.{false≢true}
use Rattle.ckr_base.proofs.Sequences.{get-inside}

-- an item that is there stands before the end
pub some_within : (items : List (List ℕ)) (place : ℕ) → IsSome (slice_get items place) → place < length items
some_within items place some = by (slice_get items place) some (λ item at. get-inside item items place at)
  where
    by : (found : Option (List ℕ)) → IsSome found → ((item : List ℕ) → found ≡ Some item → place < length items) → place < length items
    by None some within = absurd (false≢true some)
    by (Some item) some within = within item refl
