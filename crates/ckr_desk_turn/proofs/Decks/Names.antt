-- Names that are the same, or not.
use Rattle.std.proofs.Common.{◌≡◌, Bool, true, false, refl}
use Rattle.ckr_library.specs.NameMaps.{Name, same_name}
use Rattle.ckr_library.proofs.Named.{name-same}

-- and names that aren't equal
pub not_same : (one other : Name) → (one ≡ other → ⊥) → same_name one other ≡ false
not_same one other apart = by_test (same_name one other) refl
  where
    by_test : (same : Bool) → same_name one other ≡ same → same_name one other ≡ false
    by_test true is = absurd (apart (name-same one other is))
    by_test false is = is
