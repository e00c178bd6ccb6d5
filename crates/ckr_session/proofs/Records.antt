-- What is counted of data sets.
use Rattle.std.proofs.Common.{◌≡◌, ◌+◌, ℕ, List, [], ◌∷◌, ◌++◌, take, Some, None, slice_get, refl, sym, ap, ◌∙◌}
use Rattle.std.proofs.lemmas.List.{take_all, take_more}
use Rattle.std.proofs.lemmas.Option.{get_or_from_slice_get, slice_get_within}
use Rattle.ckr_library.specs.declared.sets.DataSet.{DataSet}
use Rattle.ckr_library.specs.NameMaps.{Name}
use Rattle.ckr_session.specs.Counts.{records_behind, with_set}
use Rattle.ckr_session.proofs.Lists.{past}

records_last : (count : ℕ) (lines : List (Name × DataSet)) (line : Name × DataSet) → records_behind count (lines ++ line ∷ []) ≡ with_set (records_behind count lines) line.1
records_last count [] line = refl
records_last count (first ∷ rest) line = records_last (with_set count first.1) rest line

-- with the next data set
pub records_more : (lines : List (Name × DataSet)) (n : ℕ) (line : Name × DataSet) (count now : ℕ) → Some line ≡ slice_get lines n → count ≡ records_behind 0 (take n lines) → now ≡ with_set count line.1
    → now ≡ records_behind 0 (take (n + 1) lines)
records_more lines n line count now found so is =
    let more : take (n + 1) lines ≡ take n lines ++ line ∷ [] =
    take_more lines n line (slice_get_within lines n line (sym found)) ∙ ap (λ y. take n lines ++ y ∷ []) (get_or_from_slice_get lines n line line (sym found)) in
    is ∙ ap (λ (k : ℕ). with_set k line.1) so ∙ sym (records_last 0 (take n lines) line) ∙ ap (records_behind 0) (sym more)

-- there is none behind the last
pub records_all : (lines : List (Name × DataSet)) (n count : ℕ) → None ≡ slice_get lines n → count ≡ records_behind 0 (take n lines) → count ≡ records_behind 0 lines
records_all lines n count none so = so ∙ ap (records_behind 0) (take_all n lines (past lines n none))
