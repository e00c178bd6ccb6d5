-- A new part lies apart from each data set that stands in the list, and the data set that it makes is clear.
use Rattle.std.proofs.Common.{◌≡◌, ◌≤◌, ◌<◌, ◌+◌, ◌*◌, ℕ, zero, suc, Bool, true, false, cond, not, ◌||◌, nat_le, List, [], ◌∷◌, ◌++◌, map, flat_map, length, refl, ap, sym, ◌∙◌, arith}
use Rattle.std.specs.Prelude.{◌==◌}
use Rattle.std.specs.List.{list_all}
use Rattle.std.proofs.Math.Nat.{mul-le-mul_right}
use Rattle.std.proofs.lemmas.Bool.{and_from, or_left, or_right}
use Rattle.ckr_base.proofs.Bools.{and-first, and-second, bool-cases, or-turned}
use Rattle.ckr_base.proofs.Numbers.{equal-itself, equal-true}
use Rattle.ckr_library.specs.declared.sets.DataSet.{DataSet}
use Rattle.ckr_library.specs.declared.sets.Extent.{Extent}
use Rattle.ckr_library.specs.declared.sets.Part.{Part}
use Rattle.ckr_library.specs.declared.spread.Span.{Span}
use Rattle.ckr_library.specs.Catalog.{Holding}
use Rattle.ckr_library.specs.NameMaps.{EachEntry, Name, Named}
use Rattle.ckr_library.specs.Spread.{filed, filed_all, is_before, is_clear, is_on, span_of, spans_of, spans_of_all, spans_of_part}
use Rattle.ckr_library.proofs.Laws.{filter-all}
use Rattle.ckr_volumes.specs.declared.layout.Layout.{Layout}
use Rattle.ckr_volumes.specs.Allocation.{Allotted}
use Rattle.ckr_volumes.specs.Places.{StretchModel, bytes_of, stretch_on, stretches_of, stretches_of_part}
use Rattle.ckr_volumes.specs.Layouts.{StandsIn, are_apart, lists_apart}

-- ---- the spans of each data set

rest_filed : (P : Span → Bool) (span : Span) (filing : List Span) → list_all P (filed span filing) ≡ true → list_all P filing ≡ true
rest_filed P span [] all = refl
rest_filed P span (next ∷ filing) all =
    elim (is_before next span) as (λ b. list_all P (cond b (next ∷ filed span filing) (span ∷ next ∷ filing)) ≡ true → list_all P (next ∷ filing) ≡ true) [
      | true ↦ λ all. and_from (P next) _ (and-first (P next) _ all) (rest_filed P span filing (and-second (P next) _ all))
      | false ↦ λ all. and-second (P span) _ all
    ] all

one_filed : (P : Span → Bool) (span : Span) (filing : List Span) → list_all P (filed span filing) ≡ true → P span ≡ true
one_filed P span [] all = and-first (P span) true all
one_filed P span (next ∷ filing) all =
    elim (is_before next span) as (λ b. list_all P (cond b (next ∷ filed span filing) (span ∷ next ∷ filing)) ≡ true → P span ≡ true) [
      | true ↦ λ all. one_filed P span filing (and-second (P next) _ all)
      | false ↦ λ all. and-first (P span) _ all
    ] all

filed-rest : (P : Span → Bool) (spans filing : List Span) → list_all P (filed_all spans filing) ≡ true → list_all P filing ≡ true
filed-rest P [] filing all = all
filed-rest P (span ∷ spans) filing all = rest_filed P span filing (filed-rest P spans (filed span filing) all)

filed-those : (P : Span → Bool) (spans filing : List Span) → list_all P (filed_all spans filing) ≡ true → list_all P spans ≡ true
filed-those P [] filing all = refl
filed-those P (span ∷ spans) filing all = and_from (P span) _ (one_filed P span filing (filed-rest P spans (filed span filing) all)) (filed-those P spans (filed span filing) all)

-- ---- a stretch that is clear of a span

stretched : (P : Span → Bool) (Q : StretchModel → Bool) (lrecl volume : ℕ) → ((extent : Extent) → P (span_of lrecl volume extent) ≡ true → Q (stretch_on volume extent) ≡ true) → (extents : List Extent) (spans : List Span) (stretches : List StretchModel)
    → (list_all P spans ≡ true → list_all Q stretches ≡ true) → list_all P (map (span_of lrecl volume) extents ++ spans) ≡ true → list_all Q (map (stretch_on volume) extents ++ stretches) ≡ true
stretched P Q lrecl volume each [] spans stretches rest all = rest all
stretched P Q lrecl volume each (extent ∷ extents) spans stretches rest all =
    and_from (Q (stretch_on volume extent)) _ (each extent (and-first (P (span_of lrecl volume extent)) _ all))
    (stretched P Q lrecl volume each extents spans stretches rest (and-second (P (span_of lrecl volume extent)) _ all))

each-stretch : (P : Span → Bool) (Q : StretchModel → Bool) (lrecl : ℕ) → ((volume : ℕ) (extent : Extent) → P (span_of lrecl volume extent) ≡ true → Q (stretch_on volume extent) ≡ true) → (parts : List Part) → list_all P (flat_map (spans_of_part lrecl) parts) ≡ true → list_all Q (flat_map stretches_of_part parts) ≡ true
each-stretch P Q lrecl each [] all = refl
each-stretch P Q lrecl each (part ∷ parts) all =
    stretched P Q lrecl part.volume (each part.volume) part.extents.items _ _ (each-stretch P Q lrecl each parts) all

no_bytes : (records lrecl : ℕ) → 1 ≤ lrecl → (records * lrecl == 0) ≡ true → (records == 0) ≡ true
no_bytes zero lrecl wide none = refl
no_bytes (suc records) lrecl wide none =
    let rows : 1 * lrecl ≤ suc records * lrecl = mul-le-mul_right lrecl (omega arith) in
    absurd (omega (arith, rows, wide, equal-true (suc records * lrecl) 0 none))

-- bytes that are clear of an extent are apart from it
clear-apart : (volume lrecl at records other : ℕ) → 1 ≤ other → (on : ℕ) (extent : Extent) → (not (is_on volume (span_of other on extent)) || is_clear at (records * lrecl) (span_of other on extent)) ≡ true → are_apart lrecl other (record { volume = volume; start = at; records = records }) (stretch_on on extent) ≡ true
clear-apart volume lrecl at records other wide on extent clear =
    bool-cases (volume == on)
    (λ same.
    let here : is_clear at (records * lrecl) (span_of other on extent) ≡ true =
    sym (ap (λ b. not b || is_clear at (records * lrecl) (span_of other on extent)) (ap (λ n. n == volume) (sym (equal-true volume on same)) ∙ equal-itself volume)) ∙ clear in
    or_right (not (volume == on)) _
    (bool-cases (extent.records * other == 0)
    (λ none. or_left (records == 0 || extent.records == 0) _ (or_right (records == 0) _ (no_bytes extent.records other wide none)))
    (λ some.
    let near : (nat_le (extent.start + extent.records * other) at || nat_le (at + records * lrecl) extent.start) ≡ true =
    sym (ap (λ b. b || (nat_le (extent.start + extent.records * other) at || nat_le (at + records * lrecl) extent.start)) some) ∙ here in
    or_right (records == 0 || extent.records == 0) _ (or-turned (nat_le (extent.start + extent.records * other) at) (nat_le (at + records * lrecl) extent.start) near))))
    (λ apart. or_left (not (volume == on)) _ (ap not apart))

-- ---- each data set of the list

-- apart from a stretch
abbrev pub is_clear_of : ℕ → StretchModel → DataSet → Bool
is_clear_of lrecl stretch set = lists_apart lrecl set.lrecl (stretch ∷ []) (stretches_of set)

pub each-clear : (layout : Layout) (volume lrecl at records : ℕ) (sets : Named Holding) → EachEntry (λ (h : Holding). StandsIn layout h.set) sets → list_all (λ span. not (is_on volume span) || is_clear at (records * lrecl) span) (spans_of_all sets) ≡ true
    → list_all (λ (entry : Name × Holding). is_clear_of lrecl (record { volume = volume; start = at; records = records }) entry.1.set) sets ≡ true
each-clear layout volume lrecl at records [] stand clear = refl
each-clear layout volume lrecl at records (entry ∷ rest) stand clear =
    let test : Span → Bool = λ span. not (is_on volume span) || is_clear at (records * lrecl) span in
    let mine : list_all test (spans_of entry.1.set) ≡ true = filed-those test (spans_of entry.1.set) (spans_of_all rest) clear in
    and_from (is_clear_of lrecl (record { volume = volume; start = at; records = records }) entry.1.set) _
    (and_from (list_all (are_apart lrecl entry.1.set.lrecl (record { volume = volume; start = at; records = records })) (stretches_of entry.1.set)) true
    (each-stretch test (are_apart lrecl entry.1.set.lrecl (record { volume = volume; start = at; records = records })) entry.1.set.lrecl (clear-apart volume lrecl at records entry.1.set.lrecl stand.0.lrecl_above) entry.1.set.parts.items mine) refl)
    (each-clear layout volume lrecl at records rest stand.1 (filed-rest test (spans_of entry.1.set) (spans_of_all rest) clear))

-- what is allocated is clear of each
pub allotted-clear : (layout : Layout) (sets : Named Holding) (room volume lrecl space : ℕ) (extents : List Extent) → volume < length layout.volumes.items → 1 ≤ lrecl → 1 ≤ space → EachEntry (λ (h : Holding). StandsIn layout h.set) sets
    → (is : Allotted layout (record { sets = sets; room = room; entry_rooms = [] }) volume lrecl space extents) → list_all (λ (entry : Name × Holding). is_clear_of lrecl (record { volume = volume; start = is.start; records = space }) entry.1.set) sets ≡ true
allotted-clear layout sets room volume lrecl space extents there wide some stand is =
    each-clear layout volume lrecl is.start space sets stand
    (filter-all (is_on volume) (is_clear is.start (space * lrecl)) (spans_of_all sets) (and-second (nat_le (is.start + space * lrecl) (bytes_of layout.volumes.items volume)) _ is.free))
