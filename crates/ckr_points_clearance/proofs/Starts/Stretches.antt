-- The data set that a DD makes, by the stretches of its items.
use Rattle.std.proofs.Common.{◌≡◌, ℕ, ◌+◌, ◌*◌, ◌≤◌, ◌==◌, ◌&&◌, ◌||◌, Bool, true, false, not, cond, nat_le, nat_lt, List, [], ◌∷◌, ◌++◌, length, map, filter, sum_by, refl, ap, sym, ◌∙◌, arith}
use Rattle.std.specs.List.{list_all}
use Rattle.std.proofs.Math.Nat.{mul-le-mul_left}
use Rattle.std.proofs.lemmas.Bool.Decides.{nat_tests}
use Rattle.std.proofs.lemmas.List.{map-append}
use Rattle.std.proofs.lemmas.List.Folds.{list_all-map}
use Rattle.std.proofs.lemmas.List.Sums.{sum_by-cons}
use Rattle.ckr_base.proofs.Bools.{and-assoc}
use Rattle.ckr_base.proofs.Numbers.{equal-from}
use Rattle.ckr_base.proofs.Sequences.{all-same}
use Rattle.ckr_events.specs.declared.event.Made.{Made}
use Rattle.ckr_events.specs.declared.event.Piece.{Piece}
use Rattle.ckr_library.specs.declared.sets.Part.{Part}
use Rattle.ckr_meaning.specs.Allotments.{DdAllotment, space_for}
use Rattle.ckr_points.specs.Tables.{part_of, parts_from}
use Rattle.ckr_points.specs.Follows.{lies_clear, stands_in}
use Rattle.ckr_points.specs.Rows.{TableSet}
use Rattle.ckr_volumes.specs.declared.layout.Layout.{Layout}
use Rattle.ckr_volumes.specs.Places.{StretchModel as StretchOfSet, records_in, stretches_of_part, stretches_of_parts}
use Rattle.ckr_volumes.specs.Layouts.{all_apart, are_apart, is_inside, lists_apart, sums_up}
use Rattle.ckr_points_clearance.specs.Clearance.{clears}
use Rattle.ckr_points_clearance.specs.Stretches.{apart_from, each_apart, gathered, records_of_all, stretch_in, stretch_now}
use Rattle.ckr_points_clearance.specs.Placements.{set_made}
use Rattle.ckr_points_clearance.specs.declared.stretches.Stretch.{Stretch}
use Rattle.ckr_library.specs.NameMaps.{Named}
use Rattle.ckr_points_clearance.proofs.Starts.Spans.{clear-stretches}
use Rattle.ckr_points_clearance.proofs.Lists.{all-filtered}

-- the stretches of a DD's items are those of its parts
pub gathered-parts : (number : ℕ) (items : List Made) → map stretch_now (gathered number items) ≡ stretches_of_parts (parts_from number items)
gathered-parts number [] = refl
gathered-parts number (item ∷ items) =
    elim (item.dd == number) as
    (λ b. map stretch_now (cond b (map (stretch_in item.volume) item.pieces.items ++ gathered number items) (gathered number items))
    ≡ stretches_of_parts (map part_of (cond b (item ∷ filter (λ (one : Made). one.dd == number) items) (filter (λ (one : Made). one.dd == number) items)))) [
      | true ↦ map-append stretch_now (map (stretch_in item.volume) item.pieces.items) (gathered number items)
          ∙ (λ i. pieces item.volume item.pieces.items i ++ gathered-parts number items i)
      | false ↦ gathered-parts number items
    ]
  where
    pieces : (volume : ℕ) (some : List Piece) → map stretch_now (map (stretch_in volume) some) ≡ stretches_of_part (record { volume = volume; extents = record { items = map (λ (piece : Piece). record { start = piece.start; records = piece.records }) some }; records = sum_by (λ (piece : Piece). piece.records) some })
    pieces volume [] = refl
    pieces volume (piece ∷ some) = ap (λ rest. stretch_now (stretch_in volume piece) ∷ rest) (pieces volume some)

-- ---- apart

pub apart-mapped : (lrecl : ℕ) (all : List Stretch) → each_apart lrecl all ≡ all_apart lrecl (map stretch_now all)
apart-mapped lrecl [] = refl
apart-mapped lrecl (one ∷ rest) =
    let here = sym (list_all-map (are_apart lrecl lrecl (stretch_now one)) stretch_now rest) in
    λ i. here i && apart-mapped lrecl rest i

pub lists-mapped : (lrecl other_lrecl : ℕ) (ones others : List Stretch) → list_all (λ (one : Stretch). apart_from lrecl other_lrecl one others) ones ≡ lists_apart lrecl other_lrecl (map stretch_now ones) (map stretch_now others)
lists-mapped lrecl other_lrecl ones others =
    all-same (λ (one : Stretch). apart_from lrecl other_lrecl one others) (λ (one : Stretch). list_all (are_apart lrecl other_lrecl (stretch_now one)) (map stretch_now others))
    (λ one. sym (list_all-map (are_apart lrecl other_lrecl (stretch_now one)) stretch_now others)) ones
    ∙ sym (list_all-map (λ one. list_all (are_apart lrecl other_lrecl one) (map stretch_now others)) stretch_now ones)

-- ---- records

pub records-mapped : (all : List Stretch) → records_of_all all ≡ records_in (map stretch_now all)
records-mapped [] = refl
records-mapped (one ∷ rest) = ap (λ n. one.records + n) (records-mapped rest)

records-append : (some more : List StretchOfSet) → records_in (some ++ more) ≡ records_in some + records_in more
records-append [] more = omega arith
records-append (one ∷ some) more = omega (arith, records-append some more)

-- what the pieces of an item sum to
part-records : (item : Made) → (part_of item).records ≡ records_in (stretches_of_part (part_of item))
part-records item = each item.volume item.pieces.items
  where
    each : (volume : ℕ) (some : List Piece) → sum_by (λ (piece : Piece). piece.records) some ≡ records_in (stretches_of_part (record { volume = volume; extents = record { items = map (λ (piece : Piece). record { start = piece.start; records = piece.records }) some }; records = 0 }))
    each volume [] = refl
    each volume (piece ∷ some) = sum_by-cons (λ (one : Piece). one.records) piece some ∙ ap (λ n. piece.records + n) (each volume some)

sums : (items : List Made) → list_all sums_up (map part_of items) ≡ true
sums [] = refl
sums (item ∷ items) = (λ i. equal-from (part_of item).records (records_in (stretches_of_part (part_of item))) (part-records item) i && sums items i)

summed : (items : List Made) → sum_by (λ (part : Part). part.records) (map part_of items) ≡ records_in (stretches_of_parts (map part_of items))
summed [] = refl
summed (item ∷ items) =
    sum_by-cons (λ (part : Part). part.records) (part_of item) (map part_of items)
    ∙ (λ i. part-records item i + summed items i)
    ∙ sym (records-append (stretches_of_part (part_of item)) (stretches_of_parts (map part_of items)))

-- ---- the data set

pub stands-by : (layout : Layout) (one : DdAllotment) (items : List Made) (on inside apart sized sums_to : Bool)
    → on ≡ list_all (λ (item : Made). not (item.dd == one.number) || nat_lt item.volume (length layout.volumes.items)) items
    → inside ≡ list_all (λ (stretch : Stretch). is_inside layout.volumes.items one.dd.lrecl (stretch_now stretch)) (gathered one.number items)
    → apart ≡ each_apart one.dd.lrecl (gathered one.number items)
    → sums_to ≡ (records_of_all (gathered one.number items) == space_for one.dd)
    → sized ≡ ((nat_le 1 one.dd.lrecl && nat_le one.dd.lrecl 256) && (nat_le 1 (space_for one.dd) && nat_le (space_for one.dd) 1000000))
    → ((((on && inside) && apart) && sums_to) && sized) ≡ stands_in layout (set_made items one)
stands-by layout one items on inside apart sized sums_to on_is inside_is apart_is sums_is sized_is =
    (λ i. ((((on_same i && inside_same i) && apart_same i) && sum_same i) && sized_is i))
    ∙ shape
    (list_all (λ (part : Part). nat_lt part.volume (length layout.volumes.items)) (parts_from one.number items))
    (list_all (is_inside layout.volumes.items one.dd.lrecl) (stretches_of_parts (parts_from one.number items)))
    (all_apart one.dd.lrecl (stretches_of_parts (parts_from one.number items)))
    (list_all sums_up (parts_from one.number items))
    (sum_by (λ (part : Part). part.records) (parts_from one.number items) == space_for one.dd)
    (nat_le 0 (space_for one.dd))
    (nat_le 1 one.dd.lrecl) (nat_le one.dd.lrecl 256) (nat_le 1 (space_for one.dd)) (nat_le (space_for one.dd) 1000000)
    (sums (filter (λ (item : Made). item.dd == one.number) items)) (least (space_for one.dd))
  where
    least : (n : ℕ) → nat_le 0 n ≡ true
    least n = grind (arith, nat_tests)

    on_same : on ≡ list_all (λ (part : Part). nat_lt part.volume (length layout.volumes.items)) (parts_from one.number items)
    on_same =
        on_is
        ∙ sym (all-filtered (λ (item : Made). item.dd == one.number) (λ (item : Made). nat_lt item.volume (length layout.volumes.items)) items)
        ∙ sym (list_all-map (λ (part : Part). nat_lt part.volume (length layout.volumes.items)) part_of (filter (λ (item : Made). item.dd == one.number) items))

    inside_same : inside ≡ list_all (is_inside layout.volumes.items one.dd.lrecl) (stretches_of_parts (parts_from one.number items))
    inside_same =
        inside_is
        ∙ sym (list_all-map (is_inside layout.volumes.items one.dd.lrecl) stretch_now (gathered one.number items))
        ∙ ap (list_all (is_inside layout.volumes.items one.dd.lrecl)) (gathered-parts one.number items)

    apart_same : apart ≡ all_apart one.dd.lrecl (stretches_of_parts (parts_from one.number items))
    apart_same = apart_is ∙ apart-mapped one.dd.lrecl (gathered one.number items) ∙ ap (all_apart one.dd.lrecl) (gathered-parts one.number items)

    sum_same : sums_to ≡ (sum_by (λ (part : Part). part.records) (parts_from one.number items) == space_for one.dd)
    sum_same =
        sums_is
        ∙ ap (λ n. n == space_for one.dd)
        (records-mapped (gathered one.number items) ∙ ap records_in (gathered-parts one.number items) ∙ sym (summed (filter (λ (item : Made). item.dd == one.number) items)))

    shape : (a b c d e f g h j k : Bool) → d ≡ true → f ≡ true → ((((a && b) && c) && e) && ((g && h) && (j && k))) ≡ (a && b && c && d && e && f && g && h && j && k)
    shape false b c d e f g h j k ds fs = refl
    shape true false c d e f g h j k ds fs = refl
    shape true true false d e f g h j k ds fs = refl
    shape true true true d e f g h j k ds fs =
        last e g h j k
        ∙ sym (λ i. ds i && e && fs i && g && h && j && k)
      where
        last : (e g h j k : Bool) → (e && ((g && h) && (j && k))) ≡ (true && e && true && g && h && j && k)
        last false g h j k = refl
        last true false h j k = refl
        last true true h j k = and-assoc h j k

-- ---- lists of stretches

pub apart-by : (lrecl other_lrecl number other : ℕ) (items : List Made) (ones others : List Stretch) → ones ≡ gathered number items → others ≡ gathered other items
    → list_all (λ (one : Stretch). apart_from lrecl other_lrecl one others) ones ≡ lists_apart lrecl other_lrecl (stretches_of_parts (parts_from number items)) (stretches_of_parts (parts_from other items))
apart-by lrecl other_lrecl number other items ones others is other_is =
    lists-mapped lrecl other_lrecl ones others
    ∙ (λ i. lists_apart lrecl other_lrecl (map stretch_now (is i)) (map stretch_now (other_is i)))
    ∙ (λ i. lists_apart lrecl other_lrecl (gathered-parts number items i) (gathered-parts other items i))

pub few-times : (n k : ℕ) → k ≤ 5 → n * k ≤ n * 5
few-times n k few = mul-le-mul_left n few

-- what the code tests of the stretches of a DD
abbrev pub standing_form : Layout → DdAllotment → List Made → List Stretch → ℕ → Bool
standing_form layout one items stretches space =
    list_all (λ (item : Made). not (item.dd == one.number) || nat_lt item.volume (length layout.volumes.items)) items
    && list_all (λ (stretch : Stretch). is_inside layout.volumes.items one.dd.lrecl (stretch_now stretch)) stretches
    && each_apart one.dd.lrecl stretches
    && records_of_all stretches == space
    && ((nat_le 1 one.dd.lrecl && nat_le one.dd.lrecl 256) && (nat_le 1 space && nat_le space 1000000))

pub stands-form : (layout : Layout) (one : DdAllotment) (items : List Made) → standing_form layout one items (gathered one.number items) (space_for one.dd) ≡ stands_in layout (set_made items one)
stands-form layout one items = stands-by layout one items _ _ _ _ _ refl refl refl refl refl

pub clear-by : (sets : Named TableSet) (one : DdAllotment) (items : List Made) (stretches : List Stretch) → stretches ≡ gathered one.number items
    → list_all (λ (stretch : Stretch). clears sets one.dd.lrecl (stretch_now stretch)) stretches ≡ lies_clear sets (set_made items one)
clear-by sets one items stretches is =
    sym (list_all-map (clears sets one.dd.lrecl) stretch_now stretches)
    ∙ ap (list_all (clears sets one.dd.lrecl)) (ap (map stretch_now) is ∙ gathered-parts one.number items)
    ∙ sym (clear-stretches sets (set_made items one))
