-- The bytes of an entry, and the data sets of a step that were there at its point.
use Rattle.std.proofs.Common.{◌≡◌, ◌+◌, ◌++◌, ◌&&◌, ℕ, zero, suc, Bool, true, List, [], ◌∷◌, take, refl, ap, sym, ◌∙◌, append-nil, None, Some, arith}
use Rattle.std.specs.List.{cons_option, filter_map, flat_map, list_all, range_with_len}
use Rattle.std.specs.Option.{is_some, option_map_or}
use Rattle.std.proofs.lemmas.List.{append_assoc}
use Rattle.ckr_entry.specs.declared.point.Mark.{Mark}
use Rattle.ckr_jcl.specs.declared.deck.Dd.{Dd}
use Rattle.ckr_library.specs.Catalog.{records_of}
use Rattle.ckr_library.specs.declared.sets.DataSet.{DataSet}
use Rattle.ckr_meaning.specs.EffectiveJob.{OwnedStep, name_of}
use Rattle.ckr_points.specs.Marks.{present_at}
use Rattle.ckr_desk_entries.specs.EntryRefusal.{are_present}
use Rattle.ckr_steps.specs.EntryRecords.{bytes_on}
use Rattle.ckr_volumes.specs.declared.layout.Layout.{Layout}
use Rattle.ckr_volumes.specs.Records.{record_at}
use Rattle.ckr_desk_entries.specs.Entries.{is_dd_present}

-- ---- the bytes of records one after another

pieces-suc : (f : ℕ → List ℕ) (from count : ℕ) → flat_map f (range_with_len from (suc count)) ≡ flat_map f (range_with_len from count) ++ f (from + count)
pieces-suc f from zero = append-nil (f from) ∙ ap f (let e : from ≡ from + 0 = omega arith in e)
pieces-suc f from (suc count) =
    ap (λ (later : List ℕ). f from ++ later) (pieces-suc f (from + 1) count)
    ∙ sym (append_assoc (f from) (flat_map f (range_with_len (from + 1) count)) (f (from + 1 + count)))
    ∙ ap (λ (k : ℕ). f from ++ flat_map f (range_with_len (from + 1) count) ++ f k) (let e : from + 1 + count ≡ from + suc count = omega arith in e)

-- those of the first records from a place on, so many
unfoldable pub pieces_on : List ℕ → Layout → DataSet → ℕ → ℕ → List ℕ
pieces_on image layout set place count = flat_map (λ n. record_at image layout set (place + n)) (range_with_len 0 count)

pub pieces-none : (image : List ℕ) (layout : Layout) (set : DataSet) (place : ℕ) → pieces_on image layout set place 0 ≡ []
unfolding pieces_on
pieces-none image layout set place = refl

pub pieces-more : (image : List ℕ) (layout : Layout) (set : DataSet) (place count : ℕ) → pieces_on image layout set place (count + 1) ≡ pieces_on image layout set place count ++ record_at image layout set (place + count)
unfolding pieces_on
pieces-more image layout set place count =
    ap (λ (k : ℕ). flat_map (λ n. record_at image layout set (place + n)) (range_with_len 0 k)) (let e : count + 1 ≡ suc count = omega arith in e)
    ∙ pieces-suc (λ n. record_at image layout set (place + n)) 0 count
    ∙ ap (λ (k : ℕ). flat_map (λ n. record_at image layout set (place + n)) (range_with_len 0 count) ++ record_at image layout set (place + k)) (let e : 0 + count ≡ count = omega arith in e)

pub pieces-all : (image : List ℕ) (layout : Layout) (set : DataSet) (place count : ℕ) → take count (pieces_on image layout set place (records_of count)) ≡ bytes_on image layout set place count
unfolding pieces_on bytes_on
pieces-all image layout set place count = refl

pub ruleset pieces = (pieces-none, pieces-more, pieces-all)

-- ---- the data sets of a step

pub dds-present : (marks : List Mark) (run : ℕ) (own : OwnedStep) (dds : List Dd) → list_all (is_dd_present marks run own) dds ≡ are_present marks (filter_map (name_of run own) dds)
dds-present marks run own [] = refl
dds-present marks run own (dd ∷ dds) =
    elim (name_of run own dd) as (λ o.
    (option_map_or (λ name. is_some (present_at marks name)) o true && list_all (is_dd_present marks run own) dds) ≡ are_present marks (cons_option o (filter_map (name_of run own) dds))) [
      | None ↦ dds-present marks run own dds
      | Some one ↦ ap (λ (b : Bool). is_some (present_at marks one) && b) (dds-present marks run own dds)
    ]

pub ruleset present = (dds-present, pieces-none)
