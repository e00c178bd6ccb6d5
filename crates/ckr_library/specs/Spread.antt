-- Where the data sets of a library stand on the volumes: their spans, in the order of volume and start.
use Rattle.std.specs.Prelude.{ℕ, nat_lt, nat_le, max, ◌+◌, ◌*◌, ◌==◌, ◌&&◌, ◌||◌, Bool, true, not, cond, if◌then◌else◌, List, [], ◌∷◌, map, flat_map, filter}
use Rattle.std.specs.Ordering.{nat_cmp, ordering_then, is_lt, is_eq}
use Rattle.std.specs.declared.cmp.Ordering.{Ordering}
use Rattle.ckr_library.specs.declared.sets.DataSet.{DataSet}
use Rattle.ckr_library.specs.declared.sets.Extent.{Extent}
use Rattle.ckr_library.specs.declared.sets.Part.{Part}
use Rattle.ckr_library.specs.declared.spread.Span.{Span}
use Rattle.ckr_library.specs.Catalog.{Holding}
use Rattle.ckr_library.specs.NameMaps.{Named}

-- the bytes of a volume that an extent takes
abbrev pub span_of : ℕ → ℕ → Extent → Span
span_of lrecl volume extent = record { volume = volume; start = extent.start; bytes = extent.records * lrecl }

abbrev pub spans_of_part : ℕ → Part → List Span
spans_of_part lrecl part = map (span_of lrecl part.volume) part.extents.items

-- the spans of a data set, part by part
abbrev pub spans_of : DataSet → List Span
spans_of set = flat_map (spans_of_part set.lrecl) set.parts.items

-- the order of volume, then start, then length
abbrev pub span_cmp : Span → Span → Ordering
span_cmp one other = ordering_then (nat_cmp one.volume other.volume) (ordering_then (nat_cmp one.start other.start) (nat_cmp one.bytes other.bytes))

-- whether a span stands before the other one
abbrev pub is_before : Span → Span → Bool
is_before one other = is_lt (span_cmp one other)

-- the list with this span at its place
abbrev pub filed : Span → List Span → List Span
filed span [] = span ∷ []
filed span (first ∷ rest) = cond (is_before first span) (first ∷ filed span rest) (span ∷ first ∷ rest)

abbrev pub filed_all : List Span → List Span → List Span
filed_all [] filing = filing
filed_all (span ∷ spans) filing = filed_all spans (filed span filing)

-- the list without this span, if it stands at its place
abbrev pub unfiled : Span → List Span → List Span
unfiled span [] = []
unfiled span (first ∷ rest) = cond (is_before first span) (first ∷ unfiled span rest) (cond (is_eq (span_cmp first span)) rest (first ∷ rest))

abbrev pub unfiled_all : List Span → List Span → List Span
unfiled_all [] filing = filing
unfiled_all (span ∷ spans) filing = unfiled_all spans (unfiled span filing)

-- the spans of all data sets, in their order
abbrev pub spans_of_all : Named Holding → List Span
spans_of_all [] = []
spans_of_all (entry ∷ entries) = filed_all (spans_of entry.1.set) (spans_of_all entries)

-- whether a span lies on a volume
abbrev pub is_on : ℕ → Span → Bool
is_on volume span = span.volume == volume

-- whether a span lies on a lower volume
abbrev pub is_below : ℕ → Span → Bool
is_below volume span = nat_lt span.volume volume

-- whether a span lies on this volume or on a lower one
abbrev pub is_at_most : ℕ → Span → Bool
is_at_most volume span = nat_le span.volume volume

-- the spans of all data sets on a volume, in ascending order of their starts
abbrev pub spread_on : ℕ → Named Holding → List Span
spread_on volume sets = filter (is_on volume) (spans_of_all sets)

-- whether no span of the list stands before this one
abbrev pub is_first : Span → List Span → Bool
is_first span [] = true
is_first span (other ∷ others) = not (is_before other span) && is_first span others

-- whether each span stands where none that follows is before it
abbrev pub rises : List Span → Bool
rises [] = true
rises (span ∷ spans) = is_first span spans && rises spans

-- what a contract sees of a list of spans: the spans, and how many more fit with no memory taken
pub record Filing : Type 0 where
  pub spans : List Span
  pub room : ℕ

-- whether the spans ascend by their starts, from this byte on
abbrev pub ascends : ℕ → List Span → Bool
ascends from [] = true
ascends from (span ∷ spans) = nat_le from span.start && ascends span.start spans

-- the byte behind a span
abbrev pub span_end : Span → ℕ
span_end span = span.start + span.bytes

-- whether a span has none of so many bytes of its volume, from this one on
abbrev pub is_clear : ℕ → ℕ → Span → Bool
is_clear start bytes span = span.bytes == 0 || (nat_le (span_end span) start || nat_le (start + bytes) span.start)

-- where the spans ascend by their starts, the byte up to which they follow on one another from this one on, with no hole between them
abbrev pub packed_to : ℕ → List Span → ℕ
packed_to from [] = from
packed_to from (span ∷ spans) =
    if span.bytes == 0 then packed_to from spans
    else if nat_le span.start from then packed_to (max from (span_end span)) spans
    else from

-- the spans behind the first hole
abbrev pub behind_packed : ℕ → List Span → List Span
behind_packed from [] = []
behind_packed from (span ∷ spans) =
    if span.bytes == 0 then behind_packed from spans
    else if nat_le span.start from then behind_packed (max from (span_end span)) spans
    else span ∷ spans
