-- How far the spans of a volume reach, span by span, and whether they leave a hole.
use Rattle.std.specs.Prelude.{ℕ, ◌==◌, ◌&&◌, ◌||◌, ◌≡◌, Bool, true, nat_le, nat_lt, max, if◌then◌else◌, IsTrue, List, [], ◌∷◌}
use Rattle.ckr_library.specs.declared.fronts.Front.{Front}
use Rattle.ckr_library.specs.declared.spread.Span.{Span}
use Rattle.ckr_library.specs.Spread.{rises, span_end}

-- the front of a volume before its first span
abbrev pub fresh : ℕ → Front
fresh volume = record { volume = volume; reach = 0; packed = true }

-- the front of a volume, where the spans before ended with this one
abbrev pub front_on : ℕ → Front → Front
front_on volume front = if front.volume == volume then front else fresh volume

-- the front with one more span of its volume; one of no bytes counts nothing
abbrev pub with_span : Span → Front → Front
with_span span front =
    if span.bytes == 0 then front
    else record { volume = span.volume; reach = max front.reach (span_end span); packed = front.packed && nat_le span.start front.reach }

-- the front behind one more span
abbrev pub front_after : Front → Span → Front
front_after front span = with_span span (front_on span.volume front)

-- the front behind each of the spans
abbrev pub fronts_from : Front → List Span → List Front
fronts_from front [] = []
fronts_from front (span ∷ spans) = front_after front span ∷ fronts_from (front_after front span) spans

-- the front behind all of the spans
abbrev pub front_of : Front → List Span → Front
front_of front [] = front
front_of front (span ∷ spans) = front_of (front_after front span) spans

-- the last of the fronts, and this one where there are none
abbrev pub last_of : Front → List Front → Front
last_of front [] = front
last_of front (next ∷ fronts) = last_of next fronts

-- the spans stand in their order, each with its front
pub record AreSpread (spans : List Span) (fronts : List Front) : Type 0 where
  pub rise : IsTrue (rises spans)
  pub stand : fronts ≡ fronts_from (fresh 0) spans

-- whether a span begins on a lower volume, or on this one before this byte
abbrev pub begins_before : ℕ → ℕ → Span → Bool
begins_before volume end span = nat_lt span.volume volume || (span.volume == volume && nat_lt span.start end)

-- whether a front is of a lower volume, or of this one and has no hole
abbrev pub is_packed_on : ℕ → Front → Bool
is_packed_on volume front = nat_lt front.volume volume || (front.volume == volume && front.packed)
