-- A book that was read, and the entries behind it.
use Rattle.std.proofs.Common.{◌≡◌, ◌-◌, ℕ, List, ap, ◌∙◌, Option, None}
use Rattle.ckr_outside.specs.Disk.{part}
use Rattle.ckr_points.specs.Rows.{TablesModel}
use Rattle.ckr_volumes.specs.declared.layout.Layout.{Layout}
use Rattle.ckr_desk.specs.declared.error.OpenError.{OpenError}
use Rattle.ckr_desk.specs.declared.error.OpenError.TheVariants as OpenErrors
use Rattle.ckr_desk.specs.Entries.{bad_entry}
use Rattle.ckr_desk.specs.Points.{EntriesCause}
use Rattle.ckr_desk.specs.Opening.{by_book, by_entries, opened_at, refused_or}
use Rattle.ckr_desk.specs.Replay.{IsReadTo, IsReplayedTo, OpenCause, ReplayCause}

module _ (layout : Layout) (image : List ℕ) (tables : TablesModel) (end : ℕ) (replayed : IsReplayedTo layout (part 512 layout.book image) tables end) where
  refused-so : (refused : Option (ℕ × ℕ)) → bad_entry layout tables image ≡ refused → by_entries image (by_book layout (part 512 layout.book image)) ≡ refused_or (opened_at layout tables (layout.book - end)) refused
  refused-so refused is = ap (by_entries image) replayed.opens ∙ ap (refused_or (opened_at layout tables (layout.book - end))) is

  pub read-so : bad_entry layout tables image ≡ None → IsReadTo layout image tables end
  read-so none = record { opens = refused-so None none; is_end = replayed.is_end; closed = replayed.closed }

-- why the events weren't read
pub replay-cause : (rose told : Type 0) (layout : Layout) (image : List ℕ) (error : OpenError) → ReplayCause rose told layout (part 512 layout.book image) error
    → OpenCause rose told (by_entries image (by_book layout (part 512 layout.book image))) error
replay-cause rose told layout image OpenErrors.NoMemory cause = tt
replay-cause rose told layout image OpenErrors.Fault cause = cause
replay-cause rose told layout image OpenErrors.NotFormatted cause = λ is. ap (by_entries image) (cause is)
replay-cause rose told layout image (OpenErrors.Version version) cause = λ is. ap (by_entries image) (cause is)
replay-cause rose told layout image (OpenErrors.BadHeader offset) cause = λ is. ap (by_entries image) (cause is)
replay-cause rose told layout image (OpenErrors.BadBook offset) cause = λ is. ap (by_entries image) (cause is)
replay-cause rose told layout image (OpenErrors.BadEntry job offset) cause = λ is. ap (by_entries image) (cause is)

-- or an entry was refused
pub entries-cause : (rose before told : Type 0) (layout : Layout) (image : List ℕ) (tables : TablesModel) (end : ℕ) (error : OpenError) → (rose → before)
    → (told → IsReplayedTo layout (part 512 layout.book image) tables end) → EntriesCause rose told (bad_entry layout tables image) error
    → OpenCause before told (by_entries image (by_book layout (part 512 layout.book image))) error
entries-cause rose before told layout image tables end OpenErrors.NoMemory earlier replayed cause = tt
entries-cause rose before told layout image tables end OpenErrors.Fault earlier replayed cause = earlier cause
entries-cause rose before told layout image tables end (OpenErrors.BadEntry job offset) earlier replayed cause = λ is. refused-so layout image tables end (replayed is) _ (cause is)
entries-cause rose before told layout image tables end _ earlier replayed cause = absurd cause
