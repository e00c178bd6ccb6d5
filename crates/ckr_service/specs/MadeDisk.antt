-- The disk that `make` formats.
use Rattle.std.specs.Prelude.{◌≡◌, ℕ, List, [], ◌∷◌, codes}
use Rattle.ckr_outside.specs.Faults.{Rose}
use Rattle.ckr_session.specs.Model.Layout.{Layout}
use Rattle.ckr_desk_format.specs.declared.command.FormatOutcome.{FormatOutcome}
use Rattle.ckr_desk_format.specs.declared.command.FormatOutcome.TheVariants.{Formatted, DiskFailed, NoMemory}
use Rattle.ckr_desk_format.specs.Formats.{FormatsBy, IsFormatted}
use Rattle.ckr_desk_format.specs.Installation.{default_codes}

-- the layout that the cards of `make` ask for: two initiators, one unit, and behind the book one volume
unfoldable pub made_layout : Layout
made_layout = record {
  version = 1;
  initiators = 2;
  units = 1;
  volumes = record { items = record { serial = codes "GEN001"; start = 33554944; bytes = 16777216 } ∷ [] };
  eligible = record { items = default_codes };
  book = 33554432;
  image = 0;
}

module _ {D : Type 0} (told : Type 0) (content : D → List ℕ) (may_leave : D → List ℕ → Type 0) (moment : D → ℕ) (left_since : D → ℕ → List ℕ → Type 0) (size faults : D → ℕ) where
  -- nothing but what formatting by this layout does has become of the disk
  abbrev pub FormatsMade : D → D → Type 0
  FormatsMade old new = FormatsBy told content may_leave moment left_since (size old) old new made_layout

  -- How formatting a disk that is large enough ends: it is formatted by this layout, or it failed, or there was no memory and it is as before. The
  -- cards are such that they aren't refused.
  abbrev pub FormatsSo : FormatOutcome → D → D → Type 0
  FormatsSo Formatted old new = IsFormatted told (content new) (may_leave new) (size new) made_layout × FormatsMade old new
  FormatsSo DiskFailed old new = Rose (faults old) (faults new) × FormatsMade old new
  FormatsSo NoMemory old new = new ≡ old
  FormatsSo _ old new = ⊥
