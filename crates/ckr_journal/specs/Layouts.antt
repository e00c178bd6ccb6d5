-- What reading a layout answers.
use Rattle.std.specs.Prelude.{◌≡◌, ◌<◌, ℕ, Result, Ok, Err}
use Rattle.ckr_volumes.specs.declared.layout.Layout.{Layout}
use Rattle.ckr_volumes.specs.declared.header.HeaderError.{HeaderError}
use Rattle.ckr_volumes.specs.declared.header.HeaderError.TheVariants as HeaderErrors
use Rattle.ckr_journal.specs.declared.error.LayoutError.{LayoutError}
use Rattle.ckr_journal.specs.declared.error.LayoutError.TheVariants.{Fault, NotFormatted, Version, BadHeader}
use Rattle.ckr_journal.specs.declared.error.FormatError.{FormatError}
use Rattle.ckr_journal.specs.declared.error.FormatError.TheVariants as FormatErrors

-- the answer is what the header says, unless the disk failed
abbrev pub Answers : Result Layout HeaderError → Result Layout LayoutError → Type 0
Answers said (Ok layout) = said ≡ Ok layout
Answers said (Err Fault) = Unit {0}
Answers said (Err NotFormatted) = said ≡ Err HeaderErrors.NotFormatted
Answers said (Err (Version version)) = said ≡ Err (HeaderErrors.Version version)
Answers said (Err (BadHeader offset)) = said ≡ Err (HeaderErrors.BadHeader offset)

-- the disk failed only where its faults rose
abbrev pub LayoutCause : Type 0 → LayoutError → Type 0
LayoutCause rose Fault = rose
LayoutCause rose NotFormatted = Unit {0}
LayoutCause rose (Version version) = Unit {0}
LayoutCause rose (BadHeader offset) = Unit {0}

-- why a disk of this size wasn't formatted for a layout that needs so many bytes
abbrev pub FormatCause : Type 0 → ℕ → ℕ → FormatError → Type 0
FormatCause rose needed bytes FormatErrors.Fault = rose
FormatCause rose needed bytes (FormatErrors.TooSmall need size) = (need ≡ needed) × (size ≡ bytes) × (size < need)
