-- Data sets for checkpoints: their records have 256 bytes, in which entries are written.
use Rattle.std.specs.Prelude.{◌≡◌}
use Rattle.ckr_library.specs.declared.sets.Content.TheVariants.{Checkpoints}
use Rattle.ckr_library.specs.NameMaps.{EachEntry, Named}
use Rattle.ckr_points.specs.Rows.{TableSet}

abbrev pub HasCheckRecords : TableSet → Type 0
HasCheckRecords table = table.set.content ≡ Checkpoints → table.set.lrecl ≡ 256

-- each data set that is one for checkpoints
abbrev pub HaveCheckRecords : Named TableSet → Type 0
HaveCheckRecords sets = EachEntry HasCheckRecords sets
