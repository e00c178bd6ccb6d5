-- What clauses see of a source that never fails.
use Rattle.std.specs.Prelude.{ℕ, List, drop}
use Rattle.ckr_service.specs.declared.faultless.Bytes.{Bytes}

abbrev pub bytes_left : Bytes → List ℕ
bytes_left source = drop source.at source.bytes.items
