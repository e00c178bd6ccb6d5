-- What stands in an adapter.
use Rattle.std.specs.Prelude.{ℕ}
use Rattle.ckr_outside.specs.declared.adapters.StdSource.{StdSource}
use Rattle.ckr_outside.specs.declared.adapters.StdSink.{StdSink}

abbrev pub reader_of : {R : Type 0} → StdSource R → R
reader_of source = source.inner

abbrev pub reader_faults : {R : Type 0} → StdSource R → ℕ
reader_faults source = source.failures

abbrev pub writer_of : {W : Type 0} → StdSink W → W
writer_of sink = sink.inner

abbrev pub writer_faults : {W : Type 0} → StdSink W → ℕ
writer_faults sink = sink.failures
