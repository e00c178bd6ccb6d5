-- What clauses see of a source and a sink in memory.
use Rattle.std.specs.Prelude.{ℕ, List, drop}
use Rattle.ckr_outside.specs.Plan.{listed_calls}
use Rattle.ckr_outside.specs.declared.memory_source.MemSource.{MemSource}
use Rattle.ckr_outside.specs.declared.memory_sink.MemSink.{MemSink}

abbrev pub bytes_left : MemSource → List ℕ
bytes_left source = drop source.at source.bytes.items

-- the numbers of the calls that fail
abbrev pub source_failing : MemSource → List ℕ
source_failing source = listed_calls source.plan.failing

-- the number of the next call
abbrev pub source_calls : MemSource → ℕ
source_calls source = source.plan.next

abbrev pub source_faults : MemSource → ℕ
source_faults source = source.plan.faults

abbrev pub sink_text : MemSink → List ℕ
sink_text sink = sink.text.items

-- the numbers of the calls that fail
abbrev pub sink_failing : MemSink → List ℕ
sink_failing sink = listed_calls sink.plan.failing

-- the number of the next call
abbrev pub sink_calls : MemSink → ℕ
sink_calls sink = sink.plan.next

abbrev pub sink_faults : MemSink → ℕ
sink_faults sink = sink.plan.faults

-- how many of its faults were want of memory
abbrev pub sink_lacks : MemSink → ℕ
sink_lacks sink = sink.plan.lacks
