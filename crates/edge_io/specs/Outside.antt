-- What contracts see of a source and a sink over std's traits: how many of their calls failed, and what they stand on.
use Rattle.std.specs.Prelude.{ℕ}
use Rattle.edge_io.specs.declared.std_source.StdSource.{StdSource}
use Rattle.edge_io.specs.declared.std_sink.StdSink.{StdSink}

-- how many reads have failed
abbrev pub source_faults : {R : Type 0} → StdSource R → ℕ
source_faults source = source.faults

-- how many writes have failed
abbrev pub sink_faults : {W : Type 0} → StdSink W → ℕ
sink_faults sink = sink.faults

-- the reader that the source stands on
abbrev pub source_reader : {R : Type 0} → StdSource R → R
source_reader source = source.reader

-- the writer that the sink stands on
abbrev pub sink_writer : {W : Type 0} → StdSink W → W
sink_writer sink = sink.writer
