use Rattle.rept_streams.specs.Slices.Raw.{streams_of}
use Rattle.rept_streams.proofs.SlicesLemmas.ReadLemmas.{Read}
use Rattle.rept_streams.proofs.slices.reading.read_all.Given as goal

abbrev pub invariant-loop-s : goal.invariant-loop-s
invariant-loop-s l = Read l.from (streams_of l.streams) l.s l.number l.windows.items
