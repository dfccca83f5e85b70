use Rattle.std.proofs.Common.{List, drop}
use Rattle.rept_streams.specs.Slices.Parts.{LeftPackets}
use Rattle.rept_streams.specs.Slices.Lefts.{AreLeft}
use Rattle.rept_streams.proofs.SlicesLemmas.KeepLemmas.{Greatest}
use Rattle.rept_streams.proofs.slices.keeping.full_from.Given as goal

abbrev pub invariant-loop-window : goal.invariant-loop-window
invariant-loop-window l = (lefts : List LeftPackets) → AreLeft l.windows lefts → Greatest lefts (drop l.window-index l.windows) l.greatest
