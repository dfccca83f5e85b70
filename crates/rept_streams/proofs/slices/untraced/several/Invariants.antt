use Rattle.std.proofs.Common.{◌≤◌, List, drop}
use Rattle.rept_streams.specs.Slices.Parts.{LeftPackets}
use Rattle.rept_streams.specs.Slices.Lefts.{AreLeft}
use Rattle.rept_streams.proofs.SlicesLemmas.KeepLemmas.{Opens}
use Rattle.rept_streams.proofs.slices.untraced.several.Given as goal

abbrev pub invariant-loop-window : goal.invariant-loop-window
invariant-loop-window l = ((lefts : List LeftPackets) → AreLeft l.windows lefts → Opens lefts (drop l.window-index l.windows) l.count) × (l.count ≤ l.window-index)
