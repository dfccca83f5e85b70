use Rattle.std.proofs.Common.{List, drop}
use Rattle.rept_streams.specs.Slices.Parts.{LeftPackets, told_in}
use Rattle.rept_streams.specs.Slices.Skipping.{from_time}
use Rattle.rept_streams.specs.Slices.Lefts.{AreLeft}
use Rattle.rept_streams.proofs.SlicesLemmas.WindowLemmas.{Tells}
use Rattle.rept_streams.proofs.slices.telling.tell_all.Given as goal

abbrev pub invariant-loop-window : goal.invariant-loop-window
invariant-loop-window l = (lefts : List LeftPackets) → AreLeft l.windows lefts → Tells told_in lefts (drop l.window-index l.windows) l.both.windows.items × Tells (λ (k : LeftPackets). told_in (from_time l.time k)) lefts (drop l.window-index l.windows) l.both.slices.items
