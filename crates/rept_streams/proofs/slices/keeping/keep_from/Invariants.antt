use Rattle.std.proofs.Common.{◌≡◌, ◌+◌, List, drop}
use Rattle.std.specs.List.{sum_by}
use Rattle.rept_streams.specs.Slices.Parts.{LeftPackets}
use Rattle.rept_streams.specs.Slices.Lefts.{AreLeft}
use Rattle.rept_streams.specs.declared.slices.reading.StreamWindow.{StreamWindow}
use Rattle.rept_streams.proofs.SlicesLemmas.KeepLemmas.{Keeps}
use Rattle.rept_streams.proofs.slices.keeping.keep_from.Given as goal

abbrev pub invariant-loop-window : goal.invariant-loop-window
invariant-loop-window l =
    ((lefts : List LeftPackets) → AreLeft l.windows lefts → Keeps l.time lefts (drop l.window-index l.windows) l.left.items)
    × (sum_by (λ (w : StreamWindow). w.count) l.left.items + sum_by (λ (w : StreamWindow). w.count) (drop l.window-index l.windows) ≡ sum_by (λ (w : StreamWindow). w.count) l.windows)
