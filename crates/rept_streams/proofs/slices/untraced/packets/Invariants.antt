use Rattle.std.proofs.Common.{◌≡◌, take}
use Rattle.std.specs.List.{sum_by}
use Rattle.rept_streams.specs.declared.slices.reading.StreamWindow.{StreamWindow}
use Rattle.rept_streams.proofs.slices.untraced.packets.Given as goal

abbrev pub invariant-loop-window : goal.invariant-loop-window
invariant-loop-window l = l.count ≡ sum_by (λ (w : StreamWindow). w.count) (take l.window-index l.windows)
