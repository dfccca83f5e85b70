use Rattle.std.proofs.Common.{◌≡◌, take}
use Rattle.std.specs.List.{sum_by}
use Rattle.rept_streams.specs.Slices.Windows.{skipped_of}
use Rattle.rept_streams.proofs.slices.untraced.skipped.Given as goal

abbrev pub invariant-loop-window : goal.invariant-loop-window
invariant-loop-window l = l.count ≡ sum_by skipped_of (take l.window-index l.windows)
