-- Between which numbers the rows of a run may act. This project's own.
use Rattle.std.specs.Prelude.{◌≡◌, ℕ, List, Some, slice_get}
use Rattle.std.specs.Option.{IsSome}
use Rattle.rept_report.specs.Timeline.{Timeline}
use Rattle.rept_report.specs.declared.paths.NumberWindow.{NumberWindow}
use Rattle.rept_report.specs.Reach.Reaching.{IsExtent}

-- each of the list has the numbers between which the row of its place may act
abbrev pub AreExtents : Timeline → List NumberWindow → Type 0
AreExtents t list = (i : ℕ) (x : NumberWindow) → slice_get list i ≡ Some x → IsSome (t.legs.row i) → IsExtent t.moments i x
