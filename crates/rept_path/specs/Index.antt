-- Legs by index. Lists of rows are oldest first here.
use Rattle.std.specs.Prelude.{◌≡◌, ℕ, ◌<◌, List, length, take, reverse, slice_get, Some, true, false}
use Rattle.rept_path.specs.Code.{Code}
use Rattle.rept_isa.specs.declared.row.StepRow.{StepRow}
use Rattle.rept_path.specs.Moves.{Heading, Place, place_along, IsMove, stops}

-- the place at an index: after so many of the rows, from a place on
abbrev pub at_index : Code → Place → List StepRow → ℕ → Place
at_index code past rows i = place_along code past (reverse (take i rows))

-- The row at each index is the move from the place there. The rows end at the least index after 0
-- at which the walk stops.
pub record LeastStop (code : Code) (heading : Heading) (past : Place) (rows : List StepRow) : Type 0 where
  pub moves : (i : ℕ) (row : StepRow) → slice_get rows i ≡ Some row → IsMove code heading.lead (at_index code past rows i) row
  pub later : 0 < length rows
  pub stop : stops code heading.lead.bits heading.aim (at_index code past rows (length rows)) ≡ true
  pub least : (i : ℕ) → 0 < i → i < length rows → stops code heading.lead.bits heading.aim (at_index code past rows i) ≡ false
