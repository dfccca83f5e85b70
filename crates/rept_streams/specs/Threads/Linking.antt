-- Slices that lead on to one another. This project's own.
use Rattle.std.specs.Prelude.{◌≡◌, ℕ, List, [], ◌∷◌, Option, Some, None, is_none, if◌then◌else◌}
use Rattle.rept_isa.specs.declared.row.StepRow.{StepRow}
use Rattle.rept_steps.specs.Linked.{EndBefore}
use Rattle.rept_streams.specs.Slices.Stamps.{address_of}
use Rattle.rept_streams.specs.Slices.Order.{head_of}
use Rattle.rept_streams.specs.Slices.Stretches.{RanSlice}

-- Rows, oldest first, that lead from the one address to the other.
abbrev pub GoesFromTo : List StepRow → ℕ → ℕ → Type 0
GoesFromTo [] a b = a ≡ b
GoesFromTo (r ∷ rows) a b = (r.at ≡ a) × GoesFromTo rows r.next b

-- where a slice leads: to the next one of its thread, if that begins while the trace runs, or else
-- to where its stretch ends
abbrev pub onward_to : RanSlice → Option RanSlice → ℕ
onward_to r None = r.last.at
onward_to r (Some q) = if is_none q.told.inside then r.last.at else address_of q.told.start

-- slices, each of which leads on from its start packet's address
abbrev pub Chained : List RanSlice → Type 0
Chained [] = Unit {0}
Chained (r ∷ rs) = GoesFromTo r.rows (address_of r.told.start) (onward_to r (head_of rs)) × Chained rs

-- Rows end where the next slice begins, if there is one.
abbrev pub Ready : List StepRow → Option RanSlice → Type 0
Ready rows None = Unit {0}
Ready rows (Some r) = EndBefore rows (address_of r.told.start)
