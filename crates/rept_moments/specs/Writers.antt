-- The rows that may write, by their times. This project's own.
use Rattle.std.specs.Prelude.{ℕ, zero, suc, ◌-◌, ◌^◌, if◌then◌else◌, List, [], ◌∷◌, ◌++◌, Option, Some, None}
use Rattle.rept_steps.specs.declared.slice.Slice.{Slice}
use Rattle.rept_steps.specs.Course.{Course, Row}
use Rattle.rept_order.specs.Events.{event_slice, first_event, last_event}
use Rattle.rept_order.specs.Moments.{stores}
use Rattle.rept_order.specs.Times.{begin_of}
use Rattle.rept_moments.specs.Naming.Numbered.{row_on}
use Rattle.rept_order.specs.declared.crossing.writer.TimedWriter.{TimedWriter}

-- where a slice ends
abbrev pub end_of : Option Slice → Option ℕ
end_of None = None
end_of (Some s) = Some s.end

-- the same; where none is known, the greatest time
abbrev pub end_in : Option Slice → ℕ
end_in None = 2 ^ 64 - 1
end_in (Some s) = s.end

-- a row with the times between which it writes, if it does
abbrev pub writer_of : Course → Row → TimedWriter
writer_of C r = record { thread = r.thread; begin = begin_of C (first_event C r); end = end_in (event_slice C (last_event C r)) }

abbrev pub writers_at : Course → ℕ → List TimedWriter
writers_at C g = if stores C (row_on C g) then writer_of C (row_on C g) ∷ [] else []

-- the rows of the first so many points that may write
abbrev pub writers_to : Course → ℕ → List TimedWriter
writers_to C zero = []
writers_to C (suc g) = writers_to C g ++ writers_at C g
