-- Whether the moment after a row is one with the thread's next one, by times. This project's own.
use Rattle.std.specs.Prelude.{ℕ, suc, ◌&&◌, nat_le, if◌then◌else◌, Bool, false, Option, Some, None}
use Rattle.std.specs.Option.{is_some}
use Rattle.rept_steps.specs.Course.{Course, Row, row_of, row_at}
use Rattle.rept_order.specs.Events.{event_slice, first_event}
use Rattle.rept_order.specs.Moments.{stretch}
use Rattle.rept_order.specs.Moments.Moment.{after}
use Rattle.rept_order.specs.Legs.{leg_row}
use Rattle.rept_moments.specs.Naming.Making.{is_still, next_point}
use Rattle.rept_moments.specs.Naming.Numbered.{row_on}
use Rattle.rept_moments.specs.Writers.{end_of}

abbrev pub until : Option ℕ → ℕ → Bool
until None time = false
until (Some d) time = nat_le time d

-- something that isn't told may happen at the time or later
abbrev pub untraced_from : Course → ℕ → Bool
untraced_from C time = until C.untraced time

-- the end of the row's slice, if it is one
abbrev pub rest_from : Course → Row → Option ℕ
rest_from C r = if is_some (row_at C r) then end_of (event_slice C (first_event C r)) else None

-- that of the thread's next row
abbrev pub rest_end : Course → Row → Option ℕ
rest_end C r = rest_from C (row_of r.thread (suc r.step))

-- of the row that leads from a point, if one does
abbrev pub merged_at : Course → ℕ → Bool
merged_at C g = is_some (leg_row C g) && is_still C (stretch (after (row_on C g)) (next_point C (row_on C g)))
