-- The moments of a course in the order of the times before which they don't come: a moment doesn't
-- come before the slice of its event begins. Of one time they stay thread by thread, and in the
-- thread's order. This project's own.
use Rattle.std.specs.Prelude.{ℕ, zero, suc, nat_le, if◌then◌else◌, Bool, true, false, List, [], ◌∷◌, ◌++◌}
use Rattle.std.specs.Option.{is_some}
use Rattle.rept_steps.specs.Course.{Course, calls}
use Rattle.rept_order.specs.Events.{Event}
use Rattle.rept_order.specs.Moments.{Moment}
use Rattle.rept_order.specs.Runs.{edge_part, beside_by}
use Rattle.rept_order.specs.Times.{begin_of}
use Rattle.rept_order.specs.Legs.{leg_row}
use Rattle.rept_moments.specs.Naming.Numbered.{row_on}
use Rattle.rept_moments.specs.declared.side.PointSide.{PointSide}
use Rattle.rept_moments.specs.declared.side.Timed.{Timed}
use Rattle.rept_moments.specs.Points.{points_in}

abbrev pub side : ℕ → Bool → PointSide
side g b = record { point = g; is_after = b }

-- the moment, and the event of its row that it lies at
abbrev pub moment_at_side : Course → PointSide → Moment
moment_at_side C s = beside_by (row_on C s.point) s.is_after

abbrev pub event_at : Course → PointSide → Event
event_at C s = record { row = row_on C s.point; part = edge_part s.is_after (calls C (row_on C s.point)) }

abbrev pub timed : Course → PointSide → Timed
timed C s = record { time = begin_of C (event_at C s); side = s }

-- those of the row that leads from a point, if one does, and of the first so many points
abbrev pub timed_at : Course → ℕ → List Timed
timed_at C g = if is_some (leg_row C g) then timed C (side g false) ∷ timed C (side g true) ∷ [] else []

abbrev pub timed_to : Course → ℕ → List Timed
timed_to C zero = []
timed_to C (suc g) = timed_to C g ++ timed_at C g

-- put in before the first one that doesn't come sooner
abbrev pub put : Timed → List Timed → List Timed
put x [] = x ∷ []
put x (y ∷ ys) = if nat_le x.time y.time then x ∷ y ∷ ys else y ∷ put x ys

-- in the order of their times; those of one time stay in the order of the list
abbrev pub by_time : List Timed → List Timed
by_time [] = []
by_time (x ∷ xs) = put x (by_time xs)

abbrev pub in_time : Course → List Timed
in_time C = by_time (timed_to C (points_in C))

-- as moments, the last one first
abbrev pub back : Course → List Timed → List Moment
back C [] = []
back C (x ∷ xs) = back C xs ++ moment_at_side C x.side ∷ []

-- all moments of the course but the end, the last one first
abbrev pub in_order : Course → List Moment
in_order C = back C (in_time C)
