-- The times of the moments of rows, and the tables of the points. This project's own.
use Rattle.std.specs.Prelude.{◌≡◌, ◌≤◌, ℕ, Bool, true, false, List, length, Option}
use Rattle.rept_steps.specs.Course.{Course, Row, row_of, calls, IsSoundCourse}
use Rattle.rept_order.specs.Events.{Event, event_slice}
use Rattle.rept_order.specs.Legs.{points_before}
use Rattle.rept_order.specs.Moments.{stores}
use Rattle.rept_order.specs.Runs.{edge_part}
use Rattle.rept_order.specs.Times.{begin_of}
use Rattle.rept_moments.specs.declared.points.Edges.{Edges}
use Rattle.rept_moments.specs.declared.points.Times.{Times}
use Rattle.rept_moments.specs.declared.side.PointOfThread.{PointOfThread}
use Rattle.rept_moments.specs.declared.side.PointSide.{PointSide}
use Rattle.rept_moments.specs.Ordering.{event_at}
use Rattle.rept_moments.specs.Points.{by_point, place_on, points_in}
use Rattle.rept_moments.specs.Writers.{end_of}

-- the begin and the end of a moment of a row
abbrev pub begin_at : Course → PointSide → ℕ
begin_at C s = begin_of C (event_at C s)

abbrev pub end_at : Course → PointSide → Option ℕ
end_at C s = end_of (event_slice C (event_at C s))

abbrev pub times_at : Course → PointSide → Times
times_at C s = record { begin = begin_at C s; end = end_at C s }

-- those of both moments of the row that leads from a point, and whether it writes memory
abbrev pub times_in : Course → Event → Times
times_in C e = record { begin = begin_of C e; end = end_of (event_slice C e) }

abbrev pub event_in : Course → Row → Bool → Event
event_in C r is_after = record { row = r; part = edge_part is_after (calls C r) }

abbrev pub edges_in : Course → PointOfThread → Edges
edges_in C p = record { before = times_in C (event_in C (row_of p.thread p.step) false); after = times_in C (event_in C (row_of p.thread p.step) true); stores = stores C (row_of p.thread p.step) }

abbrev pub edges_at : Course → ℕ → Edges
edges_at C g = edges_in C (place_on C g)

pub record ArePoints (C : Course) (list : List PointOfThread) (firsts : List ℕ) (all : List Edges) : Type 0 where
  pub sound : IsSoundCourse C
  pub few : points_in C ≤ 66560
  pub places : list ≡ by_point (place_on C) (points_in C)
  pub starts : firsts ≡ by_point (points_before C.threads) (length C.threads)
  pub edges : all ≡ by_point (edges_at C) (points_in C)
