use Rattle.std.proofs.Common.{◌≡◌}
use Rattle.rept_order.specs.Ordered.{course_in}
use Rattle.rept_moments.specs.Points.{by_point}
use Rattle.rept_moments.specs.Edges.{edges_at}
use Rattle.rept_moments.proofs.points.edge_times.Given as goal

abbrev pub invariant-loop-place : goal.invariant-loop-place
invariant-loop-place l = l.edges.items ≡ by_point (edges_at (course_in l.order)) l.place-index
