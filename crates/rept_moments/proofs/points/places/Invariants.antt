use Rattle.std.proofs.Common.{◌≡◌}
use Rattle.rept_steps.specs.Runs.{course_of}
use Rattle.rept_order.specs.Legs.{points_before}
use Rattle.rept_moments.specs.Points.{by_point, place_on}
use Rattle.rept_moments.proofs.points.places.Given as goal

abbrev pub invariant-loop-thread : goal.invariant-loop-thread
invariant-loop-thread l = l.places.items ≡ by_point (place_on (course_of l.run)) (points_before l.run.threads l.thread)
