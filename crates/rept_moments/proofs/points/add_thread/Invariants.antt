use Rattle.std.proofs.Common.{◌≡◌, ◌+◌}
use Rattle.rept_steps.specs.Runs.{course_of}
use Rattle.rept_order.specs.Legs.{points_before}
use Rattle.rept_moments.specs.Points.{by_point, place_on}
use Rattle.rept_moments.proofs.points.add_thread.Given as goal

abbrev pub invariant-loop-step : goal.invariant-loop-step
invariant-loop-step l = l.places.items ≡ by_point (place_on (course_of l.run)) (points_before l.run.threads l.thread + l.step)
