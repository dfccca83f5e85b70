-- Whose order it is.
use Rattle.rept_steps.specs.Course.{Course}
use Rattle.rept_steps.specs.Runs.{course_of}
use Rattle.rept_order.specs.declared.order.Order.{Order}

-- the course of the run
abbrev pub course_in : Order → Course
course_in order = course_of order.run.now
