-- A path of one thread as a trip: that thread in one slice, at no known time, all of which is told.
-- This project's own.
use Rattle.std.specs.Prelude.{ℕ, zero, suc, Option, None}
use Rattle.rept_steps.specs.Runs.{course_of, run_of_one}
use Rattle.rept_report.specs.OneThread.{ThreadPath}
use Rattle.rept_found.specs.Trip.Trip.{Trip}

-- there is no other thread
abbrev pub registers_alone : (ℕ → Option ℕ) → ℕ → ℕ → Option ℕ
registers_alone last zero = last
registers_alone last (suc t) = λ r. None

abbrev pub trip_of : {W : Type 0} → ThreadPath W → Trip W
trip_of P = record {
  sets = P.sets;
  moves = P.moves;
  rules = P.rules;
  course = course_of (run_of_one P.given.rows 0);
  ending = record { registers = registers_alone P.given.last; dump = P.given.dump; image_end = P.given.image_end };
}
