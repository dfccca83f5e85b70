-- Which memory point of one run is that of another run of the same steps. A memory point is named
-- by its thread and its place, and by that name it has a number in each of them. This project's
-- own.
use Rattle.std.specs.Prelude.{ℕ}
use Rattle.rept_steps.specs.Course.{Course}
use Rattle.rept_found.specs.Places.Places.{place_on, place_number}

-- the number in the second run of the place that has a number in the first
abbrev pub same_place : Course → Course → ℕ → ℕ
same_place C D m = place_number D (place_on C m)
