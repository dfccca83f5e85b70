-- The points of all threads, one after the other. This project's own.
use Rattle.std.specs.Prelude.{ℕ, zero, suc, List, [], ◌∷◌, ◌++◌, length}
use Rattle.rept_steps.specs.Course.{Course}
use Rattle.rept_order.specs.Legs.{points_before, point_at}
use Rattle.rept_moments.specs.declared.side.PointOfThread.{PointOfThread}

-- how many there are
abbrev pub points_in : Course → ℕ
points_in C = points_before C.threads (length C.threads)

-- the point of a number
abbrev pub place_on : Course → ℕ → PointOfThread
place_on C g = record { thread = (point_at C g).thread; step = (point_at C g).number }

-- what a function says of the first so many points
abbrev pub by_point : {A : Type 0} → (ℕ → A) → ℕ → List A
by_point f zero = []
by_point f (suc g) = by_point f g ++ f g ∷ []
