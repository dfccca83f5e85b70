-- An arrangement of all events of a course one after the other. This project's own.
use Rattle.std.specs.Prelude.{◌≡◌, ℕ, ◌<◌}
use Rattle.rept_steps.specs.Course.{Course}
use Rattle.rept_order.specs.Events.{Event, IsEvent, Before}

-- each event has a place of its own, and their order is kept
pub record IsArrangement (C : Course) (place : Event → ℕ) : Type 0 where
  pub own : (e f : Event) → IsEvent C e → IsEvent C f → place e ≡ place f → e ≡ f
  pub ordered : (e f : Event) → Before C e f → place e < place f
