-- A byte's way from name to name, as the report carries it. This project's own.
use Rattle.std.specs.Prelude.{◌≡◌, ℕ, Bool, List, [], ◌∷◌}
use Rattle.rept_steps.specs.Course.{Course, Row}
use Rattle.rept_order.specs.Interleaved.{leg_of}
use Rattle.rept_reason.specs.Facts.{Knowledge}
use Rattle.rept_report.specs.Setting.{Setting}
use Rattle.rept_report.specs.Spots.{passage}
use Rattle.rept_report.specs.Views.{may_write, Carries}

-- whether a row may write the byte, by what is known
abbrev pub may_in : {W : Type 0} → Setting W → Knowledge → Course → Row → ℕ → Bool
may_in S K C r a = may_write S K (leg_of C r) a

-- the byte is carried from a name by these ones to another
abbrev pub CarriedAlong : {W : Type 0} → Setting W → Knowledge → ℕ → ℕ → List ℕ → ℕ → Type 0
CarriedAlong S K a m [] w = m ≡ w
CarriedAlong S K a m (n ∷ ns) w = Carries S K (passage a m n) × CarriedAlong S K a n ns w
