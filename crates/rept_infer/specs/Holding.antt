-- What is told of the executions of a path: a set of values for registers at points, and some bytes
-- at points. This project's own.
use Rattle.std.specs.Prelude.{◌≡◌, ℕ, ◌≤◌, true, length, Option, Some, None, nat_lt, if◌then◌else◌}
use Rattle.rept_machine.specs.State.{State}
use Rattle.rept_known.specs.declared.both.Both.{Both}
use Rattle.rept_known.specs.Both.{both_has}
use Rattle.rept_narrow.specs.Admitted.{Story, IsAdmitted}

pub record Holding : Type 0 where
  -- the set of a register at a point; where there is none, nothing is told
  pub set : ℕ → ℕ → Option Both
  -- a byte at a point and an address
  pub byte : ℕ → ℕ → Option ℕ

-- it is true of an execution
pub record Holds (story : Story) (h : Holding) (run : ℕ → State) : Type 0 where
  pub sets : (p r : ℕ) (w : Both) → p ≤ length story.rows → h.set p r ≡ Some w → both_has w ((run p).register r) ≡ true
  pub bytes : (p a v : ℕ) → p ≤ length story.rows → h.byte p a ≡ Some v → (run p).memory a ≡ v

-- an admitted execution that has the holding
pub record Has (story : Story) (h : Holding) (run : ℕ → State) : Type 0 where
  pub admitted : IsAdmitted story run
  pub holds : Holds story h run

-- each admitted execution that has one holding has the other
abbrev pub Keeps : Story → Holding → Holding → Type 0
Keeps story old new = (run : ℕ → State) → Has story old run → Has story new run

-- no admitted execution has the holding
abbrev pub Refuses : Story → Holding → Type 0
Refuses story old = (run : ℕ → State) → Has story old run → ⊥

-- a set for each of the 32 registers at each point, and some bytes
abbrev pub holding_of : (ℕ → ℕ → Both) → (ℕ → ℕ → Option ℕ) → Holding
holding_of set byte = record { set = λ p r. if nat_lt r 32 then Some (set p r) else None; byte = byte }

-- each value of a set of the one holding is in that of the other, and each byte of the other is told
-- by the one
pub record IsFinerHolding (h wide : Holding) : Type 0 where
  pub sets : (p r : ℕ) (w : Both) → wide.set p r ≡ Some w → (u : Both) × (h.set p r ≡ Some u) × ((v : ℕ) → both_has u v ≡ true → both_has w v ≡ true)
  pub bytes : (p a v : ℕ) → wide.byte p a ≡ Some v → h.byte p a ≡ Some v
