-- What is promised of each rule: in each admitted execution in which what was told before holds, so
-- does what is told after. A rule that refuses has seen that there is no such execution. This
-- project's own.
use Rattle.std.specs.Prelude.{◌≡◌, ℕ, ◌≤◌, true, [], length, Option, Some, None, nat_lt, if◌then◌else◌, slice_get}
use Rattle.rept_isa.specs.declared.row.StepRow.{StepRow}
use Rattle.rept_machine.specs.State.{State}
use Rattle.rept_known.specs.declared.both.Both.{Both}
use Rattle.rept_known.specs.Both.{both_has}
use Rattle.rept_span.specs.Filled.{View, entry_at}
use Rattle.rept_narrow.specs.Admitted.{Story, IsAdmitted, RowWrites}

-- the set of a register at a point, of a table of 32 sets for each point
abbrev pub set_at : View Both → ℕ → ℕ → Option Both
set_at table p r = if nat_lt r 32 then entry_at table p r else None

-- an admitted execution, each value of whose registers is in its set
pub record HasSets (story : Story) (table : View Both) (run : ℕ → State) : Type 0 where
  pub admitted : IsAdmitted story run
  pub sets : (p r : ℕ) (w : Both) → p ≤ length story.rows → set_at table p r ≡ Some w → both_has w ((run p).register r) ≡ true

-- bytes that are told at points and addresses are those of the execution
abbrev pub AreBytes : Story → (ℕ → ℕ → ℕ → Type 0) → (ℕ → State) → Type 0
AreBytes story tells run = (p a v : ℕ) → p ≤ length story.rows → tells p a v → (run p).memory a ≡ v

abbrev pub KeepsSets : Story → View Both → View Both → Type 0
KeepsSets story old new = (run : ℕ → State) → HasSets story old run → HasSets story new run

abbrev pub RefusesSets : Story → View Both → Type 0
RefusesSets story old = (run : ℕ → State) → HasSets story old run → ⊥

-- a set has the register's value in an execution, if it has this point
abbrev pub IsSoundIn : Story → (ℕ → State) → ℕ → ℕ → Both → Type 0
IsSoundIn story run p r w = p ≤ length story.rows → both_has w ((run p).register r) ≡ true

-- a set has the register's value in each admitted execution that has the table
abbrev pub IsSound : Story → View Both → ℕ → ℕ → Both → Type 0
IsSound story table p r w = (run : ℕ → State) → HasSets story table run → IsSoundIn story run p r w

-- a row doesn't write a byte in an execution
abbrev pub WritesNot : Story → (ℕ → State) → ℕ → ℕ → Type 0
WritesNot story run i a = (row : StepRow) → slice_get story.rows i ≡ Some row → RowWrites story run i row a → ⊥
