-- Runs of a machine: the rows of the steps that it makes one after the other, and the states that
-- it goes through.
use Rattle.std.specs.Prelude.{◌≡◌, ℕ, ◌<◌, List, [], ◌∷◌, length, Option, Some, All, MatchOption, slice_get}
use Rattle.rept_isa.specs.declared.row.StepRow.{StepRow}
use Rattle.rept_isa.specs.Words.{IsWord}
use Rattle.rept_machine.specs.declared.machine.Machine.{Machine}
use Rattle.rept_machine.specs.Machine.{state_of, pc_of, code_of, base_of, word_of_code}
use Rattle.rept_machine.specs.State.{State}
use Rattle.rept_machine.specs.Execution.{Execution}

-- the rows lead from one address to another: the first stands at the one, each at the address to
-- which the row before it led
abbrev pub LeadFrom : ℕ → List StepRow → ℕ → Type 0
LeadFrom from [] to = to ≡ from
LeadFrom from (row ∷ rows) to = (row.at ≡ from) × LeadFrom row.next rows to

-- the word of code at the row's address spells its instruction
abbrev pub IsSpelled : Machine → StepRow → Type 0
IsSpelled machine row = MatchOption (word_of_code (code_of machine) (base_of machine) row.at) ⊥ (λ word. IsWord word row.instr)

-- registers and bytes that the state has, of which a dump may have any
pub record IsSaved (saved : List ℕ) (dump : ℕ → Option ℕ) (s : State) : Type 0 where
  pub registers : (r v : ℕ) → 0 < r → slice_get saved r ≡ Some v → s.register r ≡ v
  pub bytes : (a v : ℕ) → dump a ≡ Some v → s.memory a ≡ v

-- The machine comes from its state in old to that in new along these rows, of its own code. The
-- states between are an execution of the rows that ends in each dump that may be saved of the last
-- state, wherever the program's image ends.
pub record RunsOwnCode (old new : Machine) (rows : List StepRow) : Type 0 where
  pub leads : LeadFrom (pc_of old) rows (pc_of new)
  pub spelled : All (IsSpelled old) rows
  pub states : ℕ → State
  pub first : states 0 ≡ state_of old
  pub last : states (length rows) ≡ state_of new
  pub execution : (image_end : ℕ) (registers : List ℕ) (dump : ℕ → Option ℕ) → IsSaved registers dump (state_of new) → Execution image_end rows (slice_get registers) dump states
