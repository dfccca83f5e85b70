-- A machine that has made the first steps of a play. It stands in private contracts alone.
use Rattle.std.specs.Prelude.{◌≡◌, ℕ, suc, ◌+◌, ◌*◌, ◌<◌, ◌≤◌, ◌==◌, if◌then◌else◌, List, Some, slice_index}
use Rattle.rept_isa.specs.declared.instr.Instr.{Instr}
use Rattle.rept_isa.specs.Rows.{of_word}
use Rattle.rept_machine.specs.State.{State, IsState}
use Rattle.rept_machine.specs.Step.{HasEffect}
use Rattle.rept_machine.specs.Choices.{Picks}
use Rattle.rept_machine.specs.declared.machine.Machine.{Machine}
use Rattle.rept_machine.specs.Machine.{state_of, pc_of, code_of, base_of}
use Rattle.test_kit.specs.declared.threads.turns.turn.Turn.{Turn}
use Rattle.test_kit.specs.Threads.Turns.Turns.{turn_at}
use Rattle.test_kit.specs.Threads.Play.Code.{AreWords, played_at}

-- from one state to the other by an instruction of four bytes, wherever it stands and leads, as the
-- machine picks
pub record GoesBy (instr : Instr) (s t : State) : Type 0 where
  pub at : ℕ
  pub next : ℕ
  pub effect : (image_end : ℕ) → HasEffect instr image_end (of_word at next) s t
  pub picks : Picks instr s t

pub record RanTurns (code : List Instr) (turns : List Turn) (k : ℕ) (machine : Machine) : Type 0 where
  pub words : AreWords code turns (code_of machine)
  pub base : base_of machine ≡ 65536
  pub pc : pc_of machine ≡ 65536 + 4 * k
  pub states : ℕ → State
  pub now : states k ≡ state_of machine
  pub are : (j : ℕ) → j ≤ k → IsState (states j)
  pub goes : (j : ℕ) (turn : Turn) → j < k → turn_at turns j ≡ Some turn → GoesBy (played_at code turns turn j) (states j) (states (suc j))

-- a machine that hasn't run yet: these registers, and a memory of zeros
pub record IsStartState (from : List ℕ) (s : State) : Type 0 where
  pub registers : (r : ℕ) → s.register r ≡ (if r == 0 then 0 else slice_index from r)
  pub memory : (a : ℕ) → s.memory a ≡ 0
