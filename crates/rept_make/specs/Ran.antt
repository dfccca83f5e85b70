-- A machine that has made the steps of a made run so far. It stands in private contracts alone.
use Rattle.std.specs.Prelude.{◌≡◌, ℕ, ◌+◌, ◌*◌, ◌<◌, List, [], length, slice_get, Some, false, true}
use Rattle.std.specs.List.{All}
use Rattle.rept_isa.specs.declared.row.StepRow.{StepRow}
use Rattle.rept_steps.specs.Linked.{EndBefore}
use Rattle.rept_machine.specs.State.{State, IsState}
use Rattle.rept_machine.specs.declared.machine.Machine.{Machine}
use Rattle.rept_machine.specs.Machine.{state_of, pc_of, code_of, base_of}
use Rattle.rept_path.specs.Code.{flow_of, jumps_far}
use Rattle.rept_encode.specs.Walkable.{IsStepped, IsJumpEnd}
use Rattle.rept_make.specs.Near.{Near}
use Rattle.rept_make.specs.Run.{AreMadeStates}

pub record RanRows (seed : ℕ) (words : List ℕ) (m : Machine) (rows : List StepRow) : Type 0 where
  pub code : code_of m ≡ words
  pub base : base_of m ≡ 65536
  pub run : ℕ → State
  pub made : AreMadeStates seed rows run
  pub now : run (length rows) ≡ state_of m
  pub near : Near (state_of m)
  pub state : IsState (state_of m)
  pub slot : (j : ℕ) × (j < 256) × (pc_of m ≡ 65536 + 4 * j)
  pub start : rows ≡ [] → pc_of m ≡ 65536
  pub ends : EndBefore rows (pc_of m)
  pub steps : All (IsStepped false) rows
  -- the only uninferable jump leads to slot 66, where no call stands
  pub landed : (before : ℕ) (last : StepRow) → length rows ≡ before + 1 → slice_get rows before ≡ Some last → jumps_far (flow_of last.instr) ≡ true → pc_of m ≡ 65800
  pub entered : (i : ℕ) → IsJumpEnd rows i → ⊥
