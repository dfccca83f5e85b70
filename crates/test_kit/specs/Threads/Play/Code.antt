-- The code of four threads, and their rows in a play: each has 15 instructions and a jump back to
-- the first. This project's own.
use Rattle.std.specs.Prelude.{◌≡◌, ℕ, ◌+◌, ◌*◌, ◌%◌, ◌<◌, ◌≤◌, ◌==◌, pos, negsuc, suc, true, false, if◌then◌else◌, List, length, Some, slice_get, slice_index, slice_index_or, All}
use Rattle.rept_isa.specs.declared.instr.Instr.{Instr}
use Rattle.rept_isa.specs.declared.instr.Instr.TheVariants.{Jal, Imm, Fence}
use Rattle.rept_isa.specs.declared.instr.ImmOp.TheVariants.{Addi}
use Rattle.rept_isa.specs.declared.row.StepRow.{StepRow}
use Rattle.rept_isa.specs.Range.{InRange}
use Rattle.rept_isa.specs.Words.{IsWord}
use Rattle.rept_isa.specs.Operands.{is_call}
use Rattle.rept_steps.specs.declared.slice.Slice.{Slice}
use Rattle.rept_steps.specs.declared.threads.ThreadRows.{ThreadRows}
use Rattle.test_kit.specs.declared.threads.turns.turn.Turn.{Turn}
use Rattle.test_kit.specs.Threads.Turns.Turns.{all_rows, rows_in, steps_before, turn_at, slices_from, AreSome, AreInOrder, AreTurnsApart}
use Rattle.test_kit.specs.Threads.Play.Shares.{UsesOwn}

-- where slot s of thread t stands
abbrev pub address_in : ℕ → ℕ → ℕ
address_in t s = 65536 + 64 * t + 4 * s

-- what stands there: an instruction of the code, and in slot 15 the jump
abbrev pub drawn_in : List Instr → ℕ → ℕ → Instr
drawn_in code t s = slice_index_or code (15 * t + s) Fence

abbrev pub instr_in : List Instr → ℕ → ℕ → Instr
instr_in code t s = if s == 15 then Jal 0 (negsuc 59) else drawn_in code t s

-- row i of a thread
abbrev pub row_in : List Instr → ℕ → ℕ → StepRow
row_in code t i = record { at = address_in t (i % 16); instr = instr_in code t (i % 16); next = address_in t ((i + 1) % 16); call = is_call (instr_in code t (i % 16)); short = false }

-- each of the 15 instructions of the four threads can be spelled and uses the thread's own
-- registers
pub record IsPlayCode (code : List Instr) : Type 0 where
  pub size : length code ≡ 60
  pub uses : (t s : ℕ) → t < 4 → s < 15 → UsesOwn t (drawn_in code t s)
  pub spelled : (t s : ℕ) → t < 4 → s < 15 → InRange (drawn_in code t s)

-- of these rows of a thread only the last may be a call
abbrev pub CallsLast : List Instr → ℕ → Slice → Type 0
CallsLast code t s = (i : ℕ) → s.first ≤ i → i < s.first + s.count → is_call (instr_in code t (i % 16)) ≡ true → s.first + s.count ≡ suc i

-- code and turns that can be played
pub record IsPlayable (code : List Instr) (turns : List Turn) : Type 0 where
  pub slots : IsPlayCode code
  pub threads : All (λ turn. turn.thread < 4) turns
  pub some : AreSome turns
  pub order : AreInOrder turns
  pub apart : AreTurnsApart turns
  pub calls : (t : ℕ) → All (CallsLast code t) (slices_from t 0 turns)
  pub few : all_rows turns ≤ 65536

-- What the machine runs for a slot: the machine's code has all rows one after the other, so it
-- doesn't jump, and for the jump it runs ADDI x0, x0, 0, which does nothing.
abbrev pub played_in : List Instr → ℕ → ℕ → Instr
played_in code t s = if s == 15 then Imm Addi 0 0 (pos 0) else drawn_in code t s

abbrev pub played_at : List Instr → List Turn → Turn → ℕ → Instr
played_at code turns turn k = played_in code turn.thread (steps_before turn.thread turns k % 16)

-- the machine's words
pub record AreWords (code : List Instr) (turns : List Turn) (words : List ℕ) : Type 0 where
  pub size : length words ≡ all_rows turns
  pub spell : (k : ℕ) (turn : Turn) → turn_at turns k ≡ Some turn → IsWord (slice_index words k) (played_at code turns turn k)

-- a thread's rows and slices
pub record IsThread (code : List Instr) (turns : List Turn) (t : ℕ) (rows : ThreadRows) : Type 0 where
  pub size : length rows.steps ≡ rows_in t turns
  pub listed : (i : ℕ) → i < rows_in t turns → slice_get rows.steps i ≡ Some (row_in code t i)
  pub slices : rows.slices ≡ slices_from t 0 turns

pub record AreThreads (code : List Instr) (turns : List Turn) (threads : List ThreadRows) : Type 0 where
  pub size : length threads ≡ 4
  pub each : (t : ℕ) (rows : ThreadRows) → slice_get threads t ≡ Some rows → IsThread code turns t rows
