-- What a played run is: its rows and slices, and that it has an execution. This project's own.
use Rattle.std.specs.Prelude.{◌≡◌, ℕ, ◌-◌, ◌<◌, ◌≤◌, if◌then◌else◌, List, length, Option, None, Some, slice_index}
use Rattle.rept_isa.specs.declared.instr.Instr.{Instr}
use Rattle.rept_steps.specs.Course.{Course, row_of, row_at, IsSoundCourse}
use Rattle.rept_steps.specs.Runs.{course_of}
use Rattle.rept_steps.specs.declared.run.Run.{Run}
use Rattle.rept_order.specs.History.{World, Ending, History, IsExecution}
use Rattle.test_kit.specs.declared.threads.turns.turn.Turn.{Turn}
use Rattle.test_kit.specs.Threads.Turns.Turns.{rows_in, HasTurns}
use Rattle.test_kit.specs.declared.threads.play.playing.Played.{Played}
use Rattle.test_kit.specs.Threads.Play.Shares.{sees}
use Rattle.test_kit.specs.Threads.Play.Code.{row_in}

-- an ending of which all that was saved is what the play left: registers of the four threads, and
-- bytes
pub record IsPlayLeft (D : Ending) (played : Played) : Type 0 where
  pub registers : (t s v : ℕ) → 0 < s → D.registers t s ≡ Some v → (t < 4) × ((if sees t s then slice_index played.registers s else 0) ≡ v)
  pub inside : (a v : ℕ) → D.dump a ≡ Some v → (131072 ≤ a) × (a < 131104)
  pub bytes : (a v : ℕ) → D.dump a ≡ Some v → slice_index played.bytes.items (a - 131072) ≡ v

-- the threads have their shares of these registers, and memory is all 0
pub record IsFirstWorld (from : List ℕ) (w : World) : Type 0 where
  pub registers : (t s : ℕ) → w.register t s ≡ (if sees t s then slice_index from s else 0)
  pub memory : (a : ℕ) → w.memory a ≡ 0

-- there is an execution that begins so
pub record IsExecutedFrom (from : List ℕ) (C : Course) (D : Ending) : Type 0 where
  pub history : History
  pub execution : IsExecution C D history
  pub first : IsFirstWorld from (history.world 0)

-- the course of a run of whose begin something may not be told
abbrev pub course_until : Option ℕ → Run → Course
course_until untraced run = record { threads = run.threads; untraced = untraced }

-- The run is of four threads, has these turns and rows, all of it is told, and it is sound; 32
-- registers and 32 bytes are left; and of each ending that the play left there is an execution,
-- which begins with the registers `from`, also where less of the run is told.
pub record IsPlayed (code : List Instr) (turns : List Turn) (from : List ℕ) (played : Played) : Type 0 where
  pub four : length played.run.threads ≡ 4
  pub played_turns : HasTurns (course_of played.run) turns
  pub rows : (t i : ℕ) → i < rows_in t turns → row_at (course_of played.run) (row_of t i) ≡ Some (row_in code t i)
  pub told : played.run.untraced ≡ None
  pub none_skipped : played.run.skipped ≡ 0
  pub sound : IsSoundCourse (course_of played.run)
  pub left : (length played.registers ≡ 32) × (length played.bytes.items ≡ 32)
  pub execution : (untraced : Option ℕ) (D : Ending) → IsPlayLeft D played → IsExecutedFrom from (course_until untraced played.run) D
