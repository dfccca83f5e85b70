-- The core file of a made run of several threads: a register note for each of four threads, and one
-- segment of data.
use Rattle.std.specs.Prelude.{ℕ, zero, suc, ◌+◌, ◌%◌, List, [], ◌∷◌, ◌++◌, slice_index, if◌then◌else◌}
use Rattle.test_kit.specs.declared.threads.turns.turn.Turn.{Turn}
use Rattle.test_kit.specs.Threads.Turns.Turns.{rows_in}
use Rattle.test_kit.specs.Threads.Play.Shares.{sees}
use Rattle.test_kit.specs.Threads.Play.Code.{address_in}
use Rattle.rept_make.specs.Files.{core_header, status_note}

-- x1 to xn as a thread sees them
unfoldable pub shares_of : ℕ → List ℕ → ℕ → List ℕ
shares_of t registers zero = []
shares_of t registers (suc n) = shares_of t registers n ++ (if sees t (suc n) then slice_index registers (suc n) else 0) ∷ []

-- a program counter, and the registers of a thread
abbrev pub saved_of : ℕ → ℕ → List ℕ → List ℕ
saved_of t pc registers = pc ∷ shares_of t registers 31

-- where a thread stands after its turns
abbrev pub pc_in : List Turn → ℕ → ℕ
pc_in turns t = address_in t (rows_in t turns % 16)

-- the note of a thread after these turns, of these registers of the machine; processes are counted
-- from 1
abbrev pub thread_note : List Turn → List ℕ → ℕ → List ℕ
thread_note turns registers t = status_note (t + 1) (saved_of t (pc_in turns t) registers)

-- the notes of the four threads, 224 bytes each, and the 32 bytes of data
abbrev pub core_file : List Turn → List ℕ → List ℕ → List ℕ
core_file turns registers data_bytes =
    core_header 896 32 ++ (thread_note turns registers 0 ++ (thread_note turns registers 1 ++ (thread_note turns registers 2 ++ (thread_note turns registers 3 ++ data_bytes))))
