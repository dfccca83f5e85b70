-- The signals of a stop reply by GDB's own numbers (GDB manual, appendix Remote Serial Protocol,
-- section Stop Reply Packets; the numbers are those of GDB's `include/gdb/signals.def`), and the
-- numbers that Linux gives to the same signals on RISC-V (`asm-generic/signal.h`).
use Rattle.std.specs.Prelude.{ℕ, List, [], ◌∷◌, ◌==◌, if◌then◌else◌}

-- one signal
pub record Signal : Type 0 where
  pub linux : ℕ
  pub debugger : ℕ

abbrev pub signal : ℕ → ℕ → Signal
signal linux debugger = record { linux = linux; debugger = debugger }

-- HUP, INT, QUIT, ILL, TRAP, ABRT, BUS, FPE, KILL, USR1, SEGV, USR2, PIPE, ALRM, TERM, CHLD, CONT,
-- STOP, TSTP, TTIN, TTOU, URG, XCPU, XFSZ, VTALRM, PROF, WINCH, IO, PWR, SYS; and no signal
abbrev pub signals : List Signal
signals =
    signal 0 0 ∷ signal 1 1 ∷ signal 2 2 ∷ signal 3 3 ∷ signal 4 4 ∷ signal 5 5 ∷ signal 6 6 ∷ signal 7 10 ∷ signal 8 8 ∷ signal 9 9 ∷ signal 10 30
    ∷ signal 11 11 ∷ signal 12 31 ∷ signal 13 13 ∷ signal 14 14 ∷ signal 15 15 ∷ signal 17 20 ∷ signal 18 19 ∷ signal 19 17 ∷ signal 20 18
    ∷ signal 21 21 ∷ signal 22 22 ∷ signal 23 16 ∷ signal 24 24 ∷ signal 25 25 ∷ signal 26 26 ∷ signal 27 27 ∷ signal 28 28 ∷ signal 29 23
    ∷ signal 30 32 ∷ signal 31 12 ∷ []

-- the first of them with this number; the unknown signal, where none has it
abbrev pub debugger_number : List Signal → ℕ → ℕ
debugger_number [] linux = 143
debugger_number (s ∷ more) linux = if linux == s.linux then s.debugger else debugger_number more linux

abbrev pub debugger_signal : ℕ → ℕ
debugger_signal linux = debugger_number signals linux
