-- Where the heap ended before a call, and bytes that are 0. This project's own.
use Rattle.std.specs.Prelude.{◌≡◌, ℕ, ◌<◌, ◌≤◌, ◌+◌, true, false}
use Rattle.rept_machine.specs.Calls.{is_error}
use Rattle.rept_machine.specs.State.{State}
use Rattle.rept_narrow.specs.Admitted.{Story, IsCallAt, HasNoCall, is_anonymous}

-- what the last call of brk before a row answered
pub record IsHeapEnd (story : Story) (run : ℕ → State) (j v : ℕ) : Type 0 where
  pub row : ℕ
  pub before : row < j
  pub call : IsCallAt story run row 214
  pub last : HasNoCall story run 214 (row + 1) j
  pub answer : (run (row + 1)).register 10 ≡ v

-- the bytes from an address to before another one are 0 at a point
abbrev pub AreZero : (ℕ → State) → (p from to : ℕ) → Type 0
AreZero run p from to = (a : ℕ) → from ≤ a → a < to → (run p).memory a ≡ 0

-- the bytes from an address to before another one are those that mmap2 hands out by these flags and
-- this answer, when so many are asked for
pub record AreHandedOut (from to flags answer asked : ℕ) : Type 0 where
  pub from_is : from ≡ answer
  pub to_is : to ≡ answer + asked
  pub of_no_file : is_anonymous flags ≡ true
  pub no_error : is_error answer ≡ false
