-- What is known around a row of a path: of registers and bytes before and after it. This project's
-- own.
use Rattle.std.specs.Prelude.{◌≡◌, ℕ, ◌<◌, ◌≤◌, Option, Some}
use Rattle.rept_partial.specs.declared.range.Range.{Range}
use Rattle.rept_machine.specs.State.{State}
use Rattle.rept_reason.specs.declared.view.inferred.When.{When}
use Rattle.rept_reason.specs.declared.view.inferred.When.TheVariants.{Before, After}
use Rattle.rept_reason.specs.declared.fact.Cell.{Cell}
use Rattle.rept_reason.specs.declared.fact.Cell.TheVariants.{Register, Byte}

pub record Seen : Type 0 where
  -- the value of a register, where it is known
  pub register : When → ℕ → Option ℕ
  -- the byte at an address, where it is known
  pub byte : When → ℕ → Option ℕ
  -- the range in which a register lies
  pub range : When → ℕ → Range

-- x0 is 0 (RISC-V unprivileged manual 20191213, chapter 2.1), and a known register's range is its
-- value alone
pub record IsLawful (s : Seen) : Type 0 where
  pub zero_known : (w : When) → s.register w 0 ≡ Some 0
  pub known : (w : When) (r v : ℕ) → s.register w r ≡ Some v → ((s.range w r).lo ≡ v) × ((s.range w r).hi ≡ v)

-- what is known of a register or byte
abbrev pub seen_cell : Seen → When → Cell → Option ℕ
seen_cell s w (Register r) = s.register w r
seen_cell s w (Byte a) = s.byte w a

-- the second knows all that the first knows, and its ranges lie within
pub record KnowsMore (s t : Seen) : Type 0 where
  pub register : (w : When) (r v : ℕ) → s.register w r ≡ Some v → t.register w r ≡ Some v
  pub byte : (w : When) (a v : ℕ) → s.byte w a ≡ Some v → t.byte w a ≡ Some v
  pub range : (w : When) (r : ℕ) → ((s.range w r).lo ≤ (t.range w r).lo) × ((t.range w r).hi ≤ (s.range w r).hi)

-- the state at one of the two points of a step
abbrev pub state_at : State → State → When → State
state_at before after Before = before
state_at before after After = after

-- what a state holds in a cell
abbrev pub held : State → Cell → ℕ
held s (Register r) = s.register r
held s (Byte a) = s.memory a

-- a step whose states have all that is known, and whose registers lie in their ranges
pub record Meets (view : Seen) (before after : State) : Type 0 where
  pub register : (w : When) (r v : ℕ) → view.register w r ≡ Some v → (state_at before after w).register r ≡ v
  pub byte : (w : When) (a v : ℕ) → view.byte w a ≡ Some v → (state_at before after w).memory a ≡ v
  pub range : (w : When) (r : ℕ) → r < 32 → ((view.range w r).lo ≤ (state_at before after w).register r) × ((state_at before after w).register r ≤ (view.range w r).hi)
