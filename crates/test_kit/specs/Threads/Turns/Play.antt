-- A play: turns as they happened one after the other, each row a step of the machine by its
-- thread's registers and the one memory (RISC-V unprivileged manual 20191213, chapters 1.2 and
-- 1.4). This project's own.
use Rattle.std.specs.Prelude.{◌≡◌, ℕ, suc, ◌<◌, ◌≤◌, List, Some}
use Rattle.rept_machine.specs.State.{IsState}
use Rattle.rept_steps.specs.Course.{Course, Row, row_of}
use Rattle.rept_order.specs.History.{World, seen_by, Stays, ExecutesRow, Ending, History, IsExecution}
use Rattle.test_kit.specs.declared.threads.turns.turn.Turn.{Turn}
use Rattle.test_kit.specs.Threads.Turns.Turns.{all_rows, steps_before, turn_at}

-- the turns, and the worlds between their rows: world k is before row k of all, world k + 1 after
-- it
pub record Playing : Type 0 where
  pub turns : List Turn
  pub world : ℕ → World

abbrev pub with_turns : Playing → List Turn → Playing
with_turns x turns = record { turns = turns; world = x.world }

-- row k of all, where it is in this turn: the next row of the turn's thread
abbrev pub row_played : List Turn → Turn → ℕ → Row
row_played turns turn k = row_of turn.thread (steps_before turn.thread turns k)

abbrev pub last_world : Playing → World
last_world x = x.world (all_rows x.turns)

-- each world has states, each row is executed, a call too, and the last world has what was saved
pub record IsPlay (C : Course) (D : Ending) (x : Playing) : Type 0 where
  pub states : (k t : ℕ) → k ≤ all_rows x.turns → IsState (seen_by t (x.world k))
  pub executes : (k : ℕ) (turn : Turn) → turn_at x.turns k ≡ Some turn → ExecutesRow C D (row_played x.turns turn k) (record { old = x.world k; new = x.world (suc k) })
  pub registers_end : (t s v : ℕ) → 0 < s → D.registers t s ≡ Some v → (last_world x).register t s ≡ v
  pub bytes_end : (a v : ℕ) → D.dump a ≡ Some v → (last_world x).memory a ≡ v

-- there is an execution of the course that begins in the play's first world and ends in its last
-- one
pub record IsPlayExecuted (C : Course) (D : Ending) (x : Playing) : Type 0 where
  pub history : History
  pub execution : IsExecution C D history
  pub first : Stays (record { old = x.world 0; new = history.world 0 })
  pub last : Stays (record { old = last_world x; new = history.world history.ticks })
