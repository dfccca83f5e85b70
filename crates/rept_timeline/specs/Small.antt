-- Runs that are small enough for an analysis. This project's own.
use Rattle.std.specs.Prelude.{ℕ, ◌+◌, ◌≤◌, List, [], ◌∷◌, length}
use Rattle.rept_steps.specs.declared.threads.ThreadRows.{ThreadRows}
use Rattle.rept_steps.specs.Course.{Course}

-- how many rows these threads have together
abbrev pub rows_in : List ThreadRows → ℕ
rows_in [] = 0
rows_in (thread ∷ threads) = length thread.steps + rows_in threads

pub record IsSmall (C : Course) : Type 0 where
  pub rows : rows_in C.threads ≤ 65536
  pub threads : length C.threads ≤ 1024
