-- What harts did in a play: each stream tells of its turns, one after the other. This project's
-- own.
use Rattle.std.specs.Prelude.{◌≡◌, ℕ, zero, suc, ◌+◌, ◌<◌, ◌≤◌, ◌==◌, true, false, if◌then◌else◌, List, [], ◌∷◌, ◌++◌, length, take, drop, slice_get, unwrap_or, Some}
use Rattle.std.specs.List.{All}
use Rattle.rept_isa.specs.declared.row.StepRow.{StepRow}
use Rattle.rept_steps.specs.declared.threads.ThreadRows.{ThreadRows}
use Rattle.rept_steps.specs.Course.{no_thread}
use Rattle.rept_path.specs.Code.{flow_of, jumps_far}
use Rattle.rept_encode.specs.Walkable.{IsWalkable}
use Rattle.test_kit.specs.declared.threads.turns.turn.Turn.{Turn}
use Rattle.test_kit.specs.Threads.Turns.Turns.{rows_in}
use Rattle.rept_encode.specs.declared.weaving.stretch.HartStretch.{HartStretch}

-- the steps of a thread
abbrev pub steps_in : List ThreadRows → ℕ → List StepRow
steps_in threads t = (unwrap_or (slice_get threads t) no_thread).steps

-- a turn as a stretch of its thread, whose first row has this number; processes are counted from 1
abbrev pub stretch_in : List ThreadRows → ℕ → Turn → HartStretch
stretch_in threads first turn = record { process = turn.thread + 1; begin = turn.begin; end = turn.end; steps = take turn.count (drop first (steps_in threads turn.thread)) }

-- the turns of a stream, after some others
abbrev pub stretches_of : List ThreadRows → ℕ → List Turn → List Turn → List HartStretch
stretches_of threads s before [] = []
stretches_of threads s before (turn ∷ turns) =
    if turn.stream == s then stretch_in threads (rows_in turn.thread before) turn ∷ stretches_of threads s (before ++ turn ∷ []) turns
    else stretches_of threads s (before ++ turn ∷ []) turns

-- the harts of so many streams, from the stream of this number on
abbrev pub harts_of : List ThreadRows → List Turn → ℕ → ℕ → List (List HartStretch)
harts_of threads turns zero s = []
harts_of threads turns (suc n) s = stretches_of threads s [] turns ∷ harts_of threads turns n (suc s)

-- the four threads have the rows of the turns
pub record HaveRows (threads : List ThreadRows) (turns : List Turn) : Type 0 where
  pub four : length threads ≡ 4
  pub threads_are : All (λ turn. turn.thread < length threads) turns
  pub rows : (t : ℕ) → length (steps_in threads t) ≡ rows_in t turns
  pub few : (t : ℕ) → rows_in t turns ≤ 65536

-- There is a step, each can be made, none is an uninferable jump, and only the last one may be a
-- call.
pub record IsSendable (steps : List StepRow) : Type 0 where
  pub walkable : IsWalkable false steps
  pub near : (i : ℕ) (row : StepRow) → slice_get steps i ≡ Some row → jumps_far (flow_of row.instr) ≡ false
  pub calls : (i : ℕ) (row : StepRow) → slice_get steps i ≡ Some row → row.call ≡ true → suc i ≡ length steps
