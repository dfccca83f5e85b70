-- Turns: of the threads of a run one after the other executes some of its rows. This project's own.
use Rattle.std.specs.Prelude.{◌≡◌, ℕ, ◌+◌, ◌-◌, ◌<◌, ◌≤◌, nat_lt, ◌==◌, min, if◌then◌else◌, List, [], ◌∷◌, length, Option, Some, None, All}
use Rattle.rept_steps.specs.declared.slice.Slice.{Slice}
use Rattle.rept_steps.specs.Course.{Course, rows_of, slices_of}
use Rattle.test_kit.specs.declared.threads.turns.turn.Turn.{Turn}

-- how many rows all turns have together
abbrev pub all_rows : List Turn → ℕ
all_rows [] = 0
all_rows (turn ∷ turns) = turn.count + all_rows turns

-- how many of them are of thread t
abbrev pub rows_in : ℕ → List Turn → ℕ
rows_in t [] = 0
rows_in t (turn ∷ turns) = (if turn.thread == t then turn.count else 0) + rows_in t turns

-- how many of the first k rows are of thread t
abbrev pub steps_before : ℕ → List Turn → ℕ → ℕ
steps_before t [] k = 0
steps_before t (turn ∷ turns) k = (if turn.thread == t then min k turn.count else 0) + steps_before t turns (k - turn.count)

-- the turn that has row k of all
abbrev pub turn_at : List Turn → ℕ → Option Turn
turn_at [] k = None
turn_at (turn ∷ turns) k = if nat_lt k turn.count then Some turn else turn_at turns (k - turn.count)

-- a turn as a slice whose first row has this number
abbrev pub slice_by : ℕ → Turn → Slice
slice_by first turn = record { stream = turn.stream; begin = turn.begin; end = turn.end; first = first; count = turn.count }

-- the turns of thread t as slices, the first of which begins with the row of this number
abbrev pub slices_from : ℕ → ℕ → List Turn → List Slice
slices_from t first [] = []
slices_from t first (turn ∷ turns) = if turn.thread == t then slice_by first turn ∷ slices_from t (first + turn.count) turns else slices_from t first turns

-- the slices of each thread are its turns, which have all of its rows
pub record HasTurns (C : Course) (turns : List Turn) : Type 0 where
  pub slices : (t : ℕ) → slices_of C t ≡ slices_from t 0 turns
  pub rows : (t : ℕ) → length (rows_of C t) ≡ rows_in t turns

-- each turn has a row
abbrev pub AreSome : List Turn → Type 0
AreSome turns = All (λ turn. 0 < turn.count) turns

-- The turns keep the order of time: none ends before it begins, and none that stands later in the
-- list ends before an earlier one begins. They may overlap.
abbrev pub AreInOrder : List Turn → Type 0
AreInOrder [] = Unit {0}
AreInOrder (turn ∷ turns) = (turn.begin ≤ turn.end) × All (λ later. turn.begin ≤ later.end) turns × AreInOrder turns

-- those of one thread don't overlap
abbrev pub AreTurnsApart : List Turn → Type 0
AreTurnsApart [] = Unit {0}
AreTurnsApart (turn ∷ turns) = All (λ later. later.thread ≡ turn.thread → turn.end ≤ later.begin) turns × AreTurnsApart turns

-- nor do those of one stream
abbrev pub AreApartByStream : List Turn → Type 0
AreApartByStream [] = Unit {0}
AreApartByStream (turn ∷ turns) = All (λ later. later.stream ≡ turn.stream → turn.end ≤ later.begin) turns × AreApartByStream turns

-- each takes some time
abbrev pub TakeTime : List Turn → Type 0
TakeTime turns = All (λ turn. turn.begin < turn.end) turns

-- the first turn of a stream
abbrev pub first_on : ℕ → List Turn → Option Turn
first_on s [] = None
first_on s (turn ∷ turns) = if turn.stream == s then Some turn else first_on s turns

-- the streams begin together, at time 0
abbrev pub BeginTogether : List Turn → Type 0
BeginTogether turns = (s : ℕ) (turn : Turn) → first_on s turns ≡ Some turn → turn.begin ≡ 0

-- the same rows, in a time that may begin earlier and end later
pub record IsWider (turn wide : Turn) : Type 0 where
  pub thread : wide.thread ≡ turn.thread
  pub count : wide.count ≡ turn.count
  pub begin : wide.begin ≤ turn.begin
  pub end : turn.end ≤ wide.end

-- the same turns, where each may begin earlier and end later
abbrev pub AreWider : List Turn → List Turn → Type 0
AreWider [] [] = Unit {0}
AreWider (turn ∷ turns) (wide ∷ others) = IsWider turn wide × AreWider turns others
AreWider _ _ = ⊥
