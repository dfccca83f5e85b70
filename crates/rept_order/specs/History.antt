-- An execution of several threads, with one memory: all their events one after the other, in an
-- order that keeps theirs. A row that is no call happens at one tick, and all threads see what it
-- writes from then on. So executions here are sequentially consistent interleavings. That is a
-- premise of this project, and more than the manual promises: its memory model is RVWMO (RISC-V
-- unprivileged manual 20191213, chapter 14), which allows harts to see stores in other orders. An
-- execution in which they do is none here, and nothing is said of it.
use Rattle.std.specs.Prelude.{◌≡◌, ◌≢◌, ℕ, suc, ◌<◌, ◌≤◌, true, Option, Some}
use Rattle.rept_isa.specs.declared.row.StepRow.{StepRow}
use Rattle.rept_isa.specs.Numbers.{following}
use Rattle.rept_isa.specs.Rows.{from_of}
use Rattle.rept_machine.specs.State.{State, IsState}
use Rattle.rept_machine.specs.Step.{IsStep}
use Rattle.rept_machine.specs.Calls.{MayChange}
use Rattle.rept_steps.specs.Course.{Course, Row, IsRow, row_at, calls}
use Rattle.rept_order.specs.Events.{Part, Event, IsEvent, Before, first_event, last_event, IsAfterUntraced}
use Rattle.rept_order.specs.Events.Part.{whole, entry, return}
use Rattle.rept_order.specs.Moments.{Moment, Act, IsAct}
use Rattle.rept_order.specs.Moments.Moment.{before, after, at_end}
use Rattle.rept_order.specs.Moments.Act.{row, untraced}

-- the registers of each thread, and the memory
pub record World : Type 0 where
  pub register : ℕ → ℕ → ℕ
  pub memory : ℕ → ℕ

-- the state that a thread sees
abbrev pub seen_by : ℕ → World → State
seen_by t w = record { register = w.register t; memory = w.memory }

-- what happens at one tick: an event, bytes that change by a call that hasn't returned yet or by
-- the untraced prefix, or nothing
pub data Happening : Type 0 where
  event : Event → Happening
  change : Act → Happening
  nothing : Happening

-- A history: what happens at each tick, one thing after the other, up to the last tick. World k is
-- before what happens at tick k, world k + 1 after it.
pub record History : Type 0 where
  pub ticks : ℕ
  pub happening : ℕ → Happening
  pub world : ℕ → World
  -- the tick of each event
  pub place : Event → ℕ

-- how the run ended: the registers of each thread and the bytes of memory, as far as they were
-- saved, and where the program's own memory ends
pub record Ending : Type 0 where
  pub registers : ℕ → ℕ → Option ℕ
  pub dump : ℕ → Option ℕ
  pub image_end : ℕ

-- the tick at which a moment lies: what happens at it or later is after the moment, what happens
-- before it is not
abbrev pub tick : Course → History → Moment → ℕ
tick C h (before r) = h.place (first_event C r)
tick C h (after r) = suc (h.place (last_event C r))
tick C h at_end = h.ticks

-- the world before a tick, and the one after it
pub record Move : Type 0 where
  pub old : World
  pub new : World

abbrev pub move_at : History → ℕ → Move
move_at h k = record { old = h.world k; new = h.world (suc k) }

abbrev pub KeepsMemory : Move → Type 0
KeepsMemory m = (a : ℕ) → m.new.memory a ≡ m.old.memory a

abbrev pub KeepsRegisters : Move → Type 0
KeepsRegisters m = (t s : ℕ) → m.new.register t s ≡ m.old.register t s

-- nothing changes
pub record Stays (m : Move) : Type 0 where
  pub registers : KeepsRegisters m
  pub memory : KeepsMemory m

-- the registers of all threads but this one are as before
abbrev pub OthersKeep : ℕ → Move → Type 0
OthersKeep t m = (u s : ℕ) → u ≢ t → m.new.register u s ≡ m.old.register u s

-- a row that is no call is executed at once, by its thread's registers and the memory
pub record ExecutesRow (C : Course) (D : Ending) (r : Row) (m : Move) : Type 0 where
  pub its_row : StepRow
  pub is_row : row_at C r ≡ Some its_row
  pub step : IsStep D.image_end its_row (seen_by r.thread m.old) (seen_by r.thread m.new)
  pub others : OthersKeep r.thread m

-- a call returns, with any answer in x10 (a0), to the instruction after it
pub record Returns (C : Course) (r : Row) (m : Move) : Type 0 where
  pub its_row : StepRow
  pub is_row : row_at C r ≡ Some its_row
  pub onward : its_row.next ≡ following (from_of its_row)
  pub own : (s : ℕ) → s ≢ 10 → m.new.register r.thread s ≡ m.old.register r.thread s
  pub others : OthersKeep r.thread m
  pub memory : KeepsMemory m

-- what an event of a row does
abbrev pub Occurs : Course → Ending → Row → Move → Part → Type 0
Occurs C D r m whole = ExecutesRow C D r m
Occurs C D r m entry = Stays m
Occurs C D r m return = Returns C r m

-- a thread's state at a moment
abbrev pub state_at : Course → History → ℕ → Moment → State
state_at C h t m = seen_by t (h.world (tick C h m))

-- A call that was entered and hasn't returned yet changes bytes, of those that its number and
-- arguments, and its answer, let it change.
pub record CallChanges (C : Course) (D : Ending) (h : History) (k : ℕ) (r : Row) : Type 0 where
  pub call : calls C r ≡ true
  pub is_row : IsRow C r
  pub entered : tick C h (before r) < k
  pub pending : suc k < tick C h (after r)
  pub registers : KeepsRegisters (move_at h k)
  pub memory : (a : ℕ) → (MayChange D.image_end (state_at C h r.thread (before r)).register ((state_at C h r.thread (after r)).register 10) a → ⊥) → (h.world (suc k)).memory a ≡ (h.world k).memory a

-- any bytes change, as long as it is untraced
pub record UntracedChanges (C : Course) (h : History) (k : ℕ) : Type 0 where
  pub told : IsAct C untraced
  pub early : (e : Event) → IsAfterUntraced C e → k < h.place e
  pub registers : KeepsRegisters (move_at h k)

-- what happens at a tick
abbrev pub Does : Course → Ending → History → ℕ → Happening → Type 0
Does C D h k (event e) = Occurs C D e.row (move_at h k) e.part
Does C D h k (change (row r)) = CallChanges C D h k r
Does C D h k (change untraced) = UntracedChanges C h k
Does C D h k nothing = Stays (move_at h k)

-- All events of the course and no others, each at one tick, in an order that keeps theirs; what
-- happens at each tick; and at the end the registers and bytes that were saved.
pub record IsExecution (C : Course) (D : Ending) (h : History) : Type 0 where
  pub happens : (e : Event) → IsEvent C e → (h.place e < h.ticks) × (h.happening (h.place e) ≡ event e)
  pub once : (k : ℕ) (e : Event) → k < h.ticks → h.happening k ≡ event e → IsEvent C e × (h.place e ≡ k)
  pub ordered : (e f : Event) → Before C e f → h.place e < h.place f
  pub states : (k t : ℕ) → k ≤ h.ticks → IsState (seen_by t (h.world k))
  pub does : (k : ℕ) → k < h.ticks → Does C D h k (h.happening k)
  pub registers_end : (t s v : ℕ) → 0 < s → D.registers t s ≡ Some v → (h.world h.ticks).register t s ≡ v
  pub bytes_end : (a v : ℕ) → D.dump a ≡ Some v → (h.world h.ticks).memory a ≡ v
