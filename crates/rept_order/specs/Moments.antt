-- The moments of a run, which of them are earlier than others, and who may write between two of
-- them. This project's own.
use Rattle.std.specs.Prelude.{◌≡◌, ◌≢◌, ℕ, suc, ◌<◌, ◌⊎◌, Bool, true, false, List, [], ◌∷◌, length, Option, Some, None}
use Rattle.rept_isa.specs.declared.instr.Instr.{Instr}
use Rattle.rept_isa.specs.declared.instr.Instr.TheVariants.{Store, Amo, Ecall}
use Rattle.rept_isa.specs.declared.instr.AmoOp.{AmoOp}
use Rattle.rept_isa.specs.declared.instr.AmoOp.TheVariants as atomic
use Rattle.rept_isa.specs.declared.row.StepRow.{StepRow}
use Rattle.rept_steps.specs.declared.slice.Slice.{Slice}
use Rattle.rept_steps.specs.Course.{Course, Row, row_of, rows_of, slices_of, slice_of, IsRow, calls, row_at}
use Rattle.rept_order.specs.Events.{first_event, last_event, Precedes, PrecedesOrIs, UntracedPrecedes}

-- Before a row, after a row, and the end of the run. Those of a call are before its entry and after
-- its return.
pub data Moment : Type 0 where
  before : Row → Moment
  after : Row → Moment
  at_end : Moment

abbrev pub IsMoment : Course → Moment → Type 0
IsMoment C (before r) = IsRow C r
IsMoment C (after r) = IsRow C r
IsMoment C at_end = Unit {0}

-- the order puts the one moment no later than the other
abbrev pub NotLater : Course → Moment → Moment → Type 0
NotLater C (before q) (before r) = PrecedesOrIs C (first_event C q) (first_event C r)
NotLater C (before q) (after r) = PrecedesOrIs C (first_event C q) (last_event C r)
NotLater C (after q) (before r) = Precedes C (last_event C q) (first_event C r)
NotLater C (after q) (after r) = PrecedesOrIs C (last_event C q) (last_event C r)
NotLater C at_end (before r) = ⊥
NotLater C at_end (after r) = ⊥
NotLater C _ at_end = Unit {0}

abbrev pub Earlier : Course → Moment → Moment → Type 0
Earlier C m w = NotLater C m w × (m ≢ w)

-- who writes: a row, or the untraced prefix
pub data Act : Type 0 where
  row : Row → Act
  untraced : Act

abbrev pub IsAct : Course → Act → Type 0
IsAct C (row r) = IsRow C r
IsAct C untraced = (d : ℕ) × (C.untraced ≡ Some d)

-- the order puts all that the untraced prefix writes before the moment
abbrev pub UntracedBefore : Course → Moment → Type 0
UntracedBefore C (before r) = UntracedPrecedes C (first_event C r)
UntracedBefore C (after r) = UntracedPrecedes C (last_event C r)
UntracedBefore C at_end = Unit {0}

-- the order puts the whole act before the moment
abbrev pub WhollyBefore : Course → Act → Moment → Type 0
WhollyBefore C (row r) m = NotLater C (after r) m
WhollyBefore C untraced m = UntracedBefore C m

-- the order puts the whole act after the moment
abbrev pub WhollyAfter : Course → Act → Moment → Type 0
WhollyAfter C (row r) w = NotLater C w (before r)
WhollyAfter C untraced w = ⊥

-- the stretch from one moment to another
pub record Stretch : Type 0 where
  pub from : Moment
  pub to : Moment

abbrev pub stretch : Moment → Moment → Stretch
stretch m w = record { from = m; to = w }

-- The act may act in the stretch, if only in part, unless the order puts it wholly before or wholly
-- after it. Between the two moments of one row that is no call only that row may act.
pub record MayAct (C : Course) (act : Act) (x : Stretch) : Type 0 where
  pub not_before : WhollyBefore C act x.from → ⊥
  pub not_after : WhollyAfter C act x.to → ⊥
  pub alone : (r : Row) → calls C r ≡ false → x ≡ stretch (before r) (after r) → act ≡ row r

-- whether an act may write the byte at an address: the untraced prefix may write each, of the rows
-- it is said
abbrev pub may_by : (Row → ℕ → Bool) → Act → ℕ → Bool
may_by may (row r) a = may r a
may_by may untraced a = true

-- nothing that may act in the stretch may write the byte
pub record IsUntouched (C : Course) (may : Row → ℕ → Bool) (x : Stretch) (a : ℕ) : Type 0 where
  pub in_order : NotLater C x.from x.to
  pub spared : (act : Act) → IsAct C act → MayAct C act x → may_by may act a ≡ false

-- the other moment comes next to it: later, and none lies between
pub record IsNext (C : Course) (m w : Moment) : Type 0 where
  pub later : Earlier C m w
  pub none : (x : Moment) → IsMoment C x → Earlier C m x → Earlier C x w → ⊥

-- nothing that may act from a moment to a later one may write the byte
pub record IsUntouchedStep (C : Course) (may : Row → ℕ → Bool) (x : Stretch) (a : ℕ) : Type 0 where
  pub later : Earlier C x.from x.to
  pub quiet : IsUntouched C may x a

-- a byte's way through stretches in which nothing may write it, from a moment by these ones to
-- another
abbrev pub Forth : Course → (Row → ℕ → Bool) → ℕ → Moment → List Moment → Moment → Type 0
Forth C may a m [] w = m ≡ w
Forth C may a m (x ∷ xs) w = IsUntouchedStep C may (stretch m x) a × IsNext C m x × Forth C may a x xs w

-- the same in either direction, over stretches of any length
abbrev pub Joined : Course → (Row → ℕ → Bool) → ℕ → Moment → List Moment → Moment → Type 0
Joined C may a m [] w = m ≡ w
Joined C may a m (x ∷ xs) w = IsMoment C x × (IsUntouchedStep C may (stretch m x) a ⊎ IsUntouchedStep C may (stretch x m) a) × Joined C may a x xs w

-- whether a row writes memory, whatever is known of it: a store, a call, an SC, which may fail, and
-- an atomic memory operation
abbrev pub atomic_writes : AmoOp → Bool
atomic_writes atomic.Lr = false
atomic_writes atomic.Sc = true
atomic_writes atomic.Swap = true
atomic_writes atomic.Add = true
atomic_writes atomic.Xor = true
atomic_writes atomic.And = true
atomic_writes atomic.Or = true
atomic_writes atomic.Min = true
atomic_writes atomic.Max = true
atomic_writes atomic.Minu = true
atomic_writes atomic.Maxu = true

abbrev pub writes_memory : Instr → Bool
writes_memory (Store op rs1 rs2 imm) = true
writes_memory (Amo op rd rs1 rs2) = atomic_writes op
writes_memory Ecall = true
writes_memory _ = false

abbrev pub is_writing : Option StepRow → Bool
is_writing None = false
is_writing (Some its_row) = writes_memory its_row.instr

abbrev pub stores : Course → Row → Bool
stores C r = is_writing (row_at C r)

-- two moments between which nothing of the thread happens: after a row and before the next one, or
-- after the last row and the end
pub data ArePause (C : Course) (x : Stretch) : Type 0 where
  between : (t i : ℕ) → suc i < length (rows_of C t) → x ≡ stretch (after (row_of t i)) (before (row_of t (suc i))) → ArePause C x
  last : (t i : ℕ) → suc i ≡ length (rows_of C t) → x ≡ stretch (after (row_of t i)) at_end → ArePause C x

-- They are one moment where no store, no call, no SC, no atomic memory operation and no untraced
-- prefix may act between them, whatever the address of these.
pub record AreOne (C : Course) (x : Stretch) : Type 0 where
  pub pause : ArePause C x
  pub still : (act : Act) → IsAct C act → MayAct C act x → may_by (λ r a. stores C r) act 0 ≡ false

-- a pause within a slice: a row and the next one of its thread are both in it
pub record IsPauseIn (C : Course) (t i : ℕ) (s : Slice) : Type 0 where
  pub inside : suc i < length (rows_of C t)
  pub first : slice_of (slices_of C t) i ≡ Some s
  pub second : slice_of (slices_of C t) (suc i) ≡ Some s

abbrev pub pause : ℕ → ℕ → Stretch
pause t i = stretch (after (row_of t i)) (before (row_of t (suc i)))
