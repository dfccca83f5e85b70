-- Which row wrote a byte, by the order alone, and what that says of an execution. This project's
-- own.
use Rattle.std.specs.Prelude.{◌≡◌, ◌≢◌, ℕ, ◌<◌, ◌≤◌, Bool, true}
use Rattle.rept_steps.specs.Course.{Course, Row, IsRow}
use Rattle.rept_order.specs.Moments.{Moment, Act, IsAct, WhollyBefore, WhollyAfter, may_by}
use Rattle.rept_order.specs.Moments.Moment.{before, after}
use Rattle.rept_order.specs.Moments.Act.{row}
use Rattle.rept_order.specs.History.{Ending, History, tick}
use Rattle.rept_order.specs.Writing.{RowWrites, ActWrites, By}

pub data Writer : Type 0 where
  -- this row writes it, and nothing later does before the moment
  writes : Row → Writer
  -- nothing after this row writes it before the moment
  may_write : Row → Writer
  -- nothing is said
  several : Writer
  -- nothing writes it before the moment
  none : Writer

-- what is known of writing: whether a row may write a byte, and whether it writes each byte that it
-- may write
pub record Reach : Type 0 where
  pub may : Row → ℕ → Bool
  pub sure : Row → Bool

-- a byte at a moment
pub record CourseSpot : Type 0 where
  pub moment : Moment
  pub address : ℕ

-- it may write the byte, and the order doesn't put it after the moment
pub record IsCourseCandidate (C : Course) (can : Reach) (x : CourseSpot) (act : Act) : Type 0 where
  pub is : IsAct C act
  pub may : may_by can.may act x.address ≡ true
  pub not_after : WhollyAfter C act x.moment → ⊥

-- the order puts all others before the row
pub record ComesLast (C : Course) (can : Reach) (x : CourseSpot) (r : Row) : Type 0 where
  pub candidate : IsCourseCandidate C can x (row r)
  pub others : (act : Act) → IsCourseCandidate C can x act → act ≢ row r → WhollyBefore C act (before r)

-- it surely writes the byte, and before the moment
pub record IsSureBefore (C : Course) (can : Reach) (x : CourseSpot) (r : Row) : Type 0 where
  pub sure : can.sure r ≡ true
  pub before : WhollyBefore C (row r) x.moment

-- at most one of the four fits
abbrev pub IsCourseWriter : Course → Reach → CourseSpot → Writer → Type 0
IsCourseWriter C can x (writes r) = ComesLast C can x r × IsSureBefore C can x r
IsCourseWriter C can x (may_write r) = ComesLast C can x r × (IsSureBefore C can x r → ⊥)
IsCourseWriter C can x several = ((act : Act) × IsCourseCandidate C can x act) × ((r : Row) → ComesLast C can x r → ⊥)
IsCourseWriter C can x none = (act : Act) → IsCourseCandidate C can x act → ⊥

-- from this tick on no other act than those that are left out writes the byte before the moment
pub record NoneWrites (C : Course) (D : Ending) (h : History) (x : CourseSpot) (from : ℕ) (left_out : Act → Type 0) : Type 0 where
  pub none : (act : Act) (k : ℕ) → (left_out act → ⊥) → from ≤ k → k < tick C h x.moment → k < h.ticks → By (h.happening k) act → ActWrites C D h act x.address → ⊥

-- what the answer says of an execution
abbrev pub WriterHoldsInHistory : Course → Ending → History → CourseSpot → Writer → Type 0
WriterHoldsInHistory C D h x (writes r) = RowWrites C D h r x.address × (tick C h (after r) ≤ tick C h x.moment) × NoneWrites C D h x (tick C h (before r)) (λ act. act ≡ row r)
WriterHoldsInHistory C D h x (may_write r) = NoneWrites C D h x (tick C h (before r)) (λ act. act ≡ row r)
WriterHoldsInHistory C D h x several = Unit {0}
WriterHoldsInHistory C D h x none = NoneWrites C D h x 0 (λ act. ⊥)

-- a row of which one is sure writes each byte that it may write, in the execution
abbrev pub SurelyWrites : Course → Ending → History → Reach → Type 0
SurelyWrites C D h can = (r : Row) (a : ℕ) → IsRow C r → can.sure r ≡ true → can.may r a ≡ true → RowWrites C D h r a
