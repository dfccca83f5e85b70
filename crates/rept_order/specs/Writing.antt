-- Which bytes a row writes in an execution, whatever they were before. This project's own.
use Rattle.std.specs.Prelude.{◌≡◌, ℕ, Bool, true, MatchOption}
pub use Rattle.rept_machine.specs.Writes.{WritesBy}
use Rattle.rept_steps.specs.Course.{Course, Row, IsRow, row_at}
use Rattle.rept_order.specs.Moments.{Act, IsAct, Stretch, MayAct}
use Rattle.rept_order.specs.Moments.Act.{row, untraced}
use Rattle.rept_order.specs.Moments.Moment.{before, after}
use Rattle.rept_order.specs.History.{Happening, Ending, History, state_at}
use Rattle.rept_order.specs.History.Happening.{event, change, nothing}

-- the row writes the byte in the execution
abbrev pub RowWrites : Course → Ending → History → Row → ℕ → Type 0
RowWrites C D h r a = MatchOption (row_at C r) ⊥ (λ its_row. WritesBy its_row.instr D.image_end (state_at C h r.thread (before r)) (state_at C h r.thread (after r)) a)

-- the act writes the byte in the execution; of the untraced prefix this is said of each byte
abbrev pub ActWrites : Course → Ending → History → Act → ℕ → Type 0
ActWrites C D h (row r) a = RowWrites C D h r a
ActWrites C D h untraced a = Unit {0}

-- who acts at a tick: whose event it is, or whose change
abbrev pub By : Happening → Act → Type 0
By (event e) (row r) = e.row ≡ r
By (event e) untraced = ⊥
By (change act) other = act ≡ other
By nothing act = ⊥

-- nothing that may act in the stretch writes the byte in the execution
abbrev pub IsStill : Course → Ending → History → Stretch → ℕ → Type 0
IsStill C D h x a = (act : Act) → IsAct C act → MayAct C act x → ActWrites C D h act a → ⊥

-- each byte that a row writes in the execution it may write
abbrev pub Covers : Course → Ending → History → (Row → ℕ → Bool) → Type 0
Covers C D h may = (r : Row) (a : ℕ) → IsRow C r → RowWrites C D h r a → may r a ≡ true
