-- What is told of a report holds in every execution of the path that ends in the dump. This
-- project's own.
use Rattle.std.specs.Prelude.{◌≡◌, ℕ, true, ◌+◌, ◌<◌, ◌≤◌, ◌^◌, ⊤, All, List, length, Some, slice_get, bit_and}
use Rattle.rept_isa.specs.declared.row.StepRow.{StepRow}
use Rattle.rept_machine.specs.State.{State}
use Rattle.rept_machine.specs.Execution.{Execution}
use Rattle.rept_reason.specs.declared.fact.Fact.{Fact}
use Rattle.rept_reason.specs.declared.reason.RangePremise.{RangePremise}
use Rattle.rept_reason.specs.Facts.{Knowledge}
use Rattle.rept_reason.specs.View.Written.{Writes}
use Rattle.rept_report.specs.declared.writer.Writer.{Writer}
use Rattle.rept_report.specs.declared.writer.Writer as writers
use Rattle.rept_report.specs.Spots.{Spot, spot}
use Rattle.rept_report.specs.Why.{Because, IsReason, IsGiven}
use Rattle.rept_analysis.specs.Logged.{IsLogOf}
use Rattle.rept_report.specs.OneThread.{ThreadPath, path_setting}
use Rattle.rept_report.specs.Setting.{way_of}
use Rattle.rept_span.specs.Ranges.{range}
use Rattle.rept_findings.specs.Shown.{Shown}
use Rattle.rept_found.specs.Chains.{RestsOn}
use Rattle.rept_found.specs.Crash.{Scene}
use Rattle.rept_found.specs.Telling.{shown_of}

-- an execution of the path that ends in the dump
abbrev pub ExecutesPath : {W : Type 0} → ThreadPath W → (ℕ → State) → Type 0
ExecutesPath P run = Execution P.given.image_end P.given.rows P.given.last P.given.dump run

-- no execution of the path ends in the dump
abbrev pub HasNoExecutionOfPath : {W : Type 0} → ThreadPath W → Type 0
HasNoExecutionOfPath P = (run : ℕ → State) → ExecutesPath P run → ⊥

-- step j of an execution writes the byte
pub record StepOfPathWrites {W : Type 0} (P : ThreadPath W) (run : ℕ → State) (j a : ℕ) : Type 0 where
  pub row : StepRow
  pub is_row : slice_get P.given.rows j ≡ Some row
  pub writes : Writes P.given.image_end row (run j) (run (j + 1)) a

-- no step after step j and before the point writes the byte: the moments of one path are its points
abbrev pub NoneAfter : {W : Type 0} → ThreadPath W → (ℕ → State) → Spot → ℕ → Type 0
NoneAfter P run x j = (k : ℕ) → j < k → k < x.moment → StepOfPathWrites P run k x.address → ⊥

-- Of an execution: step j, which is before the point, writes the byte, and no later step before the
-- point does; or no step after step j, which is before the point, and before the point does; or no
-- step before the point does. Of several nothing is said, nor are they told of one path.
abbrev pub WriterHoldsOnPath : {W : Type 0} → ThreadPath W → (ℕ → State) → Spot → Writer → Type 0
WriterHoldsOnPath P run x (writers.TheVariants.Writes j) = (j < x.moment) × StepOfPathWrites P run j x.address × NoneAfter P run x j
WriterHoldsOnPath P run x (writers.TheVariants.MayWrite j) = (j < x.moment) × NoneAfter P run x j
WriterHoldsOnPath P run x writers.TheVariants.Several = ⊤
WriterHoldsOnPath P run x writers.TheVariants.None = (k : ℕ) → k < x.moment → StepOfPathWrites P run k x.address → ⊥

-- Of one execution: each value of a register and each byte that is told is the one that it has,
-- each register lies between the bounds that are told and has the bits that are noted, and what is
-- told of the step that last wrote a byte is so: that step came before the point, wrote it and no
-- later one did; it came before and no later one did; or none did. `bytes` bounds no p, and needs
-- none: a report has no byte past the last point.
pub record IsTrueOf {W : Type 0} (P : ThreadPath W) (s : Shown) (run : ℕ → State) : Type 0 where
  pub registers : (p r v : ℕ) → p ≤ length P.given.rows → s.register p r ≡ Some v → (run p).register r ≡ v
  pub ranges : (p r : ℕ) → p ≤ length P.given.rows → ((s.range p r).lo ≤ (run p).register r) × ((run p).register r ≤ (s.range p r).hi)
  pub notes : (p r : ℕ) (n : ℕ × ℕ) → p ≤ length P.given.rows → s.note p r ≡ Some n → bit_and ((run p).register r) n.0 ≡ n.1
  pub bytes : (p a v : ℕ) → s.byte p a ≡ Some v → (run p).memory a ≡ v
  pub writers : (p a : ℕ) → p ≤ length P.given.rows → a < 2 ^ 32 → WriterHoldsOnPath P run (spot p a) (s.writer p a)

-- the register's value lies in the range in every execution
abbrev pub RangeAlwaysHoldsOnPath : {W : Type 0} → ThreadPath W → RangePremise → Type 0
RangeAlwaysHoldsOnPath P x = (run : ℕ → State) → ExecutesPath P run → (x.range.lo ≤ (run x.point).register x.reg) × ((run x.point).register x.reg ≤ x.range.hi)

-- Of a reason: the facts that it rests on are of the report, and the ranges that it lists hold in
-- every execution.
pub record IsTrueReason {W : Type 0} (P : ThreadPath W) (K : Knowledge) (why : Because) : Type 0 where
  pub premises : All (IsGiven K) why.premises
  pub ranges : All (RangeAlwaysHoldsOnPath P) why.ranges

-- Of one execution: each register has one of the values that are left of it.
abbrev pub SetsHold : {W : Type 0} → ThreadPath W → Knowledge → (ℕ → State) → Type 0
SetsHold {W} P K run = (p r : ℕ) (set : W) → p ≤ length P.given.rows → range (way_of (path_setting P)) K p r ≡ Some set → P.sets.has set ((run p).register r) ≡ true

-- all that a session tells of a report, whatever the order in which it was learnt, and the sets
-- that are left of registers; and no chain of reasons leads back to its own fact
pub record IsTrueReport {W : Type 0} (P : ThreadPath W) (K : Knowledge) : Type 0 where
  pub sets : (run : ℕ → State) → ExecutesPath P run → SetsHold P K run
  pub answers : (scene : Scene) (run : ℕ → State) → ExecutesPath P run → IsTrueOf P (shown_of P K scene) run
  pub reasons : (log : List Fact) (fact : Fact) (why : Because) → IsLogOf (path_setting P) K log → IsReason (path_setting P) log fact why → IsTrueReason P K why
  pub circles : (log : List Fact) (fact : Fact) → IsLogOf (path_setting P) K log → RestsOn (path_setting P) log fact fact → ⊥
