-- What is told of a report of any number of threads holds in every execution of them that ends in
-- the dump. This project's own.
use Rattle.std.specs.Prelude.{◌≡◌, ℕ, ◌<◌, ◌≤◌, ◌^◌, ⊤, All, List, Some, bit_and}
use Rattle.rept_steps.specs.Course.{Course, Row, IsRow}
use Rattle.rept_order.specs.History.{History}
use Rattle.rept_order.specs.Moments.{WhollyAfter}
use Rattle.rept_order.specs.Moments.Act.{row}
use Rattle.rept_order.specs.Points.{thread_registers, memory_at, moment_of_point}
use Rattle.rept_order.specs.Writers.{CourseSpot, Writer, WriterHoldsInHistory}
use Rattle.rept_order.specs.Writers.Writer.{writes, may_write, several, none}
use Rattle.rept_reason.specs.declared.fact.Fact.{Fact}
use Rattle.rept_reason.specs.declared.reason.RangePremise.{RangePremise}
use Rattle.rept_reason.specs.Facts.{Knowledge}
use Rattle.rept_report.specs.Why.{Because, IsReason, IsGiven}
use Rattle.rept_analysis.specs.Logged.{IsLogOf}
use Rattle.rept_findings.specs.Shown.{IsThreadPoint, Shown, moment_at, number}
use Rattle.rept_found.specs.Places.Places.{point_on}
use Rattle.rept_findings.specs.declared.place.ThreadPoint.{ThreadPoint}
use Rattle.rept_found.specs.Trip.Trip.{Trip, setting_on}
use Rattle.rept_found.specs.Trip.Executed.{IsHistoryOf, moment_named, writer_on}
use Rattle.rept_found.specs.Chains.{RestsOn}
use Rattle.rept_found.specs.Crash.{Scene}
use Rattle.rept_found.specs.Telling.{shown_on}

-- what an execution has in a register at a named point, and in memory at the moment that has a
-- number
abbrev pub value_at : {W : Type 0} → Trip W → History → ThreadPoint → ℕ → ℕ
value_at t h c r = thread_registers t.course h c.thread c.point r

abbrev pub byte_in : {W : Type 0} → Trip W → Shown → History → ℕ → ℕ → ℕ
byte_in t s h m a = memory_at t.course h (moment_named t.course (s.place m)) a

-- the byte at an address, at the moment that has a number
abbrev pub spot_in : {W : Type 0} → Trip W → Shown → ℕ → ℕ → CourseSpot
spot_in t s m a = record { moment = moment_named t.course (s.place m); address = a }

-- the row is one of the run, and the order doesn't put it after the moment
pub record IsRowReached (C : Course) (x : CourseSpot) (r : Row) : Type 0 where
  pub is : IsRow C r
  pub not_after : WhollyAfter C (row r) x.moment → ⊥

-- so of the row of which it is told that it wrote the byte, or may have
abbrev pub WriterReaches : Course → CourseSpot → Writer → Type 0
WriterReaches C x (writes r) = IsRowReached C x r
WriterReaches C x (may_write r) = IsRowReached C x r
WriterReaches C x several = ⊤
WriterReaches C x none = ⊤

-- Of one execution of all threads: each value of a register and each byte that is told is the one
-- that it has at the point or moment by whose name it is told, each register lies between the
-- bounds that are told and has the bits that are noted, and what is told of the row that last wrote
-- a byte is so, which isn't one that comes after the moment.
pub record IsTrueIn {W : Type 0} (t : Trip W) (s : Shown) (h : History) : Type 0 where
  pub registers : (p r v : ℕ) → p < s.points → s.register p r ≡ Some v → value_at t h (s.point p) r ≡ v
  pub ranges : (p r : ℕ) → p < s.points → ((s.range p r).lo ≤ value_at t h (s.point p) r) × (value_at t h (s.point p) r ≤ (s.range p r).hi)
  pub notes : (p r : ℕ) (n : ℕ × ℕ) → p < s.points → s.note p r ≡ Some n → bit_and (value_at t h (s.point p) r) n.0 ≡ n.1
  pub bytes : (m a v : ℕ) → m < s.moments → s.byte m a ≡ Some v → byte_in t s h m a ≡ v
  pub writers : (m a : ℕ) → m < s.moments → a < 2 ^ 32 → WriterHoldsInHistory t.course t.ending h (spot_in t s m a) (writer_on t.course (s.writer m a))
  pub reached : (m a : ℕ) → m < s.moments → WriterReaches t.course (spot_in t s m a) (writer_on t.course (s.writer m a))

-- the register's value lies in the range in every execution
abbrev pub RangeHoldsInAll : {W : Type 0} → Trip W → RangePremise → Type 0
RangeHoldsInAll t x = (h : History) → IsHistoryOf t h → (x.range.lo ≤ value_at t h (point_on t.course x.point) x.reg) × (value_at t h (point_on t.course x.point) x.reg ≤ x.range.hi)

-- Of a reason: the facts that it rests on are of the report, and the ranges that it lists hold in
-- every execution.
pub record IsTrueBecause {W : Type 0} (t : Trip W) (K : Knowledge) (why : Because) : Type 0 where
  pub premises : All (IsGiven K) why.premises
  pub ranges : All (RangeHoldsInAll t) why.ranges

-- The number of a thread's point stands for that point. The number of the moment there stands for
-- the moment before the thread's row, or for the end after its last one.
pub record IsPointOf {W : Type 0} (t : Trip W) (s : Shown) (c : ThreadPoint) : Type 0 where
  pub point : s.point (number s c) ≡ c
  pub moment : moment_named t.course (s.place (moment_at s c)) ≡ moment_of_point t.course c.thread c.point

-- All that a session tells of a report of a trip, whatever the order in which it was learnt. No
-- chain of reasons leads back to its own fact, and numbers stand for points and moments.
pub record IsTrueTrip {W : Type 0} (t : Trip W) (K : Knowledge) : Type 0 where
  pub answers : (scene : Scene) (h : History) → IsHistoryOf t h → IsTrueIn t (shown_on t K scene) h
  pub reasons : (log : List Fact) (fact : Fact) (why : Because) → IsLogOf (setting_on t) K log → IsReason (setting_on t) log fact why → IsTrueBecause t K why
  pub circles : (log : List Fact) (fact : Fact) → IsLogOf (setting_on t) K log → RestsOn (setting_on t) log fact fact → ⊥
  pub points : (scene : Scene) (c : ThreadPoint) → IsThreadPoint (shown_on t K scene) c → IsPointOf t (shown_on t K scene) c
