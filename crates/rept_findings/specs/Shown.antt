-- What a session tells of an analysis of a run of threads. Registers go by their numbers. This
-- project's own.
use Rattle.std.specs.Prelude.{ℕ, Bool, ◌+◌, ◌<◌, ◌≤◌, List, length, Option}
use Rattle.rept_elf.specs.Symbols.{FunctionSymbol}
use Rattle.rept_isa.specs.declared.row.StepRow.{StepRow}
use Rattle.rept_partial.specs.declared.range.Range.{Range}
use Rattle.rept_reason.specs.declared.fact.Fact.{Fact}
use Rattle.rept_reason.specs.declared.fact.Cell.{Cell}
use Rattle.rept_reason.specs.declared.fact.Cell.TheVariants.{Register, Byte}
use Rattle.rept_reason.specs.declared.reason.Reason.{Reason}
use Rattle.rept_report.specs.Why.{Because, because}
use Rattle.rept_report.specs.declared.writer.Writer.{Writer}
use Rattle.rept_report.specs.declared.counts.Counts.{Counts}
use Rattle.rept_findings.specs.declared.findings.KnownBeyond.{KnownBeyond}
use Rattle.rept_findings.specs.declared.place.ThreadPoint.{ThreadPoint}
use Rattle.rept_findings.specs.declared.place.ThreadPlace.{ThreadPlace}

-- The points of all threads have numbers, those of a thread side by side; registers have values at
-- points. Moments have numbers of their own; bytes have values at moments. In a run of one thread
-- both are the points 0 to n.
pub record Shown : Type 0 where
  -- how many threads; of each of them the process, the steps, the address after the last one, and
  -- the number of its point 0
  pub threads : ℕ
  pub process : ℕ → ℕ
  pub rows : ℕ → List StepRow
  pub end_pc : ℕ → ℕ
  pub first : ℕ → ℕ
  -- how many points all threads have together, and the thread and point that a number stands for
  pub points : ℕ
  pub point : ℕ → ThreadPoint
  -- at a point, the value of a register, the values that it may have, and the bits in which all of
  -- them are alike (a mask, and what they are) where bits are followed
  pub register : ℕ → ℕ → Option ℕ
  pub range : ℕ → ℕ → Range
  pub note : ℕ → ℕ → Option (ℕ × ℕ)
  -- how many moments there are, the one at a point, and the thread and place that a number stands
  -- for
  pub moments : ℕ
  pub moment : ℕ → ℕ
  pub place : ℕ → ThreadPlace
  -- at a moment, the byte at an address, and the step that wrote it last; a step has the number of
  -- the point that it leads from
  pub byte : ℕ → ℕ → Option ℕ
  pub writer : ℕ → ℕ → Writer
  -- of a register at a point and of a byte at a moment, whether its value isn't one of the report,
  -- and was inferred beyond it
  pub is_inferred : ℕ → Cell → Bool
  -- how much is known beyond the report and by which premises; nothing where none was asked for
  pub beyond : Option KnownBeyond
  -- the byte of code at an address, where the program has code, which is assumed not to change
  pub code : ℕ → Option ℕ
  pub counts : Counts
  -- the function that has an address, where the files of the program name one, and the address of a
  -- name
  pub symbol : ℕ → Option FunctionSymbol
  pub address_named : List ℕ → Option ℕ

-- a point that a thread has
abbrev pub IsThreadPoint : Shown → ThreadPoint → Type 0
IsThreadPoint s c = (c.thread < s.threads) × (c.point ≤ length (s.rows c.thread))

-- its number
abbrev pub number : Shown → ThreadPoint → ℕ
number s c = s.first c.thread + c.point

-- the number of the moment there
abbrev pub moment_at : Shown → ThreadPoint → ℕ
moment_at s c = s.moment (number s c)

-- what a session tells: what was found, how many packets were left out, and what is a reason of a
-- fact
pub record SessionTold : Type 1 where
  pub shown : Shown
  pub skipped : ℕ
  pub reasons : Fact → Because → Type 0

abbrev pub session_told : Shown → ℕ → (Fact → Because → Type 0) → SessionTold
session_told shown skipped reasons = record { shown = shown; skipped = skipped; reasons = reasons }

-- the value of a register at a point, or of a byte at a moment
abbrev pub known_value : Shown → ℕ → Cell → Option ℕ
known_value s point (Register r) = s.register point r
known_value s moment (Byte a) = s.byte moment a

-- how many points or moments there are at which such a cell has values
abbrev pub places_of : Shown → Cell → ℕ
places_of s (Register r) = s.points
places_of s (Byte a) = s.moments

-- a reason that the analysis gave
abbrev pub explained : Reason → Because
explained reason = because reason.rule reason.premises.items reason.ranges.items
