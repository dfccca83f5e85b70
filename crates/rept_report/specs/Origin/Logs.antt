-- A byte of a log: where the log or the dump has it, and which rows may write it by the log. This
-- project's own.
use Rattle.std.specs.Prelude.{ℕ, ◌<◌, ◌==◌, if◌then◌else◌, List, Option, Some, None}
use Rattle.rept_report.specs.Nearest.Nets.{Links}
use Rattle.rept_reason.specs.declared.fact.Fact.{Fact}
use Rattle.rept_reason.specs.declared.fact.Cell.TheVariants.{Byte}
use Rattle.rept_reason.specs.Facts.{told}
use Rattle.rept_report.specs.Setting.{Setting}
use Rattle.rept_report.specs.Timeline.{Timeline}
use Rattle.rept_report.specs.Views.{may_write}
use Rattle.rept_report.specs.Reasons.{IsReached}
use Rattle.rept_report.specs.Origin.Bridges.{ByteAlong, links_over}

abbrev pub time_of : {W : Type 0} → Setting W → Timeline
time_of S = record { legs = S.legs; moments = S.moments }

-- the first that is there
abbrev pub or_else : Option ℕ → Option ℕ → Option ℕ
or_else None y = y
or_else (Some v) y = Some v

-- a byte that the log has, or the dump
abbrev pub source : {W : Type 0} → Setting W → List Fact → ℕ → ℕ → Option ℕ
source S fs a m = or_else (told fs m (Byte a)) (if m == S.moments.end then S.dump a else None)

abbrev pub byte_in : {W : Type 0} → Setting W → List Fact → ℕ → ByteAlong
byte_in S fs a = record { address = a; source = source S fs a; rows = S.legs.count; may = may_write S (told fs) }

abbrev pub links_in : {W : Type 0} → Setting W → List Fact → ℕ → Links
links_in S fs a = links_over (time_of S) (byte_in S fs a)

-- so many uses of the rules that carry a byte make it known at a moment, and no fewer
abbrev pub IsReachedFirst : {W : Type 0} → Setting W → List Fact → ℕ → ℕ → ℕ → Type 0
IsReachedFirst S fs a uses m = IsReached S fs a uses m × ((k : ℕ) → k < uses → IsReached S fs a k m → ⊥)
