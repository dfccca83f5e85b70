-- What a session tells of a report: what is known, and what follows from it. That of one path point
-- p is p, its moment too, and the writer of a byte the greatest step before the point that may
-- write it, says `IsOneThread` of Single.antt. This project's own.
use Rattle.std.specs.Prelude.{ℕ, ◌+◌, true, false, List, length, Option, Some, None}
use Rattle.rept_steps.specs.Course.{rows_of}
use Rattle.rept_order.specs.Legs.{points_before}
use Rattle.rept_reason.specs.declared.fact.Fact.{Fact}
use Rattle.rept_reason.specs.declared.fact.Cell.TheVariants.{Byte}
use Rattle.rept_reason.specs.Facts.{Knowledge, register_known}
use Rattle.rept_span.specs.Moves.{Moves}
use Rattle.rept_span.specs.Ranges.{range}
use Rattle.rept_report.specs.declared.counts.Counts.{Counts}
use Rattle.rept_report.specs.Setting.{Setting, way_of}
use Rattle.rept_report.specs.Spots.{spot}
use Rattle.rept_report.specs.Views.{bounds}
use Rattle.rept_report.specs.Why.{IsReason}
use Rattle.rept_report.specs.OneThread.{ThreadPath}
use Rattle.rept_moments.specs.Seen.{seen, moment_in}
use Rattle.rept_facts.specs.Counts.{rows_below, calls_below, stores_below, known_below}
use Rattle.rept_findings.specs.Shown.{SessionTold, Shown, session_told}
use Rattle.rept_found.specs.Places.Places.{point_on, place_on}
use Rattle.rept_dump.specs.Program.{address_named, contents}
use Rattle.rept_found.specs.Trip.Trip.{Trip, setting_on}
use Rattle.rept_found.specs.Trip.Alone.{trip_of}
use Rattle.rept_found.specs.Trip.Last.{writer_found}
use Rattle.rept_found.specs.Crash.{Scene, ended_at}
use Rattle.rept_found.specs.ProgramCode.{code_byte}

-- the bits in which all values that are left are alike
abbrev pub noted : {W : Type 0} → Moves W → Option W → Option (ℕ × ℕ)
noted moves None = None
noted moves (Some set) = moves.note set

-- how many steps, environment calls, known registers, and stores to known and to unknown addresses
-- there are
abbrev pub counts_of : {W : Type 0} → Setting W → Knowledge → Counts
counts_of S K = record {
  steps = rows_below S.legs S.legs.count;
  calls = calls_below S.legs S.legs.count;
  registers = known_below K (S.legs.count + 1);
  exact = stores_below S.legs K true S.legs.count;
  inexact = stores_below S.legs K false S.legs.count;
}

-- What is shown of a report of a trip, where it ends in such a crash. Points have the numbers of
-- all threads' points one after the other, and moments those of their course; each is told by its
-- name.
abbrev pub shown_on : {W : Type 0} → Trip W → Knowledge → Scene → Shown
shown_on t K scene = record {
  threads = length t.course.threads;
  process = λ thread. (ended_at scene thread).process;
  rows = λ thread. rows_of t.course thread;
  end_pc = λ thread. (ended_at scene thread).end_pc;
  first = λ thread. points_before t.course.threads thread;
  points = (seen t.course).legs.count + 1;
  point = λ p. point_on t.course p;
  moments = (seen t.course).moments.end + 1;
  moment = λ p. moment_in (seen t.course) p;
  place = λ m. place_on t.course m;
  register = register_known K;
  range = λ p r. bounds t.sets (range (way_of (setting_on t)) K p r);
  note = λ p r. noted t.moves (range (way_of (setting_on t)) K p r);
  byte = λ m a. K m (Byte a);
  writer = λ m a. writer_found (setting_on t) K (spot m a);
  is_inferred = λ p c. false;
  beyond = None;
  code = code_byte t.course (contents scene.program);
  counts = counts_of (setting_on t) K;
  symbol = (contents scene.program).symbol;
  address_named = address_named scene.program;
}

-- of a path: that of its one thread, all of which is told
abbrev pub shown_of : {W : Type 0} → ThreadPath W → Knowledge → Scene → Shown
shown_of P K scene = shown_on (trip_of P) K scene

-- a report, the order in which it was learnt, and what a session tells besides: of the crash, and
-- how many packets were left out
pub record Account : Type 0 where
  pub known : Knowledge
  pub log : List Fact
  pub scene : Scene
  pub skipped : ℕ

-- what a session tells of a trip, with reasons by that order
abbrev pub told_on : {W : Type 0} → Trip W → Account → SessionTold
told_on t a = session_told (shown_on t a.known a.scene) a.skipped (IsReason (setting_on t) a.log)

-- and of a path
abbrev pub told_of : {W : Type 0} → ThreadPath W → Account → SessionTold
told_of P a = told_on (trip_of P) a
