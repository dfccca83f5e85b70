use Rattle.std.proofs.Common.{ℕ, ◌<◌, length, Option}
use Rattle.rept_versions.specs.Line.{Line, AreSpansJoined}
use Rattle.rept_versions.specs.Puts.{Ups}
use Rattle.rept_versions.proofs.line.SpanLine.up.Given as goal

abbrev pub invariant-loop-stop : goal.invariant-loop-stop
invariant-loop-stop l = record {
  at : l.i < length l.self.spans;
  joined : AreSpansJoined l.self.spans;
  on : (later : Line) (r : Option ℕ) → Ups l.self later l.i l.to r → Ups l.initial.self later l.i l.to r;
}

abbrev pub decreases-loop-stop : goal.decreases-loop-stop
decreases-loop-stop l = length l.self.spans
