use Rattle.std.proofs.Common.{ℕ, ◌<◌, length, Option}
use Rattle.rept_versions.specs.Line.{Line, AreSpansJoined}
use Rattle.rept_versions.specs.Puts.{Downs}
use Rattle.rept_versions.proofs.line.SpanLine.down.Given as goal

abbrev pub invariant-loop-stop : goal.invariant-loop-stop
invariant-loop-stop l = record {
  at : l.at < length l.self.spans;
  joined : AreSpansJoined l.self.spans;
  on : (later : Line) (r : Option ℕ) → Downs l.self later l.at l.to r → Downs l.initial.self later l.i l.to r;
}

abbrev pub decreases-loop-stop : goal.decreases-loop-stop
decreases-loop-stop l = l.at
