use Rattle.std.proofs.Common.{◌≡◌, length}
use Rattle.rept_questions.proofs.TrailLemmas.{AreFound}
use Rattle.rept_questions.proofs.trail.trail_of.Given as goal

abbrev pub invariant-loop : goal.invariant-loop
invariant-loop g l = record {
  found : AreFound (g.F.Findings.shown l.findings) l.first.thread l.first.point l.rows.items l.seen.items l.below;
  count : length l.rows.items ≡ l.counter;
}
