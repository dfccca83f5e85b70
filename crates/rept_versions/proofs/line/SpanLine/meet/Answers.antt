use Rattle.std.proofs.Common.{arith}
use Rattle.rept_versions.proofs.Lines.{value_joined, joined_joined}
use Rattle.rept_versions.proofs.line.SpanLine.meet.Goals as goal

pub returns-clause-reads : goal.returns-clause-reads
returns-clause-reads c q = let m = c.if-not-meets.ensures in let w = m.rising.whole in rw c.join.ensures.spans (value_joined _ _ q m.meets.0 (w _ (omega (arith, m.meets.0))) (w _ m.meets.0) m.meets.1 m.meets.2)

pub returns-clause-joined : goal.returns-clause-joined
returns-clause-joined c = let m = c.if-not-meets.ensures in rw c.join.ensures.spans (joined_joined _ _ m.meets.0 m.meets.2 c.requires.rest)
