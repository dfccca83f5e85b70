use Rattle.std.proofs.Common.{length, ap, arith}
use Rattle.rept_versions.proofs.Least.{leasts}
use Rattle.rept_versions.proofs.plain_facts.PlainFacts.least.Goals as goal

pub returns : goal.returns
returns c = leasts c.args.self.now.entries c.loop-i.i c.args.low c.args.high c.loop-i.least (omega (arith, c.loop-i-test.false, c.loop-i.auto.i-end, c.len-i-end.ensures.len, ap (λ p. length p.entries) c.self.view_is)) c.loop-i.invariant
