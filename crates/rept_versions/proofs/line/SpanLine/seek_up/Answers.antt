use Rattle.std.proofs.Common.{◌+◌, ap, arith}
use Rattle.rept_versions.proofs.Firsts.{ended}
use Rattle.rept_versions.proofs.line.SpanLine.seek_up.Goals as goal

pub seek_between-requires-clause-below : goal.seek_between-requires-clause-below
seek_between-requires-clause-below c = ended _ c.count.ensures.rising _ (c.args.near + 1) (omega (arith, c.requires.within, c.if-near-count.false, c.count.ensures.len)) (omega (arith, c.if-k-t.false, ap (λ s. s.high) c.at-t.ensures.span))
