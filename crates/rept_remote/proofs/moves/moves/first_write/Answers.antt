use Rattle.std.proofs.Common.{sym}
use Rattle.rept_findings.specs.Texts.{at}
use Rattle.rept_remote.specs.Moves.Halts.{is_touched}
use Rattle.rept_remote.proofs.MovesLemmas.Forward.{below, none_between, none_found}
use Rattle.rept_remote.proofs.moves.moves.first_write.Goals as goal

pub returns-in-Some-clause-value : goal.returns-in-Some-clause-value
returns-in-Some-clause-value g c = c.first_change.ensures.value c.args.bound c.in-Some.ensures.within

pub returns-in-None-clause-value : goal.returns-in-None-clause-value
returns-in-None-clause-value g c =
    let s = g.F.Findings.shown c.args.findings.now in
    sym
    (none_found (λ p. is_touched s (at c.args.here.thread p) c.args.address) c.args.here.point c.args.bound c.requires.order
    (none_between s c.args.here c.args.address c.changed_by.ensures.last c.args.bound c.requires.bound (c.changed_by.ensures.none c.in-None.is)))

pub first_change-requires-clause-order : goal.first_change-requires-clause-order
first_change-requires-clause-order g c = c.in-Some.ensures.least c.args.here.point (below c.args.here.point c.args.bound c.requires.order c.if-here-bound.false) (λ row is. is)
