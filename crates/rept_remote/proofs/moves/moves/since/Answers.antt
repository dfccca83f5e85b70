use Rattle.rept_remote.proofs.MovesLemmas.Forward.{own_after, own_since}
use Rattle.rept_remote.proofs.moves.moves.since.Goals as goal

pub returns-then-step-here-clause-named : goal.returns-then-step-here-clause-named
returns-then-step-here-clause-named g c =
    own_since (g.F.Findings.shown c.args.findings.now) c.args.here c.args.address c.requires.last c.args.here.point c.args.row c.point-step.result c.point-step.ensures c.if-step-here.true c.requires.here c.requires.named

pub returns-then-step-here-clause-least : goal.returns-then-step-here-clause-least
returns-then-step-here-clause-least g c =
    own_after (g.F.Findings.shown c.args.findings.now) c.args.here c.args.address c.requires.last c.args.here.point c.args.row c.point-step.result c.point-step.ensures c.if-step-here.true c.requires.here c.requires.named
