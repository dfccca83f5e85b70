use Rattle.std.proofs.Common.{◌≡◌, ◌<◌, ◌∙◌, IfSome, Option, Some, ap, subst, sym}
use Rattle.rept_remote.specs.Moves.Halts.{later, point_before}
use Rattle.rept_remote.specs.declared.moves.halt.LastWrite.{LastWrite}
use Rattle.rept_remote.proofs.MovesLemmas.Named.{no_later}
use Rattle.rept_remote.proofs.moves.moves.later_row.Goals as goal

pub returns-then-was_named-clause-value : goal.returns-then-was_named-clause-value
returns-then-was_named-clause-value g c =
    let s = g.F.Findings.shown c.args.findings.now in
    let order : c.in-Some.write.point < c.args.here.point = subst (λ (o : Option LastWrite). IfSome o (λ w. w.point < c.args.here.point)) c.in-Some.is c.requires.best in
    sym
    (ap (λ (o : Option LastWrite). later o (point_before s c.args.here c.args.address (Some c.args.row)) c.args.address) c.in-Some.is
    ∙ no_later s c.args.here c.args.address c.args.row c.requires.last c.requires.here c.requires.named c.in-Some.write order (c.was_named.ensures c.if-was_named.true))
