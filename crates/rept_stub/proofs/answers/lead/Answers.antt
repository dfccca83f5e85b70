use Rattle.std.proofs.Common.{ℕ, List, arith, subst, sym}
use Rattle.rept_stub.specs.Standing.{AreCursors}
use Rattle.rept_stub.proofs.Stands.{puts}
use Rattle.rept_stub.proofs.answers.lead.Goals as goal

pub put-requires : goal.put-requires
put-requires g c = let each = c.requires.standing.0.each in omega (arith, each, c.requires.standing.1)

pub returns-clause-within : goal.returns-clause-within
returns-clause-within g c =
    let s = g.F.Findings.shown c.args.findings.now in
    let cursors = c.args.stand.now.cursors in
    (subst (λ (xs : List ℕ). AreCursors s xs) (sym c.put.ensures) (puts s cursors c.requires.standing.0 c.args.stand.now.thread c.args.point c.requires.standing.1 c.requires.point), c.requires.standing.1, c.requires.standing.2, c.requires.standing.3)
