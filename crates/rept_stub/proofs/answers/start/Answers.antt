use Rattle.std.proofs.Common.{ℕ, List, subst, sym}
use Rattle.rept_stub.specs.Standing.{AreCursors}
use Rattle.rept_stub.proofs.Stands.{at_ends}
use Rattle.rept_stub.proofs.answers.start.Goals as goal

pub returns-clause-within : goal.returns-clause-within
returns-clause-within g c =
    let s = g.F.Findings.shown c.args.findings.now in
    (subst (λ (cursors : List ℕ). AreCursors s cursors) (sym c.in_ok-cursors.ensures) (at_ends s), c.threads-threads.ensures.some, c.threads-threads.ensures.some, tt)
