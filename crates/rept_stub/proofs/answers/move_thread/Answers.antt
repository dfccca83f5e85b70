use Rattle.std.proofs.Common.{ℕ, ◌≤◌, List, length, ap, arith, subst, sym}
use Rattle.rept_findings.specs.declared.place.ThreadPoint.{ThreadPoint}
use Rattle.rept_stub.specs.Standing.{AreCursors}
use Rattle.rept_stub.proofs.Stands.{puts}
use Rattle.rept_stub.proofs.answers.move_thread.Goals as goal

pub put-requires : goal.put-requires
put-requires g c = let each = c.requires.standing.0.each in omega (arith, each, c.requires.thread, c.requires.standing.1)

pub returns-clause-within : goal.returns-clause-within
returns-clause-within g c =
    let s = g.F.Findings.shown c.args.findings.now in
    let cursors = c.args.stand.now.cursors in
    let within : c.in_ok-halt.halt.point ≤ length (s.rows c.args.thread) = subst (λ t. c.in_ok-halt.halt.point ≤ length (s.rows t)) (ap (λ (p : ThreadPoint). p.thread) c.cursor_of-at.ensures.value) c.in_ok-halt.ensures.within in
    (subst (λ (xs : List ℕ). AreCursors s xs) (sym c.put.ensures) (puts s cursors c.requires.standing.0 c.args.thread c.in_ok-halt.halt.point c.requires.thread within), c.requires.thread, c.requires.thread, c.requires.standing.3)
