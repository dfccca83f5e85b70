use Rattle.std.proofs.Common.{◌+◌, length, arith, ap, sym, ◌∙◌}
use Rattle.rept_findings.specs.Texts.{at}
use Rattle.rept_findings.specs.declared.place.ThreadPoint.{ThreadPoint}
use Rattle.rept_remote.specs.Moves.Halts.{is_outside}
use Rattle.rept_remote.proofs.MovesLemmas.Ranges.{find_here, find_on}
use Rattle.rept_remote.proofs.moves.moves.first_outside.Goals as goal

pub loop-next-preserved : goal.loop-next-preserved
loop-next-preserved g c =
    let s = g.F.Findings.shown c.args.findings.now in
    let t = c.args.here.thread in
    c.loop-next.invariant
    ∙ find_on (λ p. is_outside s c.args.range (at t p)) c.loop-next.next (length (s.rows t) + 1) (omega (arith, c.loop-next-test.true, c.last_point-last.ensures.value))
    (ap (λ (p : ThreadPoint). is_outside s c.args.range p) (sym c.point_at.ensures) ∙ sym c.is_outside.ensures ∙ c.if-is_outside.false)

pub returns-then-is_outside-clause-value : goal.returns-then-is_outside-clause-value
returns-then-is_outside-clause-value g c =
    let s = g.F.Findings.shown c.args.findings.now in
    let t = c.args.here.thread in
    sym
    (c.loop-next.invariant
    ∙ find_here (λ p. is_outside s c.args.range (at t p)) c.loop-next.next (length (s.rows t) + 1) (omega (arith, c.loop-next-test.true, c.last_point-last.ensures.value))
    (ap (λ (p : ThreadPoint). is_outside s c.args.range p) (sym c.point_at.ensures) ∙ sym c.is_outside.ensures ∙ c.if-is_outside.true))
