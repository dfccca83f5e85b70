use Rattle.std.proofs.Common.{◌+◌, length, arith, ap, sym, ◌∙◌}
use Rattle.rept_findings.specs.Texts.{at}
use Rattle.rept_findings.specs.declared.place.ThreadPoint.{ThreadPoint}
use Rattle.rept_remote.specs.Moves.Halts.{is_break}
use Rattle.rept_remote.proofs.MovesLemmas.Ranges.{find_on}
use Rattle.rept_remote.proofs.moves.moves.break_after.Goals as goal

pub loop-next-preserved : goal.loop-next-preserved
loop-next-preserved g c =
    let s = g.F.Findings.shown c.args.findings.now in
    let t = c.args.here.thread in
    c.loop-next.invariant
    ∙ find_on (λ p. is_break s c.args.breaks.now (at t p)) c.loop-next.next (length (s.rows t) + 1) (omega (arith, c.loop-next-test.true, c.last_point-last.ensures.value))
    (ap (λ (p : ThreadPoint). is_break s c.args.breaks.now p) (sym c.point_at.ensures) ∙ sym c.is_break.ensures ∙ c.if-is_break.false)
