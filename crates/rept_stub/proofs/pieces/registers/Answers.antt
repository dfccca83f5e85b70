use Rattle.std.proofs.Common.{◌+◌, ◌++◌, ℕ, Option, arith, ap, ◌∙◌}
use Rattle.rept_findings.proofs.TextLemmas.{grown_whole}
use Rattle.rept_stub.specs.Replies.{value_digits}
use Rattle.rept_stub.proofs.pieces.registers.Goals as goal

pub loop-number-preserved : goal.loop-number-preserved
loop-number-preserved g c =
    let s = g.F.Findings.shown c.args.findings.now in
    grown_whole (λ r. value_digits (s.register c.number_of-point.result r)) 0 c.loop-number.number c.loop-number.number (c.loop-number.number + 1) c.loop-number.text c.push_value.new.text (omega arith) (omega arith) c.loop-number.invariant
    (c.in_ok-push_value.ensures ∙ ap (λ (o : Option ℕ). c.loop-number.text ++ value_digits o) c.reg.ensures ∙ ap (λ r. c.loop-number.text ++ value_digits (s.register c.number_of-point.result r)) c.in-Some.ensures.value)
