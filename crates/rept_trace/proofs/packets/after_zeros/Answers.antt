use Rattle.std.proofs.Common.{◌≡◌, ◌∷◌, ap, ◌∙◌, List, ℕ, subst}
use Rattle.rept_trace.specs.Stream.{AreAfterZeros}
use Rattle.rept_trace.proofs.Frames.{zero_more}
use Rattle.rept_trace.proofs.packets.after_zeros.Goals as goal

pub loop-others-preserved : goal.loop-others-preserved
loop-others-preserved c =
    let cases = c.in-Some-eq0-default.ensures.cases.0 in
    let zero = c.in-Some-eq0-default.field-0-0-test in
    let e : c.loop-others.rest.now ≡ 0 ∷ c.in-Some-eq0-default.others.now = cases ∙ ap (λ n. n ∷ c.in-Some-eq0-default.others.now) zero in
    zero_more c.args.bytes.now c.in-Some-eq0-default.others.now (subst (λ (xs : List ℕ). AreAfterZeros c.args.bytes.now xs) e c.loop-others.invariant)
