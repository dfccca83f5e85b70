use Rattle.std.proofs.Common.{◌≡◌, ℕ, subst, arith}
use Rattle.rept_moments.specs.Several.{seen_of}
use Rattle.rept_report.specs.Timeline.{IsJoined}
use Rattle.rept_timeline.proofs.Stripping.{strip_of_part}
use Rattle.rept_timeline.proofs.strips.strip_from.Goals as goal

pub longer-requires-clause-joined : goal.longer-requires-clause-joined
longer-requires-clause-joined c =
    let up = c.loop-strip.invariant.part.up in
    let first = c.loop-strip.invariant.first in
    let less = c.loop-strip-test.true in
    c.line_end-last.ensures.joined c.loop-strip.strip.last (omega (arith, up, first)) less

pub returns : goal.returns
returns c =
    let inside = c.loop-strip.invariant.inside in
    let far = c.loop-strip-test.false in
    let same : c.loop-strip.strip.last ≡ c.line_end-last.result = omega (arith, inside, far) in
    strip_of_part c.args.many.now c.loop-strip.strip c.args.first c.loop-strip.invariant.first c.loop-strip.invariant.part (λ joined. absurd (c.line_end-last.ensures.ends (subst (λ (k : ℕ). IsJoined (seen_of c.args.many.now).moments k) same joined)))
