use Rattle.std.proofs.Common.{◌≡◌, ◌<◌, ◌+◌, ◌++◌, ℕ, Some, None, Option, IfSome, sym, subst, ap, ◌∙◌, arith}
use Rattle.rept_findings.specs.Texts.{at, writer_line}
use Rattle.rept_findings.specs.declared.place.ThreadPoint.{ThreadPoint}
use Rattle.rept_findings.specs.LastWriters.{writer_at}
use Rattle.rept_stub.specs.Monitoring.{row_before, writers_text}
use Rattle.rept_stub.proofs.Listed.{begins, last, lines_left, on}
use Rattle.rept_stub.proofs.monitoring.writers_text.Goals as goal

pub loop-init : goal.loop-init
loop-init g c = record {
  within = omega arith;
  lines = begins (g.F.Findings.shown c.args.findings.now) c.args.address c.args.at c.new-text.result c.new-text.ensures;
}

pub returns-in-None : goal.returns-in-None
returns-in-None g c =
    let s = g.F.Findings.shown c.args.findings.now in
    let a = c.args.address in
    let i = c.loop.invariant in
    let here = at c.args.at.thread c.loop.below in
    let none : row_before s here a ≡ None = ap (λ (p : ThreadPoint). row_before s p a) (sym c.point_at-here.ensures) ∙ sym c.row_before.ensures.value ∙ c.in-None.is in
    c.in_ok-push_line.ensures ∙ ap (λ w. c.loop.text ++ writer_line s w) c.writer_at.ensures.value ∙ ap (λ (p : ThreadPoint). c.loop.text ++ writer_line s (writer_at s p a)) c.point_at-here.ensures
    ∙ sym (last s a (writers_text s c.args.at a) c.loop.text c.loop.counter here c.loop-test.true i.lines none)

pub loop-preserved : goal.loop-preserved
loop-preserved g c =
    let s = g.F.Findings.shown c.args.findings.now in
    let a = c.args.address in
    let i = c.loop.invariant in
    let here = at c.args.at.thread c.loop.below in
    let some : row_before s here a ≡ Some c.in-Some.row = ap (λ (p : ThreadPoint). row_before s p a) (sym c.point_at-here.ensures) ∙ sym c.row_before.ensures.value ∙ c.in-Some.is in
    let below : c.point_at-here.result.point ≡ c.loop.below = ap (λ (p : ThreadPoint). p.point) c.point_at-here.ensures in
    let lower : IfSome (Some c.in-Some.row) (λ row. row < c.point_at-here.result.point) = subst (λ (o : Option ℕ). IfSome o (λ row. row < c.point_at-here.result.point)) c.in-Some.is c.row_before.ensures.within in
    let line = c.in_ok-push_line.ensures ∙ ap (λ w. c.loop.text ++ writer_line s w) c.writer_at.ensures.value ∙ ap (λ (p : ThreadPoint). c.loop.text ++ writer_line s (writer_at s p a)) c.point_at-here.ensures in
    record {
      within = let few = i.within in omega (arith, lower, below);
      lines = on s a (writers_text s c.args.at a) c.loop.text c.loop.counter here c.in-Some.row c.loop-test.true i.lines some
          ∙ ap (λ t. t ++ lines_left s a (c.loop.counter + 1) (at c.args.at.thread c.in-Some.row)) (sym line);
    }
