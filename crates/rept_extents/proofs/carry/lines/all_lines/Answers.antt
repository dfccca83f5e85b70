use Rattle.std.proofs.Common.{◌≡◌, ◌+◌, ℕ, List, sym, ap, ◌∙◌, subst, arith}
use Rattle.rept_moments.specs.declared.course.NumberedRun.{NumberedRun}
use Rattle.rept_moments.specs.Courses.{seen_in}
use Rattle.rept_report.specs.declared.paths.NumberChain.{NumberChain}
use Rattle.rept_extents.specs.Carry.Lines.{AreLinesBelow}
use Rattle.rept_extents.proofs.CarryLemmas.Lining.{lines_more}
use Rattle.rept_extents.proofs.carry.lines.all_lines.Goals as goal

pub loop-number-preserved : goal.loop-number-preserved
loop-number-preserved c =
    let M = (seen_in c.args.ways.now).moments in
    record {
      lines = subst (λ (xs : List NumberChain). AreLinesBelow M (c.loop-number.number + 1) xs) (sym c.in_ok-push.ensures.items) (lines_more M c.loop-number.number c.loop-number.line c.loop-number.list.items c.loop-number.invariant.lines c.loop-number.invariant.line);
      line = c.line_after-line.ensures;
    }

pub returns : goal.returns
returns c =
    let M = (seen_in c.args.ways.now).moments in
    let end : c.end-number-end.result ≡ M.end = c.end-number-end.ensures ∙ ap (λ (x : NumberedRun). (seen_in x).moments.end) c.course-course.ensures.value in
    let last : c.loop-number.number ≡ M.end = omega (arith, c.loop-number-test.false, c.loop-number.auto.number-end, end) in
    subst (λ (k : ℕ). AreLinesBelow M (k + 1) c.push-2.new.self.items) last (subst (λ (xs : List NumberChain). AreLinesBelow M (c.loop-number.number + 1) xs) (sym c.in_ok-push-2.ensures.items) (lines_more M c.loop-number.number c.loop-number.line c.loop-number.list.items c.loop-number.invariant.lines c.loop-number.invariant.line))
