use Rattle.std.proofs.Common.{◌≡◌, ℕ, ◌+◌, ◌++◌, List, length, arith, ap, subst, ◌∙◌, IfOk}
use Rattle.std.specs.List.{filter, range_with_len}
use Rattle.rept_isa.specs.declared.row.StepRow.{StepRow}
use Rattle.rept_questions.specs.Spots.{one_where, points_where, spots_line}
use Rattle.rept_findings.specs.Texts.{at}
use Rattle.rept_questions.specs.Texts.{find_line, is_held}
use Rattle.rept_questions.proofs.SpotLemmas.{points_more}
use Rattle.rept_questions.proofs.spots.find_text.Goals as goal

pub loop-point-preserved : goal.loop-point-preserved
loop-point-preserved g c =
    let s = g.F.Findings.shown c.args.findings.now in
    points_more (λ p. is_held s (at c.args.at.thread p) c.args.register c.args.value) c.loop-point.point (c.loop-point.point + 1) c.loop-point.points.items c.push_where.new.points.items (omega arith) c.loop-point.invariant
    (c.in_ok-push_where.ensures ∙ ap (λ b. c.loop-point.points.items ++ one_where b c.loop-point.point) c.is_held.ensures)

pub returns : goal.returns
unfolding find_line
returns g c =
    let s = g.F.Findings.shown c.args.findings.now in
    let all : c.loop-point.point ≡ length c.rows.result.now + 1 = omega arith in
    let holds : ℕ → _ = λ p. is_held s (at c.args.at.thread p) c.args.register c.args.value in
    subst (λ (xs : List ℕ). IfOk c.spots_text.result (λ text. text ≡ spots_line xs c.args.at.point))
    (c.as_slice.ensures.value ∙ c.loop-point.invariant ∙ ap (λ n. filter holds (range_with_len 0 n)) all ∙ ap (λ (rows : List StepRow). points_where holds (length rows)) c.rows.ensures.list)
    c.spots_text.ensures
