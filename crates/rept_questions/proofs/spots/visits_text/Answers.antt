use Rattle.std.proofs.Common.{◌≡◌, ℕ, ◌+◌, ◌++◌, List, length, arith, ap, subst, ◌∙◌, IfOk}
use Rattle.std.specs.Prelude.{◌==◌}
use Rattle.std.specs.List.{filter, range_with_len}
use Rattle.rept_isa.specs.declared.row.StepRow.{StepRow}
use Rattle.rept_questions.specs.Spots.{one_where, points_where, spots_line}
use Rattle.rept_findings.specs.Texts.{at, pc_at}
use Rattle.rept_questions.specs.Texts.{visits_line}
use Rattle.rept_questions.proofs.SpotLemmas.{points_more}
use Rattle.rept_questions.proofs.spots.visits_text.Goals as goal

pub loop-point-preserved : goal.loop-point-preserved
loop-point-preserved g c =
    let s = g.F.Findings.shown c.args.findings.now in
    points_more (λ p. pc_at s (at c.args.at.thread p) == c.args.address) c.loop-point.point (c.loop-point.point + 1) c.loop-point.points.items c.push_where.new.points.items (omega arith) c.loop-point.invariant
    (c.in_ok-push_where.ensures ∙ ap (λ pc. c.loop-point.points.items ++ one_where (pc == c.args.address) c.loop-point.point) c.address_at.ensures)

pub returns : goal.returns
unfolding visits_line
returns g c =
    let s = g.F.Findings.shown c.args.findings.now in
    let all : c.loop-point.point ≡ length c.rows.result.now + 1 = omega arith in
    let holds : ℕ → _ = λ p. pc_at s (at c.args.at.thread p) == c.args.address in
    subst (λ (xs : List ℕ). IfOk c.spots_text.result (λ text. text ≡ spots_line xs c.args.at.point))
    (c.as_slice.ensures.value ∙ c.loop-point.invariant ∙ ap (λ n. filter holds (range_with_len 0 n)) all ∙ ap (λ (rows : List StepRow). points_where holds (length rows)) c.rows.ensures.list)
    c.spots_text.ensures
