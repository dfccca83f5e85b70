use Rattle.std.proofs.Common.{◌≡◌, ℕ, ◌+◌, ◌-◌, min, List, length, arith, ap, ◌∙◌}
use Rattle.std.specs.List.{flat_map, range_with_len}
use Rattle.rept_findings.specs.Texts.{at}
use Rattle.rept_questions.specs.Texts.{around_lines, at_line}
use Rattle.rept_findings.proofs.TextLemmas.{grown_whole}
use Rattle.rept_questions.proofs.rows.around_text.Goals as goal

pub loop-point-preserved : goal.loop-point-preserved
loop-point-preserved g c =
    let s = g.F.Findings.shown c.args.findings.now in
    grown_whole (λ p. at_line s (at c.args.at.thread p)) c.saturating_sub-first.result (c.loop-point.point - c.saturating_sub-first.result) c.loop-point.point (c.loop-point.point + 1 - c.saturating_sub-first.result) c.loop-point.text c.push_at.new.text (omega arith) (omega arith) c.loop-point.invariant
    c.in_ok-push_at.ensures

pub returns : goal.returns
unfolding around_lines
returns g c =
    let s = g.F.Findings.shown c.args.findings.now in
    let f : ℕ → List ℕ = λ p. at_line s (at c.args.at.thread p) in
    let long : length c.rows.result.now ≡ length (s.rows c.args.at.thread) = ap length c.rows.ensures.list in
    let few = c.rows.ensures.few in
    let inside = c.requires.1 in
    let first = c.saturating_sub-first.ensures in
    let up = c.saturating_add.ensures in
    let end = c.min-end.ensures in
    let count : c.loop-point.point - c.saturating_sub-first.result ≡ min (c.args.at.point + c.args.count) (length (s.rows c.args.at.thread)) + 1 - (c.args.at.point - c.args.count) = omega (arith, long, few, inside, first, up, end) in
    c.loop-point.invariant ∙ ap (λ n. flat_map f (range_with_len c.saturating_sub-first.result n)) count
    ∙ ap (λ a. flat_map f (range_with_len a (min (c.args.at.point + c.args.count) (length (s.rows c.args.at.thread)) + 1 - (c.args.at.point - c.args.count)))) first
