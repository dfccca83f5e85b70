use Rattle.std.proofs.Common.{◌≡◌, ℕ, ◌+◌, ◌-◌, ◌++◌, Option, arith, ap, ◌∙◌}
use Rattle.std.specs.List.{flat_map, range_with_len}
use Rattle.rept_findings.specs.Texts.{register_line, register_lines, value_line}
use Rattle.rept_findings.proofs.TextLemmas.{grown_whole}
use Rattle.rept_findings.proofs.lines.register_texts.Goals as goal

pub loop-number-preserved : goal.loop-number-preserved
loop-number-preserved g c =
    let s = g.F.Findings.shown c.args.findings.now in
    grown_whole (register_line s c.args.point) 1 (c.loop-number.number - 1) c.loop-number.number (c.loop-number.number + 1 - 1) c.loop-number.text c.push_value.new.text (omega arith) (omega arith) c.loop-number.invariant
    (c.in_ok-push_value.ensures ∙ ap (λ (o : Option ℕ). c.loop-number.text ++ value_line c.in-Some.register o) c.reg-value.ensures ∙ ap (λ r. c.loop-number.text ++ register_line s c.args.point r) c.in-Some.ensures.value)

pub returns : goal.returns
unfolding register_lines
returns g c =
    let all : c.loop-number.number - 1 ≡ 31 = omega arith in
    c.loop-number.invariant ∙ ap (λ n. flat_map (register_line (g.F.Findings.shown c.args.findings.now) c.args.point) (range_with_len 1 n)) all
