use Rattle.std.proofs.Common.{◌≡◌, ℕ, ◌+◌, ◌-◌, ◌*◌, ◌/◌, ◌++◌, List, arith, ap, ◌∙◌, min}
use Rattle.std.specs.List.{flat_map, range_with_len}
use Rattle.rept_findings.specs.Texts.{memory_line, memory_lines, wrapped}
use Rattle.rept_findings.proofs.TextLemmas.{grown_whole}
use Rattle.rept_findings.proofs.lines.memory_text.Goals as goal

pub loop-line-preserved : goal.loop-line-preserved
loop-line-preserved g c =
    let f : ℕ → List ℕ = λ k. memory_line (g.F.Findings.shown c.args.findings.now) c.args.moment (wrapped (c.args.address + 16 * k)) (min 16 (c.args.count - 16 * k)) in
    grown_whole f 0 c.loop-line.line c.loop-line.line (c.loop-line.line + 1) c.loop-line.text c.push_memory_line.new.text (omega arith) (omega arith) c.loop-line.invariant
    (c.in_ok-push_memory_line.ensures ∙ ap (λ n. c.loop-line.text ++ memory_line (g.F.Findings.shown c.args.findings.now) c.args.moment (wrapped (c.args.address + 16 * c.loop-line.line)) n) c.min-bytes.ensures)

pub returns : goal.returns
unfolding memory_lines
returns g c =
    let all : c.loop-line.line ≡ (c.args.count + 15) / 16 = omega arith in
    c.loop-line.invariant
    ∙ ap (λ n. flat_map (λ k. memory_line (g.F.Findings.shown c.args.findings.now) c.args.moment (wrapped (c.args.address + 16 * k)) (min 16 (c.args.count - 16 * k))) (range_with_len 0 n)) all
