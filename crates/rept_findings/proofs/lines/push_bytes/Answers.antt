use Rattle.std.proofs.Common.{ℕ, ◌+◌, ◌++◌, List, Option, codes, arith, ap, ◌∙◌}
use Rattle.rept_findings.specs.Texts.{byte_piece, byte_text, wrapped}
use Rattle.rept_findings.proofs.TextLemmas.{grown}
use Rattle.rept_findings.proofs.lines.push_bytes.Goals as goal

pub loop-i-preserved : goal.loop-i-preserved
loop-i-preserved g c =
    let f : ℕ → List ℕ = λ i. byte_piece (g.F.Findings.shown c.args.findings.now) c.args.moment (wrapped (c.args.address + i)) in
    grown f 0 c.loop-i.i c.loop-i.i (c.loop-i.i + 1) c.args.text.now c.loop-i.text c.push_byte_piece.new.text (omega arith) (omega arith) c.loop-i.invariant
    (c.in_ok-push_byte_piece.ensures ∙ ap (λ (o : Option ℕ). c.loop-i.text ++ (codes " " ++ byte_text o)) c.byte-byte.ensures)
