use Rattle.std.proofs.Common.{◌≡◌, ℕ, suc, ◌+◌, ◌-◌, Bool, true, false, arith, ap, sym, ◌∙◌}
use Rattle.std.specs.Prelude.{◌||◌}
use Rattle.std.specs.List.{list_any, range_with_len}
use Rattle.rept_findings.specs.Texts.{wrapped}
use Rattle.rept_questions.specs.Writers.{is_writer}
use Rattle.rept_questions.proofs.WriterLemmas.{any_more, any_none}
use Rattle.rept_questions.proofs.writers.is_some_writer.Goals as goal

pub returns-then-is_writer : goal.returns-then-is_writer
returns-then-is_writer g c =
    let s = g.F.Findings.shown c.args.findings.now in
    let test : ℕ → Bool = λ i. is_writer s (wrapped (c.args.bytes.address + i)) c.args.at in
    let i = c.loop-i.i in
    let n = c.args.bytes.count in
    let one : n - i ≡ suc (n - (i + 1)) = omega (arith, c.loop-i-test.true) in
    let found : test i ≡ true = sym c.is_writer.ensures ∙ c.if-is_writer.true in
    sym (c.loop-i.invariant ∙ any_more test i (n - i) (n - (i + 1)) one ∙ ap (λ b. b || list_any test (range_with_len (i + 1) (n - (i + 1)))) found)

pub loop-i-preserved : goal.loop-i-preserved
loop-i-preserved g c =
    let s = g.F.Findings.shown c.args.findings.now in
    let test : ℕ → Bool = λ i. is_writer s (wrapped (c.args.bytes.address + i)) c.args.at in
    let i = c.loop-i.i in
    let n = c.args.bytes.count in
    let one : n - i ≡ suc (n - (i + 1)) = omega (arith, c.loop-i-test.true) in
    let passed : test i ≡ false = sym c.is_writer.ensures ∙ c.if-is_writer.false in
    c.loop-i.invariant ∙ any_more test i (n - i) (n - (i + 1)) one ∙ ap (λ b. b || list_any test (range_with_len (i + 1) (n - (i + 1)))) passed

pub returns : goal.returns
returns g c =
    let s = g.F.Findings.shown c.args.findings.now in
    let test : ℕ → Bool = λ i. is_writer s (wrapped (c.args.bytes.address + i)) c.args.at in
    let i = c.loop-i.i in
    let n = c.args.bytes.count in
    let none : n - i ≡ 0 = omega (arith, c.loop-i-test.false) in
    sym (c.loop-i.invariant ∙ any_none test i (n - i) none)
