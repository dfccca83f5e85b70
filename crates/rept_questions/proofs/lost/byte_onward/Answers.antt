use Rattle.std.proofs.Common.{◌≡◌, ℕ, suc, ◌+◌, ◌-◌, ◌<◌, Bool, false, Some, cond, length, arith, ap, sym, ◌∙◌}
use Rattle.std.specs.List.{find, range_with_len}
use Rattle.rept_findings.specs.Texts.{at}
use Rattle.rept_questions.specs.Writers.{is_writer}
use Rattle.rept_questions.proofs.LostLemmas.{first_more}
use Rattle.rept_questions.proofs.lost.byte_onward.Goals as goal

pub loop-step-preserved : goal.loop-step-preserved
loop-step-preserved g c =
    let s = g.F.Findings.shown c.args.findings.now in
    let n = length (s.rows c.args.at.thread) in
    let k = c.loop-step.step in
    let test : ℕ → Bool = λ j. is_writer s c.args.address (at c.args.at.thread j) in
    let long : length c.rows.result.now ≡ n = ap length c.rows.ensures.list in
    let few = c.rows.ensures.few in
    let inside : k < n = omega (arith, long, few, c.loop-step-test.true) in
    let one : n - k ≡ suc (n - (k + 1)) = omega (arith, inside) in
    let passed : test k ≡ false = sym c.is_writer.ensures ∙ c.if-is_writer.false in
    c.loop-step.invariant ∙ first_more test k (n - k) (n - (k + 1)) one
    ∙ ap (λ b. cond b (Some k) (find test (range_with_len (k + 1) (n - (k + 1))))) passed
