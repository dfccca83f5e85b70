use Rattle.std.proofs.Common.{◌≡◌, ℕ, suc, ◌-◌, Bool, false, Some, cond, arith, ap, sym, ◌∙◌}
use Rattle.std.specs.List.{find}
use Rattle.rept_findings.specs.Texts.{at}
use Rattle.rept_questions.specs.Trail.{falling}
use Rattle.rept_questions.specs.Writers.{is_writer}
use Rattle.rept_questions.proofs.TrailLemmas.{falling_one}
use Rattle.rept_questions.proofs.lost.byte_back.Goals as goal

pub back-preserved : goal.back-preserved
back-preserved g c =
    let s = g.F.Findings.shown c.args.findings.now in
    let k = c.back.below - 1 in
    let test : ℕ → Bool = λ j. is_writer s c.args.address (at c.args.at.thread j) in
    let few = c.back.invariant.within in
    let one : c.back.below ≡ suc k = omega (arith, c.back-test.true) in
    let passed : test k ≡ false = sym c.is_writer.ensures ∙ c.if-is_writer.false in
    record {
      same = c.back.invariant.same ∙ falling_one test c.back.below k one ∙ ap (λ b. cond b (Some k) (find test (falling k))) passed;
      within = omega (arith, few);
    }
