use Rattle.std.proofs.Common.{◌≡◌, ◌++◌, arith, ap, sym, ◌∙◌}
use Rattle.std.proofs.lemmas.List.{append-nil}
use Rattle.rept_findings.specs.Texts.{at}
use Rattle.rept_questions.specs.Writers.{writers_before}
use Rattle.rept_questions.proofs.writers.steps_before.Goals as goal

pub returns : goal.returns
returns g c =
    let s = g.F.Findings.shown c.args.findings.now in
    let none : c.back.below ≡ 0 = omega arith in
    sym (c.back.invariant.same ∙ ap (λ q. c.back.steps.items ++ writers_before s c.args.bytes (at c.args.at.thread q)) none ∙ append-nil c.back.steps.items)
