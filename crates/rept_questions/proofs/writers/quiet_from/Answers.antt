use Rattle.std.proofs.Common.{◌≡◌, ℕ, ◌+◌, ◌<◌, ◌≤◌, Bool, false, arith}
use Rattle.rept_findings.specs.Texts.{at, wrapped}
use Rattle.rept_questions.specs.Writers.{is_writer}
use Rattle.rept_questions.proofs.WriterLemmas.{any_false, one_more}
use Rattle.rept_questions.proofs.writers.quiet_from.Goals as goal

pub loop-i-preserved : goal.loop-i-preserved
loop-i-preserved g c =
    let s = g.F.Findings.shown c.args.findings.now in
    let first = c.greater_of-least.ensures.first in
    let second = c.greater_of-least.ensures.second in
    record {
      quiet = λ j k under over upto.
          one_more (λ j. is_writer s (wrapped (c.args.bytes.address + j)) (at c.args.at.thread k) ≡ false) c.loop-i.i
          (λ j below. c.loop-i.invariant.quiet j k below (omega (arith, first, over)) upto)
          (c.quiet_byte.ensures.quiet k (omega (arith, second, over)) upto) j under;
      within = c.greater_of-least.ensures.least c.args.at.point c.loop-i.invariant.within c.quiet_byte.ensures.within;
    }

pub returns-clause-quiet : goal.returns-clause-quiet
returns-clause-quiet g c =
    let s = g.F.Findings.shown c.args.findings.now in
    λ k over upto.
    let test : ℕ → Bool = λ i. is_writer s (wrapped (c.args.bytes.address + i)) (at c.args.at.thread k) in
    any_false test 0 c.args.bytes.count (λ j low under. c.loop-i.invariant.quiet j k (omega (arith, under, c.loop-i-test.false)) over upto)
