use Rattle.std.proofs.Common.{◌≤◌, ◌<◌, length, ◌∙◌, arith}
use Rattle.rept_relate.proofs.ClassesLemmas.Changing.{same_then}
use Rattle.rept_relate.specs.Numbering.{value_in}
use Rattle.rept_relate.proofs.Summing.{any_err}
use Rattle.rept_infer.proofs.Classing.{first_told}
use Rattle.rept_infer.proofs.relating.tell_first.Goals as goal

pub returns-in_err-narrow-clause-same : goal.returns-in_err-narrow-clause-same
returns-in_err-narrow-clause-same c = same_then c.args.classes.now c.loop-r.classes c.set_of-set.new.self c.loop-r.invariant.same c.set_of-set.ensures.same

pub returns-in_err-narrow-clause-refuses : goal.returns-in_err-narrow-clause-refuses
returns-in_err-narrow-clause-refuses c =
    let i = c.loop-r.invariant in
    let less : c.loop-r.r < 32 = c.loop-r-test.true in
    let long : 32 ≤ length c.loop-r.classes = let n = c.requires.nodes in let l = i.len in omega (arith, n, l) in
    any_err c.from_residual.result (λ story run h valued.
    let onward = i.same.onward (value_in story.rows run) valued in
    c.in_err-narrow.ensures.refuses story run (i.keeps story run h valued) (first_told story run c.loop-r.r c.from.result c.register.result c.set_of-set.result c.loop-r.classes less c.from.ensures c.register.ensures long onward (c.set_of-set.ensures.has (value_in story.rows run) onward)) (omega arith))

pub loop-r-preserved : goal.loop-r-preserved
loop-r-preserved c =
    let i = c.loop-r.invariant in
    let less : c.loop-r.r < 32 = c.loop-r-test.true in
    let long : 32 ≤ length c.loop-r.classes = let n = c.requires.nodes in let l = i.len in omega (arith, n, l) in
    record {
      len = c.set_of-set.ensures.len ∙ i.len;
      same = same_then c.args.classes.now c.loop-r.classes c.set_of-set.new.self i.same c.set_of-set.ensures.same;
      points = c.in_ok-narrow.ensures.points ∙ i.points;
      narrower = λ story run h. i.narrower story run (c.in_ok-narrow.ensures.narrower story run h);
      keeps = λ story run h valued.
          let onward = i.same.onward (value_in story.rows run) valued in
          c.in_ok-narrow.ensures.keeps story run (i.keeps story run h valued) (first_told story run c.loop-r.r c.from.result c.register.result c.set_of-set.result c.loop-r.classes less c.from.ensures c.register.ensures long onward (c.set_of-set.ensures.has (value_in story.rows run) onward));
    }
