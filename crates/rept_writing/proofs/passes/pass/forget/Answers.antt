use Rattle.std.proofs.Common.{◌<◌, length, arith, ◌∙◌}
use Rattle.std.proofs.lemmas.List.{length-set}
use Rattle.rept_writing.specs.declared.passes.pass.Pass.TheVariants.{Never}
use Rattle.rept_writing.proofs.PassesLemmas.Never.{never_more, never_all}
use Rattle.rept_writing.proofs.passes.pass.forget.Goals as goal

pub loop-i-preserved : goal.loop-i-preserved
loop-i-preserved c =
    let inside : c.loop-i.i < length c.loop-i.list = omega arith in
    record {
      long = length-set c.loop-i.list c.loop-i.i Never ∙ c.loop-i.invariant.long;
      count = c.loop-i.invariant.count;
      never = never_more c.loop-i.list c.loop-i.i inside c.loop-i.invariant.never;
    }

pub returns-clause-never : goal.returns-clause-never
returns-clause-never c = let long = c.loop-i.invariant.long in let count = c.loop-i.invariant.count in never_all c.loop-i.list c.loop-i.i (omega (arith, long, count)) c.loop-i.invariant.never
