use Rattle.std.proofs.Common.{arith, ◌<◌}
use Rattle.rept_word.proofs.NumberLemmas.{more_ones, ones_above, most_ones, no_ones}
use Rattle.rept_word.proofs.number.cover.Goals as goal

pub loop-ones-init : goal.loop-ones-init
loop-ones-init c = record { form = no_ones; least = λ n f le. omega arith }

pub overflow_mul-ones : goal.overflow_mul-ones
overflow_mul-ones c =
    let fits = c.ranges.v in
    let less : c.loop-ones.ones < 4294967295 = omega arith in
    let h = ones_above c.loop-ones.ones 4294967295 c.loop-ones.invariant.form most_ones less in
    omega (arith, h)

pub overflow_add-ones : goal.overflow_add-ones
overflow_add-ones c =
    let less : c.loop-ones.ones < 4294967295 = omega arith in
    let h = ones_above c.loop-ones.ones 4294967295 c.loop-ones.invariant.form most_ones less in
    omega (arith, h)

pub loop-ones-preserved : goal.loop-ones-preserved
loop-ones-preserved c = record {
  form = more_ones c.loop-ones.ones c.loop-ones.invariant.form;
  least = λ n f le. ones_above c.loop-ones.ones n c.loop-ones.invariant.form f (omega arith);
}

pub returns : goal.returns
returns c = record { form = c.loop-ones.invariant.form; above = c.loop-ones-test.false; least = c.loop-ones.invariant.least }
