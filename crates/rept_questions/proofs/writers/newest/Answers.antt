use Rattle.std.proofs.Common.{rules, arith, sym}
use Rattle.std.proofs.lemmas.List.{length-take, take_all}
use Rattle.rept_questions.specs.Texts.{newest_of}
use Rattle.rept_questions.proofs.writers.newest.Goals as goal

pub slice_bounds-result-end : goal.slice_bounds-result-end
slice_bounds-result-end c = let long = length-take 8192 c.args.steps.now in omega (arith, long, c.if-steps-gt-MOST_STEPS.true)

pub returns-then-steps-gt-MOST_STEPS : goal.returns-then-steps-gt-MOST_STEPS
unfolding newest_of
returns-then-steps-gt-MOST_STEPS c = search rules

pub returns-else-steps-gt-MOST_STEPS : goal.returns-else-steps-gt-MOST_STEPS
unfolding newest_of
returns-else-steps-gt-MOST_STEPS c = sym (take_all 8192 c.args.steps.now c.if-steps-gt-MOST_STEPS.false)
