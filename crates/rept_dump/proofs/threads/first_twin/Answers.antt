use Rattle.std.proofs.Common.{sym, ◌∙◌}
use Rattle.rept_dump.proofs.ThreadLemmas.{twin_on}
use Rattle.rept_dump.proofs.threads.first_twin.Goals as goal

pub loop-number-preserved : goal.loop-number-preserved
loop-number-preserved c = twin_on c.args.numbers.now c.loop-number.rest.now c.in-Some.number.now c.in-Some.others.now c.loop-number.invariant c.in-Some.ensures.cases.0 (sym c.stands_in.ensures ∙ c.if-stands_in.false)
