use Rattle.rept_timeline.specs.Paths.{lawful}
use Rattle.std.proofs.Common.{arith}
use Rattle.rept_facts.proofs.facts.CrashFacts.number_past.Goals as goal

pub overflow_add-result : goal.overflow_add-result
overflow_add-result g c =
    let early = c.entry-number.ensures.early in
    let few = (lawful c.args.self.now.paths).numbers in
    omega (arith, early, few)
