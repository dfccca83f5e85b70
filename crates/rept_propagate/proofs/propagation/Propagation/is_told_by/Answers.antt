use Rattle.rept_timeline.specs.Paths.{lawful}
use Rattle.std.proofs.Common.{arith}
use Rattle.rept_facts.specs.State.{state_of}
use Rattle.rept_propagate.proofs.Likeness.{go_more, told_all}
use Rattle.rept_propagate.proofs.propagation.Propagation.is_told_by.Goals as goal

pub overflow_add-from : goal.overflow_add-from
overflow_add-from g c =
    let least = c.min-from.ensures in
    let inside = c.known_to-first.ensures.inside in
    let few = (lawful c.args.self.now.facts.paths).numbers in
    omega (arith, least, inside, few)
