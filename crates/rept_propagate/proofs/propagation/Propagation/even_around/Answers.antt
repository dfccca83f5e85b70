use Rattle.std.proofs.Common.{arith}
use Rattle.rept_timeline.specs.Paths.{lawful}
use Rattle.rept_propagate.proofs.propagation.Propagation.even_around.Goals as goal

pub overflow_add-result : goal.overflow_add-result
overflow_add-result g c =
    let inside = c.even_to.ensures.inside in
    let few = (lawful c.args.self.now.facts.paths).numbers in
    omega (arith, inside, few)
