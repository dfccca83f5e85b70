use Rattle.std.proofs.Common.{arith}
use Rattle.rept_timeline.specs.Paths.{lawful}
use Rattle.rept_propagate.proofs.propagation.Propagation.window_from.Goals as goal

pub overflow_add-result : goal.overflow_add-result
overflow_add-result g c =
    let value = c.end-end.ensures.value in
    let few = (lawful c.args.self.now.facts.paths).numbers in
    omega (arith, value, few)

pub overflow_add-end : goal.overflow_add-end
overflow_add-end g c =
    let value = c.end-end.ensures.value in
    let few = (lawful c.args.self.now.facts.paths).numbers in
    omega (arith, value, few)

pub overflow_add-result-in-Some-3 : goal.overflow_add-result-in-Some-3
overflow_add-result-in-Some-3 g c =
    let least = c.min-in-Some-3.ensures in
    let value = c.end-end.ensures.value in
    let few = (lawful c.args.self.now.facts.paths).numbers in
    omega (arith, least, value, few)
