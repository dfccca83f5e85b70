use Rattle.rept_timeline.specs.Paths.{lawful}
use Rattle.std.proofs.Common.{◌+◌, arith}
use Rattle.rept_propagate.proofs.propagation.Propagation.is_stopped.Goals as goal

pub returns : goal.returns
returns g c = λ yes. c.is_walled.ensures yes (c.args.m + 1) c.requires.next

pub overflow_add-m : goal.overflow_add-m
overflow_add-m g c =
    let most = ((lawful c.args.self.now.facts.paths).moments.inside c.args.m (c.args.m + 1) c.requires.next).1 in
    let end = c.end-end.ensures.value in
    omega (arith, most, end)
