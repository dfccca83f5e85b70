use Rattle.rept_timeline.specs.Paths.{lawful}
use Rattle.std.proofs.Common.{arith}
use Rattle.rept_facts.proofs.facts.CrashFacts.greatest_next.Goals as goal

pub loop-least-init : goal.loop-least-init
loop-least-init g c = record { end_is = c.end-end.ensures.value; inside = c.requires }

pub loop-least-preserved : goal.loop-least-preserved
loop-least-preserved g c =
    let its = rw c.in-Some.is at c.next_from.ensures in
    let next = ((lawful c.args.self.now.paths).moments.inside c.args.number c.in-Some.next its.0).1 in
    let found = c.loop-least.invariant.inside in
    let most = c.max-found.ensures in
    record { end_is = c.loop-least.invariant.end_is; inside = omega (arith, next, found, most) }

pub loop-least-smaller : goal.loop-least-smaller
loop-least-smaller g c =
    let its = rw c.in-Some.is at c.next_from.ensures in
    let low = its.1 in
    let next = ((lawful c.args.self.now.paths).moments.inside c.args.number c.in-Some.next its.0).1 in
    let end = c.loop-least.invariant.end_is in
    omega (arith, low, next, end)

pub overflow_add-least : goal.overflow_add-least
overflow_add-least g c =
    let its = rw c.in-Some.is at c.next_from.ensures in
    let next = ((lawful c.args.self.now.paths).moments.inside c.args.number c.in-Some.next its.0).1 in
    let few = (lawful c.args.self.now.paths).numbers in
    omega (arith, next, few)
