use Rattle.rept_timeline.specs.Paths.{lawful}
use Rattle.std.proofs.Common.{◌+◌, arith}
use Rattle.rept_facts.specs.State.{state_of}
use Rattle.rept_propagate.proofs.Going.{like_free, like_order}
use Rattle.rept_propagate.proofs.propagation.Propagation.like_to.Goals as goal

pub returns-in-None-clause-order : goal.returns-in-None-clause-order
returns-in-None-clause-order g c = let inside = c.requires.inside in let end = c.end-end.ensures.value in like_order (c.end-end.result + 1) c.like_unless.result c.args.from c.is_some.result (omega (arith, inside, end)) c.like_unless.ensures

pub returns-in-None-clause-alike : goal.returns-in-None-clause-alike
returns-in-None-clause-alike g c = λ w low high. like_free (g.B.ByteFacts.store c.args.self.now.facts.known.bytes).fact c.args.a c.args.from (c.end-end.result + 1) c.like_unless.result c.args.here c.is_some.result c.is_some.ensures c.like_unless.ensures (λ q from to. (rw c.in-None.is at c.stretch.ensures) q from) w low high

pub returns-in-Some-clause-alike : goal.returns-in-Some-clause-alike
returns-in-Some-clause-alike g c = λ w low high. c.like_along.ensures.alike (g.B.ByteFacts.store c.args.self.now.facts.known.bytes).fact c.args.a (rw c.in-Some.is at c.stretch.ensures) w low high

pub like_along-requires-clause-from : goal.like_along-requires-clause-from
like_along-requires-clause-from g c = let inside = c.requires.inside in let end = c.end-end.ensures.value in omega (arith, inside, end)

pub like_along-requires-clause-reaches : goal.like_along-requires-clause-reaches
like_along-requires-clause-reaches g c = (rw c.in-Some.is at c.stretch.ensures).reaches

pub like_along-requires-clause-end : goal.like_along-requires-clause-end
like_along-requires-clause-end g c =
    let most = (lawful c.args.self.now.facts.paths).numbers in
    let end = c.end-end.ensures.value in
    omega (arith, most, end)

pub overflow_add-end : goal.overflow_add-end
overflow_add-end g c =
    let most = (lawful c.args.self.now.facts.paths).numbers in
    let end = c.end-end.ensures.value in
    omega (arith, most, end)
