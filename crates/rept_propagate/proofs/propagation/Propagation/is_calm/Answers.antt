use Rattle.std.proofs.Common.{arith}
use Rattle.rept_facts.specs.State.{state_of}
use Rattle.rept_facts.proofs.Listing.{calm_none, calm_some}
use Rattle.rept_propagate.proofs.propagation.Propagation.is_calm.Goals as goal

pub returns-in-None : goal.returns-in-None
returns-in-None g c = λ _. calm_none (state_of g.W.Partial.sets g.W.Transfer.moves g.R.RowRules.rules g.B.ByteFacts.store c.args.self.now.facts) c.args.a c.args.strip c.in-None.is

pub overflow_add-pause : goal.overflow_add-pause
overflow_add-pause g c =
    let its = c.requires.strip.1 in
    let pause = its.pause c.in-Some.pause c.in-Some.is in
    let to = pause.to in
    let inside = its.inside in
    let end = c.end-end.ensures.value in
    omega (arith, to, inside, end)

pub is_carried-requires-clause-next : goal.is_carried-requires-clause-next
is_carried-requires-clause-next g c =
    let its = c.requires.strip.1 in
    let pause = its.pause c.in-Some.pause c.in-Some.is in
    (its.joined c.in-Some.pause pause.from pause.to).next
