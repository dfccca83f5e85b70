use Rattle.std.proofs.Common.{ℕ, ◌+◌, ◌≡◌, None, sym, subst, arith}
use Rattle.rept_facts.specs.State.{state_of}
use Rattle.rept_facts.specs.Inferring.{AreLinksBelow}
use Rattle.rept_propagate.proofs.Going.{next_none, links_far, links_none}
use Rattle.rept_propagate.proofs.propagation.Propagation.idle_to.Goals as goal

pub returns-in_default-clause-below : goal.returns-in_default-clause-below
returns-in_default-clause-below g c =
    let s = (state_of g.W.Partial.sets g.W.Transfer.moves g.R.RowRules.rules g.B.ByteFacts.store c.args.self.now.facts) in
    let least = c.loop-from.from in
    λ h w lt. links_none s c.args.a c.args.m least (c.loop-from.invariant.below h) (next_none s.path.given.moments c.args.m least c.next_from.result c.in_default.not-Some c.next_from.ensures) w

pub idle_from-from-requires-clause-next : goal.idle_from-from-requires-clause-next
idle_from-from-requires-clause-next g c = (rw c.in-Some.is at c.next_from.ensures).0

pub loop-from-preserved : goal.loop-from-preserved
loop-from-preserved g c =
    let s = (state_of g.W.Partial.sets g.W.Transfer.moves g.R.RowRules.rules g.B.ByteFacts.store c.args.self.now.facts) in
    let its = rw c.in-Some.is at c.next_from.ensures in
    let order = c.loop-from.invariant.order in
    let on = c.idle_from-from.ensures.order in
    let up = its.1 in
    record {
      order = omega (arith, order, on, up);
      below = λ h. links_far s c.args.a c.args.m c.loop-from.from (c.loop-from.invariant.below h) c.in-Some.next c.idle_from-from.result its c.idle_from-from.ensures.idle;
    }

pub returns-then-from-next-clause-below : goal.returns-then-from-next-clause-below
returns-then-from-next-clause-below g c =
    let s = (state_of g.W.Partial.sets g.W.Transfer.moves g.R.RowRules.rules g.B.ByteFacts.store c.args.self.now.facts) in
    let its = rw c.in-Some.is at c.next_from.ensures in
    λ h. links_far s c.args.a c.args.m c.loop-from.from (c.loop-from.invariant.below h) c.in-Some.next c.in-Some.next its (λ w low high. absurd (omega (arith, low, high)))
