use Rattle.std.proofs.Common.{arith, ◌≡◌, ◌∙◌, ℕ, List, Option, Some, None, refl, sym}
use Rattle.rept_facts.specs.State.{state_of}
use Rattle.rept_propagate.proofs.Likeness.{shared_more, shared_all}
use Rattle.rept_writing.specs.declared.list.Writing.{Writing}
use Rattle.rept_writing.specs.Hits.{IsNextHitBelow}
use Rattle.std.proofs.lemmas.Bool.{false≢true}
use Rattle.rept_propagate.proofs.propagation.Propagation.are_hits_shared.Goals as goal

no_hit : (list : List Writing) (k end a : ℕ) (x : Option ℕ) → ((y : ℕ) → x ≡ Some y → ⊥) → IsNextHitBelow list k end a x → IsNextHitBelow list k end a None
no_hit list k end a None never h = h
no_hit list k end a (Some y) never h = absurd (never y refl)

pub loop-init : goal.loop-init
loop-init g c = record { shared = λ k w lt found hits. absurd (omega (arith, lt)); within = omega arith }

pub entry-requires-clause-within : goal.entry-requires-clause-within
entry-requires-clause-within g c =
    let next = (rw c.in-Some.is at c.next_hit.ensures.next).1 in
    next.inside

pub entry-requires-clause-writings : goal.entry-requires-clause-writings
entry-requires-clause-writings g c = c.requires.writings

pub overflow_add-k : goal.overflow_add-k
overflow_add-k g c =
    let next = (rw c.in-Some.is at c.next_hit.ensures.next).1 in
    let within = next.inside in
    let few = c.next_hit.ensures.few in
    omega (arith, within, few)

pub loop-preserved : goal.loop-preserved
loop-preserved g c =
    let next = rw c.in-Some.is at c.next_hit.ensures.next in
    let low = next.0 in
    record {
      shared = shared_more c.args.a c.args.b (state_of g.W.Partial.sets g.W.Transfer.moves g.R.RowRules.rules g.B.ByteFacts.store c.args.self.now.facts) c.loop.k c.in-Some.hit c.entry.result c.loop.invariant.shared next.1 c.entry.ensures.found (sym c.may_hit.ensures ∙ c.if-not-may_hit.false);
      within = omega (arith, low);
    }

pub returns-in_default : goal.returns-in_default
returns-in_default g c = λ _. shared_all c.args.a c.args.b (state_of g.W.Partial.sets g.W.Transfer.moves g.R.RowRules.rules g.B.ByteFacts.store c.args.self.now.facts) c.loop.k c.writing_count-end.result c.writing_count-end.ensures c.loop.invariant.shared (no_hit c.args.self.now.facts.work.writing c.loop.k c.writing_count-end.result c.args.a c.next_hit.result c.in_default.not-Some c.next_hit.ensures.next)

pub returns-then-not-may_hit : goal.returns-then-not-may_hit
returns-then-not-may_hit g c = λ e. absurd (false≢true e)

pub returns : goal.returns
returns g c = λ e. absurd (false≢true e)
