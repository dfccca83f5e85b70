use Rattle.std.proofs.Common.{◌≡◌, ◌≤◌}
use Rattle.rept_facts.specs.State.{state_of}
use Rattle.rept_propagate.proofs.Likeness.{AreSharedBelow}
use Rattle.rept_propagate.proofs.propagation.Propagation.are_hits_shared.Given as goal

abbrev pub invariant-loop : goal.invariant-loop
invariant-loop g l =
    let s = state_of g.W.Partial.sets g.W.Transfer.moves g.R.RowRules.rules g.B.ByteFacts.store l.fn.self.facts in
    record {
      shared : AreSharedBelow l.fn.a l.fn.b s l.k;
      within : l.k ≤ l.end;
    }
