use Rattle.std.proofs.Common.{◌≡◌, ◌<◌, ◌^◌, length, IfSome}
use Rattle.rept_facts.specs.State.{state_of}
use Rattle.rept_facts.specs.Inferring.{Grows, HasInferred}
use Rattle.rept_propagate.proofs.Likeness.{AreLed}
use Rattle.rept_propagate.proofs.propagation.Propagation.carry_tracked.Given as goal

abbrev pub invariant-loop-k : goal.invariant-loop-k
invariant-loop-k g l =
    let st = state_of g.W.Partial.sets g.W.Transfer.moves g.R.RowRules.rules g.B.ByteFacts.store in
    record {
      grows : Grows (st l.fn.self.facts) (st l.self.facts);
      inferred : HasInferred (st l.fn.self.facts) (st l.self.facts) l.learnt (AreLed l.leader l.k);
      small : IfSome l.leader (λ a. a < 2 ^ 32);
      count : l.count ≡ length (st l.fn.self.facts).known.store.tracked;
    }
