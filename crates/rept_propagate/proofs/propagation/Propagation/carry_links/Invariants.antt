use Rattle.std.proofs.Common.{◌≡◌, ◌+◌, ◌-◌}
use Rattle.rept_facts.specs.State.{state_of}
use Rattle.rept_facts.specs.Inferring.{Grows, HasInferred, AreLinksBelow}
use Rattle.rept_propagate.proofs.propagation.Propagation.carry_links.Given as goal

abbrev pub invariant-loop-least : goal.invariant-loop-least
invariant-loop-least g l =
    let st = state_of g.W.Partial.sets g.W.Transfer.moves g.R.RowRules.rules g.B.ByteFacts.store in
    record {
      grows : Grows (st l.fn.self.facts) (st l.self.facts);
      inferred : HasInferred (st l.fn.self.facts) (st l.self.facts) l.has_news (AreLinksBelow l.a l.m l.least);
      end_is : l.end ≡ (st l.fn.self.facts).path.given.moments.end;
    }

abbrev pub decreases-loop-least : goal.decreases-loop-least
decreases-loop-least g l = l.end + 1 - l.least
