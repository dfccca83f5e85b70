use Rattle.std.proofs.Common.{◌-◌, length}
use Rattle.rept_report.specs.Spots.{spot}
use Rattle.rept_facts.specs.State.{state_of}
use Rattle.rept_facts.proofs.Newest.{AreBeforeTo}
use Rattle.rept_facts.proofs.facts.CrashFacts.has_rival.Given as goal

abbrev pub invariant-loop-k : goal.invariant-loop-k
invariant-loop-k g l = record {
  before : AreBeforeTo (spot l.moment l.a) (state_of g.W.Partial.sets g.W.Transfer.moves g.R.RowRules.rules g.B.ByteFacts.store l.self) l.from l.best;
}

abbrev pub decreases-loop-k : goal.decreases-loop-k
decreases-loop-k g l = length l.self.work.writing - l.from
