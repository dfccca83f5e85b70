use Rattle.std.proofs.Common.{◌-◌, length}
use Rattle.rept_report.specs.Spots.{spot}
use Rattle.rept_facts.specs.State.{state_of}
use Rattle.rept_facts.specs.Inferring.{AreHitsPast}
use Rattle.rept_analysis.proofs.analysis.Analysis.are_hits_past.Given as goal

abbrev pub invariant-loop-hit : goal.invariant-loop-hit
invariant-loop-hit g l = record {
  past : AreHitsPast l.fn.k l.low (spot l.moment l.a) (state_of g.W.Partial.sets g.W.Transfer.moves g.R.RowRules.rules g.B.ByteFacts.store l.self.propagation.facts);
}

abbrev pub decreases-loop-hit : goal.decreases-loop-hit
decreases-loop-hit g l = length l.self.propagation.facts.work.writing - l.low
