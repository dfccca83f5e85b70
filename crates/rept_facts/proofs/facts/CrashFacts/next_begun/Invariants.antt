use Rattle.std.proofs.Common.{◌-◌, ◌≤◌}
use Rattle.rept_report.specs.Spots.{spot}
use Rattle.rept_facts.specs.State.{state_of}
use Rattle.rept_facts.proofs.Newest.{AreNoneFrom}
use Rattle.rept_facts.proofs.facts.CrashFacts.next_begun.Given as goal

abbrev pub invariant-loop-from : goal.invariant-loop-from
invariant-loop-from g l = record {
  low : l.k ≤ l.from;
  none : AreNoneFrom (spot l.moment l.a) (state_of g.W.Partial.sets g.W.Transfer.moves g.R.RowRules.rules g.B.ByteFacts.store l.self) l.k l.from;
}

abbrev pub decreases-loop-from : goal.decreases-loop-from
decreases-loop-from g l = l.end - l.from
