use Rattle.std.proofs.Common.{◌≤◌, ◌-◌, length}
use Rattle.rept_reason.specs.Facts.{told}
use Rattle.rept_report.specs.Log.{oldest}
use Rattle.rept_report.specs.Conflicts.{IsQuiet}
use Rattle.rept_facts.specs.State.{setting_of, state_of}
use Rattle.rept_facts.specs.Inferring.{SameFacts}
use Rattle.rept_facts.specs.Refined.{QuietBelow}
use Rattle.rept_analysis.proofs.analysis.Analysis.bisect.Given as goal

abbrev pub invariant-loop-low : goal.invariant-loop-low
invariant-loop-low g l =
    let st = state_of g.W.Partial.sets g.W.Transfer.moves g.R.RowRules.rules g.B.ByteFacts.store in
    record {
      same : SameFacts (st l.fn.self.propagation.facts) (st l.self.propagation.facts);
      low : l.low ≤ l.high;
      high : l.high ≤ length l.fn.self.propagation.facts.known.log;
      quiet : QuietBelow (st l.fn.self.propagation.facts) l.low;
      loud : IsQuiet (setting_of g.W.Partial.sets g.W.Transfer.moves g.R.RowRules.rules l.fn.self.propagation.facts) (told (oldest l.high l.fn.self.propagation.facts.known.log)) → ⊥;
    }

abbrev pub decreases-loop-low : goal.decreases-loop-low
decreases-loop-low g l = l.high - l.low
