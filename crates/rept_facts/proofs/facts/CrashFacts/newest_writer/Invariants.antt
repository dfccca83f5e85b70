use Rattle.std.proofs.Common.{◌-◌, length}
use Rattle.rept_reason.specs.Facts.{told}
use Rattle.rept_report.specs.Last.Latest.{IsMaybe}
use Rattle.rept_report.specs.Log.{oldest}
use Rattle.rept_report.specs.Spots.{spot}
use Rattle.rept_facts.specs.State.{AnalysisState, state_of, along, timeline_of}
use Rattle.rept_facts.specs.Latest.{writes_by}
use Rattle.rept_facts.proofs.Newest.{IsOnlyFrom}
use Rattle.rept_facts.proofs.facts.CrashFacts.newest_writer.Given as goal

abbrev pub invariant-loop-j : goal.invariant-loop-j
invariant-loop-j g l =
    let s : AnalysisState g.row.W.Denot = state_of g.W.Partial.sets g.W.Transfer.moves g.R.RowRules.rules g.B.ByteFacts.store l.self in
    record {
      one : IsMaybe (timeline_of s) (writes_by (along s.path) (told (oldest s.filled s.known.log))) (spot l.moment l.a) l.best;
      only : IsOnlyFrom (spot l.moment l.a) s l.k l.best;
    }

abbrev pub decreases-loop-j : goal.decreases-loop-j
decreases-loop-j g l = length l.self.work.writing - l.k
