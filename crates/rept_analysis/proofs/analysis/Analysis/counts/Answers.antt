use Rattle.rept_reason.specs.Facts.{told}
use Rattle.rept_report.specs.Log.{oldest}
use Rattle.rept_facts.specs.State.{AnalysisState, state_of, along}
use Rattle.rept_facts.specs.Kept.{answers}
use Rattle.rept_facts.proofs.Answering.{shown_answers}
use Rattle.rept_facts.proofs.Counting.{counted_same}
use Rattle.rept_analysis.proofs.analysis.Analysis.counts.Goals as goal

pub returns-clause-ended : goal.returns-clause-ended
returns-clause-ended g c = λ complete.
    let s : AnalysisState g.row.W.Denot = state_of g.W.Partial.sets g.W.Transfer.moves g.R.RowRules.rules g.B.ByteFacts.store c.args.self.now.propagation.facts in
    counted_same (along s.path) (told (oldest s.shown s.known.log)) (answers s) (shown_answers s (c.ended-ended.ensures.kept.finished complete)) _ (record { steps = c.steps.ensures; calls = c.calls.ensures; registers = c.told.ensures; exact = c.stores.ensures; inexact = c.stores-2.ensures })
