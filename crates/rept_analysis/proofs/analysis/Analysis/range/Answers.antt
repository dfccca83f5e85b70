use Rattle.std.proofs.Common.{sym, ◌∙◌}
use Rattle.rept_facts.specs.State.{AnalysisState, state_of}
use Rattle.rept_facts.proofs.Answering.{range_answers}
use Rattle.rept_analysis.proofs.analysis.Analysis.range.Goals as goal

pub returns-then-ended-clause-ended : goal.returns-then-ended-clause-ended
returns-then-ended-clause-ended g c = λ complete.
    let s : AnalysisState g.row.W.Denot = state_of g.W.Partial.sets g.W.Transfer.moves g.R.RowRules.rules g.B.ByteFacts.store c.args.self.now.propagation.facts in
    sym (range_answers s ((c.ended.ensures.kept).finished complete).settled c.args.point c.args.r c.requires c.filled.ensures.in_file) ∙ c.filled.ensures.entry
