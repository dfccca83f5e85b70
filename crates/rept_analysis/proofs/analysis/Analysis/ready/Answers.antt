use Rattle.std.proofs.Common.{ap, ◌∙◌}
use Rattle.rept_facts.specs.State.{AnalysisState, state_of}
use Rattle.rept_facts.proofs.Ending.{Same_trans}
use Rattle.rept_facts.proofs.Listing.{listed_same, fitted_listed}
use Rattle.rept_analysis.proofs.analysis.Analysis.ready.Goals as goal

pub list_writing-requires-clause-fitted : goal.list_writing-requires-clause-fitted
list_writing-requires-clause-fitted g c = c.is_quiet-quiet.ensures.fitted c.if-not-quiet.false

pub returns-clause-same : goal.returns-clause-same
returns-clause-same g c = Same_trans (state_of g.W.Partial.sets g.W.Transfer.moves g.R.RowRules.rules g.B.ByteFacts.store c.args.self.now.propagation.facts) (state_of g.W.Partial.sets g.W.Transfer.moves g.R.RowRules.rules g.B.ByteFacts.store c.is_quiet-quiet.new.self) (state_of g.W.Partial.sets g.W.Transfer.moves g.R.RowRules.rules g.B.ByteFacts.store c.list_writing.new.self) c.is_quiet-quiet.ensures.same (listed_same (state_of g.W.Partial.sets g.W.Transfer.moves g.R.RowRules.rules g.B.ByteFacts.store c.is_quiet-quiet.new.self) (state_of g.W.Partial.sets g.W.Transfer.moves g.R.RowRules.rules g.B.ByteFacts.store c.list_writing.new.self) _ c.list_writing.ensures.same)

pub returns-clause-limit : goal.returns-clause-limit
returns-clause-limit g c = ap (λ (x : AnalysisState g.row.W.Denot). x.filled) c.list_writing.ensures.same ∙ c.is_quiet-quiet.ensures.limit

pub returns-clause-fitted : goal.returns-clause-fitted
returns-clause-fitted g c = λ _. fitted_listed (state_of g.W.Partial.sets g.W.Transfer.moves g.R.RowRules.rules g.B.ByteFacts.store c.is_quiet-quiet.new.self) (state_of g.W.Partial.sets g.W.Transfer.moves g.R.RowRules.rules g.B.ByteFacts.store c.list_writing.new.self) _ c.list_writing.ensures.same (c.is_quiet-quiet.ensures.fitted c.if-not-quiet.false)

pub returns-clause-quiet : goal.returns-clause-quiet
returns-clause-quiet g c = λ _. c.is_quiet-quiet.ensures.quiet c.if-not-quiet.false
