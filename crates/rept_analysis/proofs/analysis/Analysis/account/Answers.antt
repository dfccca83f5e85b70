use Rattle.rept_timeline.specs.Paths.{lawful}
use Rattle.rept_facts.specs.State.{AnalysisState, state_of}
use Rattle.rept_analysis.proofs.Account.{log_of}
use Rattle.rept_facts.proofs.Answering.{register_answers}
use Rattle.rept_analysis.proofs.analysis.Analysis.account.Goals as goal

pub returns-clause-registers : goal.returns-clause-registers
returns-clause-registers g c = λ complete p r.
    let s : AnalysisState g.row.W.Denot = state_of g.W.Partial.sets g.W.Transfer.moves g.R.RowRules.rules g.B.ByteFacts.store c.args.self.now.propagation.facts in
    register_answers s ((c.ended-ended.ensures.kept).finished complete) p r

pub returns-clause-log : goal.returns-clause-log
returns-clause-log g c = λ complete.
    let s : AnalysisState g.row.W.Denot = state_of g.W.Partial.sets g.W.Transfer.moves g.R.RowRules.rules g.B.ByteFacts.store c.args.self.now.propagation.facts in
    log_of s (record { sets = g.met.W.Partial.lawful; moves = g.met.W.Transfer.covers; rules = g.met.R.RowRules.lawful; legs = (lawful c.args.self.now.propagation.facts.paths).legs; moments = (lawful c.args.self.now.propagation.facts.paths).moments }) c.ended-ended.ensures.kept ((c.ended-ended.ensures.kept).finished complete)

pub returns-clause-last : goal.returns-clause-last
returns-clause-last g c = c.ended-ended.ensures.kept.registers
