use Rattle.std.proofs.Common.{sym, ◌∙◌}
use Rattle.rept_facts.specs.State.{state_of}
use Rattle.rept_facts.specs.Inferring.{LastKnownAt}
use Rattle.rept_facts.proofs.Begun.{no_last_known}
use Rattle.rept_facts.proofs.Conclusion.{HasInferred_same}
use Rattle.rept_analysis.proofs.analysis.Analysis.infer_last.Goals as goal

pub learn_last-requires-clause-found : goal.learn_last-requires-clause-found
learn_last-requires-clause-found g c = sym c.last_value.ensures ∙ c.in-Some.is

pub returns-in-None-clause-inferred : goal.returns-in-None-clause-inferred
returns-in-None-clause-inferred g c = HasInferred_same (state_of g.W.Partial.sets g.W.Transfer.moves g.R.RowRules.rules g.B.ByteFacts.store c.args.self.now.propagation.facts) (LastKnownAt c.args.point c.args.r) (no_last_known (state_of g.W.Partial.sets g.W.Transfer.moves g.R.RowRules.rules g.B.ByteFacts.store c.args.self.now.propagation.facts) c.args.point c.args.r (sym c.last_value.ensures ∙ c.in-None.is))

pub returns-in-None-clause-known : goal.returns-in-None-clause-known
returns-in-None-clause-known g c = no_last_known (state_of g.W.Partial.sets g.W.Transfer.moves g.R.RowRules.rules g.B.ByteFacts.store c.args.self.now.propagation.facts) c.args.point c.args.r (sym c.last_value.ensures ∙ c.in-None.is)
