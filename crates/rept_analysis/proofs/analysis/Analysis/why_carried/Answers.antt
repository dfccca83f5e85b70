use Rattle.rept_timeline.specs.Paths.{lawful}
use Rattle.std.proofs.Common.{ℕ, subst}
use Rattle.std.proofs.lemmas.Result.{IfOk-weaker}
use Rattle.rept_report.specs.Why.IsReason.{of_carried_byte}
use Rattle.rept_log.proofs.Reasoning.{none_after, some_after}
use Rattle.rept_report.specs.Log.{oldest}
use Rattle.rept_facts.specs.Reasoned.{AreSetsOf}
use Rattle.rept_facts.specs.State.{setting_of, state_of}
use Rattle.rept_facts.proofs.Fronts.{no_carried}
use Rattle.rept_analysis.proofs.analysis.Analysis.why_carried.Goals as goal

pub carried_below-requires-clause-sets : goal.carried_below-requires-clause-sets
carried_below-requires-clause-sets g c = subst (λ (t : ℕ). AreSetsOf (setting_of g.W.Partial.sets g.W.Transfer.moves g.R.RowRules.rules c.args.self.now.propagation.facts) (oldest t c.args.self.now.propagation.facts.known.log) c.fill_to.new.sets.spans) c.fill_to.ensures.limit c.fill_to.ensures.sets

pub returns-clause-none : goal.returns-clause-none
returns-clause-none g c = IfOk-weaker c.carried_below.result _ _ (λ found h. none_after _ _ found (λ none. no_carried (state_of g.W.Partial.sets g.W.Transfer.moves g.R.RowRules.rules g.B.ByteFacts.store c.args.self.now.propagation.facts) (record { sets = g.met.W.Partial.lawful; moves = g.met.W.Transfer.covers; rules = g.met.R.RowRules.lawful; legs = (lawful c.args.self.now.propagation.facts.paths).legs; moments = (lawful c.args.self.now.propagation.facts.paths).moments }) c.held.ensures (c.held.ensures.finished c.requires.complete) c.args.fact.now c.args.a c.args.limit c.requires.cell c.requires.least c.requires.other none) h) c.carried_below.ensures.none

pub returns-clause-reason : goal.returns-clause-reason
returns-clause-reason g c = IfOk-weaker c.carried_below.result _ _ (λ found h. some_after _ _ found (λ reason by. of_carried_byte c.args.limit c.args.a c.requires.cell c.requires.least c.requires.other by) h) c.carried_below.ensures.found
