use Rattle.rept_timeline.specs.Paths.{lawful}
use Rattle.std.proofs.Common.{◌∙◌, Some, sym, ap}
use Rattle.rept_facts.specs.State.{state_of}
use Rattle.rept_facts.proofs.Fronts.{found_stands, none_stands}
use Rattle.rept_analysis.proofs.analysis.Analysis.stands_below.Goals as goal

pub returns-in-Some : goal.returns-in-Some
returns-in-Some g c = found_stands (state_of g.W.Partial.sets g.W.Transfer.moves g.R.RowRules.rules g.B.ByteFacts.store c.args.self.now.propagation.facts) (record { sets = g.met.W.Partial.lawful; moves = g.met.W.Transfer.covers; rules = g.met.R.RowRules.lawful; legs = (lawful c.args.self.now.propagation.facts.paths).legs; moments = (lawful c.args.self.now.propagation.facts.paths).moments }) c.held.ensures (c.held.ensures.finished c.requires.complete) c.args.limit c.args.fact.now c.args.a c.requires.cell c.requires.moment c.ranges.a.fits c.from.result (sym c.in_ok-found.ensures ∙ c.in-Some.is ∙ ap Some (sym c.from.ensures))

pub returns-in-None : goal.returns-in-None
returns-in-None g c = none_stands (state_of g.W.Partial.sets g.W.Transfer.moves g.R.RowRules.rules g.B.ByteFacts.store c.args.self.now.propagation.facts) (record { sets = g.met.W.Partial.lawful; moves = g.met.W.Transfer.covers; rules = g.met.R.RowRules.lawful; legs = (lawful c.args.self.now.propagation.facts.paths).legs; moments = (lawful c.args.self.now.propagation.facts.paths).moments }) c.held.ensures (c.held.ensures.finished c.requires.complete) c.args.limit c.args.fact.now c.args.a c.requires.cell c.ranges.a.fits (sym c.in_ok-found.ensures ∙ c.in-None.is)
