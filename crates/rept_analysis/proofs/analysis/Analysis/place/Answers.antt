use Rattle.rept_timeline.specs.Paths.{lawful}
use Rattle.std.proofs.Common.{sym, ◌∙◌}
use Rattle.std.proofs.lemmas.Bool.{false≢true}
use Rattle.rept_facts.specs.State.{state_of}
use Rattle.rept_facts.proofs.Fronts.{none_by, no_zero, no_place, no_entry}
use Rattle.rept_analysis.proofs.analysis.Analysis.place.Goals as goal

pub returns-then-number-eq0-clause-none : goal.returns-then-number-eq0-clause-none
returns-then-number-eq0-clause-none g c = no_zero (state_of g.W.Partial.sets g.W.Transfer.moves g.R.RowRules.rules g.B.ByteFacts.store c.args.self.now.propagation.facts) (record { sets = g.met.W.Partial.lawful; moves = g.met.W.Transfer.covers; rules = g.met.R.RowRules.lawful; legs = (lawful c.args.self.now.propagation.facts.paths).legs; moments = (lawful c.args.self.now.propagation.facts.paths).moments }) c.held.ensures (c.held.ensures.finished c.requires.complete) c.args.fact.now c.args.r c.requires.cell (sym c.number.ensures.value ∙ c.if-number-eq0.true)

pub returns-in_err-place-clause-none : goal.returns-in_err-place-clause-none
returns-in_err-place-clause-none g c = none_by _ c.from_residual.result (no_place (state_of g.W.Partial.sets g.W.Transfer.moves g.R.RowRules.rules g.B.ByteFacts.store c.args.self.now.propagation.facts) (record { sets = g.met.W.Partial.lawful; moves = g.met.W.Transfer.covers; rules = g.met.R.RowRules.lawful; legs = (lawful c.args.self.now.propagation.facts.paths).legs; moments = (lawful c.args.self.now.propagation.facts.paths).moments }) c.held.ensures (c.held.ensures.finished c.requires.complete) c.args.fact.now c.args.r c.requires.cell (sym c.place_at.ensures.place ∙ c.in_err-place.was))

pub returns-else-is_entry-clause-none : goal.returns-else-is_entry-clause-none
returns-else-is_entry-clause-none g c = no_entry (state_of g.W.Partial.sets g.W.Transfer.moves g.R.RowRules.rules g.B.ByteFacts.store c.args.self.now.propagation.facts) (record { sets = g.met.W.Partial.lawful; moves = g.met.W.Transfer.covers; rules = g.met.R.RowRules.lawful; legs = (lawful c.args.self.now.propagation.facts.paths).legs; moments = (lawful c.args.self.now.propagation.facts.paths).moments }) c.held.ensures (c.held.ensures.finished c.requires.complete) c.args.fact.now c.args.r c.in_ok-place.place c.requires.cell (sym c.place_at.ensures.place ∙ c.in_ok-place.was) (λ e. false≢true (c.if-is_entry.ensures.1 e))
