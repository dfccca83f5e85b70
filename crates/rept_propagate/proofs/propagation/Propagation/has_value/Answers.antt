use Rattle.std.proofs.Common.{sym, ◌∙◌}
use Rattle.rept_facts.specs.State.{state_of}
use Rattle.rept_propagate.proofs.Leaping.{tracked_by}
use Rattle.rept_propagate.proofs.propagation.Propagation.has_value.Goals as goal

pub returns : goal.returns
returns g c = λ e. tracked_by (state_of g.W.Partial.sets g.W.Transfer.moves g.R.RowRules.rules g.B.ByteFacts.store c.args.self.now.facts) c.held.ensures c.args.a c.stretch.result c.stretch.ensures (sym c.is_some.ensures ∙ e)
