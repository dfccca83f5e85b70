use Rattle.std.proofs.Common.{sym, ◌∙◌}
use Rattle.rept_log.specs.Fronts.{basis_of, front_of}
use Rattle.rept_log.proofs.Reasoning.{not_inferred_nowhere}
use Rattle.rept_log.proofs.front.Front.inferred_at.Goals as goal

pub returns-in-None-clause-none : goal.returns-in-None-clause-none
returns-in-None-clause-none g c = not_inferred_nowhere (front_of g.W.Partial.sets g.W.Transfer.moves g.R.RowRules.rules (basis_of c.args.self.now)) c.args.i c.args.fact.now (sym c.row.ensures ∙ c.in-None.is)
