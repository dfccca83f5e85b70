use Rattle.std.proofs.Common.{arith}
use Rattle.rept_facts.specs.State.{AnalysisState, state_of}
use Rattle.rept_facts.specs.Inferring.{IsCarriedFrom}
use Rattle.rept_facts.proofs.Conclusion.{HasInferred_if, HasInferred_same, Grows_itself}
use Rattle.rept_propagate.proofs.propagation.Propagation.carry_around.Goals as goal

pub is_calm-requires-clause-strip : goal.is_calm-requires-clause-strip
is_calm-requires-clause-strip g c = (_, c.strip-strip.ensures)

pub carry_segment-requires-clause-order : goal.carry_segment-requires-clause-order
carry_segment-requires-clause-order g c = let low = c.piece-piece.ensures.low in let high = c.piece-piece.ensures.high in omega (arith, low, high)

pub carry_segment-requires-clause-to : goal.carry_segment-requires-clause-to
carry_segment-requires-clause-to g c = let within = c.piece-piece.ensures.within in let inside = c.strip-strip.ensures.inside in omega (arith, within, inside)

pub returns-clause-inferred : goal.returns-clause-inferred
returns-clause-inferred g c = HasInferred_if (state_of g.W.Partial.sets g.W.Transfer.moves g.R.RowRules.rules g.B.ByteFacts.store c.args.self.now.facts) (state_of g.W.Partial.sets g.W.Transfer.moves g.R.RowRules.rules g.B.ByteFacts.store c.carry_segment.new.self.facts) c.carry_segment.result (IsCarriedFrom c.args.a c.piece-piece.result.from c.piece-piece.result.to) (λ (x : AnalysisState g.row.W.Denot). Unit {0}) c.carry_segment.ensures.inferred (λ _. tt)

pub returns-then-is_even_in-clause-grows : goal.returns-then-is_even_in-clause-grows
returns-then-is_even_in-clause-grows g c = Grows_itself (state_of g.W.Partial.sets g.W.Transfer.moves g.R.RowRules.rules g.B.ByteFacts.store c.args.self.now.facts)

pub returns-then-is_even_in-clause-inferred : goal.returns-then-is_even_in-clause-inferred
returns-then-is_even_in-clause-inferred g c = HasInferred_same (state_of g.W.Partial.sets g.W.Transfer.moves g.R.RowRules.rules g.B.ByteFacts.store c.args.self.now.facts) (λ (x : AnalysisState g.row.W.Denot). Unit {0}) tt

pub carry_segment-requires-clause-spared : goal.carry_segment-requires-clause-spared
carry_segment-requires-clause-spared g c = c.piece-piece.ensures.spared
