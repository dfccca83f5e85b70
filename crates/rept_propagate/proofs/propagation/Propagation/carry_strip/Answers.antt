use Rattle.std.proofs.Common.{refl, arith}
use Rattle.rept_facts.specs.State.{state_of}
use Rattle.rept_facts.specs.Inferring.{IsCarriedIn}
use Rattle.rept_facts.proofs.Conclusion.{HasInferred_same}
use Rattle.rept_propagate.proofs.Going.{in_even}
use Rattle.rept_propagate.proofs.propagation.Propagation.carry_strip.Goals as goal

pub even_to-requires : goal.even_to-requires
even_to-requires g c =
    let its = c.requires.strip in
    let low = its.to in
    let inside = its.inside in
    omega (arith, low, inside)

pub returns-then-even_to-strip-clause-inferred : goal.returns-then-even_to-strip-clause-inferred
returns-then-even_to-strip-clause-inferred g c = HasInferred_same (state_of g.W.Partial.sets g.W.Transfer.moves g.R.RowRules.rules g.B.ByteFacts.store c.args.self.now.facts) (IsCarriedIn c.args.a c.args.strip) (in_even (state_of g.W.Partial.sets g.W.Transfer.moves g.R.RowRules.rules g.B.ByteFacts.store c.args.self.now.facts) c.args.a c.args.strip.first c.even_to.result c.args.strip c.even_to.ensures.even refl c.if-even_to-strip.true)

pub is_calm-requires-clause-strip : goal.is_calm-requires-clause-strip
is_calm-requires-clause-strip g c = (_, c.requires.strip)
