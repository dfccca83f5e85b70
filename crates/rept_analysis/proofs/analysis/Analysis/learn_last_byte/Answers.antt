use Rattle.std.proofs.Common.{inl, ◌<◌, ◌≤◌, ◌^◌, sym, arith, ◌∙◌}
use Rattle.rept_reason.specs.declared.fact.Cell.TheVariants.{Byte}
use Rattle.rept_facts.specs.State.{state_of}
use Rattle.rept_facts.specs.Inferring.{Knows, LastByteKnown}
use Rattle.rept_facts.proofs.Conclusion.{HasInferred_if, HasInferred_same}
use Rattle.rept_facts.proofs.Following.{brought_follows, last_byte_brought, last_byte_known, no_last_byte}
use Rattle.rept_analysis.proofs.analysis.Analysis.learn_last_byte.Goals as goal

pub learn_byte-requires-clause-follows : goal.learn_byte-requires-clause-follows
learn_byte-requires-clause-follows g c =
    let s = state_of g.W.Partial.sets g.W.Transfer.moves g.R.RowRules.rules g.B.ByteFacts.store c.args.self.now.propagation.facts in
    let small : c.args.a < 2 ^ 32 = omega arith in
    let n = c.end-point.ensures.value in
    let early : c.end-point.result ≤ s.path.given.moments.end = omega (arith, n) in
    brought_follows s c.end-point.result c.args.a c.in-Some.v early small (last_byte_brought s c.end-point.result c.args.a c.in-Some.v n (sym c.requires.byte ∙ c.in-Some.is))

pub learn_byte-requires-clause-brought : goal.learn_byte-requires-clause-brought
learn_byte-requires-clause-brought g c = λ _. last_byte_brought (state_of g.W.Partial.sets g.W.Transfer.moves g.R.RowRules.rules g.B.ByteFacts.store c.args.self.now.propagation.facts) c.end-point.result c.args.a c.in-Some.v c.end-point.ensures.value (sym c.requires.byte ∙ c.in-Some.is)

pub returns-in-Some-clause-inferred : goal.returns-in-Some-clause-inferred
returns-in-Some-clause-inferred g c =
    HasInferred_if _ _ c.learn_byte.result (Knows c.end-point.result (Byte c.args.a) c.in-Some.v) (LastByteKnown c.args.a) c.learn_byte.ensures.inferred (λ h. last_byte_known (state_of g.W.Partial.sets g.W.Transfer.moves g.R.RowRules.rules g.B.ByteFacts.store c.args.self.now.propagation.facts) c.end-point.result c.args.a c.in-Some.v c.end-point.ensures.value (sym c.requires.byte ∙ c.in-Some.is) h)

pub returns-in-None-clause-inferred : goal.returns-in-None-clause-inferred
returns-in-None-clause-inferred g c = HasInferred_same (state_of g.W.Partial.sets g.W.Transfer.moves g.R.RowRules.rules g.B.ByteFacts.store c.args.self.now.propagation.facts) (LastByteKnown c.args.a) (no_last_byte (state_of g.W.Partial.sets g.W.Transfer.moves g.R.RowRules.rules g.B.ByteFacts.store c.args.self.now.propagation.facts) c.args.a (sym c.requires.byte ∙ c.in-None.is))

pub learn_byte-requires-clause-place : goal.learn_byte-requires-clause-place
learn_byte-requires-clause-place g c = inl c.end-point.ensures.value
