use Rattle.rept_timeline.specs.Paths.{lawful}
use Rattle.std.proofs.Common.{◌∙◌, sym, arith}
use Rattle.rept_reason.specs.declared.fact.Cell.TheVariants.{Byte}
use Rattle.rept_report.specs.Spots.{passage}
use Rattle.rept_facts.specs.State.{state_of}
use Rattle.rept_facts.specs.Inferring.{Knows, IsCarriedIf}
use Rattle.rept_facts.proofs.Conclusion.{HasInferred_if}
use Rattle.rept_facts.proofs.Spreading.{brought_on}
use Rattle.rept_propagate.proofs.Going.{same_if}
use Rattle.rept_propagate.proofs.propagation.Propagation.tell_either.Goals as goal

pub tell_back-requires-clause-unknown : goal.tell_back-requires-clause-unknown
tell_back-requires-clause-unknown g c = sym c.known_byte.ensures ∙ c.in-None.is

pub tell_across-requires-clause-to : goal.tell_across-requires-clause-to
tell_across-requires-clause-to g c = ((lawful c.args.self.now.facts.paths).moments.inside c.args.m c.args.w c.requires.bridged.next).1

pub tell_across-requires-clause-brought : goal.tell_across-requires-clause-brought
tell_across-requires-clause-brought g c = brought_on (state_of g.W.Partial.sets g.W.Transfer.moves g.R.RowRules.rules g.B.ByteFacts.store c.args.self.now.facts) (record { sets = g.met.W.Partial.lawful; moves = g.met.W.Transfer.covers; rules = g.met.R.RowRules.lawful; legs = (lawful c.args.self.now.facts.paths).legs; moments = (lawful c.args.self.now.facts.paths).moments }) c.held.ensures (passage c.args.a c.args.m c.args.w) c.in-Some.value (omega arith) c.requires.bridged (sym c.known_byte.ensures ∙ c.in-Some.is)

pub returns-in-Some-clause-inferred : goal.returns-in-Some-clause-inferred
returns-in-Some-clause-inferred g c =
    let s = (state_of g.W.Partial.sets g.W.Transfer.moves g.R.RowRules.rules g.B.ByteFacts.store c.args.self.now.facts) in
    let x = passage c.args.a c.args.m c.args.w in
    HasInferred_if s _ c.tell_across.result (Knows c.args.w (Byte c.args.a) c.in-Some.value) (IsCarriedIf x) c.tell_across.ensures.inferred (λ h. same_if s x c.in-Some.value (sym c.known_byte.ensures ∙ c.in-Some.is) h)
