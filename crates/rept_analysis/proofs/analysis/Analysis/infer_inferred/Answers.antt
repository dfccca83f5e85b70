use Rattle.rept_timeline.specs.Paths.{lawful}
use Rattle.std.proofs.Common.{sym, ap, subst, ◌∙◌}
use Rattle.std.specs.Option.{is_some}
use Rattle.rept_writing.specs.declared.passes.pass.Pass.{Pass}
use Rattle.rept_facts.specs.State.{state_of}
use Rattle.rept_facts.specs.Inferring.{InferredKnown}
use Rattle.rept_facts.specs.Kept.{IsPass}
use Rattle.rept_facts.proofs.Conclusion.{HasInferred_same}
use Rattle.rept_facts.proofs.Learning.{known_words}
use Rattle.rept_facts.proofs.Passing.{nothing_more, same_pass}
use Rattle.rept_analysis.proofs.analysis.Analysis.infer_inferred.Goals as goal

pub returns-then-is_with-clause-inferred : goal.returns-then-is_with-clause-inferred
returns-then-is_with-clause-inferred g c =
    let s = state_of g.W.Partial.sets g.W.Transfer.moves g.R.RowRules.rules g.B.ByteFacts.store c.args.self.now.propagation.facts in
    let pass_is = c.is_with.ensures.yes c.if-is_with.true in
    let inferred = subst (λ (p : Pass). IsPass c.args.row.now c.args.i p s) pass_is (c.held.ensures.inferred c.args.i c.args.row.now c.pass-pass.result c.requires.row c.pass-pass.ensures) in
    HasInferred_same s (InferredKnown c.args.row.now c.args.i) (nothing_more s (record { sets = g.met.W.Partial.lawful; moves = g.met.W.Transfer.covers; rules = g.met.R.RowRules.lawful; legs = (lawful c.args.self.now.propagation.facts.paths).legs; moments = (lawful c.args.self.now.propagation.facts.paths).moments }) (known_words s c.held.ensures) c.args.i c.cells-cells.result c.args.row.now inferred c.cells-cells.ensures.value)

pub infer_anew-requires-clause-more : goal.infer_anew-requires-clause-more
infer_anew-requires-clause-more g c = λ at. c.is_with.ensures.no c.if-is_with.false (same_pass (sym c.pass-pass.ensures ∙ at))

pub cells-cells-requires-clause-row : goal.cells-cells-requires-clause-row
cells-cells-requires-clause-row g c = ap is_some c.requires.row
