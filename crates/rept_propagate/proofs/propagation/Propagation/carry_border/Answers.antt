use Rattle.std.proofs.Common.{◌+◌, arith}
use Rattle.rept_report.specs.Spots.{passage}
use Rattle.rept_facts.specs.State.{AnalysisState, state_of}
use Rattle.rept_facts.specs.Inferring.{IsCarriedIf}
use Rattle.rept_facts.proofs.Conclusion.{HasInferred_both, Grows_trans}
use Rattle.rept_propagate.proofs.Going.{strip_after}
use Rattle.rept_propagate.proofs.propagation.Propagation.carry_border.Goals as goal

pub carry_step-requires-clause-next : goal.carry_step-requires-clause-next
carry_step-requires-clause-next g c = (c.requires.strip.joined c.args.m c.requires.from c.requires.inside).next

pub carry_down-requires-clause-strip : goal.carry_down-requires-clause-strip
carry_down-requires-clause-strip g c = strip_after (state_of g.W.Partial.sets g.W.Transfer.moves g.R.RowRules.rules g.B.ByteFacts.store c.args.self.now.facts) (state_of g.W.Partial.sets g.W.Transfer.moves g.R.RowRules.rules g.B.ByteFacts.store c.carry_step.new.self.facts) c.in_ok-new.ensures.grows c.args.strip.first c.args.strip c.requires.strip

pub carry_down-requires-clause-inside : goal.carry_down-requires-clause-inside
carry_down-requires-clause-inside g c = let inside = c.requires.inside in omega (arith, inside)

pub carry_down-requires-clause-writings : goal.carry_down-requires-clause-writings
carry_down-requires-clause-writings g c = c.in_ok-new.ensures.grows.writing c.requires.writings

pub returns-in_err-down-clause-grows : goal.returns-in_err-down-clause-grows
returns-in_err-down-clause-grows g c = Grows_trans _ _ _ c.in_ok-new.ensures.grows c.carry_down.ensures.grows

pub returns-clause-grows : goal.returns-clause-grows
returns-clause-grows g c = Grows_trans _ _ _ c.in_ok-new.ensures.grows c.in_ok-down.ensures.grows

pub returns-clause-inferred : goal.returns-clause-inferred
returns-clause-inferred g c =
    let s = (state_of g.W.Partial.sets g.W.Transfer.moves g.R.RowRules.rules g.B.ByteFacts.store c.args.self.now.facts) in
    let t = (state_of g.W.Partial.sets g.W.Transfer.moves g.R.RowRules.rules g.B.ByteFacts.store c.carry_step.new.self.facts) in
    let u = (state_of g.W.Partial.sets g.W.Transfer.moves g.R.RowRules.rules g.B.ByteFacts.store c.carry_down.new.self.facts) in
    let P : AnalysisState g.row.W.Denot → Type 0 = IsCarriedIf (passage c.args.a c.args.m (c.args.m + 1)) in
    HasInferred_both s t u c.in_ok-new.new c.in_ok-down.down P (λ (x : AnalysisState g.row.W.Denot). Unit {0}) P c.in_ok-new.ensures.grows c.in_ok-down.ensures.grows c.in_ok-new.ensures.inferred c.in_ok-down.ensures.inferred (λ p q. p)
