use Rattle.std.proofs.Common.{◌≡◌, ◌+◌, ◌∙◌, ℕ, Some, sym, subst}
use Rattle.rept_report.specs.Spots.{passage}
use Rattle.rept_facts.specs.State.{AnalysisState, state_of}
use Rattle.rept_facts.specs.Inferring.{IsCarriedIf}
use Rattle.rept_facts.proofs.Conclusion.{HasInferred_if, HasInferred_same}
use Rattle.rept_facts.proofs.Listing.{some_pause}
use Rattle.rept_propagate.proofs.propagation.Propagation.carry_end.Goals as goal

pub returns-in_default-clause-inferred : goal.returns-in_default-clause-inferred
returns-in_default-clause-inferred g c =
    let P : AnalysisState g.row.W.Denot → Type 0 = λ x. (i : ℕ) → c.args.m ≡ Some i → IsCarriedIf (passage c.args.a i (i + 1)) x in
    HasInferred_same (state_of g.W.Partial.sets g.W.Transfer.moves g.R.RowRules.rules g.B.ByteFacts.store c.args.self.now.facts) P (λ i is. absurd (c.in_default.not-Some i is))

pub returns-clause-inferred : goal.returns-clause-inferred
returns-clause-inferred g c =
    let s = (state_of g.W.Partial.sets g.W.Transfer.moves g.R.RowRules.rules g.B.ByteFacts.store c.args.self.now.facts) in
    let P : AnalysisState g.row.W.Denot → Type 0 = λ x. (i : ℕ) → c.args.m ≡ Some i → IsCarriedIf (passage c.args.a i (i + 1)) x in
    HasInferred_if s _ c.carry_step.result (IsCarriedIf (passage c.args.a c.in-Some.m (c.in-Some.m + 1))) P c.carry_step.ensures.inferred (λ h i is. subst (λ (n : ℕ). IsCarriedIf (passage c.args.a n (n + 1)) s) (some_pause (sym c.in-Some.is ∙ is)) h)
