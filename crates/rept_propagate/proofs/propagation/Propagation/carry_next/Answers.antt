use Rattle.std.proofs.Common.{ℕ, ◌∙◌, ◌+◌, ◌<◌, ◌≤◌, sym}
use Rattle.rept_report.specs.Spots.{passage}
use Rattle.rept_facts.specs.State.{AnalysisState, state_of}
use Rattle.rept_facts.specs.Inferring.{IsCarriedIf}
use Rattle.rept_facts.proofs.Conclusion.{HasInferred_as, HasInferred_same}
use Rattle.rept_propagate.proofs.Going.{alike_if, blocked_if, one_link}
use Rattle.rept_propagate.proofs.propagation.Propagation.carry_next.Goals as goal

pub returns-then-like-next-clause-inferred : goal.returns-then-like-next-clause-inferred
returns-then-like-next-clause-inferred g c =
    let s = (state_of g.W.Partial.sets g.W.Transfer.moves g.R.RowRules.rules g.B.ByteFacts.store c.args.self.now.facts) in
    let P : AnalysisState g.row.W.Denot → Type 0 = λ x. (w : ℕ) → c.args.next ≤ w → w < c.like_to-like.result → IsCarriedIf (passage c.args.a c.args.m w) x in
    rw c.unchanged-then-like-next.ensures.news (HasInferred_same s P (λ w low high. alike_if s (passage c.args.a c.args.m w) (sym (c.like_to-like.ensures.alike w low high ∙ c.known_byte-here.ensures))))

pub returns-then-blocks-clause-inferred : goal.returns-then-blocks-clause-inferred
returns-then-blocks-clause-inferred g c =
    let s = (state_of g.W.Partial.sets g.W.Transfer.moves g.R.RowRules.rules g.B.ByteFacts.store c.args.self.now.facts) in
    let P : AnalysisState g.row.W.Denot → Type 0 = λ x. (w : ℕ) → c.args.next ≤ w → w < c.args.next + 1 → IsCarriedIf (passage c.args.a c.args.m w) x in
    rw c.unchanged.ensures.news (HasInferred_same s P (λ w low high. one_link s c.args.a c.args.m c.args.next w low high (blocked_if s (passage c.args.a c.args.m c.args.next) (c.blocks-2.ensures c.if-blocks.true))))

pub returns-clause-inferred : goal.returns-clause-inferred
returns-clause-inferred g c =
    let s = (state_of g.W.Partial.sets g.W.Transfer.moves g.R.RowRules.rules g.B.ByteFacts.store c.args.self.now.facts) in
    let P : AnalysisState g.row.W.Denot → Type 0 = λ x. (w : ℕ) → c.args.next ≤ w → w < c.args.next + 1 → IsCarriedIf (passage c.args.a c.args.m w) x in
    HasInferred_as s (state_of g.W.Partial.sets g.W.Transfer.moves g.R.RowRules.rules g.B.ByteFacts.store c.carry_link.new.self.facts) c.in_ok-link.link.has_news (IsCarriedIf (passage c.args.a c.args.m c.args.next)) P c.in_ok-link.ensures.inferred (λ h w low high. one_link s c.args.a c.args.m c.args.next w low high h)
