use Rattle.std.proofs.Common.{◌≡◌, ◌+◌, ◌||◌, ℕ, Some, inl, inr, arith, ◌∙◌}
use Rattle.rept_report.specs.Spots.{passage}
use Rattle.rept_facts.specs.State.{AnalysisState, state_of}
use Rattle.rept_facts.specs.Inferring.{IsCarriedFrom, IsCarriedIf, IsCarriedBeside}
use Rattle.rept_facts.proofs.Conclusion.{HasInferred_both, Grows_trans}
use Rattle.rept_facts.proofs.Listing.{writings_after}
use Rattle.rept_propagate.proofs.Going.{beside_closed, next_after}
use Rattle.rept_propagate.proofs.propagation.Propagation.carry_beside.Goals as goal

pub carry_segment-requires-clause-order : goal.carry_segment-requires-clause-order
carry_segment-requires-clause-order g c = let low = c.piece-piece.ensures.low in let high = c.piece-piece.ensures.high in omega (arith, low, high)

pub carry_segment-requires-clause-to : goal.carry_segment-requires-clause-to
carry_segment-requires-clause-to g c = let within = c.piece-piece.ensures.within in let inside = c.requires.strip.inside in omega (arith, within, inside)

pub carry_end-requires-clause-writings : goal.carry_end-requires-clause-writings
carry_end-requires-clause-writings g c = writings_after (state_of g.W.Partial.sets g.W.Transfer.moves g.R.RowRules.rules g.B.ByteFacts.store c.args.self.now.facts) (state_of g.W.Partial.sets g.W.Transfer.moves g.R.RowRules.rules g.B.ByteFacts.store c.carry_segment.new.self.facts) c.in_ok-inside.ensures.grows c.requires.writings

pub carry_end-requires-clause-next : goal.carry_end-requires-clause-next
carry_end-requires-clause-next g c = λ i is. next_after (state_of g.W.Partial.sets g.W.Transfer.moves g.R.RowRules.rules g.B.ByteFacts.store c.args.self.now.facts) (state_of g.W.Partial.sets g.W.Transfer.moves g.R.RowRules.rules g.B.ByteFacts.store c.carry_segment.new.self.facts) c.in_ok-inside.ensures.grows i (i + 1) (c.piece-piece.ensures.ends i (inl is))

pub carry_end-requires-2-clause-writings : goal.carry_end-requires-2-clause-writings
carry_end-requires-2-clause-writings g c =
    let s = (state_of g.W.Partial.sets g.W.Transfer.moves g.R.RowRules.rules g.B.ByteFacts.store c.args.self.now.facts) in
    let t = (state_of g.W.Partial.sets g.W.Transfer.moves g.R.RowRules.rules g.B.ByteFacts.store c.carry_segment.new.self.facts) in
    let u = (state_of g.W.Partial.sets g.W.Transfer.moves g.R.RowRules.rules g.B.ByteFacts.store c.carry_end.new.self.facts) in
    writings_after s u (Grows_trans s t u c.in_ok-inside.ensures.grows c.in_ok-before.ensures.grows) c.requires.writings

pub carry_end-requires-2-clause-next : goal.carry_end-requires-2-clause-next
carry_end-requires-2-clause-next g c =
    let s = (state_of g.W.Partial.sets g.W.Transfer.moves g.R.RowRules.rules g.B.ByteFacts.store c.args.self.now.facts) in
    let t = (state_of g.W.Partial.sets g.W.Transfer.moves g.R.RowRules.rules g.B.ByteFacts.store c.carry_segment.new.self.facts) in
    let u = (state_of g.W.Partial.sets g.W.Transfer.moves g.R.RowRules.rules g.B.ByteFacts.store c.carry_end.new.self.facts) in
    λ i is. next_after s u (Grows_trans s t u c.in_ok-inside.ensures.grows c.in_ok-before.ensures.grows) i (i + 1) (c.piece-piece.ensures.ends i (inr is))

pub returns-in_err-before-clause-grows : goal.returns-in_err-before-clause-grows
returns-in_err-before-clause-grows g c = Grows_trans _ _ _ c.in_ok-inside.ensures.grows c.carry_end.ensures.grows

pub returns-in_err-after-clause-grows : goal.returns-in_err-after-clause-grows
returns-in_err-after-clause-grows g c = Grows_trans _ _ _ (Grows_trans _ _ _ c.in_ok-inside.ensures.grows c.in_ok-before.ensures.grows) c.carry_end-2.ensures.grows

pub returns-clause-grows : goal.returns-clause-grows
returns-clause-grows g c = Grows_trans _ _ _ (Grows_trans _ _ _ c.in_ok-inside.ensures.grows c.in_ok-before.ensures.grows) c.in_ok-after.ensures.grows

pub returns-clause-inferred : goal.returns-clause-inferred
returns-clause-inferred g c =
    let s = (state_of g.W.Partial.sets g.W.Transfer.moves g.R.RowRules.rules g.B.ByteFacts.store c.args.self.now.facts) in
    let t = (state_of g.W.Partial.sets g.W.Transfer.moves g.R.RowRules.rules g.B.ByteFacts.store c.carry_segment.new.self.facts) in
    let u = (state_of g.W.Partial.sets g.W.Transfer.moves g.R.RowRules.rules g.B.ByteFacts.store c.carry_end.new.self.facts) in
    let v = (state_of g.W.Partial.sets g.W.Transfer.moves g.R.RowRules.rules g.B.ByteFacts.store c.carry_end-2.new.self.facts) in
    let a = c.args.a in
    let piece = c.piece-piece.result in
    let P : AnalysisState g.row.W.Denot → Type 0 = λ x. (i : ℕ) → piece.before ≡ Some i → IsCarriedIf (passage a i (i + 1)) x in
    let Q : AnalysisState g.row.W.Denot → Type 0 = λ x. (i : ℕ) → piece.after ≡ Some i → IsCarriedIf (passage a i (i + 1)) x in
    let R : AnalysisState g.row.W.Denot → Type 0 = λ x. IsCarriedFrom a piece.from piece.to x × P x in
    let both = HasInferred_both s t u c.in_ok-inside.inside c.in_ok-before.before (IsCarriedFrom a piece.from piece.to) P R c.in_ok-inside.ensures.grows c.in_ok-before.ensures.grows c.in_ok-inside.ensures.inferred c.in_ok-before.ensures.inferred (λ p q. (p, q)) in
    HasInferred_both s u v (c.in_ok-inside.inside || c.in_ok-before.before) c.in_ok-after.after R Q (IsCarriedBeside a c.args.strip c.args.point piece.to) (Grows_trans s t u c.in_ok-inside.ensures.grows c.in_ok-before.ensures.grows) c.in_ok-after.ensures.grows both c.in_ok-after.ensures.inferred (λ p q. beside_closed s a c.args.point c.args.strip piece c.piece-piece.ensures p.0 p.1 q)

pub carry_segment-requires-clause-spared : goal.carry_segment-requires-clause-spared
carry_segment-requires-clause-spared g c = c.piece-piece.ensures.spared

pub carry_end-requires-clause-open : goal.carry_end-requires-clause-open
carry_end-requires-clause-open g c = c.in_ok-inside.ensures.grows.complete ∙ c.requires.open

pub carry_end-requires-2-clause-open : goal.carry_end-requires-2-clause-open
carry_end-requires-2-clause-open g c = c.in_ok-before.ensures.grows.complete ∙ (c.in_ok-inside.ensures.grows.complete ∙ c.requires.open)

pub returns-clause-onward : goal.returns-clause-onward
returns-clause-onward g c = (c.piece-piece.ensures.high, c.piece-piece.ensures.within)
