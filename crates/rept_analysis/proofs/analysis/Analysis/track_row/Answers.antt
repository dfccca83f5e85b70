use Rattle.std.proofs.Common.{refl, sym, ◌∙◌}
use Rattle.rept_facts.specs.State.{state_of}
use Rattle.rept_facts.specs.Inferring.{AreTrackedFrom, IsRowTracked}
use Rattle.rept_facts.proofs.Conclusion.{HasInferred_as, HasInferred_none}
use Rattle.rept_facts.proofs.Following.{none_tracked, row_tracked, base_after, row_addresses}
use Rattle.rept_analysis.proofs.analysis.Analysis.track_row.Goals as goal

pub returns-in-None-clause-inferred : goal.returns-in-None-clause-inferred
returns-in-None-clause-inferred g c =
    let s = state_of g.W.Partial.sets g.W.Transfer.moves g.R.RowRules.rules g.B.ByteFacts.store c.args.self.now.propagation.facts in
    HasInferred_none s s (IsRowTracked c.args.row.now c.args.i) refl (none_tracked s c.args.i c.args.row.now (sym c.row_base.ensures ∙ c.in-None.is))

pub returns-in-None-clause-tracked : goal.returns-in-None-clause-tracked
returns-in-None-clause-tracked g c = none_tracked (state_of g.W.Partial.sets g.W.Transfer.moves g.R.RowRules.rules g.B.ByteFacts.store c.args.self.now.propagation.facts) c.args.i c.args.row.now (sym c.row_base.ensures ∙ c.in-None.is)

pub returns-in_ok-learnt-in-Some-clause-inferred : goal.returns-in_ok-learnt-in-Some-clause-inferred
returns-in_ok-learnt-in-Some-clause-inferred g c =
    HasInferred_as _ _ c.in_ok-learnt-in-Some.learnt (AreTrackedFrom c.address-start.result c.min-count.result) (IsRowTracked c.args.row.now c.args.i) c.in_ok-learnt-in-Some.ensures.inferred
    (λ h. row_tracked (state_of g.W.Partial.sets g.W.Transfer.moves g.R.RowRules.rules g.B.ByteFacts.store c.args.self.now.propagation.facts) c.args.i c.args.row.now c.in-Some.base c.address-start.result c.min-count.result (sym c.row_base.ensures ∙ c.in-Some.is) c.address-start.ensures (rw c.places.ensures.value at c.min-count.ensures) h)

pub returns-in_ok-learnt-in-Some-clause-tracked : goal.returns-in_ok-learnt-in-Some-clause-tracked
returns-in_ok-learnt-in-Some-clause-tracked g c =
    let later = base_after (state_of g.W.Partial.sets g.W.Transfer.moves g.R.RowRules.rules g.B.ByteFacts.store c.args.self.now.propagation.facts) (state_of g.W.Partial.sets g.W.Transfer.moves g.R.RowRules.rules g.B.ByteFacts.store c.track_from.new.self.propagation.facts) c.args.row.now c.args.i c.in-Some.base c.in_ok-learnt-in-Some.ensures.grows (sym c.row_base.ensures ∙ c.in-Some.is) in
    row_tracked (state_of g.W.Partial.sets g.W.Transfer.moves g.R.RowRules.rules g.B.ByteFacts.store c.track_from.new.self.propagation.facts) c.args.i c.args.row.now c.in-Some.base c.address-start.result c.min-count.result later c.address-start.ensures (rw c.places.ensures.value at c.min-count.ensures) c.in_ok-learnt-in-Some.ensures.tracked

pub track_from-requires-clause-row : goal.track_from-requires-clause-row
track_from-requires-clause-row g c = row_addresses (state_of g.W.Partial.sets g.W.Transfer.moves g.R.RowRules.rules g.B.ByteFacts.store c.args.self.now.propagation.facts) c.args.i c.args.row.now c.in-Some.base c.address-start.result c.min-count.result c.requires.row (sym c.row_base.ensures ∙ c.in-Some.is) c.address-start.ensures (rw c.places.ensures.value at c.min-count.ensures)
