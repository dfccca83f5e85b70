use Rattle.std.proofs.Common.{◌+◌, Some, None, refl, false, arith, ◌∙◌}
use Rattle.rept_versions.specs.Facts.{Nexts}
use Rattle.rept_report.specs.Spots.{passage}
use Rattle.rept_facts.specs.State.{AnalysisState, state_of}
use Rattle.rept_facts.specs.Inferring.{IsCarriedIf, IsCarriedBelow, IsCarriedIn}
use Rattle.rept_facts.proofs.Conclusion.{HasInferred_as, HasInferred_both, HasInferred_first, HasInferred_same, Grows_itself, Grows_trans}
use Rattle.rept_facts.proofs.Listing.{writings_after}
use Rattle.rept_propagate.proofs.Going.{nexts_none, below_first, in_free, in_border, in_all, below_border, border_onward, strip_after}
use Rattle.rept_propagate.proofs.propagation.Propagation.carry_singly.Goals as goal

pub loop-from-init : goal.loop-from-init
loop-from-init g c = record { grows = Grows_itself _; inferred = HasInferred_same _ _ (below_first _ c.args.a c.args.strip); least = omega arith }

pub returns-in_default-clause-inferred : goal.returns-in_default-clause-inferred
returns-in_default-clause-inferred g c =
    let s = (state_of g.W.Partial.sets g.W.Transfer.moves g.R.RowRules.rules g.B.ByteFacts.store c.args.self.now.facts) in
    let t = (state_of g.W.Partial.sets g.W.Transfer.moves g.R.RowRules.rules g.B.ByteFacts.store c.loop-from.self.facts) in
    let a = c.args.a in
    let from = c.loop-from.from in
    let Q : AnalysisState g.row.W.Denot → Type 0 = λ x. Nexts x.known.store.fact a from None in
    HasInferred_first s t t c.loop-from.learnt false (IsCarriedBelow a c.args.strip from) Q (IsCarriedIn a c.args.strip) (Grows_itself t) refl c.loop-from.invariant.inferred (HasInferred_same t Q (nexts_none t.known.store.fact a from c.stretch.result c.in_default.not-Some c.stretch.ensures)) (λ p q. in_free s a from c.args.strip p q)

pub returns-then-m-strip-clause-inferred : goal.returns-then-m-strip-clause-inferred
returns-then-m-strip-clause-inferred g c =
    let s = (state_of g.W.Partial.sets g.W.Transfer.moves g.R.RowRules.rules g.B.ByteFacts.store c.args.self.now.facts) in
    let t = (state_of g.W.Partial.sets g.W.Transfer.moves g.R.RowRules.rules g.B.ByteFacts.store c.loop-from.self.facts) in
    let a = c.args.a in
    let from = c.loop-from.from in
    let Q : AnalysisState g.row.W.Denot → Type 0 = λ x. Nexts x.known.store.fact a from (Some c.in-Some.stretch) in
    HasInferred_first s t t c.loop-from.learnt false (IsCarriedBelow a c.args.strip from) Q (IsCarriedIn a c.args.strip) (Grows_itself t) refl c.loop-from.invariant.inferred (HasInferred_same t Q (rw c.in-Some.is at c.stretch.ensures)) (λ p q. in_border s a from c.args.strip p c.in-Some.stretch q c.border-m.result c.border-m.ensures c.if-m-strip.true)

pub carry_border-requires-clause-strip : goal.carry_border-requires-clause-strip
carry_border-requires-clause-strip g c = strip_after (state_of g.W.Partial.sets g.W.Transfer.moves g.R.RowRules.rules g.B.ByteFacts.store c.args.self.now.facts) (state_of g.W.Partial.sets g.W.Transfer.moves g.R.RowRules.rules g.B.ByteFacts.store c.loop-from.self.facts) c.loop-from.invariant.grows c.args.strip.first c.args.strip c.requires.strip

pub carry_border-requires-clause-inside : goal.carry_border-requires-clause-inside
carry_border-requires-clause-inside g c = c.if-m-strip.false

pub carry_border-requires-clause-from : goal.carry_border-requires-clause-from
carry_border-requires-clause-from g c =
    let onward = border_onward (state_of g.W.Partial.sets g.W.Transfer.moves g.R.RowRules.rules g.B.ByteFacts.store c.loop-from.self.facts) c.args.a c.loop-from.from c.in-Some.stretch (rw c.in-Some.is at c.stretch.ensures) c.border-m.result c.border-m.ensures in
    let least = c.loop-from.invariant.least in
    omega (arith, onward, least)

pub carry_border-requires-clause-writings : goal.carry_border-requires-clause-writings
carry_border-requires-clause-writings g c = writings_after (state_of g.W.Partial.sets g.W.Transfer.moves g.R.RowRules.rules g.B.ByteFacts.store c.args.self.now.facts) (state_of g.W.Partial.sets g.W.Transfer.moves g.R.RowRules.rules g.B.ByteFacts.store c.loop-from.self.facts) c.loop-from.invariant.grows c.requires.writings

pub returns-in_err-new-clause-grows : goal.returns-in_err-new-clause-grows
returns-in_err-new-clause-grows g c = Grows_trans _ _ _ c.loop-from.invariant.grows c.carry_border.ensures.grows

pub loop-from-preserved : goal.loop-from-preserved
loop-from-preserved g c =
    let s = (state_of g.W.Partial.sets g.W.Transfer.moves g.R.RowRules.rules g.B.ByteFacts.store c.args.self.now.facts) in
    let t = (state_of g.W.Partial.sets g.W.Transfer.moves g.R.RowRules.rules g.B.ByteFacts.store c.loop-from.self.facts) in
    let u = (state_of g.W.Partial.sets g.W.Transfer.moves g.R.RowRules.rules g.B.ByteFacts.store c.carry_border.new.self.facts) in
    let a = c.args.a in
    let from = c.loop-from.from in
    let m = c.border-m.result in
    let i = c.loop-from.invariant in
    let e = c.in_ok-new.ensures in
    let P : AnalysisState g.row.W.Denot → Type 0 = λ x. Nexts x.known.store.fact a from (Some c.in-Some.stretch) × IsCarriedIf (passage a m (m + 1)) x in
    let least = i.least in
    let next = border_onward t a from c.in-Some.stretch (rw c.in-Some.is at c.stretch.ensures) m c.border-m.ensures in
    record {
      grows = Grows_trans s t u i.grows e.grows;
      inferred = HasInferred_both s t u c.loop-from.learnt c.in_ok-new.new (IsCarriedBelow a c.args.strip from) P (IsCarriedBelow a c.args.strip (m + 1)) i.grows e.grows i.inferred
          (HasInferred_as t u c.in_ok-new.new (IsCarriedIf (passage a m (m + 1))) P e.inferred (λ h. (rw c.in-Some.is at c.stretch.ensures, h)))
          (λ p q. below_border s a from c.args.strip p c.in-Some.stretch q.0 m c.border-m.ensures q.1);
      least = omega (arith, least, next);
    }

pub returns-clause-inferred : goal.returns-clause-inferred
returns-clause-inferred g c =
    let s = (state_of g.W.Partial.sets g.W.Transfer.moves g.R.RowRules.rules g.B.ByteFacts.store c.args.self.now.facts) in
    let t = (state_of g.W.Partial.sets g.W.Transfer.moves g.R.RowRules.rules g.B.ByteFacts.store c.loop-from.self.facts) in
    let ended = c.loop-from-test.false in
    HasInferred_as s t c.loop-from.learnt (IsCarriedBelow c.args.a c.args.strip c.loop-from.from) (IsCarriedIn c.args.a c.args.strip) c.loop-from.invariant.inferred (λ p. in_all s c.args.a c.loop-from.from c.args.strip p ended)

pub carry_border-requires-clause-open : goal.carry_border-requires-clause-open
carry_border-requires-clause-open g c = c.loop-from.invariant.grows.complete ∙ c.requires.open

pub returns-clause-grows : goal.returns-clause-grows
returns-clause-grows g c = c.loop-from.invariant.grows

pub returns-in_default-clause-grows : goal.returns-in_default-clause-grows
returns-in_default-clause-grows g c = c.loop-from.invariant.grows

pub returns-then-m-strip-clause-grows : goal.returns-then-m-strip-clause-grows
returns-then-m-strip-clause-grows g c = c.loop-from.invariant.grows

pub loop-from-smaller : goal.loop-from-smaller
loop-from-smaller g c =
    let more = c.loop-from-test.true in
    let onward = border_onward (state_of g.W.Partial.sets g.W.Transfer.moves g.R.RowRules.rules g.B.ByteFacts.store c.loop-from.self.facts) c.args.a c.loop-from.from c.in-Some.stretch (rw c.in-Some.is at c.stretch.ensures) c.border-m.result c.border-m.ensures in
    omega (arith, more, onward)

pub overflow_add-from : goal.overflow_add-from
overflow_add-from g c =
    let inside = c.if-m-strip.false in
    omega (arith, inside)
