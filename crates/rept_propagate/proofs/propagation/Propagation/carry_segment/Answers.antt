use Rattle.rept_timeline.specs.Paths.{lawful}
use Rattle.std.proofs.Common.{arith, ◌+◌, ◌∙◌, ◌≤◌, ◌<◌, ℕ, Some, None, inl, inr, sym, subst}
use Rattle.rept_reason.specs.declared.fact.Cell.TheVariants.{Byte}
use Rattle.rept_facts.specs.State.{state_of, AnalysisState, Subject}
use Rattle.rept_facts.specs.Inferring.{IsSpreadTo, IsCarriedFrom, IsSparedBetween}
use Rattle.rept_facts.proofs.Conclusion.{HasInferred_both, HasInferred_same, Grows_trans, Grows_itself}
use Rattle.rept_facts.proofs.Spreading.{next_value, next_at, segment_spread, segment_covered, bridged_after, spared_down}
use Rattle.rept_versions.specs.declared.facts.ValueStretch.{ValueStretch}
use Rattle.rept_versions.specs.Facts.{Nexts}
use Rattle.rept_report.proofs.Told.{none_some}
use Rattle.rept_propagate.proofs.propagation.Propagation.carry_segment.Goals as goal

pub spread-requires-in-Some-clause-known : goal.spread-requires-in-Some-clause-known
spread-requires-in-Some-clause-known g c = c.in_ok-right-in-Some.ensures.grows.more c.max-at.result (Byte c.args.a) c.in-Some.stretch.value (next_value (state_of g.W.Partial.sets g.W.Transfer.moves g.R.RowRules.rules g.B.ByteFacts.store c.args.self.now.facts) c.args.a c.args.from c.max-at.result c.in-Some.stretch (rw c.in-Some.is at c.stretch.ensures) c.max-at.ensures)

pub returns-in_err-left-in-Some-clause-grows : goal.returns-in_err-left-in-Some-clause-grows
returns-in_err-left-in-Some-clause-grows g c = Grows_trans _ _ _ c.in_ok-right-in-Some.ensures.grows c.spread-in-Some.ensures.grows

pub returns-in_ok-left-in-Some-clause-grows : goal.returns-in_ok-left-in-Some-clause-grows
returns-in_ok-left-in-Some-clause-grows g c = Grows_trans _ _ _ c.in_ok-right-in-Some.ensures.grows c.in_ok-left-in-Some.ensures.grows

pub returns-in_ok-left-in-Some-clause-inferred : goal.returns-in_ok-left-in-Some-clause-inferred
returns-in_ok-left-in-Some-clause-inferred g c =
    let s = state_of g.W.Partial.sets g.W.Transfer.moves g.R.RowRules.rules g.B.ByteFacts.store c.args.self.now.facts in
    let ordered = next_at c.args.from c.args.to c.max-at.result c.in-Some.stretch.first c.requires.order c.if-to-stretch.false c.max-at.ensures in
    let at = c.max-at.result in
    let v = c.in-Some.stretch.value in
    HasInferred_both s (state_of g.W.Partial.sets g.W.Transfer.moves g.R.RowRules.rules g.B.ByteFacts.store c.spread.new.self.facts) _ c.in_ok-right-in-Some.right c.in_ok-left-in-Some.left (IsSpreadTo (record { address = c.args.a; from = at; to = c.args.to; value = v })) (IsSpreadTo (record { address = c.args.a; from = at; to = c.args.from; value = v })) (IsCarriedFrom c.args.a c.args.from c.args.to)
    c.in_ok-right-in-Some.ensures.grows c.in_ok-left-in-Some.ensures.grows c.in_ok-right-in-Some.ensures.inferred c.in_ok-left-in-Some.ensures.inferred
    (λ p q. segment_spread s c.args.a c.args.from c.args.to at v ordered.0 ordered.1 p q)

pub returns-then-has_all-clause-inferred : goal.returns-then-has_all-clause-inferred
returns-then-has_all-clause-inferred g c = HasInferred_same (state_of g.W.Partial.sets g.W.Transfer.moves g.R.RowRules.rules g.B.ByteFacts.store c.args.self.now.facts) (IsCarriedFrom c.args.a c.args.from c.args.to) (segment_covered (state_of g.W.Partial.sets g.W.Transfer.moves g.R.RowRules.rules g.B.ByteFacts.store c.args.self.now.facts) c.args.a c.args.from c.args.to c.in-Some.stretch (rw c.in-Some.is at c.stretch.ensures) (c.has_all.ensures c.if-has_all.true))

pub spread-requires-in-Some-clause-spared : goal.spread-requires-in-Some-clause-spared
spread-requires-in-Some-clause-spared g c =
    let s = (state_of g.W.Partial.sets g.W.Transfer.moves g.R.RowRules.rules g.B.ByteFacts.store c.args.self.now.facts) in
    let t = state_of g.W.Partial.sets g.W.Transfer.moves g.R.RowRules.rules g.B.ByteFacts.store c.spread.new.self.facts in
    let ordered = next_at c.args.from c.args.to c.max-at.result c.in-Some.stretch.first c.requires.order c.if-to-stretch.false c.max-at.ensures in
    λ i between. bridged_after s t (record { sets = g.met.W.Partial.lawful; moves = g.met.W.Transfer.covers; rules = g.met.R.RowRules.lawful; legs = (lawful c.args.self.now.facts.paths).legs; moments = (lawful c.args.self.now.facts.paths).moments }) c.held.ensures c.in_ok-right-in-Some.ensures.grows i c.args.a (omega arith) (spared_down s c.args.from c.args.to c.max-at.result c.args.a ordered.0 ordered.1 c.requires.spared i between)

-- from a number on the way a byte is spared to the end of it
spared_up : {W : Type 0} (s : AnalysisState W) (from to at a : ℕ) → from ≤ at → at ≤ to → IsSparedBetween from to a s → IsSparedBetween at to a s
spared_up s from to at a low high h i (inl x) = let p = x.0 in h i (inl (omega (arith, p, low), x.1))
spared_up s from to at a low high h i (inr x) = let p = x.0 in let q = x.1 in absurd (omega (arith, p, q, high))

-- before its next stretch, or where there is none, nothing is known of a byte
segment_free : {W : Type 0} (s : AnalysisState W) (a from to : ℕ) → Nexts s.known.store.fact a from None → IsCarriedFrom a from to s
segment_free s a from to none i le lt = record {
  onward = λ w spared h. absurd (none_some (sym (none i le) ∙ h));
  back = λ w spared h. absurd (none_some (sym (none (i + 1) (omega (arith, le))) ∙ h));
}

segment_before : {W : Type 0} (s : AnalysisState W) (a from to : ℕ) (stretch : ValueStretch) → Nexts s.known.store.fact a from (Some stretch) → to < stretch.first → IsCarriedFrom a from to s
segment_before s a from to stretch next early i le lt = record {
  onward = λ w spared h. absurd (none_some (sym (next.free i le (omega (arith, lt, early))) ∙ h));
  back = λ w spared h. absurd (none_some (sym (next.free (i + 1) (omega (arith, le)) (omega (arith, lt, early))) ∙ h));
}

pub returns-in-None-clause-inferred : goal.returns-in-None-clause-inferred
returns-in-None-clause-inferred g c = HasInferred_same (state_of g.W.Partial.sets g.W.Transfer.moves g.R.RowRules.rules g.B.ByteFacts.store c.args.self.now.facts) (IsCarriedFrom c.args.a c.args.from c.args.to) (segment_free (state_of g.W.Partial.sets g.W.Transfer.moves g.R.RowRules.rules g.B.ByteFacts.store c.args.self.now.facts) c.args.a c.args.from c.args.to (rw c.in-None.is at c.stretch.ensures))

pub returns-then-to-stretch-clause-inferred : goal.returns-then-to-stretch-clause-inferred
returns-then-to-stretch-clause-inferred g c = HasInferred_same (state_of g.W.Partial.sets g.W.Transfer.moves g.R.RowRules.rules g.B.ByteFacts.store c.args.self.now.facts) (IsCarriedFrom c.args.a c.args.from c.args.to) (segment_before (state_of g.W.Partial.sets g.W.Transfer.moves g.R.RowRules.rules g.B.ByteFacts.store c.args.self.now.facts) c.args.a c.args.from c.args.to c.in-Some.stretch (rw c.in-Some.is at c.stretch.ensures) c.if-to-stretch.true)

pub spread-requires-clause-known : goal.spread-requires-clause-known
spread-requires-clause-known g c = next_value (state_of g.W.Partial.sets g.W.Transfer.moves g.R.RowRules.rules g.B.ByteFacts.store c.args.self.now.facts) c.args.a c.args.from c.max-at.result c.in-Some.stretch (rw c.in-Some.is at c.stretch.ensures) c.max-at.ensures

pub spread-requires-clause-from : goal.spread-requires-clause-from
spread-requires-clause-from g c =
    let high = (next_at c.args.from c.args.to c.max-at.result c.in-Some.stretch.first c.requires.order c.if-to-stretch.false c.max-at.ensures).1 in
    let inside = c.requires.to in
    omega (arith, high, inside)

pub spread-requires-clause-spared : goal.spread-requires-clause-spared
spread-requires-clause-spared g c =
    let ordered = next_at c.args.from c.args.to c.max-at.result c.in-Some.stretch.first c.requires.order c.if-to-stretch.false c.max-at.ensures in
    spared_up (state_of g.W.Partial.sets g.W.Transfer.moves g.R.RowRules.rules g.B.ByteFacts.store c.args.self.now.facts) c.args.from c.args.to c.max-at.result c.args.a ordered.0 ordered.1 c.requires.spared

pub spread-requires-in-Some-clause-from : goal.spread-requires-in-Some-clause-from
spread-requires-in-Some-clause-from g c =
    let high = (next_at c.args.from c.args.to c.max-at.result c.in-Some.stretch.first c.requires.order c.if-to-stretch.false c.max-at.ensures).1 in
    let inside = c.requires.to in
    subst (λ (P : Subject g.row.W.Denot). c.max-at.result ≤ P.given.moments.end) (sym c.in_ok-right-in-Some.ensures.grows.path) (omega (arith, high, inside))

pub spread-requires-in-Some-clause-to : goal.spread-requires-in-Some-clause-to
spread-requires-in-Some-clause-to g c =
    let order = c.requires.order in
    let inside = c.requires.to in
    subst (λ (P : Subject g.row.W.Denot). c.args.from ≤ P.given.moments.end) (sym c.in_ok-right-in-Some.ensures.grows.path) (omega (arith, order, inside))

pub spread-requires-in-Some-clause-open : goal.spread-requires-in-Some-clause-open
spread-requires-in-Some-clause-open g c = c.in_ok-right-in-Some.ensures.grows.complete ∙ c.requires.open

pub returns-in-None-clause-grows : goal.returns-in-None-clause-grows
returns-in-None-clause-grows g c = Grows_itself (state_of g.W.Partial.sets g.W.Transfer.moves g.R.RowRules.rules g.B.ByteFacts.store c.args.self.now.facts)

pub returns-then-to-stretch-clause-grows : goal.returns-then-to-stretch-clause-grows
returns-then-to-stretch-clause-grows g c = Grows_itself (state_of g.W.Partial.sets g.W.Transfer.moves g.R.RowRules.rules g.B.ByteFacts.store c.args.self.now.facts)

pub returns-then-has_all-clause-grows : goal.returns-then-has_all-clause-grows
returns-then-has_all-clause-grows g c = Grows_itself (state_of g.W.Partial.sets g.W.Transfer.moves g.R.RowRules.rules g.B.ByteFacts.store c.args.self.now.facts)
