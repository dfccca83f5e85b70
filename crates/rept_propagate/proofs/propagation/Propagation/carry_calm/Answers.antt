use Rattle.rept_timeline.specs.Paths.{lawful}
use Rattle.std.proofs.Common.{◌+◌, Some, None, refl, false, arith}
use Rattle.rept_versions.specs.Facts.{Nexts}
use Rattle.rept_facts.specs.State.{AnalysisState, state_of}
use Rattle.rept_facts.specs.Inferring.{IsCarriedBeside, IsCarriedBelow, IsCarriedIn}
use Rattle.rept_facts.proofs.Conclusion.{HasInferred_as, HasInferred_both, HasInferred_first, HasInferred_same, Grows_itself, Grows_trans}
use Rattle.rept_facts.proofs.Listing.{writings_after}
use Rattle.rept_propagate.proofs.Going.{nexts_none, below_first, in_free, in_edge, in_all, below_beside, edge_onward, strip_at, strip_after, calm_after}
use Rattle.rept_propagate.proofs.propagation.Propagation.carry_calm.Goals as goal

pub loop-from-init : goal.loop-from-init
loop-from-init g c = record { grows = Grows_itself _; inferred = HasInferred_same _ _ (below_first _ c.args.a c.args.strip); least = omega arith; near = let to = c.requires.strip.to in omega (arith, to) }

pub returns-in_default-clause-inferred : goal.returns-in_default-clause-inferred
returns-in_default-clause-inferred g c =
    let s = (state_of g.W.Partial.sets g.W.Transfer.moves g.R.RowRules.rules g.B.ByteFacts.store c.args.self.now.facts) in
    let t = (state_of g.W.Partial.sets g.W.Transfer.moves g.R.RowRules.rules g.B.ByteFacts.store c.loop-from.self.facts) in
    let a = c.args.a in
    let from = c.loop-from.from in
    let Q : AnalysisState g.row.W.Denot → Type 0 = λ x. Nexts x.known.store.fact a from None in
    HasInferred_first s t t c.loop-from.learnt false (IsCarriedBelow a c.args.strip from) Q (IsCarriedIn a c.args.strip) (Grows_itself t) refl c.loop-from.invariant.inferred (HasInferred_same t Q (nexts_none t.known.store.fact a from c.stretch.result c.in_default.not-Some c.stretch.ensures)) (λ p q. in_free s a from c.args.strip p q)

pub returns-then-point-strip-clause-inferred : goal.returns-then-point-strip-clause-inferred
returns-then-point-strip-clause-inferred g c =
    let s = (state_of g.W.Partial.sets g.W.Transfer.moves g.R.RowRules.rules g.B.ByteFacts.store c.args.self.now.facts) in
    let t = (state_of g.W.Partial.sets g.W.Transfer.moves g.R.RowRules.rules g.B.ByteFacts.store c.loop-from.self.facts) in
    let a = c.args.a in
    let from = c.loop-from.from in
    let Q : AnalysisState g.row.W.Denot → Type 0 = λ x. Nexts x.known.store.fact a from (Some c.in-Some.stretch) in
    HasInferred_first s t t c.loop-from.learnt false (IsCarriedBelow a c.args.strip from) Q (IsCarriedIn a c.args.strip) (Grows_itself t) refl c.loop-from.invariant.inferred (HasInferred_same t Q (rw c.in-Some.is at c.stretch.ensures)) (λ p q. in_edge s a from c.args.strip p c.in-Some.stretch q c.edge-point.result c.edge-point.ensures c.if-point-strip.true)

pub carry_beside-requires-clause-strip : goal.carry_beside-requires-clause-strip
carry_beside-requires-clause-strip g c =
    let t = (state_of g.W.Partial.sets g.W.Transfer.moves g.R.RowRules.rules g.B.ByteFacts.store c.loop-from.self.facts) in
    let onward = edge_onward t c.args.a c.loop-from.from c.in-Some.stretch (rw c.in-Some.is at c.stretch.ensures) c.edge-point.result c.edge-point.ensures in
    let least = c.loop-from.invariant.least in
    let inside = c.if-point-strip.false in
    strip_after (state_of g.W.Partial.sets g.W.Transfer.moves g.R.RowRules.rules g.B.ByteFacts.store c.args.self.now.facts) t c.loop-from.invariant.grows c.edge-point.result c.args.strip (strip_at _ c.args.strip.first c.edge-point.result c.args.strip c.requires.strip (omega (arith, onward, least)) inside)

pub carry_beside-requires-clause-calm : goal.carry_beside-requires-clause-calm
carry_beside-requires-clause-calm g c = calm_after (state_of g.W.Partial.sets g.W.Transfer.moves g.R.RowRules.rules g.B.ByteFacts.store c.args.self.now.facts) (state_of g.W.Partial.sets g.W.Transfer.moves g.R.RowRules.rules g.B.ByteFacts.store c.loop-from.self.facts) (record { sets = g.met.W.Partial.lawful; moves = g.met.W.Transfer.covers; rules = g.met.R.RowRules.lawful; legs = (lawful c.args.self.now.facts.paths).legs; moments = (lawful c.args.self.now.facts.paths).moments }) c.held.ensures c.loop-from.invariant.grows c.args.a (omega arith) c.args.strip c.requires.calm

pub carry_beside-requires-clause-writings : goal.carry_beside-requires-clause-writings
carry_beside-requires-clause-writings g c = writings_after (state_of g.W.Partial.sets g.W.Transfer.moves g.R.RowRules.rules g.B.ByteFacts.store c.args.self.now.facts) (state_of g.W.Partial.sets g.W.Transfer.moves g.R.RowRules.rules g.B.ByteFacts.store c.loop-from.self.facts) c.loop-from.invariant.grows c.requires.writings

pub returns-in_err-beside-clause-grows : goal.returns-in_err-beside-clause-grows
returns-in_err-beside-clause-grows g c = Grows_trans _ _ _ c.loop-from.invariant.grows c.carry_beside.ensures.grows

pub loop-from-preserved : goal.loop-from-preserved
loop-from-preserved g c =
    let s = (state_of g.W.Partial.sets g.W.Transfer.moves g.R.RowRules.rules g.B.ByteFacts.store c.args.self.now.facts) in
    let t = (state_of g.W.Partial.sets g.W.Transfer.moves g.R.RowRules.rules g.B.ByteFacts.store c.loop-from.self.facts) in
    let u = (state_of g.W.Partial.sets g.W.Transfer.moves g.R.RowRules.rules g.B.ByteFacts.store c.carry_beside.new.self.facts) in
    let a = c.args.a in
    let from = c.loop-from.from in
    let point = c.edge-point.result in
    let to = c.in_ok-beside.beside.1 in
    let i = c.loop-from.invariant in
    let e = c.in_ok-beside.ensures in
    let P : AnalysisState g.row.W.Denot → Type 0 = λ x. Nexts x.known.store.fact a from (Some c.in-Some.stretch) × IsCarriedBeside a c.args.strip point to x in
    let near = e.onward.1 in
    let far = e.onward.0 in
    let least = i.least in
    let next = edge_onward t a from c.in-Some.stretch (rw c.in-Some.is at c.stretch.ensures) point c.edge-point.ensures in
    record {
      grows = Grows_trans s t u i.grows e.grows;
      inferred = HasInferred_both s t u c.loop-from.learnt c.in_ok-beside.beside.0 (IsCarriedBelow a c.args.strip from) P (IsCarriedBelow a c.args.strip (to + 1)) i.grows e.grows i.inferred
          (HasInferred_as t u c.in_ok-beside.beside.0 (IsCarriedBeside a c.args.strip point to) P e.inferred (λ h. (rw c.in-Some.is at c.stretch.ensures, h)))
          (λ p q. below_beside s a from c.args.strip p c.in-Some.stretch q.0 point to c.edge-point.ensures q.1);
      least = omega (arith, least, next, far);
      near = omega (arith, near);
    }

pub returns-clause-inferred : goal.returns-clause-inferred
returns-clause-inferred g c =
    let s = (state_of g.W.Partial.sets g.W.Transfer.moves g.R.RowRules.rules g.B.ByteFacts.store c.args.self.now.facts) in
    let t = (state_of g.W.Partial.sets g.W.Transfer.moves g.R.RowRules.rules g.B.ByteFacts.store c.loop-from.self.facts) in
    let ended = c.loop-from-test.false in
    HasInferred_as s t c.loop-from.learnt (IsCarriedBelow c.args.a c.args.strip c.loop-from.from) (IsCarriedIn c.args.a c.args.strip) c.loop-from.invariant.inferred (λ p. in_all s c.args.a c.loop-from.from c.args.strip p (omega (arith, ended)))

pub overflow_add-from : goal.overflow_add-from
overflow_add-from g c =
    let near = c.in_ok-beside.ensures.onward.1 in
    let inside = c.requires.strip.inside in
    let few = (lawful c.args.self.now.facts.paths).numbers in
    omega (arith, near, inside, few)
