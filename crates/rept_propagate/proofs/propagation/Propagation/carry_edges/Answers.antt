use Rattle.std.proofs.Common.{◌||◌, ap, arith}
use Rattle.rept_facts.specs.State.{Subject, AnalysisState, state_of}
use Rattle.rept_facts.proofs.Conclusion.{HasInferred_both, HasInferred_same, Grows_itself, Grows_trans}
use Rattle.rept_propagate.proofs.Going.{strip_at}
use Rattle.rept_propagate.proofs.propagation.Propagation.carry_edges.Goals as goal

pub loop-from-init : goal.loop-from-init
loop-from-init g c = record { grows = Grows_itself _; inferred = HasInferred_same _ (λ (x : AnalysisState g.row.W.Denot). Unit {0}) tt; end_is = c.end-end.ensures.value }

pub strip_together-requires-clause-strip : goal.strip_together-requires-clause-strip
strip_together-requires-clause-strip g c = let its = c.strip-strip.ensures in let low = its.from in let high = its.to in strip_at _ _ c.strip-strip.result.first c.strip-strip.result its (omega arith) (omega (arith, low, high))

pub strip_together-requires-clause-writings : goal.strip_together-requires-clause-writings
strip_together-requires-clause-writings g c = c.loop-from.invariant.grows.writing c.requires.writings

pub carry_back-requires-clause-writings : goal.carry_back-requires-clause-writings
carry_back-requires-clause-writings g c = c.in_ok-inside.ensures.grows.writing (c.loop-from.invariant.grows.writing c.requires.writings)

pub carry_back-requires-clause-inside : goal.carry_back-requires-clause-inside
carry_back-requires-clause-inside g c =
    let its = c.strip-strip.ensures in
    let low = its.from in
    let high = its.to in
    let inside = its.inside in
    let end = ap (λ (P : Subject g.row.W.Denot). P.given.moments.end) c.in_ok-inside.ensures.grows.path in
    omega (arith, low, high, inside, end)

pub returns-in_err-inside-clause-grows : goal.returns-in_err-inside-clause-grows
returns-in_err-inside-clause-grows g c = Grows_trans _ _ _ c.loop-from.invariant.grows c.strip_together.ensures.grows

pub returns-in_err-back-clause-grows : goal.returns-in_err-back-clause-grows
returns-in_err-back-clause-grows g c = Grows_trans _ _ _ (Grows_trans _ _ _ c.loop-from.invariant.grows c.in_ok-inside.ensures.grows) c.carry_back.ensures.grows

pub loop-from-preserved : goal.loop-from-preserved
loop-from-preserved g c =
    let to = Grows_trans (state_of g.W.Partial.sets g.W.Transfer.moves g.R.RowRules.rules g.B.ByteFacts.store c.args.self.now.facts) (state_of g.W.Partial.sets g.W.Transfer.moves g.R.RowRules.rules g.B.ByteFacts.store c.loop-from.self.facts) (state_of g.W.Partial.sets g.W.Transfer.moves g.R.RowRules.rules g.B.ByteFacts.store c.strip_together.new.self.facts) c.loop-from.invariant.grows c.in_ok-inside.ensures.grows in
    let inside = HasInferred_both (state_of g.W.Partial.sets g.W.Transfer.moves g.R.RowRules.rules g.B.ByteFacts.store c.args.self.now.facts) (state_of g.W.Partial.sets g.W.Transfer.moves g.R.RowRules.rules g.B.ByteFacts.store c.loop-from.self.facts) (state_of g.W.Partial.sets g.W.Transfer.moves g.R.RowRules.rules g.B.ByteFacts.store c.strip_together.new.self.facts) c.loop-from.learnt c.in_ok-inside.inside (λ (x : AnalysisState g.row.W.Denot). Unit {0}) (λ (x : AnalysisState g.row.W.Denot). Unit {0}) (λ (x : AnalysisState g.row.W.Denot). Unit {0}) c.loop-from.invariant.grows c.in_ok-inside.ensures.grows c.loop-from.invariant.inferred c.in_ok-inside.ensures.inferred (λ p q. tt) in
    record {
      grows = Grows_trans (state_of g.W.Partial.sets g.W.Transfer.moves g.R.RowRules.rules g.B.ByteFacts.store c.args.self.now.facts) (state_of g.W.Partial.sets g.W.Transfer.moves g.R.RowRules.rules g.B.ByteFacts.store c.strip_together.new.self.facts) (state_of g.W.Partial.sets g.W.Transfer.moves g.R.RowRules.rules g.B.ByteFacts.store c.carry_back.new.self.facts) to c.in_ok-back.ensures.grows;
      inferred = HasInferred_both (state_of g.W.Partial.sets g.W.Transfer.moves g.R.RowRules.rules g.B.ByteFacts.store c.args.self.now.facts) (state_of g.W.Partial.sets g.W.Transfer.moves g.R.RowRules.rules g.B.ByteFacts.store c.strip_together.new.self.facts) (state_of g.W.Partial.sets g.W.Transfer.moves g.R.RowRules.rules g.B.ByteFacts.store c.carry_back.new.self.facts) (c.loop-from.learnt || c.in_ok-inside.inside) c.in_ok-back.back (λ (x : AnalysisState g.row.W.Denot). Unit {0}) (λ (x : AnalysisState g.row.W.Denot). Unit {0}) (λ (x : AnalysisState g.row.W.Denot). Unit {0}) to c.in_ok-back.ensures.grows inside c.in_ok-back.ensures.inferred (λ p q. tt);
      end_is = c.loop-from.invariant.end_is;
    }
