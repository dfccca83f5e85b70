use Rattle.std.proofs.Common.{ap, arith}
use Rattle.rept_facts.specs.State.{Subject, AnalysisState, state_of}
use Rattle.rept_facts.proofs.Conclusion.{HasInferred_both, Grows_trans}
use Rattle.rept_propagate.proofs.propagation.Propagation.carry_forth.Goals as goal

pub loop-last-init : goal.loop-last-init
loop-last-init g c =
    let inside = c.requires.inside in
    let high = c.greatest_next-high.ensures in
    let end = ap (λ (P : Subject g.row.W.Denot). P.given.moments.end) c.in_ok-learnt.ensures.grows.path in
    record {
      grows = c.in_ok-learnt.ensures.grows;
      inferred = c.in_ok-learnt.ensures.inferred;
      high = omega (arith, high, end);
      inside = omega (arith, inside);
    }

pub later_together-requires-clause-writings : goal.later_together-requires-clause-writings
later_together-requires-clause-writings g c = c.loop-last.invariant.grows.writing c.requires.writings

pub later_together-requires-clause-inside : goal.later_together-requires-clause-inside
later_together-requires-clause-inside g c =
    let less = c.loop-last-test.true in
    let high = c.loop-last.invariant.high in
    let end = ap (λ (P : Subject g.row.W.Denot). P.given.moments.end) c.loop-last.invariant.grows.path in
    omega (arith, less, high, end)

pub returns-in_err-later-clause-grows : goal.returns-in_err-later-clause-grows
returns-in_err-later-clause-grows g c = Grows_trans _ _ _ c.loop-last.invariant.grows c.later_together.ensures.grows

pub loop-last-preserved : goal.loop-last-preserved
loop-last-preserved g c =
    let high = c.loop-last.invariant.high in
    let up = c.in_ok-later.ensures.up.1 in
    let end = ap (λ (P : Subject g.row.W.Denot). P.given.moments.end) c.loop-last.invariant.grows.path in
    let same = ap (λ (P : Subject g.row.W.Denot). P.given.moments.end) c.in_ok-later.ensures.grows.path in
    record {
      grows = Grows_trans (state_of g.W.Partial.sets g.W.Transfer.moves g.R.RowRules.rules g.B.ByteFacts.store c.args.self.now.facts) (state_of g.W.Partial.sets g.W.Transfer.moves g.R.RowRules.rules g.B.ByteFacts.store c.loop-last.self.facts) (state_of g.W.Partial.sets g.W.Transfer.moves g.R.RowRules.rules g.B.ByteFacts.store c.later_together.new.self.facts) c.loop-last.invariant.grows c.in_ok-later.ensures.grows;
      inferred = HasInferred_both (state_of g.W.Partial.sets g.W.Transfer.moves g.R.RowRules.rules g.B.ByteFacts.store c.args.self.now.facts) (state_of g.W.Partial.sets g.W.Transfer.moves g.R.RowRules.rules g.B.ByteFacts.store c.loop-last.self.facts) (state_of g.W.Partial.sets g.W.Transfer.moves g.R.RowRules.rules g.B.ByteFacts.store c.later_together.new.self.facts) c.loop-last.learnt c.in_ok-later.later.0 (λ (x : AnalysisState g.row.W.Denot). Unit {0}) (λ (x : AnalysisState g.row.W.Denot). Unit {0}) (λ (x : AnalysisState g.row.W.Denot). Unit {0}) c.loop-last.invariant.grows c.in_ok-later.ensures.grows c.loop-last.invariant.inferred c.in_ok-later.ensures.inferred (λ p q. tt);
      high = omega (arith, high, end, same);
      inside = omega (arith, up, end);
    }

pub loop-last-preserved-then-later : goal.loop-last-preserved-then-later
loop-last-preserved-then-later g c =
    let most = c.max-high.ensures in
    let reached = c.greatest_next.ensures in
    let high = c.loop-last.invariant.high in
    let up = c.in_ok-later.ensures.up.1 in
    let end = ap (λ (P : Subject g.row.W.Denot). P.given.moments.end) c.loop-last.invariant.grows.path in
    let same = ap (λ (P : Subject g.row.W.Denot). P.given.moments.end) c.in_ok-later.ensures.grows.path in
    record {
      grows = Grows_trans (state_of g.W.Partial.sets g.W.Transfer.moves g.R.RowRules.rules g.B.ByteFacts.store c.args.self.now.facts) (state_of g.W.Partial.sets g.W.Transfer.moves g.R.RowRules.rules g.B.ByteFacts.store c.loop-last.self.facts) (state_of g.W.Partial.sets g.W.Transfer.moves g.R.RowRules.rules g.B.ByteFacts.store c.later_together.new.self.facts) c.loop-last.invariant.grows c.in_ok-later.ensures.grows;
      inferred = HasInferred_both (state_of g.W.Partial.sets g.W.Transfer.moves g.R.RowRules.rules g.B.ByteFacts.store c.args.self.now.facts) (state_of g.W.Partial.sets g.W.Transfer.moves g.R.RowRules.rules g.B.ByteFacts.store c.loop-last.self.facts) (state_of g.W.Partial.sets g.W.Transfer.moves g.R.RowRules.rules g.B.ByteFacts.store c.later_together.new.self.facts) c.loop-last.learnt c.in_ok-later.later.0 (λ (x : AnalysisState g.row.W.Denot). Unit {0}) (λ (x : AnalysisState g.row.W.Denot). Unit {0}) (λ (x : AnalysisState g.row.W.Denot). Unit {0}) c.loop-last.invariant.grows c.in_ok-later.ensures.grows c.loop-last.invariant.inferred c.in_ok-later.ensures.inferred (λ p q. tt);
      high = omega (arith, high, most, reached, end, same);
      inside = omega (arith, up, end);
    }
