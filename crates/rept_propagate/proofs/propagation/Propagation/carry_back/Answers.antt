use Rattle.std.proofs.Common.{ap, arith}
use Rattle.rept_facts.specs.State.{Subject, AnalysisState, state_of}
use Rattle.rept_facts.proofs.Conclusion.{HasInferred_both, Grows_trans}
use Rattle.rept_propagate.proofs.propagation.Propagation.carry_back.Goals as goal

pub loop-low-init : goal.loop-low-init
loop-low-init g c =
    let down = c.in_ok-down.ensures.down in
    let inside = c.requires.inside in
    record { grows = c.in_ok-down.ensures.grows; inferred = c.in_ok-down.ensures.inferred; inside = omega (arith, down, inside) }

pub former_together-requires-clause-inside : goal.former_together-requires-clause-inside
former_together-requires-clause-inside g c =
    let inside = c.loop-low.invariant.inside in
    let end = ap (λ (P : Subject g.row.W.Denot). P.given.moments.end) c.loop-low.invariant.grows.path in
    omega (arith, inside, end)

pub former_together-requires-clause-writings : goal.former_together-requires-clause-writings
former_together-requires-clause-writings g c = c.loop-low.invariant.grows.writing c.requires.writings

pub returns-in_err-former-clause-grows : goal.returns-in_err-former-clause-grows
returns-in_err-former-clause-grows g c = Grows_trans _ _ _ c.loop-low.invariant.grows c.former_together.ensures.grows

pub loop-low-preserved : goal.loop-low-preserved
loop-low-preserved g c =
    let down = c.in_ok-former.ensures.down in
    let inside = c.loop-low.invariant.inside in
    record {
      grows = Grows_trans (state_of g.W.Partial.sets g.W.Transfer.moves g.R.RowRules.rules g.B.ByteFacts.store c.args.self.now.facts) (state_of g.W.Partial.sets g.W.Transfer.moves g.R.RowRules.rules g.B.ByteFacts.store c.loop-low.self.facts) (state_of g.W.Partial.sets g.W.Transfer.moves g.R.RowRules.rules g.B.ByteFacts.store c.former_together.new.self.facts) c.loop-low.invariant.grows c.in_ok-former.ensures.grows;
      inferred = HasInferred_both (state_of g.W.Partial.sets g.W.Transfer.moves g.R.RowRules.rules g.B.ByteFacts.store c.args.self.now.facts) (state_of g.W.Partial.sets g.W.Transfer.moves g.R.RowRules.rules g.B.ByteFacts.store c.loop-low.self.facts) (state_of g.W.Partial.sets g.W.Transfer.moves g.R.RowRules.rules g.B.ByteFacts.store c.former_together.new.self.facts) c.loop-low.learnt c.in_ok-former.former.0 (λ (x : AnalysisState g.row.W.Denot). Unit {0}) (λ (x : AnalysisState g.row.W.Denot). Unit {0}) (λ (x : AnalysisState g.row.W.Denot). Unit {0}) c.loop-low.invariant.grows c.in_ok-former.ensures.grows c.loop-low.invariant.inferred c.in_ok-former.ensures.inferred (λ p q. tt);
      inside = omega (arith, down, inside);
    }

pub loop-low-preserved-then-former : goal.loop-low-preserved-then-former
loop-low-preserved-then-former g c =
    let down = c.in_ok-former.ensures.down in
    let inside = c.loop-low.invariant.inside in
    record {
      grows = Grows_trans (state_of g.W.Partial.sets g.W.Transfer.moves g.R.RowRules.rules g.B.ByteFacts.store c.args.self.now.facts) (state_of g.W.Partial.sets g.W.Transfer.moves g.R.RowRules.rules g.B.ByteFacts.store c.loop-low.self.facts) (state_of g.W.Partial.sets g.W.Transfer.moves g.R.RowRules.rules g.B.ByteFacts.store c.former_together.new.self.facts) c.loop-low.invariant.grows c.in_ok-former.ensures.grows;
      inferred = HasInferred_both (state_of g.W.Partial.sets g.W.Transfer.moves g.R.RowRules.rules g.B.ByteFacts.store c.args.self.now.facts) (state_of g.W.Partial.sets g.W.Transfer.moves g.R.RowRules.rules g.B.ByteFacts.store c.loop-low.self.facts) (state_of g.W.Partial.sets g.W.Transfer.moves g.R.RowRules.rules g.B.ByteFacts.store c.former_together.new.self.facts) c.loop-low.learnt c.in_ok-former.former.0 (λ (x : AnalysisState g.row.W.Denot). Unit {0}) (λ (x : AnalysisState g.row.W.Denot). Unit {0}) (λ (x : AnalysisState g.row.W.Denot). Unit {0}) c.loop-low.invariant.grows c.in_ok-former.ensures.grows c.loop-low.invariant.inferred c.in_ok-former.ensures.inferred (λ p q. tt);
      inside = omega (arith, down, inside);
    }
