use Rattle.std.proofs.Common.{◌+◌, ◌<◌, arith}
use Rattle.rept_isa.specs.Numbers.{beside}
use Rattle.rept_facts.specs.State.{state_of}
use Rattle.rept_facts.specs.Inferring.{IsTracked, AreTrackedFrom}
use Rattle.rept_facts.proofs.Conclusion.{HasInferred_both, Grows_trans, one_more}
use Rattle.rept_facts.proofs.Following.{addresses_after}
use Rattle.rept_facts.proofs.Listing.{writings_after}
use Rattle.rept_analysis.proofs.analysis.Analysis.track_from.Goals as goal

pub loop-k-preserved : goal.loop-k-preserved
loop-k-preserved g c =
    let k = c.loop-k.k in
    let start = c.args.start in
    let here = c.in_ok-new.ensures.inferred in
    let there = c.in_ok-new.ensures.tracked in
    record {
      grows = Grows_trans _ _ _ c.loop-k.invariant.grows c.in_ok-new.ensures.grows;
      inferred = HasInferred_both _ _ _ c.loop-k.learnt c.in_ok-new.new (AreTrackedFrom start k) (IsTracked (beside start k)) (AreTrackedFrom start (k + 1))
          c.loop-k.invariant.grows c.in_ok-new.ensures.grows c.loop-k.invariant.inferred here
          (λ below at_k. one_more (λ j. IsTracked (beside start j) (state_of g.W.Partial.sets g.W.Transfer.moves g.R.RowRules.rules g.B.ByteFacts.store c.args.self.now.propagation.facts)) k below at_k);
      tracked = one_more (λ j. IsTracked (beside start j) (state_of g.W.Partial.sets g.W.Transfer.moves g.R.RowRules.rules g.B.ByteFacts.store c.track_one.new.self.propagation.facts)) k (λ j lt. c.in_ok-new.ensures.grows.tracked (beside start j) (c.loop-k.invariant.tracked j lt)) there;
    }

pub track_one-requires-clause-writings : goal.track_one-requires-clause-writings
track_one-requires-clause-writings g c = writings_after (state_of g.W.Partial.sets g.W.Transfer.moves g.R.RowRules.rules g.B.ByteFacts.store c.args.self.now.propagation.facts) (state_of g.W.Partial.sets g.W.Transfer.moves g.R.RowRules.rules g.B.ByteFacts.store c.loop-k.self.propagation.facts) c.loop-k.invariant.grows c.requires.writings

pub returns-in_err-new-clause-grows : goal.returns-in_err-new-clause-grows
returns-in_err-new-clause-grows g c = Grows_trans _ _ _ c.loop-k.invariant.grows c.track_one.ensures.grows

pub track_one-requires-clause-row : goal.track_one-requires-clause-row
track_one-requires-clause-row g c =
    let below : c.loop-k.k < c.args.count = omega arith in
    addresses_after (state_of g.W.Partial.sets g.W.Transfer.moves g.R.RowRules.rules g.B.ByteFacts.store c.args.self.now.propagation.facts) (state_of g.W.Partial.sets g.W.Transfer.moves g.R.RowRules.rules g.B.ByteFacts.store c.loop-k.self.propagation.facts) c.args.start c.args.count c.loop-k.invariant.grows c.requires.row c.loop-k.k below
