use Rattle.std.proofs.Common.{◌≡◌, ◌+◌, ◌≤◌, length, Some, arith, slice_get}
use Rattle.rept_facts.specs.State.{state_of}
use Rattle.rept_facts.specs.Inferring.{LastByteKnown, LastBytesBelow, LastBytesKnown}
use Rattle.rept_facts.proofs.Conclusion.{HasInferred_both, HasInferred_as, Grows_trans, tracked_more, tracked_all, read_tracked}
use Rattle.rept_analysis.proofs.analysis.Analysis.infer_last_bytes.Goals as goal

pub infer_last_byte-requires-clause-tracked : goal.infer_last_byte-requires-clause-tracked
infer_last_byte-requires-clause-tracked g c = read_tracked (state_of g.W.Partial.sets g.W.Transfer.moves g.R.RowRules.rules g.B.ByteFacts.store c.loop-k.self.propagation.facts) c.loop-k.k c.address-a.result c.address-a.ensures

pub returns-in_err-new-clause-grows : goal.returns-in_err-new-clause-grows
returns-in_err-new-clause-grows g c = Grows_trans _ _ _ c.loop-k.invariant.grows c.infer_last_byte.ensures.grows

pub loop-k-preserved : goal.loop-k-preserved
loop-k-preserved g c =
    let s = state_of g.W.Partial.sets g.W.Transfer.moves g.R.RowRules.rules g.B.ByteFacts.store c.args.self.now.propagation.facts in
    let t = state_of g.W.Partial.sets g.W.Transfer.moves g.R.RowRules.rules g.B.ByteFacts.store c.loop-k.self.propagation.facts in
    let k = c.loop-k.k in
    let a = c.address-a.result in
    let here = HasInferred_as t _ c.in_ok-new.new (LastByteKnown a) (λ x. (slice_get x.known.store.tracked k ≡ Some a) × LastByteKnown a x) c.in_ok-new.ensures.inferred (λ h. (c.address-a.ensures, h)) in
    record {
      grows = Grows_trans _ _ _ c.loop-k.invariant.grows c.in_ok-new.ensures.grows;
      inferred = HasInferred_both s t _ c.loop-k.learnt c.in_ok-new.new (LastBytesBelow k) (λ x. (slice_get x.known.store.tracked k ≡ Some a) × LastByteKnown a x) (LastBytesBelow (k + 1))
          c.loop-k.invariant.grows c.in_ok-new.ensures.grows c.loop-k.invariant.inferred here
          (λ p q. tracked_more s (λ b x. LastByteKnown b x) k a q.0 p q.1);
      count = c.loop-k.invariant.count;
    }

pub returns-clause-inferred : goal.returns-clause-inferred
returns-clause-inferred g c =
    let s = state_of g.W.Partial.sets g.W.Transfer.moves g.R.RowRules.rules g.B.ByteFacts.store c.args.self.now.propagation.facts in
    let count = c.tracked_count-count.ensures in
    let passed : length s.known.store.tracked ≤ c.loop-k.k = omega (arith, count) in
    HasInferred_as s _ c.loop-k.learnt (LastBytesBelow c.loop-k.k) LastBytesKnown c.loop-k.invariant.inferred (λ h. tracked_all s (λ b x. LastByteKnown b x) c.loop-k.k passed h)
