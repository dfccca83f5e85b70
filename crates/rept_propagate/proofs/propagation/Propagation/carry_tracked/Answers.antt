use Rattle.std.proofs.Common.{◌≡◌, ◌+◌, ◌≤◌, length, Some, arith, slice_get}
use Rattle.rept_facts.specs.State.{state_of}
use Rattle.rept_facts.specs.Inferring.{IsCarriedAlong, AllCarried}
use Rattle.rept_facts.proofs.Conclusion.{HasInferred_both, HasInferred_as, Grows_trans, tracked_more, tracked_all, read_tracked}
use Rattle.rept_propagate.proofs.Likeness.{AreLed, led_more}
use Rattle.rept_propagate.proofs.propagation.Propagation.carry_tracked.Goals as goal

pub carry_onward-requires-clause-writings : goal.carry_onward-requires-clause-writings
carry_onward-requires-clause-writings g c = c.loop-k.invariant.grows.writing c.requires.writings

pub returns-in_err-new-clause-grows : goal.returns-in_err-new-clause-grows
returns-in_err-new-clause-grows g c = Grows_trans _ _ _ c.loop-k.invariant.grows c.carry_onward.ensures.grows

pub returns-clause-inferred : goal.returns-clause-inferred
returns-clause-inferred g c =
    let s = state_of g.W.Partial.sets g.W.Transfer.moves g.R.RowRules.rules g.B.ByteFacts.store c.args.self.now.facts in
    let count = c.tracked_count-count.ensures in
    let passed : length s.known.store.tracked ≤ c.loop-k.k = omega (arith, count) in
    HasInferred_as s _ c.loop-k.learnt (AreLed c.loop-k.leader c.loop-k.k) AllCarried c.loop-k.invariant.inferred (λ h. tracked_all s (λ b x. IsCarriedAlong b x) c.loop-k.k passed h.0)

pub carry_onward-requires-clause-tracked : goal.carry_onward-requires-clause-tracked
carry_onward-requires-clause-tracked g c = read_tracked (state_of g.W.Partial.sets g.W.Transfer.moves g.R.RowRules.rules g.B.ByteFacts.store c.loop-k.self.facts) c.loop-k.k c.address-a.result c.address-a.ensures

pub loop-k-preserved-then-is_like_any : goal.loop-k-preserved-then-is_like_any
loop-k-preserved-then-is_like_any g c =
    let s = state_of g.W.Partial.sets g.W.Transfer.moves g.R.RowRules.rules g.B.ByteFacts.store c.args.self.now.facts in
    let t = state_of g.W.Partial.sets g.W.Transfer.moves g.R.RowRules.rules g.B.ByteFacts.store c.loop-k.self.facts in
    record {
      grows = c.loop-k.invariant.grows;
      inferred = led_more s t c.loop-k.learnt c.loop-k.leader c.loop-k.k c.address-a.result c.requires.writings c.requires.current c.loop-k.invariant.small (omega arith) c.address-a.ensures (c.is_like_any.ensures c.if-is_like_any.true) c.loop-k.invariant.inferred;
      small = c.loop-k.invariant.small;
      count = c.loop-k.invariant.count;
    }

pub loop-k-preserved : goal.loop-k-preserved
loop-k-preserved g c =
    let s = state_of g.W.Partial.sets g.W.Transfer.moves g.R.RowRules.rules g.B.ByteFacts.store c.args.self.now.facts in
    let t = state_of g.W.Partial.sets g.W.Transfer.moves g.R.RowRules.rules g.B.ByteFacts.store c.loop-k.self.facts in
    let k = c.loop-k.k in
    let a = c.address-a.result in
    let here = HasInferred_as t _ c.in_ok-new.new (IsCarriedAlong a) (λ x. (slice_get x.known.store.tracked k ≡ Some a) × IsCarriedAlong a x) c.in_ok-new.ensures.inferred (λ h. (c.address-a.ensures, h)) in
    record {
      grows = Grows_trans _ _ _ c.loop-k.invariant.grows c.in_ok-new.ensures.grows;
      inferred = HasInferred_both s t _ c.loop-k.learnt c.in_ok-new.new (AreLed c.loop-k.leader k) (λ x. (slice_get x.known.store.tracked k ≡ Some a) × IsCarriedAlong a x) (AreLed (Some a) (k + 1))
          c.loop-k.invariant.grows c.in_ok-new.ensures.grows c.loop-k.invariant.inferred here
          (λ p q. (tracked_more s (λ b x. IsCarriedAlong b x) k a q.0 p.0 q.1, q.1));
      small = omega arith;
      count = c.loop-k.invariant.count;
    }
