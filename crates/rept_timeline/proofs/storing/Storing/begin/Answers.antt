use Rattle.std.proofs.Common.{◌≡◌, ◌+◌, ◌-◌, ◌/◌, ℕ, List, get_or, subst, arith}
use Rattle.std.specs.List.Sorted.{IsNonDecreasingBy}
use Rattle.rept_timeline.proofs.Lists.{begin_after_by, begin_before_by}
use Rattle.rept_timeline.proofs.storing.Storing.begin.Goals as goal

pub loop-low-preserved-then-index-row : goal.loop-low-preserved-then-index-row
loop-low-preserved-then-index-row c =
    let i = c.loop-low.invariant in
    let less = c.loop-low-test.true in
    let up : IsNonDecreasingBy (λ (x : ℕ). x) c.args.self.now = subst (λ (xs : List ℕ). IsNonDecreasingBy (λ (x : ℕ). x) xs) c.self.view_is c.self.invariant in
    let read : c.index.result.now ≡ get_or c.args.self.now (c.loop-low.low + (c.loop-low.high - c.loop-low.low) / 2) c.index.result.now = subst (λ (xs : List ℕ). c.index.result.now ≡ get_or xs (c.loop-low.low + (c.loop-low.high - c.loop-low.low) / 2) c.index.result.now) c.self.view_is c.index.ensures in
    record {
      order = omega arith;
      within = let most = i.within in omega arith;
      before = i.before;
      after = λ k least below. begin_after_by c.args.self.now (c.loop-low.low + (c.loop-low.high - c.loop-low.low) / 2) k c.args.row c.index.result.now up read least below c.if-index-row.true;
    }

pub loop-low-preserved : goal.loop-low-preserved
loop-low-preserved c =
    let i = c.loop-low.invariant in
    let less = c.loop-low-test.true in
    let up : IsNonDecreasingBy (λ (x : ℕ). x) c.args.self.now = subst (λ (xs : List ℕ). IsNonDecreasingBy (λ (x : ℕ). x) xs) c.self.view_is c.self.invariant in
    let read : c.index.result.now ≡ get_or c.args.self.now (c.loop-low.low + (c.loop-low.high - c.loop-low.low) / 2) c.index.result.now = subst (λ (xs : List ℕ). c.index.result.now ≡ get_or xs (c.loop-low.low + (c.loop-low.high - c.loop-low.low) / 2) c.index.result.now) c.self.view_is c.index.ensures in
    record {
      order = omega arith;
      within = i.within;
      before = λ k below. begin_before_by c.args.self.now (c.loop-low.low + (c.loop-low.high - c.loop-low.low) / 2) k c.args.row c.index.result.now up read (omega arith) (let most = i.within in omega arith) c.if-index-row.false;
      after = i.after;
    }
