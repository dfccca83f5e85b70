use Rattle.std.proofs.Common.{◌≡◌, ◌+◌, ◌-◌, ◌/◌, ℕ, true, false, sym, ◌∙◌, arith}
use Rattle.rept_order.specs.Reaching.{reaches_at}
use Rattle.rept_order.proofs.Halves.{reach_on, reach_back, holding_is, following_is}
use Rattle.rept_order.proofs.edge.slice_number.Goals as goal

pub loop-low-preserved-then-reaches : goal.loop-low-preserved-then-reaches
loop-low-preserved-then-reaches c =
    let i = c.loop-low.invariant in
    let within = i.within in
    let less = c.loop-low-test.true in
    record {
      order = omega arith;
      within = omega arith;
      before = i.before;
      after = λ k least. reach_on c.args.slices.now 0 c.requires.0 c.args.step (c.loop-low.low + (c.loop-low.high - c.loop-low.low) / 2) k c.requires.1 least (sym c.reaches.ensures ∙ c.if-reaches.true);
    }

pub loop-low-preserved : goal.loop-low-preserved
loop-low-preserved c =
    let i = c.loop-low.invariant in
    let less = c.loop-low-test.true in
    record {
      order = omega arith;
      within = i.within;
      before = λ k below. reach_back c.args.slices.now 0 c.requires.0 c.args.step k (c.loop-low.low + (c.loop-low.high - c.loop-low.low) / 2) c.requires.1 (omega arith) (sym c.reaches.ensures ∙ c.if-reaches.false);
      after = i.after;
    }

pub returns-clause-here : goal.returns-clause-here
returns-clause-here c =
    let i = c.loop-low.invariant in
    holding_is c.args.slices.now c.args.step c.loop-low.low i.before (i.after c.loop-low.low c.loop-low-test.false)

pub returns-clause-after : goal.returns-clause-after
returns-clause-after c =
    let i = c.loop-low.invariant in
    following_is c.args.slices.now c.args.step c.loop-low.low i.before (i.after c.loop-low.low c.loop-low-test.false)
