use Rattle.std.proofs.Common.{◌≡◌, ◌+◌, ◌-◌, ◌/◌, ℕ, true, false, get_or, sym, ◌∙◌, subst, arith}
use Rattle.std.specs.Option.{IsSome}
use Rattle.rept_order.specs.Legs.{leg_row}
use Rattle.rept_moments.specs.Several.{seen_of}
use Rattle.rept_extents.specs.Timelines.{as_timeline}
use Rattle.rept_timeline.proofs.Lists.{later_open}
use Rattle.rept_timeline.proofs.opening.first_open.Goals as goal

pub at-requires : goal.at-requires
at-requires c =
    let i = c.loop-low.invariant in
    let up = i.up in
    let within = i.within in
    let less = c.loop-low-test.true in
    let inside = c.requires.inside in
    omega arith

pub is_past-requires : goal.is_past-requires
is_past-requires c =
    let i = c.loop-low.invariant in
    let up = i.up in
    let within = i.within in
    let less = c.loop-low-test.true in
    let inside = c.requires.inside in
    subst (λ (k : ℕ). IsSome (leg_row c.args.many.now k)) (sym c.at.ensures) (c.requires.rows (c.loop-low.low + (c.loop-low.high - c.loop-low.low) / 2) (omega arith) (omega arith))

pub loop-low-preserved-then-is_past : goal.loop-low-preserved-then-is_past
loop-low-preserved-then-is_past c =
    let i = c.loop-low.invariant in
    let up = i.up in
    let within = i.within in
    let less = c.loop-low-test.true in
    let inside = c.requires.inside in
    let here : (seen_of c.args.many.now).moments.past (get_or c.args.storing.now (c.loop-low.low + (c.loop-low.high - c.loop-low.low) / 2) 0) c.args.m ≡ true = subst (λ (x : ℕ). (seen_of c.args.many.now).moments.past x c.args.m ≡ true) c.at.ensures (sym c.is_past.ensures ∙ c.if-is_past.true) in
    record {
      order = omega arith;
      up = omega arith;
      within = within;
      before = λ k from below. c.requires.first k (c.loop-low.low + (c.loop-low.high - c.loop-low.low) / 2) from (omega arith) (omega arith) here;
      after = i.after;
    }

pub loop-low-preserved : goal.loop-low-preserved
loop-low-preserved c =
    let i = c.loop-low.invariant in
    let up = i.up in
    let within = i.within in
    let less = c.loop-low-test.true in
    let inside = c.requires.inside in
    let here : (seen_of c.args.many.now).moments.past (get_or c.args.storing.now (c.loop-low.low + (c.loop-low.high - c.loop-low.low) / 2) 0) c.args.m ≡ false = subst (λ (x : ℕ). (seen_of c.args.many.now).moments.past x c.args.m ≡ false) c.at.ensures (sym c.is_past.ensures ∙ c.if-is_past.false) in
    record {
      order = omega arith;
      up = up;
      within = omega arith;
      before = i.before;
      after = λ k from below. later_open (as_timeline (seen_of c.args.many.now)) c.args.storing.now c.args.part c.args.m (c.loop-low.low + (c.loop-low.high - c.loop-low.low) / 2) k c.requires (omega arith) from below here;
    }
