use mathlib.Core.Logic.{∥∥₁_elim}
use Rattle.std.proofs.Props.{props}
use Rattle.std.proofs.Common.{◌+◌, ◌-◌, ◌/◌, sym, ◌∙◌, arith}
use Rattle.rept_timeline.proofs.Fronts.{later_front, later_tail}
use Rattle.rept_timeline.proofs.closing.first_close.Goals as goal

pub loop-low-preserved-then-is_later : goal.loop-low-preserved-then-is_later
loop-low-preserved-then-is_later c =
    let i = c.loop-low.invariant in
    let up = i.up in
    let within = i.within in
    let less = c.loop-low-test.true in
    record {
      order = omega arith;
      up = omega arith;
      within = within;
      before = λ k from below. ∥∥₁_elim c.requires.sound (hlevel props) (λ s. later_front c.args.many.now s c.args.row k (c.loop-low.low + (c.loop-low.high - c.loop-low.low) / 2) c.requires.row (omega arith) (λ q above under. c.requires.rows q (omega arith) (omega arith)) (sym c.is_later.ensures ∙ c.if-is_later.true));
      after = i.after;
    }

pub loop-low-preserved : goal.loop-low-preserved
loop-low-preserved c =
    let i = c.loop-low.invariant in
    let up = i.up in
    let within = i.within in
    let less = c.loop-low-test.true in
    record {
      order = omega arith;
      up = up;
      within = omega arith;
      before = i.before;
      after = λ k from below. ∥∥₁_elim c.requires.sound (hlevel props) (λ s. later_tail c.args.many.now s c.args.row (c.loop-low.low + (c.loop-low.high - c.loop-low.low) / 2) k c.requires.row from (λ q above under. c.requires.rows q (omega arith) (omega arith)) (sym c.is_later.ensures ∙ c.if-is_later.false));
    }
