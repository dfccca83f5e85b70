use Rattle.std.proofs.Common.{sym, refl, arith, add-one, append_assoc, append-nil}
use Rattle.rept_writing.proofs.narrow.push_from.Goals as goal

pub loop-step-init : goal.loop-step-init
loop-step-init c = record { items = sym (append-nil _); len = omega arith; capacity = refl }

pub loop-step-preserved : goal.loop-step-preserved
loop-step-preserved c = record {
  items = rw (add-one, c.push_reserved.ensures.items, c.loop-step.invariant.items, append_assoc);
  len = omega arith;
  capacity = cc;
}
