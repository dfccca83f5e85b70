use Rattle.std.proofs.Common.{arith}
use Rattle.std.specs.List.{Contains}
use Rattle.rept_writing.specs.Filed.{hit}
use Rattle.rept_writing.proofs.Going.{past_bound}
use Rattle.rept_writing.proofs.Order.{last_below, none_below}
use Rattle.rept_writing.proofs.narrow.past_narrow.Goals as goal
use Rattle.rept_writing.proofs.narrow.past_narrow.Goals.{else-at-gt0-via-then-at-gt0+else-narrow-at, else-at-gt0-via-else-at-gt0}

pub returns-then-narrow-at : goal.returns-then-narrow-at
returns-then-narrow-at c =
    last_below c.args.narrow.now c.args.a c.args.k c.in-Err.at (hit 0 0) (omega (arith, c.if-k-eq0.false)) c.requires
    c.in-Err.ensures.found c.in-Err.ensures.bound c.if-at-gt0.true c.if-narrow-at.true

pub overflow_add-result : goal.overflow_add-result
overflow_add-result c =
    let last = last_below c.args.narrow.now c.args.a c.args.k c.in-Err.at (hit 0 0) (omega (arith, c.if-k-eq0.false)) c.requires
    c.in-Err.ensures.found c.in-Err.ensures.bound c.if-at-gt0.true c.if-narrow-at.true in
    let low = past_bound (λ j. Contains c.args.narrow.now (hit c.args.a j)) 0 c.args.k _ c.args.k (omega arith) (omega arith) last in
    omega (arith, low)

pub returns-else-at-gt0 : goal.returns-else-at-gt0
returns-else-at-gt0 c =
    none_below c.args.narrow.now c.args.a c.args.k c.in-Err.at (hit 0 0) (omega (arith, c.if-k-eq0.false)) c.requires
    c.in-Err.ensures.found c.in-Err.ensures.bound
    (λ some same. elim c.else-at-gt0.branch [
      | else-at-gt0-via-then-at-gt0+else-narrow-at w ↦ w.if-narrow-at.false same
      | else-at-gt0-via-else-at-gt0 w ↦ omega (arith, some, w.if-at-gt0.false)
    ])
