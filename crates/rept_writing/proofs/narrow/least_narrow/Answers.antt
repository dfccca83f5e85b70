use Rattle.std.proofs.Common.{arith}
use Rattle.rept_writing.specs.Filed.{hit}
use Rattle.rept_writing.proofs.Order.{first_there, none_there}
use Rattle.rept_writing.proofs.narrow.least_narrow.Goals as goal
use Rattle.rept_writing.proofs.narrow.least_narrow.Goals.{else-at-narrow-via-then-at-narrow+else-narrow-at, else-at-narrow-via-else-at-narrow}

pub returns-then-narrow-at : goal.returns-then-narrow-at
returns-then-narrow-at c = first_there c.args.narrow.now c.args.a c.args.k c.in-Err.at (hit 0 0) c.requires c.in-Err.ensures.found c.if-at-narrow.true c.if-narrow-at.true

pub returns-else-at-narrow : goal.returns-else-at-narrow
returns-else-at-narrow c =
    none_there c.args.narrow.now c.args.a c.args.k c.in-Err.at (hit 0 0) c.requires c.in-Err.ensures.found
    (λ inside same. elim c.else-at-narrow.branch [
      | else-at-narrow-via-then-at-narrow+else-narrow-at w ↦ w.if-narrow-at.false same
      | else-at-narrow-via-else-at-narrow w ↦ omega (arith, inside, w.if-at-narrow.false)
    ])
