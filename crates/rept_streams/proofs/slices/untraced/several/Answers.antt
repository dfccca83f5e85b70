use Rattle.std.proofs.Common.{ℕ, ap, arith}
use Rattle.std.specs.Prelude.{nat_lt}
use Rattle.rept_streams.proofs.SlicesLemmas.KeepLemmas.{none_opens, one_opens, all_opens}
use Rattle.rept_streams.proofs.slices.untraced.several.Goals as goal

pub loop-window-init : goal.loop-window-init
loop-window-init c = (λ lefts a. none_opens lefts c.args.windows.now a, omega arith)

pub loop-window-preserved : goal.loop-window-preserved
loop-window-preserved c = (
  λ lefts a. one_opens lefts c.args.windows.now c.loop-window.window-index c.window-item.result c.loop-window.count c.opens-count.result c.loop-window-test.true c.window-item.is c.opens-count.ensures.opening (c.loop-window.invariant.0 lefts a),
  let few = c.opens-count.ensures.few in let now = c.loop-window.invariant.1 in omega (arith, few, now),
)

pub returns : goal.returns
returns c = λ lefts a. ap (λ (n : ℕ). nat_lt 1 n) (all_opens lefts c.args.windows.now c.loop-window.window-index c.loop-window.count c.loop-window-test.false (c.loop-window.invariant.0 lefts a))
