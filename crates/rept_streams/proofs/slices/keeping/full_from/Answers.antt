use Rattle.rept_streams.proofs.SlicesLemmas.KeepLemmas.{none_greatest, one_greatest, all_greatest}
use Rattle.rept_streams.proofs.slices.keeping.full_from.Goals as goal

pub loop-window-init : goal.loop-window-init
loop-window-init c = λ lefts a. none_greatest lefts c.args.windows.now a

pub loop-window-preserved : goal.loop-window-preserved
loop-window-preserved c = λ lefts a.
    rw c.later_by-greatest.ensures (one_greatest lefts c.args.windows.now c.loop-window.window-index c.window-item.result c.loop-window.greatest c.opening.result c.loop-window-test.true c.window-item.is c.opening.ensures (c.loop-window.invariant lefts a))

pub returns : goal.returns
returns c = λ lefts a. all_greatest lefts c.args.windows.now c.loop-window.window-index c.loop-window.greatest c.loop-window-test.false (c.loop-window.invariant lefts a)
