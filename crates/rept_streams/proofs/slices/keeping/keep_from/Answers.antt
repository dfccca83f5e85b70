use Rattle.std.proofs.Common.{arith}
use Rattle.rept_streams.proofs.SlicesLemmas.KeepLemmas.{none_keeps, first_kept, one_kept, all_kept, one_counted, all_counted}
use Rattle.rept_streams.proofs.slices.keeping.keep_from.Goals as goal

pub loop-window-init : goal.loop-window-init
loop-window-init c = (λ lefts a. rw c.new-left.ensures.items (none_keeps c.args.time lefts c.args.windows.now a), rw c.new-left.ensures.items (omega arith))

pub kept-window-requires : goal.kept-window-requires
kept-window-requires c =
    let q = c.requires in
    first_kept c.args.time q.0 c.args.windows.now c.loop-window.window-index c.window-item.result c.loop-window.left.items c.loop-window-test.true c.window-item.is (c.loop-window.invariant.0 q.0 q.1)

pub loop-window-preserved : goal.loop-window-preserved
loop-window-preserved c = (
  λ lefts a. rw c.in_default.ensures.items (one_kept c.args.time lefts c.args.windows.now c.loop-window.window-index c.window-item.result c.kept-window.result c.loop-window.left.items c.loop-window-test.true c.window-item.is c.kept-window.ensures.left (c.loop-window.invariant.0 lefts a)),
  rw c.in_default.ensures.items (one_counted c.args.windows.now c.loop-window.window-index c.window-item.result c.kept-window.result c.loop-window.left.items c.loop-window-test.true c.window-item.is c.kept-window.ensures.count c.loop-window.invariant.1),
)

pub returns-clause-ok : goal.returns-clause-ok
returns-clause-ok c = λ lefts a. all_kept c.args.time lefts c.args.windows.now c.loop-window.window-index c.loop-window.left.items c.loop-window-test.false (c.loop-window.invariant.0 lefts a)

pub returns-clause-counts : goal.returns-clause-counts
returns-clause-counts c = all_counted c.args.windows.now c.loop-window.window-index c.loop-window.left.items c.loop-window-test.false c.loop-window.invariant.1
