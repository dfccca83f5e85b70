use Rattle.std.proofs.Common.{drop, ◌+◌, arith}
use Rattle.rept_streams.proofs.SlicesLemmas.Checking.{idle_on, not_idle, are_idle, idle_at, idle_end}
use Rattle.rept_streams.proofs.slices.checks.all_idle.Goals as goal

pub returns-then-window-gt0 : goal.returns-then-window-gt0
returns-then-window-gt0 c = λ from streams lists a.
    not_idle from lists c.window-item.result (drop (c.loop-window.window-index + 1) c.args.windows.now) c.loop-window.window-index (idle_at from lists c.args.windows.now c.loop-window.window-index c.window-item.result c.loop-window-test.true c.window-item.is (c.loop-window.invariant from streams lists a)) c.if-window-gt0.true

pub loop-window-preserved : goal.loop-window-preserved
loop-window-preserved c = λ from streams lists a.
    let none = c.if-window-gt0.false in
    idle_on from lists c.window-item.result (drop (c.loop-window.window-index + 1) c.args.windows.now) c.loop-window.window-index (idle_at from lists c.args.windows.now c.loop-window.window-index c.window-item.result c.loop-window-test.true c.window-item.is (c.loop-window.invariant from streams lists a)) (omega arith)

pub returns : goal.returns
returns c = λ from streams lists a.
    are_idle from lists c.loop-window.window-index (idle_end from lists c.args.windows.now c.loop-window.window-index c.loop-window-test.false (c.loop-window.invariant from streams lists a))
