use Rattle.std.proofs.Common.{drop, sym, ◌+◌}
use Rattle.rept_streams.specs.Slices.Checks.{startless}
use Rattle.rept_streams.proofs.SlicesLemmas.Checking.{one_passes, one_fails, none_fails, rest_at, rest_end}
use Rattle.rept_streams.proofs.slices.checks.first_startless.Goals as goal

pub returns-in-Some : goal.returns-in-Some
returns-in-Some c = λ from streams lists a.
    one_fails (startless from) from lists c.window-item.result (drop (c.loop-window.window-index + 1) c.args.windows.now) c.loop-window.window-index c.in-Some.fault (rest_at (startless from) from lists c.args.windows.now c.loop-window.window-index c.window-item.result c.loop-window-test.true c.window-item.is (c.loop-window.invariant from streams lists a)) (λ k stream packets is. c.in-Some.ensures c.loop-window.window-index k from stream packets is)

pub loop-window-preserved : goal.loop-window-preserved
loop-window-preserved c = λ from streams lists a.
    one_passes (startless from) from lists c.window-item.result (drop (c.loop-window.window-index + 1) c.args.windows.now) c.loop-window.window-index (rest_at (startless from) from lists c.args.windows.now c.loop-window.window-index c.window-item.result c.loop-window-test.true c.window-item.is (c.loop-window.invariant from streams lists a)) (λ k stream packets is. sym (c.in_default.ensures c.loop-window.window-index k from stream packets is))

pub returns : goal.returns
returns c = λ from streams lists a.
    none_fails (startless from) from lists c.loop-window.window-index (rest_end (startless from) from lists c.args.windows.now c.loop-window.window-index c.loop-window-test.false (c.loop-window.invariant from streams lists a))
