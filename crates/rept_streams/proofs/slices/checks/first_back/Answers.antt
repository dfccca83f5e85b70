use Rattle.std.proofs.Common.{drop, sym, ◌+◌, Some, None}
use Rattle.rept_streams.specs.Slices.Checks.{time_back}
use Rattle.rept_streams.proofs.SlicesLemmas.Checking.{one_passes, one_fails, none_fails, rest_at, rest_end, back_of, holds_first}
use Rattle.rept_streams.proofs.slices.checks.first_back.Goals as goal

pub time_back-requires : goal.time_back-requires
time_back-requires c =
    let q = c.requires in
    holds_first time_back q.0 q.2 c.window-item.result (drop (c.loop-window.window-index + 1) c.args.windows.now) c.loop-window.window-index (rest_at time_back q.0 q.2 c.args.windows.now c.loop-window.window-index c.window-item.result c.loop-window-test.true c.window-item.is (c.loop-window.invariant q.0 q.1 q.2 q.3))

pub returns-in-Some : goal.returns-in-Some
returns-in-Some c = λ from streams lists a.
    one_fails time_back from lists c.window-item.result (drop (c.loop-window.window-index + 1) c.args.windows.now) c.loop-window.window-index c.in-Some.fault (rest_at time_back from lists c.args.windows.now c.loop-window.window-index c.window-item.result c.loop-window-test.true c.window-item.is (c.loop-window.invariant from streams lists a)) (λ k stream packets is. back_of c.loop-window.window-index k from stream packets c.window-item.result (Some c.in-Some.fault) is c.in-Some.ensures)

pub loop-window-preserved : goal.loop-window-preserved
loop-window-preserved c = λ from streams lists a.
    one_passes time_back from lists c.window-item.result (drop (c.loop-window.window-index + 1) c.args.windows.now) c.loop-window.window-index (rest_at time_back from lists c.args.windows.now c.loop-window.window-index c.window-item.result c.loop-window-test.true c.window-item.is (c.loop-window.invariant from streams lists a)) (λ k stream packets is. sym (back_of c.loop-window.window-index k from stream packets c.window-item.result None is c.in_default.ensures))

pub returns : goal.returns
returns c = λ from streams lists a.
    none_fails time_back from lists c.loop-window.window-index (rest_end time_back from lists c.args.windows.now c.loop-window.window-index c.loop-window-test.false (c.loop-window.invariant from streams lists a))
