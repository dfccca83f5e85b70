use Rattle.std.proofs.Common.{sym, ◌∙◌}
use Rattle.rept_streams.proofs.SlicesLemmas.StrangerLemmas.{none_judged, one_judged, one_refused, all_judged}
use Rattle.rept_streams.proofs.slices.strangers.refused_by_threads.Goals as goal

pub loop-slice-init : goal.loop-slice-init
loop-slice-init c = λ ts a. none_judged c.args.processes.now ts c.args.slices.now a

pub returns-in-Some : goal.returns-in-Some
returns-in-Some c = λ ts a.
    one_refused c.args.processes.now ts c.args.slices.now c.loop-slice.slice-index c.slice-item.result c.loop-slice-test.true c.slice-item.is (c.loop-slice.invariant ts a) c.in-Some.fault (sym c.stranger.ensures ∙ c.in-Some.is)

pub loop-slice-preserved : goal.loop-slice-preserved
loop-slice-preserved c = λ ts a.
    one_judged c.args.processes.now ts c.args.slices.now c.loop-slice.slice-index c.slice-item.result c.loop-slice-test.true c.slice-item.is (c.loop-slice.invariant ts a) (sym c.stranger.ensures ∙ c.in_default.is)

pub returns : goal.returns
returns c = λ ts a. all_judged c.args.processes.now ts c.args.slices.now c.loop-slice.slice-index c.loop-slice-test.false (c.loop-slice.invariant ts a)
