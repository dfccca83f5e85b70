use Rattle.std.proofs.Common.{rules, ◌≡◌, true}
use Rattle.rept_opening.specs.TraceRun.{ends_early}
use Rattle.rept_opening.proofs.EndedLemmas.{early_several, result_fits, told_packets}
use Rattle.rept_opening.proofs.running.analysed_run.Goals as goal

pub end_untraced-requires-clause-packets : goal.end_untraced-requires-clause-packets
end_untraced-requires-clause-packets c =
    let early : ends_early c.args.manner.domain c.args.trace.now ≡ true = search rules in
    told_packets c.args.trace.now c.args.manner.from c.args.told (early_several c.args.manner.domain c.args.trace.now early) c.requires.told

pub returns-then-ends_early-clause-fits : goal.returns-then-ends_early-clause-fits
returns-then-ends_early-clause-fits c = λ dump fits. result_fits c.args.trace.now c.args.manner.from c.args.told dump c.end_untraced.result fits c.end_untraced.ensures.ok
