use Rattle.std.proofs.Common.{arith}
use Rattle.rept_streams.specs.Runs.Ended.{HoldsPackets}
use Rattle.rept_streams.proofs.ThreadsLemmas.Fitting.{file_fits}
use Rattle.tables_of_traces.proofs.runs.ends.Goals as goal

pub survey_all-requires : goal.survey_all-requires
survey_all-requires c =
    let fits = file_fits c.args.bytes.now c.in-Ok.streams c.in-Ok.ensures.opens in
    omega (arith, fits, c.requires)

pub end_untraced-requires-clause-packets : goal.end_untraced-requires-clause-packets
end_untraced-requires-clause-packets c =
    let told = c.in_ok-told.ensures.ok in
    (told.0, record { file = c.in-Ok.streams; streams = c.in-Ok.ensures.opens; packets = (told.1).0 })
