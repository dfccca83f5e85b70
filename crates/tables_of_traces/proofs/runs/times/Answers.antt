use Rattle.std.proofs.Common.{arith}
use Rattle.rept_streams.proofs.ThreadsLemmas.Fitting.{file_fits}
use Rattle.tables_of_traces.proofs.runs.times.Goals as goal

pub survey_all-requires : goal.survey_all-requires
survey_all-requires c =
    let fits = file_fits c.args.bytes.now c.in-Ok.streams c.in-Ok.ensures.opens in
    omega (arith, fits, c.requires)
