use Rattle.rept_trace.proofs.StreamLemmas.{one_opening}
use Rattle.rept_trace.proofs.streams.Streams.open.Goals as goal

pub returns-clause-only : goal.returns-clause-only
returns-clause-only c = λ found f. one_opening c.args.bytes.now c.find_streams.result found c.find_streams.ensures f
