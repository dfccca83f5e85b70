use Rattle.rept_streams.proofs.RunsLemmas.Paths.{path_ends}
use Rattle.rept_streams.proofs.runs.laws.paths_are_whole.Goals as goal

pub returns : goal.returns
returns c = λ t run rows is one. path_ends t run rows is one
