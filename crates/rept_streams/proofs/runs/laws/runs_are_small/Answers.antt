use Rattle.rept_streams.proofs.RunsLemmas.Few.{run_small}
use Rattle.rept_streams.proofs.RunsLemmas.Notes.{notes_apart, notes_once}
use Rattle.rept_streams.proofs.runs.laws.runs_are_small.Goals as goal

pub returns-clause-small : goal.returns-clause-small
returns-clause-small c = λ t run is apart. run_small t run is apart

pub returns-clause-apart : goal.returns-clause-apart
returns-clause-apart c = λ b descs has. notes_apart b descs has

pub returns-clause-only : goal.returns-clause-only
returns-clause-only c = λ b descs others has have. notes_once b descs others has have
