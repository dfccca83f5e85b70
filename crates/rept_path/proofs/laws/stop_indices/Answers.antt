use Rattle.rept_path.proofs.StopLemmas.{stops_of, path_of}
use Rattle.rept_path.proofs.laws.stop_indices.Goals as goal

pub returns-clause-path : goal.returns-clause-path
returns-clause-path c = λ run skipped path h. stops_of run.code run.packets run.from run.pc skipped path h

pub returns-clause-only : goal.returns-clause-only
returns-clause-only c = λ run skipped path stops h. path_of run.code run.packets run.from run.pc skipped path stops h
