use Rattle.rept_path.proofs.IndexLemmas.{by_index, from_index}
use Rattle.rept_path.proofs.laws.least_stop.Goals as goal

pub returns-clause-leg : goal.returns-clause-leg
returns-clause-leg c = λ code lead aim past leg h. by_index code lead aim past leg h

pub returns-clause-only : goal.returns-clause-only
returns-clause-only c = λ code lead aim past leg h. from_index code lead aim past leg h
