use Rattle.rept_order.specs.Interleaved.{run_of_history}
use Rattle.rept_order.proofs.Interleaved.{execution_is_run}
use Rattle.rept_moments.proofs.NamingLemmas.Seen.{seen_runs}
use Rattle.rept_moments.proofs.naming.laws.executions_are_seen.Goals as goal

pub returns-clause-runs : goal.returns-clause-runs
returns-clause-runs g c = λ C D N run sound names threads x. seen_runs g.W.Partial.sets g.W.Transfer.moves g.R.RowRules.rules C D N run sound names threads x

pub returns-clause-executions : goal.returns-clause-executions
returns-clause-executions g c = λ C D N h sound names threads x. seen_runs g.W.Partial.sets g.W.Transfer.moves g.R.RowRules.rules C D N (run_of_history C h) sound names threads (execution_is_run C D h x)
