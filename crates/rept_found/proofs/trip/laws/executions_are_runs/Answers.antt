use Rattle.rept_moments.proofs.Apart.{legs_seen, moments_seen}
use Rattle.rept_found.proofs.TripLemmas.Acting.{writer_so}
use Rattle.rept_found.proofs.TripLemmas.Seeing.{history_runs}
use Rattle.rept_found.proofs.trip.laws.executions_are_runs.Goals as goal

pub returns-clause-uses : goal.returns-clause-uses
returns-clause-uses g c = λ t sound sets moves rules. record { its_sets = sets; its_moves = moves; its_rules = rules; its_legs = legs_seen t.course; its_moments = moments_seen t.course sound }

pub returns-clause-runs : goal.returns-clause-runs
returns-clause-runs g c = λ t h sound some x. history_runs t h sound some x

pub returns-clause-writers : goal.returns-clause-writers
returns-clause-writers g c = λ t K h m a writer sound x few is holds. writer_so t h sound x m a few K writer is holds
