use Rattle.rept_remote.proofs.Unique.{one_reading, no_reading}
use Rattle.rept_remote.proofs.laws.arrivals_are_unique.Goals as goal

pub returns-clause-one : goal.returns-clause-one
returns-clause-one c = one_reading

pub returns-clause-none : goal.returns-clause-none
returns-clause-none c = no_reading
