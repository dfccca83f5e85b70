use Rattle.rept_report.proofs.OriginLemmas.Reached.{as_soon, not_sooner, never, beside_is_nearer}
use Rattle.rept_report.proofs.origin.laws.steps_are_uses.Goals as goal

pub returns-clause-nearest : goal.returns-clause-nearest
returns-clause-nearest g c = λ S fs a m found laws near. (as_soon S laws fs a m found near, not_sooner S laws fs a m found near)

pub returns-clause-none : goal.returns-clause-none
returns-clause-none g c = λ S fs a m k laws none x. never S laws fs a m none k x

pub returns-clause-nearer : goal.returns-clause-nearer
returns-clause-nearer g c = λ S fs a m w found laws near beside. beside_is_nearer S laws fs a m w found near beside
