use Rattle.rept_found.proofs.TripLemmas.Naming.{place_named}
use Rattle.rept_found.proofs.TripLemmas.Pointing.{at_point}
use Rattle.rept_found.proofs.trip.laws.points_are_moments.Goals as goal

pub returns-clause-places : goal.returns-clause-places
returns-clause-places c = λ C m sound few. place_named C sound m few

pub returns-clause-points : goal.returns-clause-points
returns-clause-points c = λ C t p sound below few. (at_point C sound t p below few).moment
