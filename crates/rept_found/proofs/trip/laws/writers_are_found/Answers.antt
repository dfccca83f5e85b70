use Rattle.rept_report.specs.Spots.{spot}
use Rattle.rept_found.proofs.TripLemmas.Last.{found_fits}
use Rattle.rept_found.proofs.trip.laws.writers_are_found.Goals as goal

pub returns : goal.returns
returns g c = λ S K m a legs. found_fits S K (spot m a) legs
