use Rattle.std.proofs.Common.{refl}
use Rattle.rept_order.proofs.Alone.{alone_shared}
use Rattle.rept_found.specs.Trip.Alone.{trip_of}
use Rattle.rept_found.proofs.TripLemmas.Paths.{is_sound, is_alone, saves_one}
use Rattle.rept_found.proofs.trip.laws.paths_are_trips.Goals as goal

pub returns-clause-setting : goal.returns-clause-setting
returns-clause-setting g c = λ P. refl

pub returns-clause-sound : goal.returns-clause-sound
returns-clause-sound g c = λ P. is_sound P.given.rows

pub returns-clause-shared : goal.returns-clause-shared
returns-clause-shared g c = λ P run x. alone_shared (trip_of P).course (is_alone P.given.rows) (trip_of P).ending run x (is_sound P.given.rows) (saves_one P)
