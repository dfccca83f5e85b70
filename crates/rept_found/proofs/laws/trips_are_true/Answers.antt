use Rattle.std.proofs.Common.{◌∙◌}
use Rattle.rept_moments.specs.Seen.{moment_in, seen}
use Rattle.rept_order.specs.Legs.{number_of}
use Rattle.rept_report.proofs.Lawful.{lawful}
use Rattle.rept_found.specs.Trip.Trip.{setting_on}
use Rattle.rept_found.proofs.TripLemmas.Pointing.{at_point}
use Rattle.rept_found.specs.Crash.{means, trip_by}
use Rattle.rept_found.proofs.Chains.{no_circle}
use Rattle.rept_found.proofs.Tellings.{last_writers}
use Rattle.rept_found.proofs.Trips.{no_history, trip_true, uses_trip}
use Rattle.rept_found.proofs.laws.trips_are_true.Goals as goal

pub returns-clause-report : goal.returns-clause-report
returns-clause-report g c = λ C D K sound some report.
    let m = means g.W.Partial.sets g.W.Transfer.moves g.R.RowRules.rules in
    let S = setting_on (trip_by m C D) in
    trip_true m g.met.W.Partial.lawful g.met.W.Transfer.covers C D K sound some (c.reports_are_sound.ensures.report S K (uses_trip m C D sound) report)
    (λ es tracked f why ended is. c.facts_have_reasons.ensures.premises S es tracked f why (uses_trip m C D sound) ended is)
    (λ es tracked f why ended is. c.facts_have_reasons.ensures.ranges S es tracked f why (uses_trip m C D sound) ended is)
    (λ es tracked f ended rests. no_circle S (lawful S g.W.Partial.sets g.W.Transfer.moves g.R.RowRules.rules g.met.W.Partial.lawful g.met.W.Transfer.covers g.met.R.RowRules.lawful (uses_trip m C D sound)) es ended.trace ended.quiet f rests)
    (λ t p below few. c.places_are_names.ensures.points C t p below few)
    (λ t p below few.
    let at = at_point C sound t p below few in
    c.points_are_moments.ensures.places C (moment_in (seen C) (number_of C t p)) sound at.within ∙ c.points_are_moments.ensures.points C t p sound below few)

pub returns-clause-conflict : goal.returns-clause-conflict
returns-clause-conflict g c = λ C D kind sound some has.
    let m = means g.W.Partial.sets g.W.Transfer.moves g.R.RowRules.rules in
    no_history (trip_by m C D) sound some (c.reports_are_sound.ensures.conflict (setting_on (trip_by m C D)) kind (uses_trip m C D sound) has)

pub returns-clause-writers : goal.returns-clause-writers
returns-clause-writers g c = λ C D K scene thread address sound. last_writers (trip_by (means g.W.Partial.sets g.W.Transfer.moves g.R.RowRules.rules) C D) sound K thread address scene
