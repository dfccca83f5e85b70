use Rattle.rept_timeline.specs.Paths.{timeline}
use Rattle.std.proofs.Common.{Result, IsOk, refl, subst, sym}
use Rattle.rept_dump.specs.Dump.{exe_of, core_of}
use Rattle.rept_report.specs.Closure.{ClosureHas, IsConsistent}
use Rattle.rept_report.specs.Setting.{Setting}
use Rattle.rept_report.specs.Soundness.{HasNoExecution}
use Rattle.rept_facts.specs.declared.stop.Stop.{Stop}
use Rattle.rept_facts.specs.declared.stop.Stop.TheVariants.{Conflict, OutOfMemory}
use Rattle.rept_facts.specs.State.{IsLined}
use Rattle.rept_found.specs.Trip.Executed.{HasNoHistory}
use Rattle.rept_found.specs.Trip.Trip.{given_on, setting_on}
use Rattle.rept_found.specs.Crash.{means}
use Rattle.rept_found.specs.View.{CrashView, ending_in, scene_in, trip_in, IsFoundIn, IsOfRun}
use Rattle.rept_found.proofs.Settings.{conflict_of, found_in, setting_is, still_of}
use Rattle.rept_found.proofs.Stops.{stop_at}
use Rattle.rept_found.proofs.Trips.{no_history}
use Rattle.rept_found.proofs.found.search.Goals as goal

pub invariant_of-result : goal.invariant_of-result
invariant_of-result g c =
    let m = means g.W.Partial.sets g.W.Transfer.moves g.R.RowRules.rules in
    let here : CrashView g.row.W.Denot g.row.R.Denot = record { analysis = c.prepared.inside.analysis.propagation.facts; ends = c.prepared.inside.ends.now; program = exe_of c.prepared.inside.dump.now; core = core_of c.prepared.inside.dump.now } in
    let new : CrashView g.row.W.Denot g.row.R.Denot = record { analysis = c.in-Ok.analysis.propagation.facts; ends = c.prepared.inside.ends.now; program = exe_of c.prepared.inside.dump.now; core = core_of c.prepared.inside.dump.now } in
    let of : IsOfRun new = record { some = c.prepared.invariant.0.some; sound = c.prepared.invariant.0.sound; given = still_of m here.analysis new.analysis (given_on here.ends.course (ending_in here)) c.in-Ok.ensures.path c.prepared.invariant.0.given } in
    (c.in-Ok.ensures.complete, of, c.prepared.invariant.1)

pub returns-in-Ok-clause-found : goal.returns-in-Ok-clause-found
returns-in-Ok-clause-found g c =
    let m = means g.W.Partial.sets g.W.Transfer.moves g.R.RowRules.rules in
    let here : CrashView g.row.W.Denot g.row.R.Denot = record { analysis = c.prepared.inside.analysis.propagation.facts; ends = c.prepared.inside.ends.now; program = exe_of c.prepared.inside.dump.now; core = core_of c.prepared.inside.dump.now } in
    let new : CrashView g.row.W.Denot g.row.R.Denot = record { analysis = c.in-Ok.analysis.propagation.facts; ends = c.prepared.inside.ends.now; program = exe_of c.prepared.inside.dump.now; core = core_of c.prepared.inside.dump.now } in
    let of : IsOfRun new = record { some = c.prepared.invariant.0.some; sound = c.prepared.invariant.0.sound; given = still_of m here.analysis new.analysis (given_on here.ends.course (ending_in here)) c.in-Ok.ensures.path c.prepared.invariant.0.given } in
    subst (λ (v : CrashView g.row.W.Denot g.row.R.Denot). IsFoundIn m (trip_in m v) (scene_in v) new) c.prepared.view_is (found_in m new of c.in-Ok.ensures.report c.in-Ok.ensures.log)

pub returns-in-Err-clause-conflict : goal.returns-in-Err-clause-conflict
returns-in-Err-clause-conflict g c = λ kind e.
    let m = means g.W.Partial.sets g.W.Transfer.moves g.R.RowRules.rules in
    let here : CrashView g.row.W.Denot g.row.R.Denot = record { analysis = c.prepared.inside.analysis.propagation.facts; ends = c.prepared.inside.ends.now; program = exe_of c.prepared.inside.dump.now; core = core_of c.prepared.inside.dump.now } in
    subst (λ (v : CrashView g.row.W.Denot g.row.R.Denot). ClosureHas (setting_on (trip_in m v)) kind) c.prepared.view_is
    (conflict_of _ (setting_on (trip_in m here)) kind (setting_is m here c.prepared.invariant.0) (c.refined.ensures.conflict kind (stop_at c.in-Err.stop (Conflict kind) c.refined.result c.in-Err.is e)))

pub returns-in-Err-clause-impossible : goal.returns-in-Err-clause-impossible
returns-in-Err-clause-impossible g c = λ kind e.
    let m = means g.W.Partial.sets g.W.Transfer.moves g.R.RowRules.rules in
    let here : CrashView g.row.W.Denot g.row.R.Denot = record { analysis = c.prepared.inside.analysis.propagation.facts; ends = c.prepared.inside.ends.now; program = exe_of c.prepared.inside.dump.now; core = core_of c.prepared.inside.dump.now } in
    subst (λ (v : CrashView g.row.W.Denot g.row.R.Denot). HasNoHistory (trip_in m v)) c.prepared.view_is
    (no_history (trip_in m here) c.prepared.invariant.0.sound c.prepared.invariant.0.some (subst (λ (S : Setting g.row.W.Denot). HasNoExecution S) (setting_is m here c.prepared.invariant.0) (c.refined.ensures.impossible kind (stop_at c.in-Err.stop (Conflict kind) c.refined.result c.in-Err.is e))))

pub returns-in-Err-clause-whole : goal.returns-in-Err-clause-whole
returns-in-Err-clause-whole g c = λ lined e.
    c.refined.ensures.joins refl (subst (λ (v : CrashView g.row.W.Denot g.row.R.Denot). IsLined (timeline v.analysis.paths)) (sym c.prepared.view_is) lined) (stop_at c.in-Err.stop OutOfMemory c.refined.result c.in-Err.is e)

pub returns-in-Err-clause-exact : goal.returns-in-Err-clause-exact
returns-in-Err-clause-exact g c = λ lined consistent.
    let m = means g.W.Partial.sets g.W.Transfer.moves g.R.RowRules.rules in
    let here : CrashView g.row.W.Denot g.row.R.Denot = record { analysis = c.prepared.inside.analysis.propagation.facts; ends = c.prepared.inside.ends.now; program = exe_of c.prepared.inside.dump.now; core = core_of c.prepared.inside.dump.now } in
    subst (λ (r : Result _ Stop). IsOk r) c.in-Err.is
    (c.refined.ensures.exact refl (subst (λ (v : CrashView g.row.W.Denot g.row.R.Denot). IsLined (timeline v.analysis.paths)) (sym c.prepared.view_is) lined)
    (subst (λ (S : Setting g.row.W.Denot). IsConsistent S) (sym (setting_is m here c.prepared.invariant.0)) (subst (λ (v : CrashView g.row.W.Denot g.row.R.Denot). IsConsistent (setting_on (trip_in m v))) (sym c.prepared.view_is) consistent)))
