use Rattle.std.proofs.Common.{◌≢◌, Some, IfOk, IfNone, IfSome, subst}
use Rattle.rept_dump.specs.Dump.{exe_of, core_of}
use Rattle.rept_report.specs.Setting.{Setting}
use Rattle.rept_report.specs.Why.{IsReason}
use Rattle.rept_facts.specs.Kept.{answers}
use Rattle.rept_findings.specs.Shown.{explained, known_value}
use Rattle.rept_found.specs.Trip.Trip.{setting_on}
use Rattle.rept_found.specs.Telling.{shown_on}
use Rattle.rept_found.specs.Crash.{means}
use Rattle.rept_found.specs.View.{CrashView, scene_in, state_in, trip_in}
use Rattle.rept_found.proofs.Settings.{setting_is}
use Rattle.rept_found.proofs.Whys.{none_shown}
use Rattle.rept_found.proofs.telling.AnalysedCrashFindings.why.Goals as goal

pub returns-clause-none : goal.returns-clause-none
returns-clause-none g c =
    let m = means g.W.Partial.sets g.W.Transfer.moves g.R.RowRules.rules in
    let here : CrashView g.row.W.Denot g.row.R.Denot = record { analysis = c.self.inside.analysis.propagation.facts; ends = c.self.inside.ends.now; program = exe_of c.self.inside.dump.now; core = core_of c.self.inside.dump.now } in
    subst (λ (v : CrashView g.row.W.Denot g.row.R.Denot). IfOk c.why.result (λ found. IfNone found (known_value (shown_on (trip_in m v) (answers (state_in m v)) (scene_in v)) c.args.fact.point c.args.fact.cell ≢ Some c.args.fact.value))) c.self.view_is
    (none_shown (trip_in m here) (answers (state_in m here)) (scene_in here) c.args.fact.point c.args.fact.value c.args.fact.cell c.why.result c.requires.named c.why.ensures.none)

pub returns-clause-reason : goal.returns-clause-reason
returns-clause-reason g c =
    let m = means g.W.Partial.sets g.W.Transfer.moves g.R.RowRules.rules in
    let here : CrashView g.row.W.Denot g.row.R.Denot = record { analysis = c.self.inside.analysis.propagation.facts; ends = c.self.inside.ends.now; program = exe_of c.self.inside.dump.now; core = core_of c.self.inside.dump.now } in
    subst (λ (v : CrashView g.row.W.Denot g.row.R.Denot). IfOk c.why.result (λ found. IfSome found (λ reason. IsReason (setting_on (trip_in m v)) (state_in m v).known.log c.args.fact (explained reason)))) c.self.view_is
    (subst (λ (S : Setting g.row.W.Denot). IfOk c.why.result (λ found. IfSome found (λ reason. IsReason S (state_in m here).known.log c.args.fact (explained reason)))) (setting_is m here c.self.invariant.1) c.why.ensures.reason)
