use Rattle.std.proofs.Common.{subst}
use Rattle.rept_dump.specs.Dump.{exe_of, core_of}
use Rattle.rept_report.specs.Setting.{Setting}
use Rattle.rept_facts.specs.Counts.{IsCounted}
use Rattle.rept_facts.specs.Kept.{answers}
use Rattle.rept_found.specs.Trip.Trip.{setting_on}
use Rattle.rept_found.specs.Crash.{means}
use Rattle.rept_found.specs.View.{CrashView, state_in, trip_in}
use Rattle.rept_found.proofs.Settings.{setting_is}
use Rattle.rept_found.proofs.Tellings.{counted}
use Rattle.rept_found.proofs.telling.AnalysedCrashFindings.counts.Goals as goal

pub returns : goal.returns
returns g c =
    let m = means g.W.Partial.sets g.W.Transfer.moves g.R.RowRules.rules in
    let here : CrashView g.row.W.Denot g.row.R.Denot = record { analysis = c.self.inside.analysis.propagation.facts; ends = c.self.inside.ends.now; program = exe_of c.self.inside.dump.now; core = core_of c.self.inside.dump.now } in
    counted (setting_on (trip_in m c.args.self.now)) (answers (state_in m c.args.self.now)) c.counts.result
    (subst (λ (v : CrashView g.row.W.Denot g.row.R.Denot). IsCounted (setting_on (trip_in m v)) (answers (state_in m v)) c.counts.result) c.self.view_is
    (subst (λ (S : Setting g.row.W.Denot). IsCounted S (answers (state_in m here)) c.counts.result) (setting_is m here c.self.invariant.1) (c.counts.ensures.ended c.self.invariant.0)))
