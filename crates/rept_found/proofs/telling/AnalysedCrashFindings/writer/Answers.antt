use Rattle.std.proofs.Common.{subst}
use Rattle.rept_dump.specs.Dump.{exe_of, core_of}
use Rattle.rept_steps.specs.Course.{IsSoundCourse}
use Rattle.rept_report.specs.Setting.{Setting}
use Rattle.rept_report.specs.Spots.{spot}
use Rattle.rept_report.specs.Writers.{IsWriter}
use Rattle.rept_facts.specs.Kept.{answers}
use Rattle.rept_found.specs.Trip.Trip.{setting_on}
use Rattle.rept_found.specs.Crash.{means}
use Rattle.rept_found.specs.View.{CrashView, scene_in, state_in, trip_in}
use Rattle.rept_found.proofs.Settings.{setting_is}
use Rattle.rept_found.proofs.Tellings.{last_writers, writer_is}
use Rattle.rept_found.proofs.telling.AnalysedCrashFindings.writer.Goals as goal

pub returns-clause-value : goal.returns-clause-value
returns-clause-value g c =
    let m = means g.W.Partial.sets g.W.Transfer.moves g.R.RowRules.rules in
    let here : CrashView g.row.W.Denot g.row.R.Denot = record { analysis = c.self.inside.analysis.propagation.facts; ends = c.self.inside.ends.now; program = exe_of c.self.inside.dump.now; core = core_of c.self.inside.dump.now } in
    writer_is (trip_in m c.args.self.now) (answers (state_in m c.args.self.now)) c.args.moment c.args.address c.writer.result
    (subst (λ (v : CrashView g.row.W.Denot g.row.R.Denot). IsWriter (setting_on (trip_in m v)) (answers (state_in m v)) (spot c.args.moment c.args.address) c.writer.result) c.self.view_is
    (subst (λ (S : Setting g.row.W.Denot). IsWriter S (answers (state_in m here)) (spot c.args.moment c.args.address) c.writer.result) (setting_is m here c.self.invariant.1) (c.writer.ensures.ended c.self.invariant.0)))

pub returns-clause-last : goal.returns-clause-last
returns-clause-last g c = λ thread.
    let m = means g.W.Partial.sets g.W.Transfer.moves g.R.RowRules.rules in
    let here : CrashView g.row.W.Denot g.row.R.Denot = record { analysis = c.self.inside.analysis.propagation.facts; ends = c.self.inside.ends.now; program = exe_of c.self.inside.dump.now; core = core_of c.self.inside.dump.now } in
    last_writers (trip_in m c.args.self.now) (subst (λ (v : CrashView g.row.W.Denot g.row.R.Denot). IsSoundCourse v.ends.course) c.self.view_is c.self.invariant.1.sound) (answers (state_in m c.args.self.now)) thread c.args.address (scene_in c.args.self.now)
