use Rattle.std.proofs.Common.{◌≡◌, ◌∙◌, ap, subst, sym}
use Rattle.rept_dump.specs.Dump.{exe_of, core_of}
use Rattle.rept_span.specs.Ranges.{range}
use Rattle.rept_report.specs.Setting.{Setting, way_of}
use Rattle.rept_facts.specs.Kept.{answers}
use Rattle.rept_found.specs.Trip.Trip.{setting_on}
use Rattle.rept_found.specs.Crash.{means}
use Rattle.rept_found.specs.Telling.{noted}
use Rattle.rept_found.specs.View.{CrashView, state_in, trip_in}
use Rattle.rept_found.proofs.Settings.{setting_is}
use Rattle.rept_found.proofs.telling.AnalysedCrashFindings.note.Goals as goal

pub returns : goal.returns
returns g c =
    let m = means g.W.Partial.sets g.W.Transfer.moves g.R.RowRules.rules in
    let here : CrashView g.row.W.Denot g.row.R.Denot = record { analysis = c.self.inside.analysis.propagation.facts; ends = c.self.inside.ends.now; program = exe_of c.self.inside.dump.now; core = core_of c.self.inside.dump.now } in
    subst (λ (v : CrashView g.row.W.Denot g.row.R.Denot). c.note.result ≡ noted g.W.Transfer.moves (range (way_of (setting_on (trip_in m v))) (answers (state_in m v)) c.args.point c.args.register)) c.self.view_is
    (subst (λ (S : Setting g.row.W.Denot). c.note.result ≡ noted g.W.Transfer.moves (range (way_of S) (answers (state_in m here)) c.args.point c.args.register)) (setting_is m here c.self.invariant.1)
    (c.note.ensures ∙ ap (noted g.W.Transfer.moves) (sym (c.range.ensures.ended c.self.invariant.0))))
