use Rattle.std.proofs.Common.{◌≡◌, Some, subst}
use Rattle.rept_dump.specs.Dump.{exe_of, core_of}
use Rattle.rept_span.specs.Ranges.{range}
use Rattle.rept_report.specs.Setting.{Setting, way_of}
use Rattle.rept_facts.specs.Kept.{answers}
use Rattle.rept_found.specs.Crash.{means}
use Rattle.rept_found.specs.View.{CrashView, set_in, state_in}
use Rattle.rept_found.proofs.Settings.{setting_is}
use Rattle.rept_found.proofs.found.AnalysedCrash.set.Goals as goal

pub returns : goal.returns
returns g c =
    let m = means g.W.Partial.sets g.W.Transfer.moves g.R.RowRules.rules in
    let here : CrashView g.row.W.Denot g.row.R.Denot = record { analysis = c.self.inside.analysis.propagation.facts; ends = c.self.inside.ends.now; program = exe_of c.self.inside.dump.now; core = core_of c.self.inside.dump.now } in
    subst (λ (v : CrashView g.row.W.Denot g.row.R.Denot). set_in m v c.args.point c.args.register ≡ Some c.range.result) c.self.view_is
    (subst (λ (S : Setting g.row.W.Denot). range (way_of S) (answers (state_in m here)) c.args.point c.args.register ≡ Some c.range.result) (setting_is m here c.self.invariant.1) (c.range.ensures.ended c.self.invariant.0))
